use Rattle.std.proofs.Common.{arith}
use Rattle.lines.proofs.Writes.{then, length_fields}
use Rattle.lines.proofs.write.Pen.error.Goals as goal

pub fields-requires : goal.fields-requires
fields-requires c = omega (arith, length_fields c.args.numbers.now c.type_inv.numbers)

pub returns : goal.returns
returns c = record {
  short = omega (arith, length_fields c.args.numbers.now c.type_inv.numbers);
  wrote = then c.byte.ensures c.fields.ensures;
}
