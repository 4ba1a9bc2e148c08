use Rattle.std.proofs.Common.{arith}
use Rattle.lines.proofs.Writes.{then, length_decimal, length_fields}
use Rattle.lines.proofs.write.Pen.numbers.Goals as goal

pub number-requires : goal.number-requires
number-requires c = omega (arith, length_decimal c.args.first (omega arith))

pub fields-requires : goal.fields-requires
fields-requires c = omega (arith, length_decimal c.args.first (omega arith), length_fields c.args.others.now c.type_inv.others)

pub returns : goal.returns
returns c = record {
  short = omega (arith, length_decimal c.args.first (omega arith), length_fields c.args.others.now c.type_inv.others);
  wrote = then c.number.ensures c.fields.ensures;
}
