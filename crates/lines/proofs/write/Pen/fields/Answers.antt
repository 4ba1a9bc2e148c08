use Rattle.std.proofs.Common.{arith}
use Rattle.lines.proofs.Writes.{then, wrote_as, room, fields_more}
use Rattle.lines.proofs.write.Pen.fields.Goals as goal

pub byte-requires : goal.byte-requires
byte-requires c = omega (arith, room c.args.numbers.now c.loop-n.n-index (omega arith))

pub number-requires : goal.number-requires
number-requires c = omega (arith, room c.args.numbers.now c.loop-n.n-index (omega arith))

pub loop-n-preserved : goal.loop-n-preserved
loop-n-preserved c = wrote_as (fields_more c.args.numbers.now c.loop-n.n-index (omega arith)) (then (then c.loop-n.invariant c.byte.ensures) c.number.ensures)
