use Rattle.std.proofs.Common.{arith}
use Rattle.lines.proofs.Writes.{length_decimal}
use Rattle.lines.proofs.write.Pen.body.Goals as goal

pub number-requires : goal.number-requires
number-requires c = omega (arith, length_decimal c.in-Number.n (omega arith))

pub returns-in-Number-clause-short : goal.returns-in-Number-clause-short
returns-in-Number-clause-short c = omega (arith, length_decimal c.in-Number.n (omega arith))
