use Rattle.std.proofs.Common.{arith}
use Rattle.std.proofs.lemmas.Slice.{overwrites}
use Rattle.lines.proofs.write.Pen.text.Goals as goal

pub returns : goal.returns
returns c = grind (arith, overwrites)
