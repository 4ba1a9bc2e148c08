use Rattle.std.proofs.Common.{take}
use Rattle.lines.specs.Lines.{fields}
use Rattle.lines.specs.Answers.{Wrote}
use Rattle.lines.proofs.write.Pen.fields.Given as goal

abbrev pub invariant-loop-n : goal.invariant-loop-n
invariant-loop-n l = Wrote l.initial.self (fields (take l.n-index l.numbers)) l.self
