-- What one console line does, and that it is answered alike after like logs. Assumes nothing.
use Rattle.std.specs.Prelude.{ℕ, List, length, Option, Result}
use Rattle.feeder.specs.Feeder.{Feeder}
use Rattle.lines.specs.declared.refusal.Refusal.{Refusal}
use Rattle.lines.specs.declared.line.Line.{Line}
use Rattle.lines.specs.Answers.{Answered}
use Rattle.lines.specs.Lines.{Reads}
use Rattle.engine.specs.Logs.{Step, Extends}
use Rattle.console.specs.Replies.{said, entry_of}

-- A line with an output list: what was read of it, the answer written, and the step of a log that it is.
pub record Lined (text before : List ℕ) (f : Feeder) (r : Result ℕ Refusal) (after : List ℕ) (g : Feeder) : Type 0 where
  pub line : Option Line
  pub reads : Reads text line
  pub answer : Answered (said line f) before r after
  pub step : Step f (entry_of line (length before) r after) g
  pub logged : Extends f (entry_of line (length before) r after) g

-- what may be given back and left in the output list where the line is put on a feeder
abbrev pub LineAnswer : List ℕ → List ℕ → Feeder → Result ℕ Refusal × List ℕ → Type 0
LineAnswer text before f a = (line : Option Line) × Reads text line × Answered (said line f) before a.0 a.1
