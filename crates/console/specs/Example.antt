-- The four-section feeder, from the bytes of its archive to the bytes of the answer lines. Assumes nothing.
use Rattle.std.specs.Prelude.{◌≡◌, ℕ, ◌≤◌, List, [], ◌∷◌, ◌++◌, Some, codes}
use Rattle.feeder.specs.Feeder.{Feeder}
use Rattle.archive.specs.Example.{four_bytes, four_feeder}
use Rattle.archive.specs.Grammar.{Keeps}
use Rattle.lines.specs.declared.change.Change.TheVariants.{Fit, Unfit}
use Rattle.lines.specs.declared.question.Question.TheVariants.{Minutes, Longest, Trial, Indices}
use Rattle.lines.specs.declared.line.Line.{Line}
use Rattle.lines.specs.declared.line.Line.TheVariants.{Change, Question}
use Rattle.lines.specs.Answers.{answer_text}
use Rattle.lines.specs.Lines.{text}
use Rattle.console.specs.Replies.{said, moved}

-- a line, its bytes, and the bytes of its answer without the line feed
abbrev pub Row : Type 0
Row = Line × List ℕ × List ℕ

-- the lines are put in order from the feeder f on, and each is answered so
abbrev pub Answers : Feeder → List Row → Type 0
Answers f [] = Unit {0}
Answers f (row ∷ rows) = (text row.0 ≡ row.1) × (answer_text (said (Some row.0) f) ≡ row.2 ++ (10 ∷ [])) × Answers (moved (Some row.0) f) rows

abbrev pub rows : List Row
rows =
    (Question Indices, codes "X", codes "1000 104571 300")
    ∷ (Question (Minutes 1), codes "D 1", codes "84000")
    ∷ (Question (Minutes 2), codes "D 2", codes "120000")
    ∷ (Question (Longest 1), codes "L 1", codes "240 0")
    ∷ (Question (Trial 1), codes "G 1", codes "12000 30 360000")
    ∷ (Question (Trial 3), codes "G 3", codes "0 160 0")
    ∷ (Change (Unfit 2), codes "U 2", codes "ok")
    ∷ (Question (Trial 2), codes "G 2", codes "36000 100 3600000")
    ∷ (Change (Fit 2), codes "F 2", codes "ok")
    ∷ (Change (Fit 2), codes "F 2", codes "E 21")
    ∷ (Change (Fit 0), codes "F 0", codes "E 23")
    ∷ (Question (Minutes 4), codes "D 4", codes "E 20")
    ∷ []

-- the 64 bytes are the archive of the feeder, and its lines are answered as the table says
pub record FourSections : Type 0 where
  pub bytes : (room : ℕ) → 4 ≤ room → Keeps four_bytes room four_feeder
  pub answers : Answers four_feeder rows
