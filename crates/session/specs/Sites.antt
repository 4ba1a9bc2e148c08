-- Whole sessions as logs, and the order of changes in two of them. Assumes nothing.
use Rattle.std.specs.Prelude.{◌≡◌, ℕ, List, [], ◌∷◌, ◌++◌, length, Ok, Option}
use Rattle.feeder.specs.Feeder.{Feeder}
use Rattle.archive.specs.Grammar.{Keeps}
use Rattle.lines.specs.declared.line.Line.{Line}
use Rattle.lines.specs.Answers.{answer_text}
use Rattle.lines.specs.Lines.{Reads}
use Rattle.stream.specs.Streams.{last_line}
use Rattle.engine.specs.Logs.{Entry, Log, Same, Agree, changes}
use Rattle.console.specs.Replies.{said, moved, entry_of}
use Rattle.session.specs.Talks.{Talk, Conversation}

-- the entry of a log that a line is, answered on the feeder f in an output list of 64 bytes, as a session gives each line
abbrev pub line_entry : Option Line → Feeder → Entry
line_entry o f = entry_of o 64 (Ok (length (answer_text (said o f)))) (answer_text (said o f))

abbrev pub entries : (f : Feeder) (ls : List (List ℕ)) (out : List ℕ) (g : Feeder) → Talk f ls out g → List Entry
entries f [] out g t = []
entries f (l ∷ ls) out g t = line_entry t.0 f ∷ entries (moved t.0 f) ls t.1 g t.4

-- the log that a whole session is
abbrev pub spoken : {f : Feeder} {bs out : List ℕ} {g : Feeder} → Conversation f bs out g → List Entry
spoken {f} {bs} {out} {g} c = entries f (c.lines ++ last_line c.last) out g c.talk

-- Two whole sessions on one archive: what follows where they hold, for every section number, the same changes naming it in the same
-- order, whatever lies between. Both end on one feeder, these changes are answered by the same bytes, and so is any line put next.
pub record Agreed {f f' : Feeder} {bs out cs out' : List ℕ} {g g' : Feeder} (a : Conversation f bs out g) (b : Conversation f' cs out' g') : Type 0 where
  pub agree : Agree (spoken a) g (spoken b) g'
  pub next : (l : List ℕ) (o o' : Option Line) → Reads l o → Reads l o' → answer_text (said o g) ≡ answer_text (said o' g')

pub record SitesAgree (archive : List ℕ) : Type 0 where
  pub logs : (room : ℕ) (f g : Feeder) (bs out : List ℕ) → Keeps archive room f → (c : Conversation f bs out g) → Log archive (spoken c) g
  pub order : (room room' : ℕ) (f f' g g' : Feeder) (bs out cs out' : List ℕ) → Keeps archive room f → Keeps archive room' f'
      → (a : Conversation f bs out g) (b : Conversation f' cs out' g') → Same (changes (spoken a)) (changes (spoken b)) → Agreed a b
