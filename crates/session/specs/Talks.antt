-- A whole session: from the bytes that came in to the bytes that went out. Assumes nothing.
use Rattle.std.specs.Prelude.{◌≡◌, ℕ, ◌+◌, ◌<◌, ◌≤◌, List, [], ◌∷◌, ◌++◌, length, take, drop, None, Ok, Err, Option, Result}
use Rattle.std.specs.List.{AllByRecursion}
use Rattle.feeder.specs.Feeder.{Feeder}
use Rattle.lines.specs.declared.line.Line.{Line}
use Rattle.lines.specs.Answers.{answer_text}
use Rattle.lines.specs.Lines.{Reads}
use Rattle.stream.specs.declared.text.Text.{Text}
use Rattle.stream.specs.declared.text.TooLong.{TooLong}
use Rattle.stream.specs.Streams.{held, Fed, Plain, stream, last_line}
use Rattle.console.specs.Replies.{said, moved}
use Rattle.session.specs.declared.session.Session.{Session}

-- The lines ls are put in order, which takes the feeder f to g, and out is their answers, one after another.
abbrev pub Talk : Feeder → List (List ℕ) → List ℕ → Feeder → Type 0
Talk f [] out g = (out ≡ []) × (g ≡ f)
Talk f (l ∷ ls) out g = (o : Option Line) × (rest : List ℕ) × Reads l o × (out ≡ answer_text (said o f) ++ rest) × Talk (moved o f) ls rest g

-- The whole input was bs, and the whole output out: bs is parted at its line feeds, a last line without one counts if it is not
-- empty, and each line is answered on the feeder that the lines before it left.
pub record Conversation (f : Feeder) (bs out : List ℕ) (g : Feeder) : Type 0 where
  pub lines : List (List ℕ)
  pub last : List ℕ
  pub whole : bs ≡ stream lines last
  pub plain : AllByRecursion Plain lines
  pub plain_last : Plain last
  pub talk : Talk f (lines ++ last_line last) out g

-- a line as a stream hands it out
abbrev pub Input : Type 0
Input = Result Text TooLong

-- what is read of a line as it is handed out; one that is too long is no line
abbrev pub InputReads : Input → Option Line → Type 0
InputReads (Ok t) o = Reads (held t) o
InputReads (Err e) o = o ≡ None

abbrev pub InputTalk : Feeder → List Input → List ℕ → Feeder → Type 0
InputTalk f [] out g = (out ≡ []) × (g ≡ f)
InputTalk f (d ∷ ds) out g = (o : Option Line) × (rest : List ℕ) × InputReads d o × (out ≡ answer_text (said o f) ++ rest) × InputTalk (moved o f) ds rest g

-- So far bs came in and out went out, which took the feeder f to g; s is what is kept of the line being read.
pub record Talked (f : Feeder) (bs out : List ℕ) (s : Session) (g : Feeder) : Type 0 where
  pub inputs : List Input
  pub fed : Fed bs inputs s.lines
  pub talk : InputTalk f inputs out g

-- xs came in and ys went out, which took the session s and the feeder f to t and g
abbrev pub Talks : Session → Feeder → List ℕ → List ℕ → Session → Feeder → Type 0
Talks s f xs ys t g = (f₀ : Feeder) (bs out : List ℕ) → Talked f₀ bs out s f → Talked f₀ (bs ++ xs) (out ++ ys) t g

-- From the place from of a block of len bytes the session went to the place end, and wrote n bytes to an output list of room bytes:
-- it goes on while it has bytes left and room for any answer.
pub record Went (from len room end n : ℕ) : Type 0 where
  pub forth : from ≤ end
  pub within : from ≤ len → end ≤ len
  pub written : n ≤ room
  pub moves : from < len → 64 ≤ room → from < end
  pub stops : end < len → room < n + 64

-- one line as it is handed out, answered behind the bytes already written
pub record Replied (i : Input) (was : List ℕ) (used : ℕ) (f : Feeder) (n : ℕ) (after : List ℕ) (g : Feeder) : Type 0 where
  pub line : Option Line
  pub reads : InputReads i line
  pub fits : used + n ≤ length was
  pub front : take (used + n) after ≡ take used was ++ answer_text (said line f)
  pub rest : drop (used + n) after ≡ drop (used + n) was
  pub feeder : g ≡ moved line f

-- one line as it is handed out, answered at the front of an output list
pub record Heard (i : Input) (was : List ℕ) (f : Feeder) (n : ℕ) (after : List ℕ) (g : Feeder) : Type 0 where
  pub line : Option Line
  pub reads : InputReads i line
  pub size : n ≡ length (answer_text (said line f))
  pub small : n ≤ 64
  pub list : after ≡ answer_text (said line f) ++ drop n was
  pub feeder : g ≡ moved line f
