-- A stream of bytes as lines that end in line feeds, and a last one that does not.
use Rattle.std.specs.Prelude.{◌≡◌, ℕ, ◌+◌, ◌<◌, ◌≤◌, List, [], ◌∷◌, ◌++◌, length, take, None, Option, Ok, Err, Result, ◌≢◌}
use Rattle.std.specs.List.{AllByRecursion}
use Rattle.std.specs.Option.{option_to_list}
use Rattle.stream.specs.declared.text.Text.{Text}
use Rattle.stream.specs.declared.text.TooLong.{TooLong}
use Rattle.stream.specs.declared.lines.Lines.{Lines}

-- the bytes of a text
abbrev pub held : Text → List ℕ
held t = take t.count t.bytes

-- what adding the bytes bs leaves of a text that was, and whether it had room
abbrev pub Added : List ℕ → List ℕ → Result (Unit {0}) TooLong → List ℕ → Type 0
Added was bs (Ok u) after = (length was + length bs ≤ 64) × (after ≡ was ++ bs)
Added was bs (Err e) after = (64 < length was + length bs) × (after ≡ was)

-- no line feed
abbrev pub Plain : List ℕ → Type 0
Plain l = AllByRecursion (λ b. b ≢ 10) l

-- the lines ls, each with its line feed, and then the bytes last
abbrev pub stream : List (List ℕ) → List ℕ → List ℕ
stream [] last = last
stream (l ∷ ls) last = l ++ (10 ∷ stream ls last)

-- d is what is handed out for the line l: its bytes, or word that there are more than 64
abbrev pub Delivers : List ℕ → Result Text TooLong → Type 0
Delivers l (Ok t) = (length l ≤ 64) × (held t ≡ l)
Delivers l (Err e) = 64 < length l

abbrev pub DeliversAll : List (List ℕ) → List (Result Text TooLong) → Type 0
DeliversAll [] [] = Unit {0}
DeliversAll [] (d ∷ ds) = ⊥
DeliversAll (l ∷ ls) [] = ⊥
DeliversAll (l ∷ ls) (d ∷ ds) = Delivers l d × DeliversAll ls ds

-- part is what has come of the line being read: the bytes of the text, or more than the 64 that one has room for
abbrev pub Holds : Lines → List ℕ → Type 0
Holds s part = Delivers part s.line

-- The bytes bs have been fed, ds was handed out, and s is what is kept.
pub record Fed (bs : List ℕ) (ds : List (Result Text TooLong)) (s : Lines) : Type 0 where
  pub lines : List (List ℕ)
  pub part : List ℕ
  pub whole : bs ≡ stream lines part
  pub plain : AllByRecursion Plain lines
  pub plain_part : Plain part
  pub gave : DeliversAll lines ds
  pub kept : Holds s part

-- Feeding xs in the state s handed out line, if any, and left the state t.
abbrev pub Feeds : Lines → List ℕ → Option (Result Text TooLong) → Lines → Type 0
Feeds s xs line t = (bs : List ℕ) (ds : List (Result Text TooLong)) → Fed bs ds s → Fed (bs ++ xs) (ds ++ option_to_list line) t

-- a last line without a line feed counts if it is not empty
abbrev pub last_line : List ℕ → List (List ℕ)
last_line [] = []
last_line (b ∷ bs) = (b ∷ bs) ∷ []

-- The stream was bs, and ds is all that was handed out.
pub record Ended (bs : List ℕ) (ds : List (Result Text TooLong)) : Type 0 where
  pub lines : List (List ℕ)
  pub last : List ℕ
  pub whole : bs ≡ stream lines last
  pub plain : AllByRecursion Plain lines
  pub plain_last : Plain last
  pub gave : DeliversAll (lines ++ last_line last) ds

-- a stream is parted into lines in one way: however bs is parted, these lines are what was handed out
abbrev pub OneParting : List ℕ → List (Result Text TooLong) → Type 0
OneParting bs ds = (ls : List (List ℕ)) (last : List ℕ) → bs ≡ stream ls last → AllByRecursion Plain ls → Plain last → DeliversAll (ls ++ last_line last) ds

-- From the place from, among len bytes, feeding went to the place end, and line is what it handed out.
pub record Goes (from len end : ℕ) (line : Option (Result Text TooLong)) : Type 0 where
  pub forth : from ≤ end
  pub within : from ≤ len → end ≤ len
  pub moves : from < len → from < end
  pub all : line ≡ None → len ≤ end
  pub past : len ≤ from → (end ≡ from) × (line ≡ None)
