-- Logs: what was put to one study since its load, in order. Assumes nothing.
use Rattle.std.specs.Prelude.{◌≡◌, ℕ, cond, List, [], ◌∷◌, ◌++◌, ◌==◌}
use Rattle.feeder.specs.Feeder.{Feeder}
use Rattle.archive.specs.Grammar.{Keeps}
use Rattle.engine.specs.declared.journal.Put.{Put}
use Rattle.engine.specs.Changes.{Answer, answer, after, named}

-- What a log holds: a change with its answer, or a question or trial, under whichever measure and whatever its answer.
-- Refused ones are entries like any other, and so are console lines.
pub data Entry : Type 0 where
  changed : Put → Answer → Entry
  asked : Entry

-- One call: a change is answered and made as it is judged on the feeder so far; a question or trial alters nothing.
abbrev pub Step : Feeder → Entry → Feeder → Type 0
Step f (changed p a) g = (a ≡ answer f p) × (g ≡ after f p)
Step f asked g = g ≡ f

-- the feeder f comes to g by the entries in order
abbrev pub Run : Feeder → List Entry → Feeder → Type 0
Run f [] g = g ≡ f
Run f (e ∷ es) g = (h : Feeder) × Step f e h × Run h es g

-- a log from the bytes of an archive, loaded into a section list of some length, which ends on the feeder g
abbrev pub Log : List ℕ → List Entry → Feeder → Type 0
Log archive es g = (room : ℕ) × (f : Feeder) × Keeps archive room f × Run f es g

-- every log that ends on f, with the entry after it, is a log that ends on g
abbrev pub Extends : Feeder → Entry → Feeder → Type 0
Extends f e g = (archive : List ℕ) (es : List Entry) → Log archive es f → Log archive (es ++ (e ∷ [])) g

abbrev pub changes : List Entry → List Put
changes [] = []
changes (changed p a ∷ es) = p ∷ changes es
changes (asked ∷ es) = changes es

-- the changes that name section k, and the answers to them
abbrev pub naming : ℕ → List Put → List Put
naming k [] = []
naming k (p ∷ ps) = cond (named p.change == k) (p ∷ naming k ps) (naming k ps)

abbrev pub answers : ℕ → List Entry → List Answer
answers k [] = []
answers k (changed p a ∷ es) = cond (named p.change == k) (a ∷ answers k es) (answers k es)
answers k (asked ∷ es) = answers k es

-- for every section number, the same changes that name it in the same order
abbrev pub Same : List Put → List Put → Type 0
Same ps qs = (k : ℕ) → naming k ps ≡ naming k qs

-- one feeder at the end, and for every section number the same answers to the changes that name it
abbrev pub Agree : List Entry → Feeder → List Entry → Feeder → Type 0
Agree es f fs g = (f ≡ g) × ((k : ℕ) → answers k es ≡ answers k fs)
