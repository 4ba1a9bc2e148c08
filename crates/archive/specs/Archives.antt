-- A whole archive by the places of its bytes: records one after another, the order of the checks, and the first fault.
use Rattle.std.specs.Prelude.{◌≡◌, ℕ, ◌+◌, ◌<◌, ◌≤◌, ◌⊎◌, List, [], ◌∷◌, length}
use Rattle.archive.specs.Layout.{CountGood, TimeGood}
use Rattle.archive.specs.Sections.{SectionOf}
use Rattle.archive.specs.Reading.{be2}
use Rattle.archive.specs.Records.{Laid, Faulty}
use Rattle.archive.specs.declared.record.Record.{Record}
use Rattle.feeder.specs.declared.section.Section.{Section}
use Rattle.archive.specs.declared.fault.SectionFault.{SectionFault}
use Rattle.archive.specs.declared.fault.LoadFault.{LoadFault}
use Rattle.archive.specs.declared.fault.LoadFault.TheVariants.{Header, Range, NoRoom, Record as InRecord, Trailing}

-- The records of the sections k, k + 1 and on, from place p on, are the sections xs, and q comes after them.
abbrev pub Records : List ℕ → ℕ → ℕ → List Section → ℕ → Type 0
Records s k p [] q = q ≡ p
Records s k p (x ∷ xs) q = (r : Record) × (o : ℕ) × Laid s p k r o × SectionOf r x × Records s (k + 1) o xs q

-- ---- checks in an order, each with the fault that it gives
pub record Check : Type 1 where
  pub holds : Type 0
  pub fault : LoadFault

abbrev pub All : List Check → Type 0
All [] = Unit {0}
All (c ∷ cs) = c.holds × All cs

-- the first check that fails gives f
abbrev pub First : List Check → LoadFault → Type 0
First [] f = ⊥
First (c ∷ cs) f = ((c.holds → ⊥) × (f ≡ c.fault)) ⊎ (c.holds × First cs f)

-- the checks of the header of the archive s, and of a section list of room entries
abbrev pub checks : List ℕ → ℕ → List Check
checks s room =
    record { holds = 2 ≤ length s; fault = Header (record { at = 0 }) }
    ∷ record { holds = CountGood (be2 s 0); fault = Range 0 }
    ∷ record { holds = 4 ≤ length s; fault = Header (record { at = 2 }) }
    ∷ record { holds = TimeGood (be2 s 2); fault = Range 2 }
    ∷ record { holds = be2 s 0 ≤ room; fault = NoRoom }
    ∷ []

-- The first fault of the n records from place 4 on: those before it are read without one.
abbrev pub RecordFails : List ℕ → ℕ → SectionFault → Type 0
RecordFails s n e = (xs : List Section) × (p : ℕ) × (length xs < n) × Records s 0 4 xs p × (e.section ≡ length xs) × Faulty s p (length xs) e.fault

-- The first fault of the archive s with a section list of room entries is f.
pub data Fails (s : List ℕ) (room : ℕ) (f : LoadFault) : Type 0 where
  faulty_header : First (checks s room) f → Fails s room f
  faulty_record : All (checks s room) → (e : SectionFault) → RecordFails s (be2 s 0) e → f ≡ InRecord e → Fails s room f
  after : All (checks s room) → (xs : List Section) (p : ℕ) → length xs ≡ be2 s 0 → Records s 0 4 xs p → p < length s → f ≡ Trailing p → Fails s room f
