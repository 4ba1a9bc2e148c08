-- A feeder: its sections in the order of their numbers, and the switching time in minutes. Assumes nothing.
use Rattle.std.specs.Prelude.{◌≡◌, ℕ, ◌%◌, ◌<◌, ◌≤◌, Bool, true, false, List, length, Some, None, Option, slice_index_or, slice_set}
use Rattle.feeder.specs.declared.section.Figures.{Figures}
use Rattle.feeder.specs.declared.section.Section.{Section}

pub record Feeder : Type 0 where
  pub sections : List Section
  pub switching : ℕ

-- past the last section: as the code's own read `sections[k]` is stated, so that the two are one term
abbrev pub blank : Section
blank = record { figures = record { parent = None; rate = 0; repair = 0; customers = 0; load = 0; name = record { at = 0; len = 0 } }; switch = false }

abbrev pub size : Feeder → ℕ
size f = length f.sections

abbrev pub at : Feeder → ℕ → Section
at f k = slice_index_or f.sections k blank

abbrev pub figures : Feeder → ℕ → Figures
figures f k = (at f k).figures

abbrev pub or_zero : Option ℕ → ℕ
or_zero None = 0
or_zero (Some p) = p

-- the parent's number; 0 where there is none
unfoldable pub up : Feeder → ℕ → ℕ
up f k = or_zero (figures f k).parent

unfoldable pub cut : Feeder → ℕ → Bool
cut f k = (at f k).switch

-- what a measure may rest on: a number, figures and a switching time in their ranges
pub record Ranges (k : ℕ) (d : Figures) (s : ℕ) : Type 0 where
  pub number : k < 1024
  pub rate : d.rate ≤ 100000
  pub repair_least : 15 ≤ d.repair
  pub repair_most : d.repair ≤ 10080
  pub repair_step : d.repair % 15 ≡ 0
  pub customers : d.customers ≤ 4000
  pub load : d.load ≤ 4000
  pub name_length : d.name.len ≤ 32
  pub name_empty : d.name.len ≡ 0 → d.name.at ≡ 0
  pub s_least : 1 ≤ s
  pub s_most : s ≤ 1440

pub record Sound (f : Feeder) : Type 0 where
  pub some : 1 ≤ size f
  pub few : size f ≤ 1024
  pub root : (figures f 0).parent ≡ None
  pub root_bare : cut f 0 ≡ false
  pub parents : (k : ℕ) → 0 < k → k < size f → (p : ℕ) × ((figures f k).parent ≡ Some p) × (p < k)
  pub ranges : (k : ℕ) → k < size f → Ranges k (figures f k) f.switching

abbrev pub switched : Section → Section
switched c = record { figures = c.figures; switch = true }

-- the feeder with a switch set at j
unfoldable pub fitted : Feeder → ℕ → Feeder
fitted f j = record { sections = slice_set f.sections j (switched (at f j)); switching = f.switching }
