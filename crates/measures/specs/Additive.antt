-- Measures that add up whole numbers. Assumes nothing.
use Rattle.std.specs.Prelude.{◌≡◌, ℕ, ◌+◌, ◌≤◌, min}
use Rattle.feeder.specs.declared.section.Figures.{Figures}
use Rattle.feeder.specs.Feeder.{Ranges}
use Rattle.feeder.specs.Measure.{Meaning}
use Rattle.measures.specs.declared.capped.Capped.{Capped}
use Rattle.measures.specs.Capped.{cap, sum, Amounts}

-- each amount as a value, and nothing and the joining of capped sums
abbrev pub sums : Amounts → Meaning Capped
sums a = record { nothing = cap 0; join = sum; effect = λ k d s t. cap (a.amount k d s t); extra = λ k d s. cap (a.excess k d s) }

-- For figures in their ranges, the excess is what a near fault adds beyond a far one.
abbrev pub Parted : Amounts → Type 0
Parted a = (k : ℕ) (d : Figures) (s : ℕ) → Ranges k d s → a.amount k d s (min d.repair s) + a.excess k d s ≡ a.amount k d s d.repair

-- For figures in their ranges, no fault adds more than 1,008,000,000.
abbrev pub Bounded : Amounts → Type 0
Bounded a = (k : ℕ) (d : Figures) (s t : ℕ) → Ranges k d s → t ≤ 10080 → a.amount k d s t ≤ 1008000000

pub record Additive (a : Amounts) : Type 0 where
  pub parts : Parted a
  pub most : Bounded a
