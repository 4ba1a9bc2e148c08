-- A measure's meaning and its laws. Assumes nothing.
use Rattle.std.specs.Prelude.{◌≡◌, ℕ, min}
use Rattle.feeder.specs.declared.section.Figures.{Figures}
use Rattle.feeder.specs.Feeder.{Ranges}

-- the laws of a joining: associative, commutative, and nothing joined with a value is the value
pub record Joining {V : Type 0} (nothing : V) (join : V → V → V) : Type 0 where
  pub assoc : (a b c : V) → join (join a b) c ≡ join a (join b c)
  pub comm : (a b : V) → join a b ≡ join b a
  pub unit : (v : V) → join nothing v ≡ v

-- `effect` takes a section's number, its figures, the switching time and the time out; `extra` takes the first three.
pub record Meaning (V : Type 0) : Type 0 where
  pub nothing : V
  pub join : V → V → V
  pub effect : ℕ → Figures → ℕ → ℕ → V
  pub extra : ℕ → Figures → ℕ → V

-- For figures in their ranges, the far effect joined with the extra part is the near effect.
pub record Lawful {V : Type 0} (μ : Meaning V) : Type 0 where
  pub joining : Joining μ.nothing μ.join
  pub parts : (k : ℕ) (d : Figures) (s : ℕ) → Ranges k d s → μ.join (μ.effect k d s (min d.repair s)) (μ.extra k d s) ≡ μ.effect k d s d.repair
