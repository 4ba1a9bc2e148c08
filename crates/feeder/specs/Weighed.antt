-- Measures that can be weighed, weighted sums and the load that a switch shields. Assumes nothing.
use Rattle.std.specs.Prelude.{◌≡◌, ℕ, ◌+◌, ◌-◌, ◌*◌, ◌^◌, ◌≤◌, min, cond}
use Rattle.feeder.specs.declared.section.Figures.{Figures}
use Rattle.feeder.specs.Tree.{below, head}
use Rattle.feeder.specs.Feeder.{Feeder, size, figures, up, cut, Ranges}
use Rattle.feeder.specs.Measure.{Meaning}
use Rattle.feeder.specs.Totals.{join_over, total}

-- the values are whole numbers, the joining is their sum capped at 2 ^ 64 - 1, and no near or far effect passes 1,008,000,000
pub record Weighs {V : Type 0} (μ : Meaning V) (number : V → ℕ) : Type 0 where
  pub same : (a b : V) → number a ≡ number b → a ≡ b
  pub nothing : number μ.nothing ≡ 0
  pub join : (a b : V) → number (μ.join a b) ≡ min (number a + number b) (2 ^ 64 - 1)
  pub near : (k : ℕ) (d : Figures) (s : ℕ) → Ranges k d s → number (μ.effect k d s d.repair) ≤ 1008000000
  pub far : (k : ℕ) (d : Figures) (s : ℕ) → Ranges k d s → number (μ.effect k d s (min d.repair s)) ≤ 1008000000

-- g 0 + .. + g (n - 1)
abbrev pub sum_over : ℕ → (ℕ → ℕ) → ℕ
sum_over n g = join_over 0 ◌+◌ n g

-- the weight of a section: its load, or its customers
abbrev pub Weight : Type 0
Weight = Figures → ℕ

abbrev pub Light : Weight → Type 0
Light w = (k : ℕ) (d : Figures) (s : ℕ) → Ranges k d s → w d ≤ 4000

unfoldable pub weighted_sum : {V : Type 0} → Meaning V → (V → ℕ) → Weight → Feeder → ℕ
weighted_sum μ number w f = sum_over (size f) (λ m. w (figures f m) * number (total μ f m))

-- the weight below section j
unfoldable pub weight_below : Weight → Feeder → ℕ → ℕ
weight_below w f j = sum_over (size f) (λ m. cond (below (up f) m j) (w (figures f m)) 0)

-- the weight that a switch at j shields
unfoldable pub shielded : Weight → Feeder → ℕ → ℕ
shielded w f j = weight_below w f (head (up f) (cut f) j) - weight_below w f j
