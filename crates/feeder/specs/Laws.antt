-- The theorems. Assumes nothing.
use Rattle.std.specs.Prelude.{◌≡◌, ℕ, ◌+◌, ◌*◌, ◌^◌, ◌<◌, ◌≤◌, true, false, cond, not, ◌&&◌, ◌||◌, ◌==◌, ◌≢◌}
use Rattle.feeder.specs.Tree.{below, head, drains, near}
use Rattle.feeder.specs.Feeder.{Feeder, Sound, up, cut, size, fitted}
use Rattle.feeder.specs.Measure.{Meaning, Lawful}
use Rattle.feeder.specs.Totals.{over, when, extra_part, near_effect, far_effect, total, far_total}
use Rattle.feeder.specs.Flows.{open_child, held, flow, stage}
use Rattle.feeder.specs.Trials.{headed, spared}
use Rattle.feeder.specs.Weighed.{Weighs, Weight, Light, sum_over, weighted_sum, weight_below, shielded}

pub record TreeEquations (f : Feeder) : Type 0 where
  pub below_root : (j : ℕ) → below (up f) 0 j ≡ (0 == j)
  pub below_up : (m : ℕ) → 0 < m → (j : ℕ) → below (up f) m j ≡ (m == j || below (up f) (up f m) j)
  pub head_root : head (up f) (cut f) 0 ≡ 0
  pub head_up : (k : ℕ) → 0 < k → head (up f) (cut f) k ≡ cond (cut f k) k (head (up f) (cut f) (up f k))
  pub drains_root : (j : ℕ) → drains (up f) (cut f) 0 j ≡ (0 == j)
  pub drains_up : (k : ℕ) → 0 < k → (j : ℕ) → drains (up f) (cut f) k j ≡ (k == j || (not (cut f k) && drains (up f) (cut f) (up f k) j))

-- the definitions of `below`, `head` and `drains`, as they are said in words
abbrev pub TreeLaw : Type 0
TreeLaw = (f : Feeder) → Sound f → TreeEquations f

-- The downward sweep, from the last section to section 1, in place: at the start each place has its own extra part; section i,
-- unless it bears a switch, is joined to its parent's place; and a place is done as soon as the sections after it are.
pub record Downward {V : Type 0} (μ : Meaning V) (f : Feeder) : Type 0 where
  pub start : (j : ℕ) → j < size f → stage μ f (size f) j ≡ extra_part μ f j
  pub joined : (i : ℕ) → 0 < i → cut f i ≡ false → stage μ f i (up f i) ≡ μ.join (stage μ f (i + 1) (up f i)) (held μ f i)
  pub other : (i : ℕ) → 0 < i → cut f i ≡ false → (j : ℕ) → (j ≢ up f i) → stage μ f i j ≡ stage μ f (i + 1) j
  pub skipped : (i : ℕ) → 0 < i → cut f i ≡ true → (j : ℕ) → stage μ f i j ≡ stage μ f (i + 1) j
  pub done : (i j : ℕ) → i ≤ j + 1 → stage μ f i j ≡ held μ f j

abbrev pub DownwardLaw : Type 0 → Type 0
DownwardLaw V = (μ : Meaning V) → Lawful μ → (f : Feeder) → Sound f → Downward μ f

-- What is held at a section is its own extra part and what its children without a switch hold.
abbrev pub ChildrenLaw : Type 0 → Type 0
ChildrenLaw V = (μ : Meaning V) → Lawful μ → (f : Feeder) → Sound f → (j : ℕ) → j < size f →
    held μ f j ≡ μ.join (extra_part μ f j) (over μ f (λ c. when μ f (open_child f j c) (held μ f c)))

-- The upward sweep, from section 0 on: each total from the parent's.
pub record Upward {V : Type 0} (μ : Meaning V) (f : Feeder) : Type 0 where
  pub root : total μ f 0 ≡ μ.join (far_total μ f) (held μ f 0)
  pub bare : (j : ℕ) → 0 < j → cut f j ≡ false → total μ f j ≡ total μ f (up f j)
  pub switched : (j : ℕ) → 0 < j → cut f j ≡ true → total μ f j ≡ μ.join (total μ f (up f j)) (held μ f j)

abbrev pub UpwardLaw : Type 0 → Type 0
UpwardLaw V = (μ : Meaning V) → Lawful μ → (f : Feeder) → Sound f → Upward μ f

-- One more switch, at j: each total is the new total joined with what the switch spares, and that is the flow at j.
pub record Spared {V : Type 0} (μ : Meaning V) (f : Feeder) (j : ℕ) : Type 0 where
  pub spares : (m : ℕ) → total μ f m ≡ μ.join (total μ (fitted f j) m) (spared μ f j m)
  pub is_held : headed μ (fitted f j) j ≡ held μ f j
  pub is_flow : headed μ (fitted f j) j ≡ flow μ f j

abbrev pub SparedLaw : Type 0 → Type 0
SparedLaw V = (μ : Meaning V) → Lawful μ → (f : Feeder) → Sound f → (j : ℕ) → 0 < j → j < size f → cut f j ≡ false → Spared μ f j

-- Numbers: no cap is reached, no weighted sum passes 2 ^ 63, and one more switch takes its flow times the weight it shields from the sum.
pub record Weighed {V : Type 0} (μ : Meaning V) (number : V → ℕ) (w : Weight) (f : Feeder) : Type 0 where
  pub uncapped : (m : ℕ) → number (total μ f m) ≡ sum_over (size f) (λ k. cond (near (up f) (cut f) k m) (number (near_effect μ f k)) (number (far_effect μ f k)))
  pub uncapped_held : (j : ℕ) → number (held μ f j) ≡ sum_over (size f) (λ k. cond (drains (up f) (cut f) k j) (number (extra_part μ f k)) 0)
  pub sum_small : weighted_sum μ number w f ≤ 2 ^ 63
  pub shields : (j : ℕ) → weight_below w f j ≤ weight_below w f (head (up f) (cut f) j)
  pub trial : (j : ℕ) → 0 < j → j < size f → cut f j ≡ false →
      weighted_sum μ number w f ≡ weighted_sum μ number w (fitted f j) + number (flow μ f j) * shielded w f j

abbrev pub WeighedLaw : Type 0 → Type 0
WeighedLaw V = (μ : Meaning V) → Lawful μ → (number : V → ℕ) → Weighs μ number → (w : Weight) → Light w → (f : Feeder) → Sound f → Weighed μ number w f
