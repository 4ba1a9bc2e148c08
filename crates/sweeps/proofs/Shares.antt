-- Weighted sums, their bounds, and the largest of the same values. Assumes nothing.
use Rattle.std.proofs.Common.{◌≡◌, ℕ, ◌+◌, ◌*◌, ◌^◌, ◌<◌, ◌≤◌, List, length, get_or, sym, ap, ◌∙◌, mul-le-mul, arith}
use Rattle.std.proofs.lemmas.List.{get_or_read}
use Rattle.std.proofs.lemmas.Slice.Zip.{length-zip, get_or-zip}
use Rattle.std.specs.List.{sum_by, zip}
use Rattle.feeder.specs.declared.section.Section.{Section}
use Rattle.feeder.specs.Feeder.{Feeder, Sound, size, figures, blank}
use Rattle.feeder.specs.Measure.{Meaning, Lawful}
use Rattle.feeder.specs.Totals.{total}
use Rattle.feeder.specs.Weighed.{Weighs, Light, sum_over}
use Rattle.feeder.proofs.Joins.{over_same}
use Rattle.feeder.proofs.Numbers.{sum_le}
use Rattle.feeder.proofs.Weights.{total_small}
use Rattle.sweeps.proofs.Sums.{sum_listed}
use Rattle.sweeps.specs.declared.by.By.{By}
use Rattle.sweeps.specs.declared.by.By.TheVariants.{Load, Customers}
use Rattle.sweeps.specs.Lists.{Holds}
use Rattle.sweeps.specs.Weights.{weight_of, FirstLargest}

pub light : (by : By) → Light (weight_of by)
light Load k d s r = r.load
light Customers k d s r = r.customers

-- the weights of the first k nodes
pub weights_small : (by : By) (f : Feeder) → Sound f → (k : ℕ) → k ≤ size f → sum_over k (λ i. weight_of by (figures f i)) ≤ k * 4000
weights_small by f S k l = sum_le 4000 k (λ i. weight_of by (figures f i)) (λ i m. light by i (figures f i) f.switching (S.ranges i (omega arith)))

module _ {V : Type 0} (μ : Meaning V) (L : Lawful μ) (number : V → ℕ) (W : Weighs μ number) (by : By) (f : Feeder) (S : Sound f) where
  -- what node k adds to the sum
  abbrev pub share : ℕ → ℕ
  share k = weight_of by (figures f k) * number (total μ f k)

  pub share_small : (k : ℕ) → k < size f → share k ≤ 4128768000000000
  share_small k l = mul-le-mul (light by k (figures f k) f.switching (S.ranges k l)) (total_small μ L number W (weight_of by) (light by) f S k)

  pub shares_small : (k : ℕ) → k ≤ size f → sum_over k share ≤ k * 4128768000000000
  shares_small k l = sum_le 4128768000000000 k share (λ i m. share_small i (omega arith))

  -- the same from a section and its total
  abbrev pub share_of : Section × V → ℕ
  share_of p = weight_of by p.0.figures * number p.1

  module _ (totals : List V) (room : size f ≤ length totals) (told : Holds μ.nothing (total μ f) (size f) totals) where
    share_read : (k : ℕ) → k < size f → share_of (get_or (zip f.sections totals) k (blank, μ.nothing)) ≡ share k
    share_read k l = ap share_of (get_or-zip f.sections totals k (blank, μ.nothing) l (omega arith)) ∙ ap (λ v. weight_of by (figures f k) * number v) (told k l)

    long : length (zip f.sections totals) ≡ size f
    long = omega (arith, length-zip f.sections totals)

    pub share_at : (p : Section × V) (k : ℕ) → k < length (zip f.sections totals) → p ≡ get_or (zip f.sections totals) k p → share_of p ≤ 4128768000000000
    share_at p k l e =
        omega (arith, ap share_of (get_or_read (zip f.sections totals) k p l e (blank, μ.nothing)), share_read k (omega (arith, long)), share_small k (omega (arith, long)))

    pub shares_listed : sum_by share_of (zip f.sections totals) ≡ sum_over (size f) share
    shares_listed =
        sym (sum_listed share_of (blank, μ.nothing) (zip f.sections totals))
        ∙ ap (λ n. sum_over n (λ k. share_of (get_or (zip f.sections totals) k (blank, μ.nothing)))) long
        ∙ over_same 0 ◌+◌ (size f) _ share share_read

    pub listed_small : sum_by share_of (zip f.sections totals) < 2 ^ 64
    listed_small = let few = S.few in omega (arith, shares_listed, shares_small (size f) (omega arith))

-- two functions with the same values
pub largest_same : (g h : ℕ → ℕ) (m n w : ℕ) → m ≡ n → ((j : ℕ) → j < n → g j ≡ h j) → FirstLargest g m w → FirstLargest h n w
largest_same g h m n w q e (a, b, c) =
    let at : w < n = omega arith in
    (at, λ j l. omega (arith, b j (omega arith), e j l, e w at), λ j l. omega (arith, c j l, e j (omega arith), e w at))
