-- Sums of numbers, capped and plain. Assumes nothing.
use Rattle.std.proofs.Common.{◌≡◌, ℕ, zero, suc, ◌+◌, ◌-◌, ◌*◌, ◌^◌, ◌<◌, ◌≤◌, min, Bool, true, false, cond, not, ◌&&◌, sym, refl, ap, ◌∙◌, le_refl, mul-zero, mul-add, arith}
use Rattle.std.proofs.lemmas.Bool.{true≢false}
use Rattle.feeder.proofs.Joins.{over_same, over_join}
use Rattle.feeder.specs.Measure.{Joining, Meaning}
use Rattle.feeder.specs.Totals.{join_over}
use Rattle.feeder.specs.Weighed.{Weighs, sum_over}

pub plus : Joining 0 ◌+◌
plus = record {
  assoc = λ a b c. omega arith;
  comm = λ a b. omega arith;
  unit = λ v. omega arith;
}

-- the capped joining is the sum, capped
pub over_capped : {V : Type 0} (μ : Meaning V) (number : V → ℕ) → Weighs μ number → (n : ℕ) (g : ℕ → V) →
    number (join_over μ.nothing μ.join n g) ≡ min (sum_over n (λ k. number (g k))) (2 ^ 64 - 1)
unfolding join_over
over_capped μ number W zero g = omega (arith, W.nothing)
over_capped μ number W (suc n) g = omega (arith, over_capped μ number W n g, W.join (join_over μ.nothing μ.join n g) (g n))

pub sum_le : (b n : ℕ) (g : ℕ → ℕ) → ((k : ℕ) → k < n → g k ≤ b) → sum_over n g ≤ n * b
unfolding join_over
sum_le b zero g h = omega arith
sum_le b (suc n) g h = let ih = sum_le b n g (λ k l. h k (omega arith)) in let x = h n (le_refl (suc n)) in omega arith

pub sum_times : (c n : ℕ) (g : ℕ → ℕ) → sum_over n (λ k. c * g k) ≡ c * sum_over n g
unfolding join_over
sum_times c zero g = sym (mul-zero c)
sum_times c (suc n) g = ap (λ x. x + c * g n) (sum_times c n g) ∙ sym (mul-add c (sum_over n g) (g n))

-- b passes only where a does
pub sum_minus : (n : ℕ) (a b : ℕ → Bool) (g : ℕ → ℕ) → ((k : ℕ) → b k ≡ true → a k ≡ true) →
    sum_over n (λ k. cond (a k) (g k) 0) ≡ sum_over n (λ k. cond (b k) (g k) 0) + sum_over n (λ k. cond (a k && not (b k)) (g k) 0)
sum_minus n a b g h = over_same 0 ◌+◌ n _ (λ k. cond (b k) (g k) 0 + cond (a k && not (b k)) (g k) 0) (λ k l. at (a k) (b k) (g k) (h k)) ∙ over_join plus n _ _
  where
    at : (x y : Bool) (v : ℕ) → (y ≡ true → x ≡ true) → cond x v 0 ≡ cond y v 0 + cond (x && not y) v 0
    at true true v i = omega arith
    at true false v i = omega arith
    at false true v i = absurd (true≢false (sym (i refl)))
    at false false v i = refl
