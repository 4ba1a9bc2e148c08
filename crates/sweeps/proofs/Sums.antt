-- Sums over the places of a list. Assumes nothing.
use Rattle.std.proofs.Common.{◌≡◌, ℕ, zero, suc, ◌+◌, ◌≤◌, List, length, get_or, take, refl, sym, ap, ◌∙◌, add-one, arith}
use Rattle.std.proofs.lemmas.List.{take_all}
use Rattle.std.proofs.lemmas.List.Sums.{sum_by_more}
use Rattle.std.specs.List.{sum_by}
use Rattle.feeder.specs.Totals.{join_over}
use Rattle.feeder.specs.Weighed.{sum_over}

-- a sum over the places of a list, as the list's own sum
pub sum_front : {X : Type 0} (h : X → ℕ) (d : X) (xs : List X) (n : ℕ) → n ≤ length xs → sum_over n (λ k. h (get_or xs k d)) ≡ sum_by h (take n xs)
unfolding join_over
sum_front h d xs zero l = refl
sum_front h d xs (suc n) l =
    ap (λ a. a + h (get_or xs n d)) (sum_front h d xs n (omega arith)) ∙ sym (sum_by_more h xs n d (omega arith)) ∙ ap (λ i. sum_by h (take i xs)) (add-one n)

pub sum_listed : {X : Type 0} (h : X → ℕ) (d : X) (xs : List X) → sum_over (length xs) (λ k. h (get_or xs k d)) ≡ sum_by h xs
sum_listed h d xs = sum_front h d xs (length xs) (omega arith) ∙ ap (sum_by h) (take_all (length xs) xs (omega arith))
