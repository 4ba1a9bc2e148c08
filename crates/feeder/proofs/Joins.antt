-- Laws of `join_over`, over any joining. Assumes nothing.
use Rattle.std.proofs.Common.{◌≡◌, ℕ, zero, suc, ◌<◌, Bool, true, false, cond, ◌||◌, eqb, sym, refl, ap, ◌∙◌, ap₂, ⊎_elim, le_refl, not-suc-le-zero, arith}
use Rattle.std.proofs.lemmas.Bool.{eq-eqb, cases_order, true≢false, cond-true, cond-false}
use Rattle.feeder.proofs.Bools.{eqb_lt, eqb_gt}
use Rattle.feeder.specs.Measure.{Joining}
use Rattle.feeder.specs.Totals.{join_over}

-- the same terms, the same joining
pub over_same : {V : Type 0} (nothing : V) (join : V → V → V) (n : ℕ) (g h : ℕ → V) → ((k : ℕ) → k < n → g k ≡ h k) → join_over nothing join n g ≡ join_over nothing join n h
unfolding join_over
over_same nothing join zero g h e = refl
over_same nothing join (suc n) g h e = ap₂ join (over_same nothing join n g h (λ k l. e k (omega arith))) (e n (le_refl (suc n)))

module _ {V : Type 0} {nothing : V} {join : V → V → V} (J : Joining nothing join) where
  pub unit_right : (v : V) → join v nothing ≡ v
  unit_right v = J.comm v nothing ∙ J.unit v

  -- (a b) (c d) is (a c) (b d)
  pub swap_inner : (a b c d : V) → join (join a b) (join c d) ≡ join (join a c) (join b d)
  swap_inner a b c d =
      J.assoc a b (join c d) ∙ ap (join a) (sym (J.assoc b c d) ∙ ap (λ x. join x d) (J.comm b c) ∙ J.assoc c b d) ∙ sym (J.assoc a c (join b d))

  -- joined term by term
  pub over_join : (n : ℕ) (g h : ℕ → V) → join_over nothing join n (λ k. join (g k) (h k)) ≡ join (join_over nothing join n g) (join_over nothing join n h)
  unfolding join_over
  over_join zero g h = sym (J.unit nothing)
  over_join (suc n) g h = ap (λ x. join x (join (g n) (h n))) (over_join n g h) ∙ swap_inner _ _ _ _

  pub over_nothing : (n : ℕ) (g : ℕ → V) → ((k : ℕ) → k < n → g k ≡ nothing) → join_over nothing join n g ≡ nothing
  unfolding join_over
  over_nothing zero g e = refl
  over_nothing (suc n) g e = ap₂ join (over_nothing n g (λ k l. e k (omega arith))) (e n (le_refl (suc n))) ∙ J.unit nothing

  -- one test for all terms
  pub over_given : (b : Bool) (n : ℕ) (g : ℕ → V) → join_over nothing join n (λ k. cond b (g k) nothing) ≡ cond b (join_over nothing join n g) nothing
  over_given true n g = refl
  over_given false n g = over_nothing n (λ k. nothing) (λ k l. refl)

  -- one term singled out
  pub over_only : (n i : ℕ) (g : ℕ → V) → i < n → join_over nothing join n (λ k. cond (eqb k i) (g k) nothing) ≡ g i
  unfolding join_over
  over_only zero i g l = absurd (not-suc-le-zero l)
  over_only (suc n) i g l = ⊎_elim
      (λ e. ap₂ join (over_nothing n (λ k. cond (eqb k i) (g k) nothing) (λ k m. rw (eqb_lt k i (omega arith)) refl)) (cond-true (eqb n i) (g n) nothing (eq-eqb n i (sym e)) ∙ ap g (sym e)) ∙ J.unit (g i))
      (⊎_elim (λ p. ap₂ join (over_only n i g p) (cond-false (eqb n i) (g n) nothing (eqb_gt n i p)) ∙ unit_right (g i)) (λ p. absurd (omega arith)))
      (cases_order i n)

  either_way : (a b : Bool) (v : V) → (a ≡ true → b ≡ false) → cond (a || b) v nothing ≡ join (cond a v nothing) (cond b v nothing)
  either_way true true v x = absurd (true≢false (x refl))
  either_way true false v x = sym (unit_right v)
  either_way false true v x = sym (J.unit v)
  either_way false false v x = sym (J.unit nothing)

  -- two tests that never pass together
  pub over_either : (n : ℕ) (a b : ℕ → Bool) (g : ℕ → V) → ((k : ℕ) → k < n → a k ≡ true → b k ≡ false)
      → join_over nothing join n (λ k. cond (a k || b k) (g k) nothing) ≡ join (join_over nothing join n (λ k. cond (a k) (g k) nothing)) (join_over nothing join n (λ k. cond (b k) (g k) nothing))
  over_either n a b g x = over_same nothing join n _ _ (λ k l. either_way (a k) (b k) (g k) (x k l)) ∙ over_join n _ _
