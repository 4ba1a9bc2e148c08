-- The two sweeps, and one more switch, over any tree and any joining. Assumes nothing.
use Rattle.std.proofs.Common.{◌≡◌, ℕ, suc, ◌<◌, ◌≤◌, Bool, true, false, cond, not, ◌&&◌, ◌||◌, eqb, sym, refl, ap, ◌∙◌, ⊎_elim, le_refl, arith}
use mathlib.Core.Bool.{or-false}
use Rattle.std.proofs.lemmas.Bool.{cases_Bool, cases_order, true≢false}
use Rattle.feeder.proofs.Bools.{eqb_self}
use Rattle.feeder.proofs.Joins.{over_same, over_join, over_only, over_either, over_given, unit_right}
use Rattle.feeder.proofs.Trees.{from_under, from_above, drains_agree, drains_open, drains_stopped, drains_once, near_root, near_bare, near_cut, near_apart, head_mark, headed_mark, below_head, below_trans}
use Rattle.feeder.specs.Tree.{below, head, drains, near, mark, from, Falls}
use Rattle.feeder.specs.Measure.{Joining}
use Rattle.feeder.specs.Totals.{join_over}

module _ {V : Type 0} {nothing : V} {join : V → V → V} (J : Joining nothing join) (n : ℕ) (up : ℕ → ℕ) (falls : Falls up) (e : ℕ → V) where
  -- the joining of the extra parts that pass a test
  abbrev Of : (ℕ → Bool) → V
  Of t = join_over nothing join n (λ k. cond (t k) (e k) nothing)

  of_same : (s t : ℕ → Bool) → ((k : ℕ) → k < n → s k ≡ t k) → Of s ≡ Of t
  of_same s t h = over_same nothing join n _ _ (λ k l. ap (λ b. cond b (e k) nothing) (h k l))

  abbrev Held : (ℕ → Bool) → ℕ → V
  Held cut j = Of (λ k. drains up cut k j)

  held_agree : (cut cut' : ℕ → Bool) (j : ℕ) → ((c : ℕ) → j < c → cut c ≡ cut' c) → Held cut j ≡ Held cut' j
  held_agree cut cut' j same = of_same _ _ (λ k l. drains_agree up falls cut cut' j same k)

  module _ (cut : ℕ → Bool) where
    pub stage_start : (j : ℕ) → j < n → Held (from cut n) j ≡ e j
    stage_start j l =
        of_same _ (λ k. eqb k j) (λ k m. drains_stopped up falls (from cut n) k j (from_under up falls cut n k m)) ∙ over_only J n j e l

    pub stage_done : (i j : ℕ) → i ≤ suc j → Held (from cut i) j ≡ Held cut j
    stage_done i j l = held_agree (from cut i) cut j (λ c m. from_above up falls cut i c (omega arith))

    pub stage_skip : (i j : ℕ) → cut (suc i) ≡ true → Held (from cut (suc i)) j ≡ Held (from cut (suc (suc i))) j
    stage_skip i j h = held_agree (from cut (suc i)) (from cut (suc (suc i))) j (λ c _. at c)
      where
        at : (c : ℕ) → from cut (suc i) c ≡ from cut (suc (suc i)) c
        at c = ⊎_elim
            (λ x. from_above up falls cut (suc i) c (omega arith) ∙ ap cut x ∙ h ∙ sym (from_under up falls cut (suc (suc i)) c (omega arith)))
            (⊎_elim
            (λ l. from_under up falls cut (suc i) c l ∙ sym (from_under up falls cut (suc (suc i)) c (omega arith)))
            (λ l. from_above up falls cut (suc i) c (omega arith) ∙ sym (from_above up falls cut (suc (suc i)) c l)))
            (cases_order c (suc i))

    pub stage_other : (i j : ℕ) → cut (suc i) ≡ false → eqb j (up (suc i)) ≡ false → Held (from cut (suc i)) j ≡ Held (from cut (suc (suc i))) j
    stage_other i j h x = of_same _ _ (λ k l. drains_open up falls cut i h j k ∙ rw x (or-false _))

    pub stage_join : (i : ℕ) → cut (suc i) ≡ false → Held (from cut (suc i)) (up (suc i)) ≡ join (Held (from cut (suc (suc i))) (up (suc i))) (Held cut (suc i))
    stage_join i h =
        of_same _ (λ k. drains up D' k (up (suc i)) || drains up D' k (suc i)) (λ k l. drains_open up falls cut i h (up (suc i)) k ∙ rw (eqb_self (up (suc i))) refl)
        ∙ over_either J n (λ k. drains up D' k (up (suc i))) (λ k. drains up D' k (suc i)) e (λ k l. apart k)
        ∙ ap (join (Held D' (up (suc i)))) (stage_done (suc (suc i)) (suc i) (le_refl _))
      where
        D' : ℕ → Bool
        D' = from cut (suc (suc i))

        apart : (k : ℕ) → drains up D' k (up (suc i)) ≡ true → drains up D' k (suc i) ≡ false
        apart k t = ⊎_elim
            (λ s. absurd (true≢false (sym t ∙ drains_once up falls D' (suc i) (up (suc i)) (from_under up falls cut (suc (suc i)) (suc i) (le_refl _)) (falls i) k s)))
            (λ x. x) (cases_Bool (drains up D' k (suc i)))

    abbrev Reach : ℕ → V
    Reach m = Of (λ k. near up cut k m)

    pub reach_root : Reach 0 ≡ Held cut 0
    reach_root = of_same _ _ (λ k l. near_root up falls cut k)

    pub reach_bare : (j : ℕ) → cut (suc j) ≡ false → Reach (suc j) ≡ Reach (up (suc j))
    reach_bare j c = of_same _ _ (λ k l. near_bare up falls cut j k c)

    pub reach_cut : (j : ℕ) → cut (suc j) ≡ true → Reach (suc j) ≡ join (Reach (up (suc j))) (Held cut (suc j))
    reach_cut j c =
        of_same _ _ (λ k l. near_cut up falls cut j k c)
        ∙ over_either J n (λ k. near up cut k (up (suc j))) (λ k. drains up cut k (suc j)) e (λ k l. near_apart up falls cut j k c)

    same_both : (b : Bool) (v : V) → cond b v v ≡ v
    same_both true v = refl
    same_both false v = refl

    spare_one : (x y : Bool) (v : V) → (y ≡ true → x ≡ true) → cond x v nothing ≡ join (cond y v nothing) (cond (x && not y) v nothing)
    spare_one true true v i = sym (unit_right J v)
    spare_one true false v i = sym (J.unit v)
    spare_one false true v i = absurd (true≢false (sym (i refl)))
    spare_one false false v i = sym (J.unit nothing)

    -- what reaches m, and what still does with one more switch at suc i
    pub reach_mark : (i m : ℕ) → cut (suc i) ≡ false →
        Reach m ≡ join (Of (λ k. near up (mark cut (suc i)) k m)) (cond (below up m (head up cut (suc i)) && not (below up m (suc i))) (Held cut (suc i)) nothing)
    unfolding near
    reach_mark i m c =
        over_same nothing join n _ (λ k. join (cond (near up (mark cut (suc i)) k m) (e k) nothing) (cond w (cond (drains up cut k (suc i)) (e k) nothing) nothing)) (λ k l. at k l (drains up cut k (suc i)) refl)
        ∙ over_join J n _ _ ∙ ap (join _) (over_given J w n _)
      where
        w : Bool
        w = below up m (head up cut (suc i)) && not (below up m (suc i))

        at : (k : ℕ) → k < n → (d : Bool) → drains up cut k (suc i) ≡ d →
            cond (below up m (head up cut k)) (e k) nothing ≡ join (cond (below up m (head up (mark cut (suc i)) k)) (e k) nothing) (cond w (cond d (e k) nothing) nothing)
        at k l true t =
            rw (((head_mark up falls cut i c k).0 t).0, ((head_mark up falls cut i c k).0 t).1)
            (spare_one (below up m (head up cut (suc i))) (below up m (suc i)) (e k) (λ s. below_trans up falls (suc i) (head up cut (suc i)) m (below_head up falls cut (suc i)) s))
        at k l false t = rw ((head_mark up falls cut i c k).1 t) (sym (ap (join _) (same_both w nothing) ∙ unit_right J _))

    -- a fault's near effect is its far effect and the extra part
    pub reach_total : (m : ℕ) (far close : ℕ → V) → ((k : ℕ) → k < n → join (far k) (e k) ≡ close k) →
        join_over nothing join n (λ k. cond (near up cut k m) (close k) (far k)) ≡ join (join_over nothing join n far) (Reach m)
    reach_total m far close p = over_same nothing join n _ (λ k. join (far k) (cond (near up cut k m) (e k) nothing)) (λ k l. at k l (near up cut k m)) ∙ over_join J n _ _
      where
        at : (k : ℕ) → k < n → (b : Bool) → cond b (close k) (far k) ≡ join (far k) (cond b (e k) nothing)
        at k l true = sym (p k l)
        at k l false = sym (unit_right J (far k))

    -- the extra parts of the faults whose head is suc i once it bears a switch
    pub headed_held : (i : ℕ) → Of (λ k. eqb (head up (mark cut (suc i)) k) (suc i)) ≡ Held cut (suc i)
    headed_held i = of_same _ _ (λ k l. headed_mark up falls cut i k)
