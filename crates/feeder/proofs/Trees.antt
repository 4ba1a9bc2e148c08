-- Lemmas on the tree. Assumes nothing.
use Rattle.std.proofs.Common.{◌≡◌, ℕ, zero, suc, ◌<◌, ◌≤◌, Bool, true, false, cond, not, ◌&&◌, ◌||◌, eqb, ◌⊎◌, sym, refl, ap, ◌∙◌, subst, inl, inr, ⊎_elim, le_refl, not-suc-le-zero, arith}
use mathlib.Core.Bool.{or-false, and-false, and-true, or_comm}
use Rattle.std.proofs.lemmas.Bool.{eqb-true, eq-eqb, ne_eqb, lt-ltb, le-ltb, cases_Bool, true≢false, or_cases, or_right, or_from, and_parts, and_right, cond-true, cond-false, cases_order}
use Rattle.feeder.proofs.Bools.{eqb_self, eqb_lt, eqb_gt, eqb_swap, open_edge}
use Rattle.feeder.specs.Tree.{climb, ascend, below, head, drains, near, mark, from, Falls}

module _ {A : Type 0} (up : ℕ → ℕ) (falls : Falls up) (root : A) (step : ℕ → A → A) where
  -- more steps than there are parents change nothing
  enough : (d e k : ℕ) → k ≤ d → k ≤ e → climb up root step d k ≡ climb up root step e k
  unfolding climb
  enough d e zero p q = refl
  enough zero e (suc k) p q = absurd (not-suc-le-zero p)
  enough (suc d) zero (suc k) p q = absurd (not-suc-le-zero q)
  enough (suc d) (suc e) (suc k) p q = let l = falls k in ap (step (suc k)) (enough d e (up (suc k)) (omega arith) (omega arith))

  pub ascend_root : ascend up root step 0 ≡ root
  unfolding climb ascend
  ascend_root = refl

  pub ascend_up : (k : ℕ) → ascend up root step (suc k) ≡ step (suc k) (ascend up root step (up (suc k)))
  unfolding climb ascend
  ascend_up k = let l = falls k in ap (step (suc k)) (enough k (up (suc k)) (up (suc k)) (omega arith) (le_refl _))

module _ (up : ℕ → ℕ) (falls : Falls up) where
  -- induction up the tree
  pub by_parents : (P : ℕ → Type 0) → P 0 → ((k : ℕ) → P (up (suc k)) → P (suc k)) → (k : ℕ) → P k
  by_parents P base step k = go k k (le_refl k)
    where
      go : (d i : ℕ) → i ≤ d → P i
      go d zero p = base
      go zero (suc i) p = absurd (not-suc-le-zero p)
      go (suc d) (suc i) p = let l = falls i in step i (go d (up (suc i)) (omega arith))

  pub below_root : (j : ℕ) → below up 0 j ≡ eqb 0 j
  unfolding below
  below_root j = ascend_root up falls (eqb 0 j) (λ k above. eqb k j || above)

  pub below_up : (m j : ℕ) → below up (suc m) j ≡ (eqb (suc m) j || below up (up (suc m)) j)
  unfolding below
  below_up m j = ascend_up up falls (eqb 0 j) (λ k above. eqb k j || above) m

  pub below_self : (m : ℕ) → below up m m ≡ true
  below_self zero = below_root 0
  below_self (suc m) = rw (below_up m (suc m), eqb_self (suc m)) refl

  pub below_le : (j m : ℕ) → below up m j ≡ true → j ≤ m
  below_le j = by_parents (λ m. below up m j ≡ true → j ≤ m)
      (λ t. let e = eqb-true 0 j (sym (below_root j) ∙ t) in omega arith)
      (λ k ih t. let l = falls k in ⊎_elim (λ s. let e = eqb-true (suc k) j s in omega arith) (λ s. let h = ih s in omega arith) (or_cases _ _ (sym (below_up k j) ∙ t)))

  pub below_trans : (j i m : ℕ) → below up j i ≡ true → below up m j ≡ true → below up m i ≡ true
  below_trans j i m t = by_parents (λ m. below up m j ≡ true → below up m i ≡ true)
      (λ s. rw (eqb-true 0 j (sym (below_root j) ∙ s)) t)
      (λ k ih s. ⊎_elim (λ e. rw (eqb-true (suc k) j e) t) (λ h. below_up k i ∙ or_right _ _ (ih h)) (or_cases _ _ (sym (below_up k j) ∙ s))) m

  module _ (cut : ℕ → Bool) where
    pub head_root : head up cut 0 ≡ 0
    unfolding head
    head_root = ascend_root up falls 0 (λ i above. cond (cut i) i above)

    pub head_up : (k : ℕ) → head up cut (suc k) ≡ cond (cut (suc k)) (suc k) (head up cut (up (suc k)))
    unfolding head
    head_up k = ascend_up up falls 0 (λ i above. cond (cut i) i above) k

    pub drains_root : (j : ℕ) → drains up cut 0 j ≡ eqb 0 j
    unfolding drains
    drains_root j = ascend_root up falls (eqb 0 j) (λ i above. eqb i j || (not (cut i) && above))

    pub drains_up : (k j : ℕ) → drains up cut (suc k) j ≡ (eqb (suc k) j || (not (cut (suc k)) && drains up cut (up (suc k)) j))
    unfolding drains
    drains_up k j = ascend_up up falls (eqb 0 j) (λ i above. eqb i j || (not (cut i) && above)) k

    pub below_head : (k : ℕ) → below up k (head up cut k) ≡ true
    below_head = by_parents (λ k. below up k (head up cut k) ≡ true)
        (rw head_root (below_self 0))
        (λ k ih. rw (head_up k) (at k ih (cut (suc k))))
      where
        at : (k : ℕ) → below up (up (suc k)) (head up cut (up (suc k))) ≡ true → (b : Bool) → below up (suc k) (cond b (suc k) (head up cut (up (suc k)))) ≡ true
        at k ih true = below_self (suc k)
        at k ih false = below_up k _ ∙ or_right _ _ ih

    pub drains_self : (j : ℕ) → drains up cut j j ≡ true
    drains_self zero = drains_root 0
    drains_self (suc j) = rw (drains_up j (suc j), eqb_self (suc j)) refl

    pub drains_le : (j k : ℕ) → drains up cut k j ≡ true → j ≤ k
    drains_le j = by_parents (λ k. drains up cut k j ≡ true → j ≤ k)
        (λ t. let e = eqb-true 0 j (sym (drains_root j) ∙ t) in omega arith)
        (λ k ih t. let l = falls k in ⊎_elim (λ s. let e = eqb-true (suc k) j s in omega arith) (λ s. let h = ih (and_parts _ _ s).1 in omega arith) (or_cases _ _ (sym (drains_up k j) ∙ t)))

    pub drains_not : (j k : ℕ) → k < j → drains up cut k j ≡ false
    drains_not j k l = ⊎_elim (λ t. let h = drains_le j k t in absurd (omega arith)) (λ e. e) (cases_Bool (drains up cut k j))

    -- past a switch nothing drains
    pub drains_stopped : (k j : ℕ) → cut k ≡ true → drains up cut k j ≡ eqb k j
    drains_stopped zero j c = drains_root j
    drains_stopped (suc k) j c = drains_up k j ∙ rw c (or-false _)

    pub drains_once : (i j : ℕ) → cut i ≡ true → j < i → (k : ℕ) → drains up cut k i ≡ true → drains up cut k j ≡ false
    drains_once i j c l = by_parents (λ k. drains up cut k i ≡ true → drains up cut k j ≡ false)
        (λ t. let e = eqb-true 0 i (sym (drains_root i) ∙ t) in absurd (omega arith))
        (λ k ih t. let le = drains_le i (suc k) t in ⊎_elim
        (λ s. let e = eqb-true (suc k) i s in drains_stopped (suc k) j (rw e c) ∙ eqb_gt (suc k) j (omega arith))
        (λ s. drains_up k j ∙ or_from _ _ (eqb_gt (suc k) j (omega arith)) (and_right _ _ (ih (and_parts _ _ s).1)))
        (or_cases _ _ (sym (drains_up k i) ∙ t)))

    -- the faults whose head is j are those that drain to j
    pub head_drains : (j : ℕ) → (j ≡ 0) ⊎ (cut j ≡ true) → (k : ℕ) → eqb (head up cut k) j ≡ drains up cut k j
    head_drains j stops = by_parents (λ k. eqb (head up cut k) j ≡ drains up cut k j)
        (rw (head_root, drains_root j) refl)
        (λ k ih. rw (head_up k, drains_up k j) (at k ih (cut (suc k)) refl))
      where
        other : (k : ℕ) → cut (suc k) ≡ false → eqb (suc k) j ≡ true → ⊥
        other k c t = let e = eqb-true (suc k) j t in ⊎_elim (λ z. omega arith) (λ h. true≢false (sym (rw (← e) at h) ∙ c)) stops

        at : (k : ℕ) → eqb (head up cut (up (suc k))) j ≡ drains up cut (up (suc k)) j → (b : Bool) → cut (suc k) ≡ b →
            eqb (cond b (suc k) (head up cut (up (suc k)))) j ≡ (eqb (suc k) j || (not b && drains up cut (up (suc k)) j))
        at k ih true c = sym (or-false _)
        at k ih false c = ih ∙ sym (rw (⊎_elim (λ t. absurd (other k c t)) (λ e. e) (cases_Bool (eqb (suc k) j))) refl)

    -- a section that bears no switch is no head, save 0
    pub head_not : (j k : ℕ) → 0 < j → cut j ≡ false → eqb (head up cut k) j ≡ false
    head_not j k pos c = by_parents (λ k. eqb (head up cut k) j ≡ false)
        (rw head_root (eqb_lt 0 j pos))
        (λ k ih. rw (head_up k) (at k ih (cut (suc k)) refl)) k
      where
        at : (k : ℕ) → eqb (head up cut (up (suc k))) j ≡ false → (b : Bool) → cut (suc k) ≡ b → eqb (cond b (suc k) (head up cut (up (suc k)))) j ≡ false
        at k ih true h = ne_eqb (suc k) j (λ e. true≢false (sym h ∙ rw e c))
        at k ih false h = ih

    -- which faults are near: to the root, to a section without a switch, to a section with one
    pub near_root : (k : ℕ) → near up cut k 0 ≡ drains up cut k 0
    unfolding near
    near_root k = below_root (head up cut k) ∙ eqb_swap 0 (head up cut k) ∙ head_drains 0 (inl refl) k

    pub near_bare : (j k : ℕ) → cut (suc j) ≡ false → near up cut k (suc j) ≡ near up cut k (up (suc j))
    unfolding near
    near_bare j k c = below_up j (head up cut k) ∙ ap (λ x. x || below up (up (suc j)) (head up cut k)) (eqb_swap (suc j) (head up cut k) ∙ head_not (suc j) k (omega arith) c)

    pub near_cut : (j k : ℕ) → cut (suc j) ≡ true → near up cut k (suc j) ≡ (near up cut k (up (suc j)) || drains up cut k (suc j))
    unfolding near
    near_cut j k c =
        below_up j (head up cut k) ∙ ap (λ x. x || below up (up (suc j)) (head up cut k)) (eqb_swap (suc j) (head up cut k) ∙ head_drains (suc j) (inr c) k)
        ∙ or_comm (drains up cut k (suc j)) (below up (up (suc j)) (head up cut k))

    pub near_apart : (j k : ℕ) → cut (suc j) ≡ true → near up cut k (up (suc j)) ≡ true → drains up cut k (suc j) ≡ false
    unfolding near
    near_apart j k c t =
        let l = below_le (head up cut k) (up (suc j)) t in
        let p = falls j in
        sym (head_drains (suc j) (inr c) k) ∙ eqb_lt (head up cut k) (suc j) (omega arith)

  -- what drains to j turns on the switches above j alone
  pub drains_agree : (cut cut' : ℕ → Bool) (j : ℕ) → ((c : ℕ) → j < c → cut c ≡ cut' c) → (k : ℕ) → drains up cut k j ≡ drains up cut' k j
  drains_agree cut cut' j same = by_parents (λ k. drains up cut k j ≡ drains up cut' k j)
      (drains_root cut j ∙ sym (drains_root cut' j))
      (λ k ih. let l = falls k in rw (drains_up cut k j, drains_up cut' k j) (⊎_elim
      (λ e. rw (eq-eqb (suc k) j e) refl)
      (⊎_elim
      (λ p. ap (λ x. eqb (suc k) j || x) (and_right _ _ (drains_not cut j (up (suc k)) (omega arith)) ∙ sym (and_right _ _ (drains_not cut' j (up (suc k)) (omega arith)))))
      (λ p. rw (same (suc k) p, ih) refl))
      (cases_order (suc k) j)))

  module _ (cut : ℕ → Bool) where
    pub from_under : (i c : ℕ) → c < i → from cut i c ≡ true
    from_under i c l = rw (lt-ltb c i l) refl

    pub from_above : (i c : ℕ) → i ≤ c → from cut i c ≡ cut c
    from_above i c l = rw (le-ltb c i l) refl

    -- section i is opened: what drains to it now drains to its parent too
    pub drains_open : (i : ℕ) → cut (suc i) ≡ false → (j k : ℕ) →
        drains up (from cut (suc i)) k j ≡ (drains up (from cut (suc (suc i))) k j || (eqb j (up (suc i)) && drains up (from cut (suc (suc i))) k (suc i)))
    drains_open i c j = by_parents (λ k. drains up D k j ≡ (drains up D' k j || (q && drains up D' k (suc i))))
        (rw (drains_root D j, drains_root D' j, drains_root D' (suc i), eqb_lt 0 (suc i) (omega arith), and-false q) (sym (or-false _)))
        (λ k ih. rw (drains_up D k j, drains_up D' k j, drains_up D' k (suc i)) (⊎_elim (here k) (⊎_elim (under k) (over k ih)) (cases_order (suc k) (suc i))))
      where
        D : ℕ → Bool
        D = from cut (suc i)

        D' : ℕ → Bool
        D' = from cut (suc (suc i))

        q : Bool
        q = eqb j (up (suc i))

        Goal : ℕ → Type 0
        Goal k = (eqb (suc k) j || (not (D (suc k)) && drains up D (up (suc k)) j))
            ≡ ((eqb (suc k) j || (not (D' (suc k)) && drains up D' (up (suc k)) j)) || (q && (eqb (suc k) (suc i) || (not (D' (suc k)) && drains up D' (up (suc k)) (suc i)))))

        at : Goal i
        at = rw (from_under (suc (suc i)) (suc i) (le_refl _), from_above (suc i) (suc i) (le_refl _) ∙ c, eqb_self (suc i), drains_stopped D (up (suc i)) j (from_under (suc i) (up (suc i)) (falls i)), eqb_swap j (up (suc i)))
            (rw (or-false (eqb (suc i) j), and-true (eqb (up (suc i)) j)) refl)

        here : (k : ℕ) → suc k ≡ suc i → Goal k
        here k e = let h : i ≡ k = omega arith in subst Goal h at

        under : (k : ℕ) → suc k < suc i → Goal k
        under k l = rw (from_under (suc i) (suc k) l, from_under (suc (suc i)) (suc k) (omega arith), eqb_lt (suc k) (suc i) l, and-false q) (sym (or-false _))

        over : (k : ℕ) → drains up D (up (suc k)) j ≡ (drains up D' (up (suc k)) j || (q && drains up D' (up (suc k)) (suc i))) → suc i < suc k → Goal k
        over k ih l = rw (from_above (suc i) (suc k) (omega arith), from_above (suc (suc i)) (suc k) l, eqb_gt (suc k) (suc i) l, ih) (open_edge (eqb (suc k) j) (cut (suc k)) (drains up D' (up (suc k)) j) q (drains up D' (up (suc k)) (suc i)))

    pub mark_at : (j : ℕ) → mark cut j j ≡ true
    unfolding mark
    mark_at j = rw (eqb_self j) refl

    pub mark_other : (j k : ℕ) → eqb k j ≡ false → mark cut j k ≡ cut k
    unfolding mark
    mark_other j k e = rw e refl

    -- with one more switch at j, what drains to j has its head there, and all else keeps its head
    abbrev Moved : ℕ → ℕ → Type 0
    Moved j k = (drains up cut k j ≡ true → (head up (mark cut j) k ≡ j) × (head up cut k ≡ head up cut j)) × (drains up cut k j ≡ false → head up (mark cut j) k ≡ head up cut k)

    pub head_mark : (i : ℕ) → cut (suc i) ≡ false → (k : ℕ) → Moved (suc i) k
    head_mark i c = by_parents (Moved (suc i))
        (let e = drains_root cut (suc i) ∙ eqb_lt 0 (suc i) (omega arith) in
        (λ t. absurd (true≢false (sym t ∙ e)), λ _. head_root (mark cut (suc i)) ∙ sym (head_root cut)))
        (λ k ih. ⊎_elim (λ e. subst (Moved (suc i)) (sym (eqb-true (suc k) (suc i) e)) here) (λ e. there k e ih (cut (suc k)) refl) (cases_Bool (eqb (suc k) (suc i))))
      where
        here : Moved (suc i) (suc i)
        here = (λ _. (head_up (mark cut (suc i)) i ∙ cond-true _ _ _ (mark_at (suc i)), refl), λ e. absurd (true≢false (sym (drains_self cut (suc i)) ∙ e)))

        there : (k : ℕ) → eqb (suc k) (suc i) ≡ false → Moved (suc i) (up (suc k)) → (b : Bool) → cut (suc k) ≡ b → Moved (suc i) (suc k)
        there k e ih true h = (
          λ t. absurd (true≢false (sym t ∙ drains_stopped cut (suc k) (suc i) h ∙ e)),
          λ _. head_up (mark cut (suc i)) k ∙ cond-true _ _ _ (mark_other (suc i) (suc k) e ∙ h) ∙ sym (head_up cut k ∙ cond-true _ _ _ h),
        )
        there k e ih false h =
            let d : drains up cut (suc k) (suc i) ≡ drains up cut (up (suc k)) (suc i) = rw (drains_up cut k (suc i), e, h) refl in
            let m : head up (mark cut (suc i)) (suc k) ≡ head up (mark cut (suc i)) (up (suc k)) = head_up (mark cut (suc i)) k ∙ cond-false _ _ _ (mark_other (suc i) (suc k) e ∙ h) in
            let o : head up cut (suc k) ≡ head up cut (up (suc k)) = head_up cut k ∙ cond-false _ _ _ h in
            (λ t. (m ∙ (ih.0 (sym d ∙ t)).0, o ∙ (ih.0 (sym d ∙ t)).1), λ t. m ∙ ih.1 (sym d ∙ t) ∙ sym o)

    -- the faults whose head is j once it bears a switch are those that drain to it without one
    pub headed_mark : (i k : ℕ) → eqb (head up (mark cut (suc i)) k) (suc i) ≡ drains up cut k (suc i)
    headed_mark i k = head_drains (mark cut (suc i)) (suc i) (inr (mark_at (suc i))) k ∙ drains_agree (mark cut (suc i)) cut (suc i) (λ c l. mark_other (suc i) c (eqb_gt c (suc i) l)) k
