-- One turn of each sweep, in place. Assumes nothing.
use Rattle.std.proofs.Common.{◌≡◌, ℕ, zero, suc, ◌+◌, ◌<◌, ◌≤◌, true, false, cond, ltb, ◌≢◌, List, ◌++◌, map, length, get_or, drop, set, Some, None, sym, ap, ◌∙◌, subst, ap₂, ⊎_elim, arith, get_or-set_other, get_or-set_same}
use Rattle.std.proofs.lemmas.Bool.{cases_eq, cases_lt, lt-ltb, le-ltb, cond-true, cond-false}
use Rattle.std.proofs.lemmas.List.{get_or_append_left}
use Rattle.std.proofs.lemmas.List.FromFn.{length-map-range_with_len, get_or-map-range_with_len, fill_by_all}
use Rattle.std.specs.List.{range_with_len}
use Rattle.feeder.specs.Feeder.{Feeder, Sound, up, cut, size, figures, or_zero}
use Rattle.feeder.specs.Measure.{Meaning, Lawful}
use Rattle.feeder.specs.Totals.{total, far_total}
use Rattle.feeder.specs.Flows.{stage, held}
use Rattle.feeder.specs.Laws.{Downward, Upward}
use Rattle.feeder.proofs.Totals.{down, upward}
use Rattle.sweeps.specs.Lists.{Holds, written}

-- the parent that is read
pub parent_read : (f : Feeder) → Sound f → (i p : ℕ) → 0 < i → i < size f → (figures f i).parent ≡ Some p → (up f i ≡ p) × (p < i)
unfolding up
parent_read f S i p pos l e =
    let (q, r, low) = S.parents i pos l in
    let same : q ≡ p = cc in
    (ap or_zero e, rw (← same) low)

pub parent_there : (f : Feeder) → Sound f → (i : ℕ) → 0 < i → i < size f → (figures f i).parent ≡ None → ⊥
parent_there f S i pos l e =
    let (q, r, low) = S.parents i pos l in
    let z : ◌≡◌ {A = ℕ} 0 1 = cc in
    omega arith

pub written_holds : {V : Type 0} (g : ℕ → V) (n : ℕ) (xs ys : List V) (d : V) → ys ≡ written g n xs → Holds d g n ys
written_holds g n xs ys d e j l =
    ap (λ zs. get_or zs j d) e
    ∙ get_or_append_left (map g (range_with_len 0 n)) (drop n xs) d j (omega (arith, length-map-range_with_len g 0 n))
    ∙ get_or-map-range_with_len g 0 n j j d l (omega arith)

-- a front that is filled, before the rest of the list
pub written_front : {V : Type 0} (g : ℕ → V) (n : ℕ) (part xs : List V) (d : V) → length part ≡ n → Holds d g n part → part ++ drop n xs ≡ written g n xs
written_front g n part xs d long h = ap (λ ys. ys ++ drop n xs) (fill_by_all g part n d long h)

-- the totals before section i, and what is held from there on
abbrev pub risen : {V : Type 0} → Meaning V → Feeder → ℕ → ℕ → V
risen μ f i j = cond (ltb j i) (total μ f j) (held μ f j)

abbrev pub Risen : {V : Type 0} → Meaning V → Feeder → ℕ → List V → Type 0
Risen μ f i xs = Holds μ.nothing (risen μ f i) (size f) xs

module _ {V : Type 0} (μ : Meaning V) (L : Lawful μ) (f : Feeder) (S : Sound f) where
  D : Downward μ f
  D = down μ L f S

  U : Upward μ f
  U = upward μ L f S

  -- a write at p: the rest stays
  pub after_set : (g h : ℕ → V) (xs : List V) (p : ℕ) (v : V) → p < length xs → v ≡ g p → ((j : ℕ) → j < size f → j ≢ p → g j ≡ h j) →
      Holds μ.nothing h (size f) xs → Holds μ.nothing g (size f) (set xs p v)
  after_set g h xs p v l e same old j lj = ⊎_elim
      (λ q. subst (λ (x : ℕ). get_or (set xs p v) x μ.nothing ≡ g x) (sym q) (get_or-set_same xs p v μ.nothing l ∙ e))
      (λ ne. get_or-set_other xs p j v μ.nothing ne ∙ old j lj ∙ sym (same j lj ne))
      (cases_eq j p)

  -- the list holds stage i
  abbrev pub Staged : ℕ → List V → Type 0
  Staged i = Holds μ.nothing (stage μ f i) (size f)

  pub turn_skip : (i : ℕ) (xs : List V) → 0 < i → cut f i ≡ true → Staged (i + 1) xs → Staged i xs
  turn_skip i xs pos c h j l = h j l ∙ sym (D.skipped i pos c j)

  pub turn_join : (i p : ℕ) (xs : List V) → 0 < i → i < size f → cut f i ≡ false → up f i ≡ p → p < i → size f ≤ length xs → Staged (i + 1) xs →
      Staged i (set xs p (μ.join (get_or xs p μ.nothing) (get_or xs i μ.nothing)))
  turn_join i p xs pos within c e low room h = after_set (stage μ f i) (stage μ f (i + 1)) xs p _ (omega arith)
      (ap₂ μ.join (h p (omega arith)) (h i within ∙ D.done (i + 1) i (omega arith))
      ∙ sym (subst (λ (x : ℕ). stage μ f i x ≡ μ.join (stage μ f (i + 1) x) (held μ f i)) e (D.joined i pos c)))
      (λ j l ne. D.other i pos c j (λ q. ne (q ∙ e))) h

  pub first_stage : (xs : List V) → Holds μ.nothing (λ k. μ.extra k (figures f k) f.switching) (size f) xs → Staged (size f) xs
  first_stage xs h j l = h j l ∙ sym (D.start j l)

  pub last_stage : (i : ℕ) (xs : List V) → i ≡ 1 → Staged i xs → Holds μ.nothing (held μ f) (size f) xs
  last_stage i xs e h j l = h j l ∙ D.done i j (omega arith)

  risen_under : (i j : ℕ) → j < i → risen μ f i j ≡ total μ f j
  risen_under i j l = cond-true (ltb j i) _ _ (lt-ltb j i l)

  risen_past : (i j : ℕ) → i ≤ j → risen μ f i j ≡ held μ f j
  risen_past i j l = cond-false (ltb j i) _ _ (le-ltb j i l)

  -- one more total
  risen_more : (i : ℕ) (xs : List V) (v : V) → i < length xs → v ≡ total μ f i → Risen μ f i xs → Risen μ f (i + 1) (set xs i v)
  risen_more i xs v l e = after_set (risen μ f (i + 1)) (risen μ f i) xs i v l (e ∙ sym (risen_under (i + 1) i (omega arith)))
      (λ j lj ne. ⊎_elim
      (λ p. risen_under (i + 1) j (omega arith) ∙ sym (risen_under i j p))
      (λ p. risen_past (i + 1) j (omega arith) ∙ sym (risen_past i j p))
      (cases_lt j i))

  pub risen_none : (xs : List V) → Holds μ.nothing (held μ f) (size f) xs → Risen μ f 0 xs
  risen_none xs h j l = h j l ∙ sym (risen_past 0 j (omega arith))

  pub rise_root : (i : ℕ) (xs : List V) → i ≡ 0 → size f ≤ length xs → Risen μ f i xs → Risen μ f (i + 1) (set xs i (μ.join (far_total μ f) (get_or xs i μ.nothing)))
  rise_root zero xs e room h =
      let some = S.some in
      risen_more 0 xs _ (omega arith) (ap (μ.join (far_total μ f)) (h 0 some ∙ risen_past 0 0 (omega arith)) ∙ sym U.root) h
  rise_root (suc i) xs e room h = absurd (omega arith)

  pub rise_bare : (i p : ℕ) (xs : List V) → 0 < i → i < size f → size f ≤ length xs → cut f i ≡ false → up f i ≡ p → p < i → Risen μ f i xs →
      Risen μ f (i + 1) (set xs i (get_or xs p μ.nothing))
  rise_bare i p xs pos within room c e low h =
      risen_more i xs _ (omega arith) (h p (omega arith) ∙ risen_under i p low ∙ ap (total μ f) (sym e) ∙ sym (U.bare i pos c)) h

  pub rise_switched : (i p : ℕ) (xs : List V) → 0 < i → i < size f → size f ≤ length xs → cut f i ≡ true → up f i ≡ p → p < i → Risen μ f i xs →
      Risen μ f (i + 1) (set xs i (μ.join (get_or xs p μ.nothing) (get_or xs i μ.nothing)))
  rise_switched i p xs pos within room c e low h =
      risen_more i xs _ (omega arith)
      (ap₂ μ.join (h p (omega arith) ∙ risen_under i p low ∙ ap (total μ f) (sym e)) (h i within ∙ risen_past i i (omega arith)) ∙ sym (U.switched i pos c)) h
