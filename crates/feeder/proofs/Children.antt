-- What is held, by the children: the downward sweep from end to end. Assumes nothing.
use Rattle.std.proofs.Common.{◌≡◌, ℕ, zero, suc, ◌+◌, ◌-◌, ◌<◌, Bool, true, false, cond, not, ◌&&◌, ◌||◌, eqb, leb, sym, refl, ap, ◌∙◌, subst, ⊎_elim, add-one, arith}
use mathlib.Core.Bool.{and-false}
use Rattle.std.proofs.lemmas.Bool.{cases_eq, eq-eqb, ne_eqb, lt-leb}
use Rattle.std.proofs.lemmas.Bool.Decides.{nat_tests}
use Rattle.feeder.proofs.Joins.{over_same, over_only, over_either, over_nothing, unit_right}
use Rattle.feeder.proofs.Totals.{down}
use Rattle.feeder.specs.Feeder.{Feeder, Sound, up, cut, size}
use Rattle.feeder.specs.Measure.{Meaning, Lawful}
use Rattle.feeder.specs.Totals.{over, when, extra_part}
use Rattle.feeder.specs.Flows.{held, stage, open_child}
use Rattle.feeder.specs.Laws.{Downward}

-- one place more
next_place : (i c : ℕ) (t : Bool) → (leb i c && t) ≡ ((leb (suc i) c && t) || (eqb c i && t))
next_place i c true = grind (arith, nat_tests)
next_place i c false = grind (arith, nat_tests)

next_apart : (i c : ℕ) (t : Bool) → (leb (suc i) c && t) ≡ true → (eqb c i && t) ≡ false
next_apart i c t h = grind (arith, nat_tests)

nested : {V : Type 0} (a b : Bool) (v z : V) → cond (a && b) v z ≡ cond a (cond b v z) z
nested true b v z = refl
nested false b v z = refl

module _ {V : Type 0} (μ : Meaning V) (L : Lawful μ) (f : Feeder) (S : Sound f) (j : ℕ) (within : j < size f) where
  D : Downward μ f
  D = down μ L f S

  child : ℕ → Bool
  child c = eqb (up f c) j && not (cut f c)

  -- what the children from i on hold
  Kids : ℕ → V
  Kids i = over μ f (λ c. when μ f (leb i c && child c) (held μ f c))

  kids_last : Kids (size f) ≡ μ.nothing
  unfolding Kids
  kids_last = over_nothing L.joining (size f) _ (λ c l. rw (lt-leb (size f) c l) refl)

  kids_next : (i : ℕ) → i < size f → Kids i ≡ μ.join (Kids (suc i)) (when μ f (child i) (held μ f i))
  unfolding Kids
  kids_next i l =
      over_same μ.nothing μ.join (size f) _ _ (λ c _. ap (λ b. when μ f b (held μ f c)) (next_place i c (child c)))
      ∙ over_either L.joining (size f) (λ c. leb (suc i) c && child c) (λ c. eqb c i && child c) (held μ f) (λ c _. next_apart i c (child c))
      ∙ ap (μ.join _) (over_same μ.nothing μ.join (size f) _ (λ c. cond (eqb c i) (when μ f (child c) (held μ f c)) μ.nothing) (λ c _. nested (eqb c i) (child c) (held μ f c) μ.nothing)
      ∙ over_only L.joining (size f) i (λ c. when μ f (child c) (held μ f c)) l)

  -- one turn of the sweep, as it is seen at j
  stage_next : (i : ℕ) → 0 < i → stage μ f i j ≡ μ.join (stage μ f (i + 1) j) (when μ f (child i) (held μ f i))
  unfolding child
  stage_next i pos = at (cut f i) refl
    where
      at : (b : Bool) → cut f i ≡ b → stage μ f i j ≡ μ.join (stage μ f (i + 1) j) (when μ f (eqb (up f i) j && not b) (held μ f i))
      at true c = D.skipped i pos c j ∙ sym (rw (and-false (eqb (up f i) j)) (unit_right L.joining (stage μ f (i + 1) j)))
      at false c = ⊎_elim
          (λ e. rw (eq-eqb (up f i) j e) (subst (λ (x : ℕ). stage μ f i x ≡ μ.join (stage μ f (i + 1) x) (held μ f i)) e (D.joined i pos c)))
          (λ ne. rw (ne_eqb (up f i) j ne) (D.other i pos c j (λ e. ne (sym e)) ∙ sym (unit_right L.joining (stage μ f (i + 1) j))))
          (cases_eq (up f i) j)

  -- the sweep when d sections are done
  swept : (d i : ℕ) → suc i + d ≡ size f → stage μ f (suc i) j ≡ μ.join (extra_part μ f j) (Kids (suc i))
  swept zero i e =
      let n : suc i ≡ size f = omega arith in
      subst (λ (x : ℕ). stage μ f x j ≡ μ.join (extra_part μ f j) (Kids x)) (sym n)
      (D.start j within ∙ sym (ap (μ.join (extra_part μ f j)) kids_last ∙ unit_right L.joining _))
  swept (suc d) i e =
      stage_next (suc i) (omega arith)
      ∙ ap (λ x. μ.join x (when μ f (child (suc i)) (held μ f (suc i)))) (ap (λ x. stage μ f x j) (add-one (suc i)) ∙ swept d (suc i) (omega arith))
      ∙ L.joining.assoc _ _ _ ∙ ap (μ.join (extra_part μ f j)) (sym (kids_next (suc i) (omega arith)))

  pub by_children : held μ f j ≡ μ.join (extra_part μ f j) (over μ f (λ c. when μ f (open_child f j c) (held μ f c)))
  unfolding Kids child
  by_children = sym (D.done 1 j (omega arith)) ∙ swept (size f - 1) 0 (let h = S.some in omega arith)
