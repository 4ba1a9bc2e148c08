-- One step up the tree, as the code takes it. Assumes nothing.
use Rattle.std.proofs.Common.{◌≡◌, ℕ, zero, suc, ◌+◌, ◌*◌, ◌<◌, ◌≤◌, true, false, cond, ◌||◌, ◌≢◌, List, length, get_or, set, Some, None, sym, refl, ap, ◌∙◌, subst, ⊎_elim, add-one, arith, get_or-set_other, get_or-set_same}
use Rattle.std.proofs.lemmas.Bool.{cases_eq, ne_eqb, cond-true, cond-false, cond_both}
use Rattle.feeder.specs.Feeder.{Feeder, Sound, up, cut, size, figures}
use Rattle.feeder.specs.Tree.{below, head}
use Rattle.feeder.specs.Totals.{join_over}
use Rattle.feeder.specs.Weighed.{sum_over}
use Rattle.feeder.specs.Laws.{TreeEquations}
use Rattle.feeder.proofs.Feeders.{up_falls}
use Rattle.feeder.proofs.Numbers.{sum_le}
use Rattle.feeder.proofs.Totals.{tree}
use Rattle.feeder.proofs.Trees.{below_self}
use Rattle.sweeps.specs.Lists.{Holds}
use Rattle.sweeps.specs.declared.by.By.{By}
use Rattle.sweeps.specs.Weights.{weight_of}
use Rattle.sweeps.proofs.Shares.{light}
use Rattle.sweeps.proofs.Turns.{parent_read, parent_there}

-- the weight of section i, if it is below j
abbrev pub part : Feeder → By → ℕ → ℕ → ℕ
part f by j i = cond (below (up f) i j) (weight_of by (figures f i)) 0

module _ (f : Feeder) (S : Sound f) where
  pub T : TreeEquations f
  T = tree f S

  pub parent_some : (h p : ℕ) → h < size f → (figures f h).parent ≡ Some p → (0 < h) × (up f h ≡ p) × (p < h)
  parent_some zero p l e = let r = S.root in let z : ◌≡◌ {A = ℕ} 0 1 = cc in absurd (omega arith)
  parent_some (suc h) p l e = let r = parent_read f S (suc h) p (omega arith) l e in (omega arith, r.0, r.1)

  pub parent_none : (h : ℕ) → h < size f → (figures f h).parent ≡ None → h ≡ 0
  parent_none zero l e = refl
  parent_none (suc h) l e = absurd (parent_there f S (suc h) (omega arith) l e)

  pub head_here : (h : ℕ) → cut f h ≡ true → head (up f) (cut f) h ≡ h
  head_here zero c = T.head_root
  head_here (suc h) c = T.head_up (suc h) (omega arith) ∙ cond-true _ _ _ c

  pub head_above : (h p : ℕ) → 0 < h → cut f h ≡ false → up f h ≡ p → head (up f) (cut f) p ≡ head (up f) (cut f) h
  head_above h p pos c e = sym (T.head_up h pos ∙ cond-false _ _ _ c ∙ ap (head (up f) (cut f)) e)

  pub below_here : (k j : ℕ) → k ≡ j → true ≡ below (up f) k j
  below_here k j e = sym (subst (λ (x : ℕ). below (up f) k x ≡ true) e (below_self (up f) (up_falls f S) k))

  pub below_above : (k p j : ℕ) → 0 < k → k ≢ j → up f k ≡ p → below (up f) p j ≡ below (up f) k j
  below_above k p j pos ne e = sym (T.below_up k pos j ∙ ap (λ b. b || below (up f) (up f k) j) (ne_eqb k j ne) ∙ ap (λ x. below (up f) x j) e)

  pub below_none : (k j : ℕ) → k ≡ 0 → k ≢ j → false ≡ below (up f) k j
  below_none k j e ne = sym (subst (λ (x : ℕ). x ≢ j → below (up f) x j ≡ false) (sym e) (λ n. T.below_root j ∙ ne_eqb 0 j n) ne)

  pub parts_small : (by : By) (j k : ℕ) → k ≤ size f → sum_over k (part f by j) ≤ k * 4000
  parts_small by j k l = sum_le 4000 k (part f by j) (λ i m. cond_both (below (up f) i j) (weight_of by (figures f i)) 0 (λ x. x ≤ 4000)
      (λ _. light by i (figures f i) f.switching (S.ranges i (omega arith))) (λ _. omega arith))

-- one more entry known
pub holds_more : {V : Type 0} (d : V) (g : ℕ → V) (k : ℕ) (xs : List V) (v : V) → k < length xs → v ≡ g k → Holds d g k xs → Holds d g (k + 1) (set xs k v)
holds_more d g k xs v l e h j lj = ⊎_elim
    (λ q. subst (λ (x : ℕ). get_or (set xs k v) x d ≡ g x) (sym q) (get_or-set_same xs k v d l ∙ e))
    (λ ne. get_or-set_other xs k j v d ne ∙ h j (omega arith))
    (cases_eq j k)

pub sum_more : (g : ℕ → ℕ) (k : ℕ) → sum_over (k + 1) g ≡ sum_over k g + g k
unfolding join_over
sum_more g k = ap (λ n. sum_over n g) (add-one k)
