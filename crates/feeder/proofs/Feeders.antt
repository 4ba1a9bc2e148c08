-- A sound feeder as a tree, and with one more switch. Assumes nothing.
use Rattle.std.proofs.Common.{◌≡◌, ℕ, suc, ◌<◌, Bool, ◌≢◌, Some, Option, sym, ap, ◌∙◌, subst, ⊎_elim, arith, length-set, get_or-set_other, get_or-set_same}
use mathlib.Core.Path.{fun_ext}
use Rattle.std.proofs.lemmas.Bool.{cases_lt, cases_eq, eq-eqb, ne_eqb}
use Rattle.std.proofs.lemmas.List.{get_or_past}
use Rattle.feeder.specs.declared.section.Figures.{Figures}
use Rattle.feeder.specs.declared.section.Section.{Section}
use Rattle.feeder.specs.Tree.{mark, Falls}
use Rattle.feeder.specs.Feeder.{Feeder, Sound, Ranges, size, at, figures, up, cut, fitted, switched, blank, or_zero}

pub up_falls : (f : Feeder) → Sound f → Falls (up f)
unfolding up
up_falls f S k = ⊎_elim
    (λ l. let p = S.parents (suc k) (omega arith) l in subst (λ (o : Option ℕ). or_zero o < suc k) (sym p.1) p.2)
    (λ l. subst (λ (c : Section). or_zero c.figures.parent < suc k) (sym (get_or_past f.sections (suc k) blank l)) (omega arith))
    (cases_lt (suc k) (size f))

module _ (f : Feeder) (j : ℕ) (within : j < size f) where
  pub size_fitted : size (fitted f j) ≡ size f
  unfolding fitted
  size_fitted = length-set f.sections j _

  at_same : at (fitted f j) j ≡ switched (at f j)
  unfolding fitted
  at_same = get_or-set_same f.sections j _ blank within

  at_other : (k : ℕ) → k ≢ j → at (fitted f j) k ≡ at f k
  unfolding fitted
  at_other k ne = get_or-set_other f.sections j k _ blank ne

  pub figures_fitted : figures (fitted f j) ≡ figures f
  figures_fitted = fun_ext (λ k. ⊎_elim (λ e. rw e (ap (λ (c : Section). c.figures) at_same)) (λ ne. ap (λ (c : Section). c.figures) (at_other k ne)) (cases_eq k j))

  pub up_fitted : up (fitted f j) ≡ up f
  unfolding up
  up_fitted = ap {B = ℕ → ℕ} (λ (g : ℕ → Figures) k. or_zero (g k).parent) figures_fitted

  pub cut_fitted : cut (fitted f j) ≡ mark (cut f) j
  unfolding cut mark
  cut_fitted = fun_ext (λ k. ⊎_elim
      (λ e. rw (eq-eqb k j e) (rw e (ap (λ (c : Section). c.switch) at_same)))
      (λ ne. rw (ne_eqb k j ne) (ap (λ (c : Section). c.switch) (at_other k ne)))
      (cases_eq k j))

  pub sound_fitted : Sound f → 0 < j → Sound (fitted f j)
  unfolding mark fitted
  sound_fitted S pos =
      let n = size_fitted in
      record {
        some = rw n S.some;
        few = rw n S.few;
        root = ap (λ (g : ℕ → Figures). (g 0).parent) figures_fitted ∙ S.root;
        root_bare = ap (λ (c : ℕ → Bool). c 0) cut_fitted ∙ rw (ne_eqb 0 j (λ e. omega arith)) S.root_bare;
        parents = λ k p l. subst (λ (g : ℕ → Figures). (p : ℕ) × ((g k).parent ≡ Some p) × (p < k)) (sym figures_fitted) (S.parents k p (rw n at l));
        ranges = λ k l. subst (λ (g : ℕ → Figures). Ranges k (g k) f.switching) (sym figures_fitted) (S.ranges k (rw n at l));
      }
