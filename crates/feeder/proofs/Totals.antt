-- The theorems of `specs/Laws`. Assumes nothing.
use Rattle.std.proofs.Common.{◌≡◌, ℕ, zero, suc, ◌<◌, ◌≤◌, min, Bool, true, false, cond, not, ◌&&◌, eqb, sym, ap, ◌∙◌, not-suc-le-zero, add-one, arith}
use Rattle.std.proofs.lemmas.Bool.{ne_eqb, cond-false}
use Rattle.feeder.proofs.Trees as trees
use Rattle.feeder.proofs.Sweeps as sweeps
use Rattle.feeder.proofs.Feeders.{up_falls, size_fitted, figures_fitted, up_fitted, cut_fitted}
use Rattle.feeder.specs.declared.section.Figures.{Figures}
use Rattle.feeder.specs.Tree.{below, head, near, mark, Falls}
use Rattle.feeder.specs.Feeder.{Feeder, Sound, up, cut, size, figures, fitted}
use Rattle.feeder.specs.Measure.{Meaning, Lawful}
use Rattle.feeder.specs.Totals.{join_over, extra_part, far_effect, near_effect, total, far_total}
use Rattle.feeder.specs.Flows.{held, stage}
use Rattle.feeder.specs.Trials.{headed, spared}
use Rattle.feeder.specs.Laws.{TreeLaw, SparedLaw, Downward, Upward, Spared}

-- a law at every section but 0, from the law at a successor
positive : (P : ℕ → Type 0) → ((k : ℕ) → P (suc k)) → (k : ℕ) → 0 < k → P k
positive P h zero l = absurd (not-suc-le-zero l)
positive P h (suc k) l = h k

pub tree : TreeLaw
tree f S =
    let F = up_falls f S in
    record {
      below_root = trees.below_root (up f) F;
      below_up = positive (λ m. (j : ℕ) → _ ≡ _) (trees.below_up (up f) F);
      head_root = trees.head_root (up f) F (cut f);
      head_up = positive (λ k. _ ≡ _) (trees.head_up (up f) F (cut f));
      drains_root = trees.drains_root (up f) F (cut f);
      drains_up = positive (λ k. (j : ℕ) → _ ≡ _) (trees.drains_up (up f) F (cut f));
    }

module _ {V : Type 0} (μ : Meaning V) (L : Lawful μ) (f : Feeder) (S : Sound f) where
  F : Falls (up f)
  F = up_falls f S

  start : (j : ℕ) → j < size f → stage μ f (size f) j ≡ extra_part μ f j
  unfolding stage
  start = sweeps.stage_start L.joining (size f) (up f) F (extra_part μ f) (cut f)

  joined : (i : ℕ) → cut f (suc i) ≡ false → stage μ f (suc i) (up f (suc i)) ≡ μ.join (stage μ f (suc (suc i)) (up f (suc i))) (held μ f (suc i))
  unfolding stage held
  joined = sweeps.stage_join L.joining (size f) (up f) F (extra_part μ f) (cut f)

  other : (i : ℕ) → cut f (suc i) ≡ false → (j : ℕ) → (j ≡ up f (suc i) → ⊥) → stage μ f (suc i) j ≡ stage μ f (suc (suc i)) j
  unfolding stage
  other i c j ne = sweeps.stage_other L.joining (size f) (up f) F (extra_part μ f) (cut f) i j c (ne_eqb j (up f (suc i)) ne)

  skipped : (i : ℕ) → cut f (suc i) ≡ true → (j : ℕ) → stage μ f (suc i) j ≡ stage μ f (suc (suc i)) j
  unfolding stage
  skipped i c j = sweeps.stage_skip L.joining (size f) (up f) F (extra_part μ f) (cut f) i j c

  done : (i j : ℕ) → i ≤ suc j → stage μ f i j ≡ held μ f j
  unfolding stage held
  done = sweeps.stage_done L.joining (size f) (up f) F (extra_part μ f) (cut f)

  pub down : Downward μ f
  down = record {
    start = start;
    joined = positive (λ i. cut f i ≡ false → _ ≡ _) (λ i c. rw add-one (joined i c));
    other = positive (λ i. cut f i ≡ false → (j : ℕ) → (j ≡ up f i → ⊥) → _ ≡ _) (λ i c j ne. rw add-one (other i c j ne));
    skipped = positive (λ i. cut f i ≡ true → (j : ℕ) → _ ≡ _) (λ i c j. rw add-one (skipped i c j));
    done = λ i j l. done i j (omega arith);
  }

  parts : (k : ℕ) → k < size f → μ.join (far_effect μ f k) (extra_part μ f k) ≡ near_effect μ f k
  parts k l = L.parts k (figures f k) f.switching (S.ranges k l)

  -- the extra parts of the faults near to m, at the switches `cut`
  Reach : (ℕ → Bool) → ℕ → V
  Reach cut m = join_over μ.nothing μ.join (size f) (λ k. cond (near (up f) cut k m) (extra_part μ f k) μ.nothing)

  total_reach : (m : ℕ) → total μ f m ≡ μ.join (far_total μ f) (Reach (cut f) m)
  unfolding total far_total Reach
  total_reach m = sweeps.reach_total L.joining (size f) (up f) F (extra_part μ f) (cut f) m (far_effect μ f) (near_effect μ f) parts

  root : total μ f 0 ≡ μ.join (far_total μ f) (held μ f 0)
  unfolding held Reach
  root = total_reach 0 ∙ ap (μ.join (far_total μ f)) (sweeps.reach_root L.joining (size f) (up f) F (extra_part μ f) (cut f))

  bare : (j : ℕ) → cut f (suc j) ≡ false → total μ f (suc j) ≡ total μ f (up f (suc j))
  unfolding Reach
  bare j c = total_reach (suc j) ∙ ap (μ.join (far_total μ f)) (sweeps.reach_bare L.joining (size f) (up f) F (extra_part μ f) (cut f) j c) ∙ sym (total_reach (up f (suc j)))

  with_switch : (j : ℕ) → cut f (suc j) ≡ true → total μ f (suc j) ≡ μ.join (total μ f (up f (suc j))) (held μ f (suc j))
  unfolding held Reach
  with_switch j c =
      total_reach (suc j) ∙ ap (μ.join (far_total μ f)) (sweeps.reach_cut L.joining (size f) (up f) F (extra_part μ f) (cut f) j c)
      ∙ sym (L.joining.assoc _ _ _) ∙ ap (λ x. μ.join x (held μ f (suc j))) (sym (total_reach (up f (suc j))))

  pub upward : Upward μ f
  upward = record {
    root = root;
    bare = positive (λ j. cut f j ≡ false → _ ≡ _) bare;
    switched = positive (λ j. cut f j ≡ true → _ ≡ _) with_switch;
  }

  -- the definitions, by what they take of a feeder
  TotalBy : ℕ → (ℕ → ℕ) → (ℕ → Bool) → (ℕ → Figures) → ℕ → V
  TotalBy n up cut figures m =
      join_over μ.nothing μ.join n (λ k. cond (near up cut k m) (μ.effect k (figures k) f.switching (figures k).repair) (μ.effect k (figures k) f.switching (min (figures k).repair f.switching)))

  HeadedBy : ℕ → (ℕ → ℕ) → (ℕ → Bool) → (ℕ → Figures) → ℕ → V
  HeadedBy n up cut figures j = join_over μ.nothing μ.join n (λ k. cond (eqb (head up cut k) j) (μ.extra k (figures k) f.switching) μ.nothing)

  module _ (i : ℕ) (within : suc i < size f) (c : cut f (suc i) ≡ false) where
    total_fitted : (m : ℕ) → total μ (fitted f (suc i)) m ≡ μ.join (far_total μ f) (Reach (mark (cut f) (suc i)) m)
    unfolding total far_total Reach TotalBy fitted
    total_fitted m =
        (λ t. TotalBy (size_fitted f (suc i) within t) (up_fitted f (suc i) within t) (cut_fitted f (suc i) within t) (figures_fitted f (suc i) within t) m)
        ∙ sweeps.reach_total L.joining (size f) (up f) F (extra_part μ f) (mark (cut f) (suc i)) m (far_effect μ f) (near_effect μ f) parts

    headed_held : headed μ (fitted f (suc i)) (suc i) ≡ held μ f (suc i)
    unfolding headed held HeadedBy fitted
    headed_held =
        (λ t. HeadedBy (size_fitted f (suc i) within t) (up_fitted f (suc i) within t) (cut_fitted f (suc i) within t) (figures_fitted f (suc i) within t) (suc i))
        ∙ sweeps.headed_held L.joining (size f) (up f) F (extra_part μ f) (cut f) i

    spares : (m : ℕ) → total μ f m ≡ μ.join (total μ (fitted f (suc i)) m) (spared μ f (suc i) m)
    unfolding spared Reach held
    spares m =
        total_reach m ∙ ap (μ.join (far_total μ f)) (sweeps.reach_mark L.joining (size f) (up f) F (extra_part μ f) (cut f) i m c)
        ∙ sym (L.joining.assoc _ _ _)
        ∙ (λ t. μ.join (sym (total_fitted m) t) (cond (below (up f) m (head (up f) (cut f) (suc i)) && not (below (up f) m (suc i))) (sym headed_held t) μ.nothing))

    pub spared_at : Spared μ f (suc i)
    spared_at = record {
      spares = spares;
      is_held = headed_held;
      is_flow = headed_held ∙ sym (cond-false (cut f (suc i)) μ.nothing (held μ f (suc i)) c);
    }

pub spared_all : {V : Type 0} → SparedLaw V
spared_all μ L f S zero pos = absurd (not-suc-le-zero pos)
spared_all μ L f S (suc i) pos = spared_at μ L f S i
