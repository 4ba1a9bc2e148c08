-- The theorem on weighted sums. Assumes nothing.
use Rattle.std.proofs.Common.{◌≡◌, ℕ, ◌+◌, ◌*◌, ◌^◌, ◌<◌, ◌≤◌, Bool, true, false, cond, not, ◌&&◌, sym, refl, ap, ◌∙◌, mul_comm, mul-le-mul, mul-zero, mul-add, arith}
use Rattle.std.proofs.lemmas.Bool.{cond_both}
use Rattle.feeder.proofs.Joins.{over_same, over_join}
use Rattle.feeder.proofs.Numbers.{plus, over_capped, sum_le, sum_times, sum_minus}
use Rattle.feeder.proofs.Trees.{below_trans, below_head}
use Rattle.feeder.proofs.Feeders.{up_falls, size_fitted, figures_fitted}
use Rattle.feeder.proofs.Totals.{spared_all}
use Rattle.feeder.specs.Tree.{below, head, drains, near}
use Rattle.feeder.specs.Feeder.{Feeder, Sound, up, cut, size, figures, fitted}
use Rattle.feeder.specs.Measure.{Meaning, Lawful}
use Rattle.feeder.specs.Totals.{over, extra_part, far_effect, near_effect, total}
use Rattle.feeder.specs.Flows.{held, flow}
use Rattle.feeder.specs.Trials.{spared}
use Rattle.feeder.specs.Weighed.{Weighs, Weight, Light, sum_over, weighted_sum, weight_below, shielded}
use Rattle.feeder.specs.Laws.{WeighedLaw, Weighed, Spared}

-- a function of one of two
pub cond_ap : {A B : Type 0} (h : A → B) (b : Bool) (x y : A) → h (cond b x y) ≡ cond b (h x) (h y)
cond_ap h true x y = refl
cond_ap h false x y = refl

module _ (w : Weight) (f : Feeder) (S : Sound f) where
  -- below j, and below j's head without what is below j
  split_below : (j : ℕ) → weight_below w f (head (up f) (cut f) j)
      ≡ weight_below w f j + sum_over (size f) (λ m. cond (below (up f) m (head (up f) (cut f) j) && not (below (up f) m j)) (w (figures f m)) 0)
  unfolding weight_below
  split_below j = sum_minus (size f) (λ m. below (up f) m (head (up f) (cut f) j)) (λ m. below (up f) m j) (λ m. w (figures f m))
      (λ m t. below_trans (up f) (up_falls f S) j (head (up f) (cut f) j) m (below_head (up f) (up_falls f S) (cut f) j) t)

  pub shields : (j : ℕ) → weight_below w f j ≤ weight_below w f (head (up f) (cut f) j)
  shields j = let a = split_below j in omega arith

module _ {V : Type 0} (μ : Meaning V) (L : Lawful μ) (number : V → ℕ) (W : Weighs μ number) (w : Weight) (light : Light w) (f : Feeder) (S : Sound f) where
  -- a sum of at most 1,024 effects is far below the cap
  under : (g : ℕ → ℕ) → ((k : ℕ) → k < size f → g k ≤ 1008000000) → sum_over (size f) g ≤ 1032192000000
  under g h = let a = sum_le 1008000000 (size f) g h in let b = S.few in omega arith

  -- one of two values for each fault, both small
  plain : (t : ℕ → Bool) (x y : ℕ → V) → ((k : ℕ) → k < size f → number (x k) ≤ 1008000000) → ((k : ℕ) → k < size f → number (y k) ≤ 1008000000) →
      (number (over μ f (λ k. cond (t k) (x k) (y k))) ≡ sum_over (size f) (λ k. cond (t k) (number (x k)) (number (y k))))
      × (sum_over (size f) (λ k. cond (t k) (number (x k)) (number (y k))) ≤ 1032192000000)
  plain t x y p q =
      let a : sum_over (size f) (λ k. cond (t k) (number (x k)) (number (y k))) ≤ 1032192000000
      = under _ (λ k l. cond_both (t k) (number (x k)) (number (y k)) (λ z. z ≤ 1008000000) (λ _. p k l) (λ _. q k l)) in
      let b = over_capped μ number W (size f) (λ k. cond (t k) (x k) (y k)) in
      let c : sum_over (size f) (λ k. number (cond (t k) (x k) (y k))) ≡ sum_over (size f) (λ k. cond (t k) (number (x k)) (number (y k)))
      = over_same 0 ◌+◌ (size f) _ _ (λ k l. cond_ap number (t k) (x k) (y k)) in
      (omega arith, a)

  extra_small : (k : ℕ) → k < size f → number (extra_part μ f k) ≤ 1008000000
  extra_small k l =
      let p = ap number (L.parts k (figures f k) f.switching (S.ranges k l)) in
      let c = W.join (far_effect μ f k) (extra_part μ f k) in
      let s = W.near k (figures f k) f.switching (S.ranges k l) in
      omega arith

  at_total : (m : ℕ) → (number (total μ f m) ≡ sum_over (size f) (λ k. cond (near (up f) (cut f) k m) (number (near_effect μ f k)) (number (far_effect μ f k))))
      × (sum_over (size f) (λ k. cond (near (up f) (cut f) k m) (number (near_effect μ f k)) (number (far_effect μ f k))) ≤ 1032192000000)
  unfolding total
  at_total m = plain (λ k. near (up f) (cut f) k m) (near_effect μ f) (far_effect μ f)
      (λ k l. W.near k (figures f k) f.switching (S.ranges k l)) (λ k l. W.far k (figures f k) f.switching (S.ranges k l))

  pub total_small : (m : ℕ) → number (total μ f m) ≤ 1032192000000
  total_small m = let a = at_total m in omega (arith, a.0, a.1)

  held_small : (j : ℕ) → number (held μ f j) ≤ 1032192000000
  unfolding held
  held_small j =
      let a = plain (λ k. drains (up f) (cut f) k j) (extra_part μ f) (λ k. μ.nothing) extra_small (λ k l. omega (arith, W.nothing)) in
      omega (arith, a.0, a.1)

  pub flow_small : (j : ℕ) → number (flow μ f j) ≤ 1032192000000
  flow_small j = cond_both (cut f j) μ.nothing (held μ f j) (λ v. number v ≤ 1032192000000) (λ _. omega (arith, W.nothing)) (λ _. held_small j)

  uncapped_held : (j : ℕ) → number (held μ f j) ≡ sum_over (size f) (λ k. cond (drains (up f) (cut f) k j) (number (extra_part μ f k)) 0)
  unfolding held
  uncapped_held j =
      (plain (λ k. drains (up f) (cut f) k j) (extra_part μ f) (λ k. μ.nothing) extra_small (λ k l. omega (arith, W.nothing))).0
      ∙ ap (λ z. sum_over (size f) (λ k. cond (drains (up f) (cut f) k j) (number (extra_part μ f k)) z)) W.nothing

  sum_small : weighted_sum μ number w f ≤ 2 ^ 63
  unfolding weighted_sum
  sum_small =
      let a = sum_le (4000 * 1032192000000) (size f) (λ m. w (figures f m) * number (total μ f m)) (λ m l. mul-le-mul (light m (figures f m) f.switching (S.ranges m l)) (total_small m)) in
      let b = S.few in
      omega arith

  module _ (j : ℕ) (pos : 0 < j) (within : j < size f) (c : cut f j ≡ false) where
    P : Spared μ f j
    P = spared_all μ L f S j pos within c

    eased : ℕ → Bool
    eased m = below (up f) m (head (up f) (cut f) j) && not (below (up f) m j)

    times_cond : (b : Bool) (x y : ℕ) → x * cond b y 0 ≡ y * cond b x 0
    times_cond true x y = mul_comm x y
    times_cond false x y = mul-zero x ∙ sym (mul-zero y)

    -- each total, without a cap
    at : (m : ℕ) → number (total μ f m) ≡ number (total μ (fitted f j) m) + cond (eased m) (number (flow μ f j)) 0
    unfolding spared eased
    at m =
        let a = ap number (P.spares m) in
        let b = W.join (total μ (fitted f j) m) (spared μ f j m) in
        let t = total_small m in
        let e : number (total μ f m) ≡ number (total μ (fitted f j) m) + number (spared μ f j m) = omega arith in
        e ∙ ap (λ x. number (total μ (fitted f j) m) + x) (cond_ap number (eased m) _ _ ∙ (λ t. cond (eased m) (number (P.is_flow t)) (W.nothing t)))

    weighted_fitted : sum_over (size f) (λ m. w (figures f m) * number (total μ (fitted f j) m)) ≡ weighted_sum μ number w (fitted f j)
    unfolding weighted_sum
    weighted_fitted = λ t. sum_over (sym (size_fitted f j within) t) (λ m. w (sym (figures_fitted f j within) t m) * number (total μ (fitted f j) m))

    trial : weighted_sum μ number w f ≡ weighted_sum μ number w (fitted f j) + number (flow μ f j) * shielded w f j
    unfolding weighted_sum shielded eased
    trial =
        let q : ℕ = number (flow μ f j) in
        over_same 0 ◌+◌ (size f) _ (λ m. w (figures f m) * number (total μ (fitted f j) m) + q * cond (eased m) (w (figures f m)) 0)
        (λ m l. ap (λ x. w (figures f m) * x) (at m) ∙ mul-add (w (figures f m)) _ _ ∙ ap (λ x. w (figures f m) * number (total μ (fitted f j) m) + x) (times_cond (eased m) (w (figures f m)) q))
        ∙ over_join plus (size f) _ _
        ∙ ap (λ x. x + sum_over (size f) (λ m. q * cond (eased m) (w (figures f m)) 0)) weighted_fitted
        ∙ ap (λ x. weighted_sum μ number w (fitted f j) + x) (sum_times q (size f) (λ m. cond (eased m) (w (figures f m)) 0)
        ∙ ap (λ x. q * x) (let a = split_below w f S j in omega arith))

  pub weighed_at : Weighed μ number w f
  weighed_at = record { uncapped = λ m. (at_total m).0; uncapped_held = uncapped_held; sum_small = sum_small; shields = shields w f S; trial = trial }

pub weighed : {V : Type 0} → WeighedLaw V
weighed μ L number W w light f S = weighed_at μ L number W w light f S
