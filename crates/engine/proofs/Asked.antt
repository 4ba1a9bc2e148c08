-- The laws over two logs, from answers that the feeder decides. Assumes nothing.
use Rattle.std.proofs.Common.{◌≡◌, ℕ, ◌+◌, ◌*◌, ◌<◌, ◌≤◌, Bool, true, false, leb, List, length, Some, None, Ok, Err, Option, sym, refl, ap, ◌∙◌, subst, arith, le-ltb}
use borrow.Author.Tests.{lt-leb}
use Rattle.feeder.specs.Feeder.{Feeder, Sound, size, fitted}
use Rattle.feeder.specs.Measure.{Meaning, Lawful}
use Rattle.feeder.specs.Totals.{total}
use Rattle.feeder.specs.Flows.{flow}
use Rattle.feeder.specs.Trials.{spared}
use Rattle.feeder.specs.Weighed.{Weighs, Weight, Light, weighted_sum, shielded}
use Rattle.feeder.proofs.Totals.{spared_all}
use Rattle.feeder.proofs.Feeders.{size_fitted}
use Rattle.feeder.proofs.Weights.{weighed_at}
use Rattle.sweeps.specs.Lists.{written}
use Rattle.lines.specs.declared.refusal.Refusal.{Refusal}
use Rattle.lines.specs.declared.refusal.Refusal.TheVariants.{NoSection, Short}
use Rattle.engine.specs.Changes.{first}
use Rattle.engine.specs.Laws.{Alike, AlikeBy, Switched, joined, SwitchSpares, SwitchWorth}
use Rattle.engine.specs.Questions.{or_refused, missing, writes, if_room, unless_refused, untried}
use Rattle.engine.proofs.Apart.{order_apart}
use Rattle.engine.proofs.Switches.{untried_bare}

-- an answer that the feeder decides
pub alike : {R : Type 0} (Answers : Feeder → R → Type 0) → ((h : Feeder) (r r' : R) → Answers h r → Answers h r' → r' ≡ r) → (f : Feeder) (r : R) → Answers f r → Alike Answers f r
alike Answers one f r e archive es fs g l m same =
    let both = order_apart archive es fs f g l m same in
    (both, λ r' h. one f r r' e (subst (λ (x : Feeder). Answers x r') (sym both.0) h))

pub alike_by : {R : Type 0} (reply : Feeder → R) (f : Feeder) (r : R) → r ≡ reply f → AlikeBy reply f r
alike_by reply f r e = alike (λ g r'. r' ≡ reply g) (λ h r r' p q. q ∙ sym p) f r e

-- a section that stands is not missing
pub not_missing : (f : Feeder) (k : ℕ) (later : Option Refusal) → k < size f → missing f k later ≡ later
not_missing f k later l = ap (λ (b : Bool). first b NoSection later) (lt-leb _ _ l)

pub answered : {A : Type 0} (o : Option Refusal) (x : A) → o ≡ None → or_refused o x ≡ Ok x
answered o x e = ap (λ (p : Option Refusal). or_refused p x) e

pub turned_down : {A : Type 0} (o : Option Refusal) (e : Refusal) (x : A) → o ≡ Some e → or_refused o x ≡ Err e
turned_down o e x q = ap (λ (p : Option Refusal). or_refused p x) q

-- with room for all
pub room_for : {V : Type 0} (n : ℕ) (value : ℕ → V) (before : List V) → n ≤ length before → if_room n value before ≡ (Ok tt, written value n before)
room_for n value before l = ap (λ (b : Bool). writes (first b Short None) (written value n before) before) (le-ltb _ _ l)

same_size : (f : Feeder) (j : ℕ) (g : Feeder) → Switched f j g → size g ≡ size f
same_size f j g q = ap size q.same ∙ size_fitted f j q.stands

tried : (f : Feeder) (j : ℕ) (g : Feeder) → Switched f j g → untried f j ≡ None
tried f j g q = untried_bare f j (record { not_root = q.not_root; stands = q.stands; bare = q.bare })

joined_first : {V : Type 0} (μ : Meaning V) (b : Bool) (v w x : V) → v ≡ μ.join w x → or_refused (first b NoSection None) v ≡ joined μ (or_refused (first b NoSection None) w) x
joined_first μ true v w x e = refl
joined_first μ false v w x e = ap Ok e

module _ {V : Type 0} (μ : Meaning V) (L : Lawful μ) (f : Feeder) (S : 0 < size f → Sound f) where
  sound : (j : ℕ) (g : Feeder) → Switched f j g → Sound f
  sound j g q = let h = q.stands in S (omega (arith, h))

  pub switch_spares : SwitchSpares μ f
  switch_spares archive es fs j g l k q = record {
    totals = λ m.
        let e : total μ f m ≡ μ.join (total μ g m) (spared μ f j m) =
        (spared_all μ L f (sound j g q) j q.not_root q.stands q.bare).spares m ∙ ap (λ (h : Feeder). μ.join (total μ h m) (spared μ f j m)) (sym q.same) in
        joined_first μ (leb (size f) m) _ _ _ e
        ∙ ap (λ (i : ℕ). joined μ (or_refused (first (leb i m) NoSection None) (total μ g m)) (spared μ f j m)) (sym (same_size f j g q));
    trial = λ before room.
        ap (λ (o : Option Refusal). unless_refused o (if_room (size f) (total μ (fitted f j)) before) before) (tried f j g q)
        ∙ room_for (size f) (total μ (fitted f j)) before room
        ∙ ap (λ (h : Feeder). (Ok tt, written (total μ h) (size f) before)) (sym q.same)
        ∙ ap (λ (n : ℕ). (Ok tt, written (total μ g) n before)) (sym (same_size f j g q));
  }

  module _ (number : V → ℕ) (W : Weighs μ number) (w : Weight) (light : Light w) where
    pub switch_worth : SwitchWorth μ number w f
    switch_worth archive es fs j g l k q =
        let some = q.stands in
        let there : 0 < size f = omega (arith, some) in
        let x : ℕ = number (flow μ f j) * shielded w f j in
        record {
          before = weighted_sum μ number w f;
          after = weighted_sum μ number w g;
          sum_before = answered _ _ (not_missing f 0 None there);
          sum_after = answered _ _ (not_missing g 0 None (subst (λ (n : ℕ). 0 < n) (sym (same_size f j g q)) there));
          less = (weighed_at μ L number W w light f (sound j g q)).trial j q.not_root q.stands q.bare ∙ ap (λ (h : Feeder). weighted_sum μ number w h + x) (sym q.same);
          trial = answered _ _ (tried f j g q);
        }
