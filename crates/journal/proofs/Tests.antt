-- The tests of equality tell equality. Assumes nothing.
use Rattle.std.proofs.Common.{◌≡◌, Bool, true, false, ◌&&◌, eqb, refl, ap, ◌∙◌, eq-eqb, eqb-true}
use Rattle.lines.specs.declared.change.Change.{Change}
use Rattle.lines.specs.declared.change.Change.TheVariants.{Fit, Unfit, Set}
use Rattle.engine.specs.declared.journal.Call.{Call}
use Rattle.engine.specs.declared.journal.Call.TheVariants.{Direct, Console}
use Rattle.engine.specs.declared.journal.Put.{Put}
use Rattle.journal.specs.Compared.{call_eqb, change_eqb, put_eqb}

pub and_left : (a b : Bool) → (a && b) ≡ true → a ≡ true
and_left true b h = refl
and_left false b h = h

pub and_right : (a b : Bool) → (a && b) ≡ true → b ≡ true
and_right true b h = h
and_right false b h = cc

pub both_true : (a b : Bool) → a ≡ true → b ≡ true → (a && b) ≡ true
both_true true b p q = q
both_true false b p q = p

call_eq : (c d : Call) → call_eqb c d ≡ true → c ≡ d
call_eq Direct Direct h = refl
call_eq Direct (Console n) h = cc
call_eq (Console m) Direct h = cc
call_eq (Console m) (Console n) h = ap Console (eqb-true m n h)

change_eq : (x y : Change) → change_eqb x y ≡ true → x ≡ y
change_eq (Fit j) (Fit k) h = ap Fit (eqb-true j k h)
change_eq (Fit j) (Unfit k) h = cc
change_eq (Fit j) (Set k a b c d) h = cc
change_eq (Unfit j) (Fit k) h = cc
change_eq (Unfit j) (Unfit k) h = ap Unfit (eqb-true j k h)
change_eq (Unfit j) (Set k a b c d) h = cc
change_eq (Set j r q u l) (Fit k) h = cc
change_eq (Set j r q u l) (Unfit k) h = cc
change_eq (Set j r q u l) (Set k a b c d) h =
    let h₁ = and_right (eqb j k) _ h in
    let h₂ = and_right (eqb r a) _ h₁ in
    let h₃ = and_right (eqb q b) _ h₂ in
    let e₀ : j ≡ k = eqb-true j k (and_left _ _ h) in
    let e₁ : r ≡ a = eqb-true r a (and_left _ _ h₁) in
    let e₂ : q ≡ b = eqb-true q b (and_left _ _ h₂) in
    let e₃ : u ≡ c = eqb-true u c (and_left _ _ h₃) in
    let e₄ : l ≡ d = eqb-true l d (and_right (eqb u c) _ h₃) in
    cc

abbrev put : Call → Change → Put
put c x = record { call = c; change = x }

pub put_eq : (p q : Put) → put_eqb p q ≡ true → p ≡ q
put_eq p q h =
    let u : p.call ≡ q.call = call_eq _ _ (and_left _ _ h) in
    let v : p.change ≡ q.change = change_eq _ _ (and_right (call_eqb p.call q.call) _ h) in
    ap (λ c. put c p.change) u ∙ ap (put q.call) v

call_refl : (c : Call) → call_eqb c c ≡ true
call_refl Direct = refl
call_refl (Console n) = eq-eqb n n refl

change_refl : (x : Change) → change_eqb x x ≡ true
change_refl (Fit k) = eq-eqb k k refl
change_refl (Unfit k) = eq-eqb k k refl
change_refl (Set k a b c d) =
    both_true _ _ (eq-eqb k k refl) (both_true _ _ (eq-eqb a a refl) (both_true _ _ (eq-eqb b b refl) (both_true _ _ (eq-eqb c c refl) (eq-eqb d d refl))))

pub put_refl : (p : Put) → put_eqb p p ≡ true
put_refl p = both_true _ _ (call_refl p.call) (change_refl p.change)
