use Rattle.std.proofs.Common.{◌≡◌, ℕ, ◌^◌, ◌≤◌, Bool, true, false, T, pos, sym, ap, ◌∙◌, subst, mul_comm, arith}
use lib.Ieee.{binary64, Float, eq, of_int, mul}
use Rattle.hours.proofs.Exactly.{four, accepted, passing}
use Rattle.hours.specs.Quarters.{Quarters}
use Rattle.hours.proofs.minutes.Goals as goal
use Rattle.hours.proofs.minutes.Goals.{else-quarters-via-then-quarters+else-quarters-2, else-quarters-via-else-quarters}

holds : (b : Bool) → b ≡ true → T b
holds b e = subst T (sym e) tt

fails : (b : Bool) → b ≡ false → T b → ⊥
fails b e t = subst T e t

found : (c : goal.Then-from-quarters) → Quarters c.args.hours c.saturating_f64_to_u16-count.result
found c =
    let small : c.saturating_f64_to_u16-count.result ≤ 2 ^ 53 = omega arith in
    accepted c.args.hours c.saturating_f64_to_u16-count.result (holds _ c.well_formed.0.1) small (holds _ c.if-quarters.true) (holds _ c.if-quarters-2.true) (subst (λ (f : Float). T (eq f (mul binary64 c.args.hours four))) c.from.ensures (holds _ c.if-from-quarters.true))

pub overflow_mul-result : goal.overflow_mul-result
overflow_mul-result c = let h = found c in omega (arith, h.1)

pub returns-then-from-quarters : goal.returns-then-from-quarters
returns-then-from-quarters c = (c.saturating_f64_to_u16-count.result, found c, mul_comm c.saturating_f64_to_u16-count.result 15)

pub returns-else-from-quarters : goal.returns-else-from-quarters
returns-else-from-quarters c q h =
    let p = passing c.args.hours q h in
    let e : c.saturating_f64_to_u16-count.result ≡ q = c.saturating_f64_to_u16-count.ensures ∙ p.2 in
    let same = c.from.ensures ∙ ap (λ (n : ℕ). of_int binary64 (pos n)) e in
    fails _ c.if-from-quarters.false (subst (λ (f : Float). T (eq f (mul binary64 c.args.hours four))) (sym same) p.3)

pub returns-else-quarters : goal.returns-else-quarters
returns-else-quarters c q h =
    let p = passing c.args.hours q h in
    elim c.else-quarters.branch [ else-quarters-via-then-quarters+else-quarters-2 w ↦ fails _ w.if-quarters-2.false p.1 | else-quarters-via-else-quarters w ↦ fails _ w.if-quarters.false p.0 ]
