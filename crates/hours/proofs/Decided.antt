-- Whether hours are a whole count of quarters is decided, and the count is one.
use Rattle.std.proofs.Common.{◌≡◌, ℕ, ◌^◌, ◌<◌, ◌≤◌, Bool, true, false, T, ◌⊎◌, pos, sym, ◌∙◌, subst, inl, inr, arith}
use lib.Ieee.{Float, binary64, mul, le, eq, fits, of_int, to_unsigned}
use lib.Ieee.Casts.{to_unsigned-lt}
use Rattle.hours.specs.Quarters.{Quarters}
use Rattle.hours.proofs.Exactly.{one, four, top, accepted, passing}

either : (b : Bool) → T b ⊎ (T b → ⊥)
either true = inl tt
either false = inr (λ t. t)

pub quarters_or : (x : Float) → T (fits binary64 x) → ((q : ℕ) × Quarters x q) ⊎ ((q : ℕ) × Quarters x q → ⊥)
quarters_or x f =
    let z : Float = mul binary64 x four in
    let n : ℕ = to_unsigned 16 z in
    let small : n ≤ 2 ^ 53 = let l : n < 2 ^ 16 = to_unsigned-lt 16 z in omega arith in
    elim (either (le one z)) [
      | inr nay ↦ inr (λ h. nay (passing x h.0 h.1).0)
      | inl lo ↦ elim (either (le z top)) [
        | inr nay ↦ inr (λ h. nay (passing x h.0 h.1).1)
        | inl hi ↦ elim (either (eq (of_int binary64 (pos n)) z)) [
          | inl w ↦ inl (n, accepted x n f small lo hi w)
          | inr nay ↦ inr (λ h. let p = passing x h.0 h.1 in nay (subst (λ (m : ℕ). T (eq (of_int binary64 (pos m)) z)) (sym p.2) p.3))
        ]
      ]
    ]

pub quarters_one : (x : Float) (q q' : ℕ) → Quarters x q → Quarters x q' → q ≡ q'
quarters_one x q q' h h' = sym (passing x q h).2 ∙ (passing x q' h').2
