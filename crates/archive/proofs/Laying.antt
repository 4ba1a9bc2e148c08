-- Records one after another, and the hours of a record that is laid out.
use Rattle.std.proofs.Common.{◌≡◌, ℕ, ◌+◌, Bool, true, false, List, [], ◌∷◌, ◌++◌, length, pos, sym, refl, subst, arith, lit≤}
use lib.Ieee.{binary64, of_bits, Float, fin}
use lib.Ieee.Exact.{HasValue}
use Rattle.hours.specs.Quarters.{Quarters}
use Rattle.archive.specs.Layout.{stands}
use Rattle.archive.specs.Sections.{SectionOf}
use Rattle.archive.specs.Reading.{FieldRead}
use Rattle.archive.specs.Records.{Laid}
use Rattle.archive.specs.Archives.{Records}
use Rattle.archive.specs.declared.record.Record.{Record}
use Rattle.feeder.specs.declared.section.Section.{Section}

two_is : of_bits binary64 0x4000_0000_0000_0000 ≡ fin false 1 (pos 1)
unfolding of_bits
two_is = refl

two_hours : Quarters (of_bits binary64 0x4000_0000_0000_0000) 8
two_hours = (lit≤ tt, lit≤ tt, subst (λ (y : Float). HasValue y false 8 4) (sym two_is) (refl, refl))

good_hours : (s : List ℕ) (here : Bool) (p x h q : ℕ) → FieldRead s here p 8 x ((c : ℕ) × Quarters (of_bits binary64 x) c) 0x4000_0000_0000_0000 h q → (c : ℕ) × Quarters (of_bits binary64 h) c
good_hours s true p x h q r = (r.1.0, subst (λ (y : ℕ). Quarters (of_bits binary64 y) r.1.0) (sym r.2) r.1.1)
good_hours s false p x h q r = (8, subst (λ (y : ℕ). Quarters (of_bits binary64 y) 8) (sym r.0) two_hours)

-- The hours of a record that is laid out are a count of quarters.
pub laid_hours : (s : List ℕ) (p n : ℕ) (r : Record) (q : ℕ) → Laid s p n r q → (c : ℕ) × Quarters r.hours c
laid_hours s p n r q (m, v, h, o, mr, (o1, r1, (o2, r2, (o3, r3, rs))), nr, e1, e2, e3, e4) =
    let g = good_hours s (stands m 4) o2 _ h o3 r3 in
    (g.0, subst (λ (y : Float). Quarters y g.0) (sym e3) g.1)

-- One more record at the end.
pub records_push : (s : List ℕ) (k p : ℕ) (xs : List Section) (o j : ℕ) (r : Record) (q : ℕ) (x : Section)
    → j ≡ k + length xs → Records s k p xs o → Laid s o j r q → SectionOf r x → Records s k p (xs ++ x ∷ []) q
records_push s k p [] o j r q x e a l t =
    let f : j ≡ k = omega arith in
    (r, q, subst (λ (y : ℕ). Laid s y k r q) a (subst (λ (y : ℕ). Laid s o y r q) f l), t, refl)
records_push s k p (y ∷ ys) o j r q x e (d, n, b, c, a) l t =
    let f : j ≡ (k + 1) + length ys = omega arith in
    (d, n, b, c, records_push s (k + 1) n ys o j r q x f a l t)
