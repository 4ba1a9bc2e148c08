-- The sections of an archive pass the tests of a sound feeder.
use Rattle.std.proofs.Common.{◌≡◌, ℕ, zero, suc, ◌+◌, ◌-◌, ◌*◌, ◌/◌, ◌%◌, ◌^◌, ◌<◌, ◌≤◌, Bool, true, false, not, ◌&&◌, ◌||◌, eqb, ltb, leb, List, [], ◌∷◌, length, get_or, sym, ap, ◌∙◌, subst, ap₂, arith, lit≤}
use lib.Bits.{bit_and, and_shr, and_mod, and_mask, and_zero_r}
use Rattle.std.proofs.lemmas.Bool.{lt-ltb, le-leb, and_from}
use Rattle.std.proofs.lemmas.Bool.Decides.{nat_tests}
use Rattle.feeder.specs.declared.section.Section.{Section}
use Rattle.feeder.specs.Feeder.{Feeder, Sound, blank}
use Rattle.feeder.proofs.Checks.{all_sound}
use Rattle.feeder.specs.Checked.{placed, fine, AllFine}
use Rattle.archive.specs.declared.record.Record.{Record}
use Rattle.archive.specs.Layout.{stands, parent_of, forbidden, marked, named}
use Rattle.archive.specs.Sections.{SectionOf}
use Rattle.archive.specs.Grammar.{Keeps}
use Rattle.archive.specs.Reading.{FieldRead}
use Rattle.archive.specs.Records.{Laid, NameRead}
use Rattle.archive.specs.Archives.{Records}
use Rattle.archive.proofs.ArchiveSame.{placed as by-places}

-- Section 0 has no switch: bit 5 is among the bits that must not stand there.
bare : (m : ℕ) → bit_and m 161 ≡ 0 → marked m ≡ false
bare m e =
    let a : bit_and (m / 2 ^ 5) 5 ≡ 0 = sym (and_shr m 161 5) ∙ ap (λ (y : ℕ). y / 2 ^ 5) e in
    let b : bit_and (m / 2 ^ 5 % 2 ^ 1) 1 ≡ 0 = sym (and_mod (m / 2 ^ 5) 5 1) ∙ ap (λ (y : ℕ). y % 2 ^ 1) a in
    let c : bit_and (m / 2 ^ 5 % 2 ^ 1) 1 ≡ m / 2 ^ 5 % 2 ^ 1 % 2 ^ 1 = and_mask (m / 2 ^ 5 % 2 ^ 1) 1 in
    let d : bit_and (m / 2 ^ 5) 1 ≡ m / 2 ^ 5 % 2 ^ 1 = and_mask (m / 2 ^ 5) 1 in
    let q : bit_and m 32 / 2 ^ 5 ≡ bit_and (m / 2 ^ 5) 1 = and_shr m 32 5 in
    let r : bit_and m 32 % 2 ^ 5 ≡ 0 = and_mod m 32 5 ∙ and_zero_r (m % 2 ^ 5) in
    let z : bit_and m 32 ≡ 0 = omega arith in
    ap (λ (y : ℕ). not (eqb y 0)) z

-- a number that is read is in its range, where the number for absence is
read_in : (P : ℕ → Type 0) (s : List ℕ) (here : Bool) (p w x a v q : ℕ) → P a → FieldRead s here p w x (P x) a v q → P v
read_in P s true p w x a v q h r = subst P (sym r.2) r.1
read_in P s false p w x a v q h r = subst P (sym r.0) h

placed_of : (s : List ℕ) (n m : ℕ) (here : Bool) (p x v q : ℕ) → bit_and m (forbidden n) ≡ 0 → FieldRead s here p 2 x (x < n) (n - 1) v q → placed n (parent_of n v) (marked m) ≡ true
placed_of s zero m here p x v q f r = ap not (bare m f)
placed_of s (suc n) m here p x v q f r =
    let h : suc n - 1 < suc n = omega arith in
    lt-ltb v (suc n) (read_in (λ y. y < suc n) s here p 2 x (suc n - 1) v q h r)

name_of : (s : List ℕ) (here : Bool) (p a l q : ℕ) → NameRead s here p a l q → (leb l 32 && (ltb 0 l || eqb a 0)) ≡ true
name_of s true p a l q r = let lo = r.1 in let hi = r.2 in grind (arith, nat_tests)
name_of s false p a l q r = let lo = r.0 in let hi = r.1 in grind (arith, nat_tests)

repair_of : (q : ℕ) → 1 ≤ q → q ≤ 672 → (leb 15 (15 * q) && (leb (15 * q) 10080 && eqb (15 * q % 15) 0)) ≡ true
repair_of q lo hi =
    let e : 15 * q % 15 ≡ 0 = omega arith in
    grind (arith, nat_tests)

laid_fine : (s : List ℕ) (p n : ℕ) (r : Record) (q : ℕ) (x : Section) → Laid s p n r q → SectionOf r x → fine n x ≡ true
laid_fine s p n r q x (m, v, h, o, mr, (o1, r1, (o2, r2, (o3, r3, (o4, r4, (o5, r5, rs))))), nr, e1, e2, e3, e4) (c, g, e) =
    subst (λ (y : Section). fine n y ≡ true) (sym e)
    (and_from _ _ (ap₂ (placed n) e2 e4 ∙ placed_of s n m (stands m 1) (p + 1) _ v o1 mr.2 r1)
    (and_from _ _ (le-leb _ _ (read_in (λ y. y ≤ 100000) s (stands m 2) o1 4 _ 0 r.rate o2 (lit≤ tt) r2))
    (and_from _ _ (repair_of c g.0 g.1)
    (and_from _ _ (le-leb _ _ (read_in (λ y. y ≤ 4000) s (stands m 8) o3 2 _ 0 r.customers o4 (lit≤ tt) r4))
    (and_from _ _ (le-leb _ _ (read_in (λ y. y ≤ 4000) s (stands m 16) o4 2 _ 0 r.load o5 (lit≤ tt) r5))
    (name_of s (named m) o r.name.at r.name.len q nr))))))

records_fine : (s : List ℕ) (k p : ℕ) (xs : List Section) (q : ℕ) → Records s k p xs q → (i : ℕ) → i < length xs → fine (k + i) (get_or xs i blank) ≡ true
records_fine s k p [] q a i h = absurd (omega (arith, h))
records_fine s k p (x ∷ xs) q (r, o, l, t, a) zero h = let e : k ≡ k + 0 = omega arith in subst (λ (y : ℕ). fine y x ≡ true) e (laid_fine s p k r o x l t)
records_fine s k p (x ∷ xs) q (r, o, l, t, a) (suc i) h =
    let g : i < length xs = omega (arith, h) in
    let e : k + 1 + i ≡ k + suc i = omega arith in
    subst (λ (y : ℕ). fine y (get_or xs i blank) ≡ true) e (records_fine s (k + 1) o xs q a i g)

pub keeps_fine : {s : List ℕ} {room : ℕ} {f : Feeder} → Keeps s room f → AllFine f.sections
keeps_fine {s} {room} {f} h i l =
    let z : 0 + i ≡ i = omega arith in
    subst (λ (y : ℕ). fine y (get_or f.sections i blank) ≡ true) z (records_fine s 0 4 f.sections (length s) (by-places s room f h).records i l)

pub keeps_sound : {s : List ℕ} {room : ℕ} {f : Feeder} → Keeps s room f → Sound f
keeps_sound {s} {room} {f} h = all_sound f.sections f.switching h.count_range.0 h.count_range.1 h.time_range.0 h.time_range.1 (keeps_fine h)
