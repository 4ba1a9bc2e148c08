-- Bytes that stand in a list at a place.
use Rattle.std.proofs.Common.{◌≡◌, ℕ, zero, suc, ◌+◌, ◌-◌, ◌*◌, ◌<◌, ◌≤◌, List, [], ◌∷◌, ◌++◌, length, get_or, take, drop, sym, refl, ap, ◌∙◌, ⊎_elim, add-zero, arith, length-append, length-drop}
use Rattle.std.proofs.lemmas.List.{get_or_append_left, get_or-append_right, get_or-append-add, get_or-take, get_or-drop, length-take-le, ext_get_or}
use Rattle.std.proofs.lemmas.Bool.{cases_lt}
use Rattle.archive.specs.Layout.{Field, parent, rate, hours, customers, load, width}
use Rattle.archive.specs.Grammar.{big, big_after}
use Rattle.archive.specs.Reading.{number, be2}

abbrev pub Sits : List ℕ → ℕ → List ℕ → Type 0
Sits s p a = (p + length a ≤ length s) × ((i : ℕ) → i < length a → get_or s (p + i) 0 ≡ get_or a i 0)

pub sits_nil : (s : List ℕ) (p : ℕ) → p ≤ length s → Sits s p []
sits_nil s p h = (omega arith, λ i l. absurd (omega (arith, l)))

pub sits_append : (s : List ℕ) (p : ℕ) (a b : List ℕ) → Sits s p a → Sits s (p + length a) b → Sits s p (a ++ b)
sits_append s p a b x y = (
  (let l : length (a ++ b) ≡ length a + length b = length-append a b in omega (arith, y.0)),
  (λ i h. ⊎_elim
      (λ (c : i < length a). x.1 i c ∙ sym (get_or_append_left a b 0 i c))
      (λ (c : length a ≤ i).
      let l : length (a ++ b) ≡ length a + length b = length-append a b in
      let d : i - length a < length b = omega arith in
      let e : p + i ≡ p + length a + (i - length a) = omega arith in
      ap (λ (k : ℕ). get_or s k 0) e ∙ y.1 (i - length a) d ∙ sym (get_or-append_right a b (length a) i 0 refl c))
      (cases_lt i (length a))),
)

pub sits_left : (s : List ℕ) (p : ℕ) (a b : List ℕ) → Sits s p (a ++ b) → Sits s p a
sits_left s p a b x =
    let l : length (a ++ b) ≡ length a + length b = length-append a b in (
      omega (arith, x.0),
      (λ i h. let g : i < length (a ++ b) = omega arith in x.1 i g ∙ get_or_append_left a b 0 i h),
    )

pub sits_right : (s : List ℕ) (p : ℕ) (a b : List ℕ) → Sits s p (a ++ b) → Sits s (p + length a) b
sits_right s p a b x =
    let l : length (a ++ b) ≡ length a + length b = length-append a b in (
      omega (arith, x.0),
      (λ i h.
          let g : length a + i < length (a ++ b) = omega arith in
          let e : p + length a + i ≡ p + (length a + i) = omega arith in
          ap (λ (k : ℕ). get_or s k 0) e ∙ x.1 (length a + i) g ∙ get_or-append-add a b i 0),
    )

-- the w bytes from place p on
abbrev pub part : List ℕ → ℕ → ℕ → List ℕ
part s p w = take w (drop p s)

pub length_part : (s : List ℕ) (p w : ℕ) → p + w ≤ length s → length (part s p w) ≡ w
length_part s p w h = let l : length (drop p s) ≡ length s - p = length-drop p s in length-take-le w (drop p s) (omega arith)

pub sits_part : (s : List ℕ) (p w : ℕ) → p + w ≤ length s → Sits s p (part s p w)
sits_part s p w h =
    let l : length (part s p w) ≡ w = length_part s p w h in (
      omega arith,
      (λ i g. let c : i < w = omega arith in sym (get_or-take w (drop p s) i 0 c ∙ get_or-drop p s i 0)),
    )

pub sits_is : (s : List ℕ) (p : ℕ) (a : List ℕ) → Sits s p a → a ≡ part s p (length a)
sits_is s p a x =
    let l : length (part s p (length a)) ≡ length a = length_part s p (length a) x.0 in
    ext_get_or 0 a (part s p (length a)) (sym l) (λ i h. let g : i < length (part s p (length a)) = omega arith in sym (x.1 i h) ∙ (sits_part s p (length a) x.0).1 i g)

-- bytes that sit in all of a list are the list
pub sits_all : (s a : List ℕ) → length a ≡ length s → Sits s 0 a → s ≡ a
sits_all s a l x = ext_get_or 0 s a (sym l) (λ i h. let g : i < length a = omega arith in let z : i ≡ 0 + i = omega arith in ap (λ (k : ℕ). get_or s k 0) z ∙ x.1 i g)

pub sits_self : (s : List ℕ) → Sits s 0 s
sits_self s = (omega arith, λ i h. let z : 0 + i ≡ i = omega arith in ap (λ (k : ℕ). get_or s k 0) z)

-- ---- the number of some bytes, byte by byte
abbrev big_at : List ℕ → ℕ → ℕ → ℕ → ℕ → ℕ
big_at s p i acc zero = acc
big_at s p i acc (suc w) = big_at s p (suc i) (acc * 256 + get_or s (p + i) 0) w

big_at_is : (s : List ℕ) (p i acc : ℕ) (a : List ℕ) → ((j : ℕ) → j < length a → get_or s (p + (i + j)) 0 ≡ get_or a j 0) → big_at s p i acc (length a) ≡ big_after acc a
big_at_is s p i acc [] h = refl
big_at_is s p i acc (x ∷ xs) h =
    let z : p + i ≡ p + (i + 0) = omega arith in
    let l : 0 < length (x ∷ xs) = omega arith in
    let e : get_or s (p + i) 0 ≡ x = ap (λ (k : ℕ). get_or s k 0) z ∙ h 0 l in
    ap (λ (y : ℕ). big_at s p (suc i) (acc * 256 + y) (length xs)) e
    ∙ big_at_is s p (suc i) (acc * 256 + x) xs
    (λ j g. let m : p + (suc i + j) ≡ p + (i + suc j) = omega arith in let n : suc j < length (x ∷ xs) = omega arith in ap (λ (k : ℕ). get_or s k 0) m ∙ h (suc j) n)

two_at : (s : List ℕ) (p : ℕ) → be2 s p ≡ big_at s p 0 0 2
two_at s p = let z : get_or s (p + 0) 0 ≡ get_or s p 0 = ap (λ (k : ℕ). get_or s k 0) (add-zero p) in omega arith

number_at : (k : Field) (s : List ℕ) (p : ℕ) → number k s p ≡ big_at s p 0 0 (width k)
number_at parent s p = two_at s p
number_at rate s p = let z : get_or s (p + 0) 0 ≡ get_or s p 0 = ap (λ (k : ℕ). get_or s k 0) (add-zero p) in omega arith
number_at hours s p = let z : get_or s (p + 0) 0 ≡ get_or s p 0 = ap (λ (k : ℕ). get_or s k 0) (add-zero p) in omega arith
number_at customers s p = two_at s p
number_at load s p = two_at s p

sits_big : (s : List ℕ) (p : ℕ) (a : List ℕ) → Sits s p a → big_at s p 0 0 (length a) ≡ big a
sits_big s p a x = big_at_is s p 0 0 a (λ j g. let m : p + (0 + j) ≡ p + j = omega arith in ap (λ (k : ℕ). get_or s k 0) m ∙ x.1 j g)

-- The number of a field whose bytes sit there is the number that they make.
pub number_big : (k : Field) (s : List ℕ) (p : ℕ) (a : List ℕ) → length a ≡ width k → Sits s p a → number k s p ≡ big a
number_big k s p a l x = number_at k s p ∙ ap (big_at s p 0 0) (sym l) ∙ sits_big s p a x

pub be2_big : (s : List ℕ) (p : ℕ) (a : List ℕ) → length a ≡ 2 → Sits s p a → be2 s p ≡ big a
be2_big s p a l x = two_at s p ∙ ap (big_at s p 0 0) (sym l) ∙ sits_big s p a x
