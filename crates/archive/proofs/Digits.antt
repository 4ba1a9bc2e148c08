-- The bytes of a part of the archive, by their places in it.
use Rattle.std.proofs.Common.{◌≡◌, ℕ, ◌+◌, ◌<◌, ◌≤◌, List, drop, slice_index, ap, ◌∙◌, arith, w64}
use Rattle.std.proofs.lemmas.List.{get_or-take, get_or-drop}
use Rattle.std.specs.Int.{from_be_bytes}
use Rattle.archive.specs.Reading.{be8, bytes_from}
use Rattle.archive.specs.Records.{Text}

-- the byte i of the w bytes from place p on
pub byte : (s : List ℕ) (p w i : ℕ) → i < w → slice_index (bytes_from s p w) i ≡ slice_index s (p + i)
byte s p w i l = get_or-take w (drop p s) i 0 l ∙ get_or-drop p s i 0

pub first : (s : List ℕ) (p w : ℕ) → 0 < w → slice_index (bytes_from s p w) 0 ≡ slice_index s p
first s p w l =
    let none : p + 0 ≡ p = omega arith in
    byte s p w 0 l ∙ ap (slice_index s) none

pub be8_is : (s : List ℕ) (p : ℕ) → from_be_bytes w64 (bytes_from s p 8) ≡ be8 s p
be8_is s p =
    let b = λ (i : ℕ) (l : i < 8). byte s p 8 i l in
    omega (arith, first s p 8 (omega arith), b 1 (omega arith), b 2 (omega arith), b 3 (omega arith), b 4 (omega arith), b 5 (omega arith), b 6 (omega arith), b 7 (omega arith))

-- Text at the front of that part is text of the archive.
pub text_of : (s : List ℕ) (p w l : ℕ) → l ≤ w → Text (bytes_from s p w) 0 l → Text s p l
text_of s p w l h t i k =
    let none : 0 + i ≡ i = omega arith in
    let e : slice_index (bytes_from s p w) (0 + i) ≡ slice_index s (p + i) = ap (slice_index (bytes_from s p w)) none ∙ byte s p w i (omega arith) in
    let b = t i k in
    (omega (arith, e, b.0), omega (arith, e, b.1))
