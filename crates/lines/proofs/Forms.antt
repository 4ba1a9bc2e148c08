-- Which letter goes with how many numbers.
use Rattle.std.proofs.Common.{◌≡◌, ℕ, List, [], ◌∷◌, length, get_or, Some, None, Option, sym, refl, ap, subst, arith}
use Rattle.lines.specs.declared.line.Line.{Line}
use Rattle.lines.specs.Lines.{letter_of, numbers, fields, Small, Says, Reads, OneText}
use Rattle.lines.proofs.Fields.{fields_same}

-- the letter and the rest of a text that says a line
pub parts : (bs rest : List ℕ) (c : ℕ) (l : Line) → bs ≡ c ∷ rest → Says bs l → (letter_of l ≡ c) × (rest ≡ fields (numbers l))
parts bs rest c l e (s, f) = ((cc), (cc))

pub says : (bs rest : List ℕ) (c : ℕ) (ns : List ℕ) (l : Line) → bs ≡ c ∷ rest → Small ns → rest ≡ fields ns → numbers l ≡ ns → letter_of l ≡ c → Says bs l
says bs rest c ns l e s f n k = (subst Small (sym n) s, (cc))

-- a list of one number, and of five
pub as_one : (a : List ℕ) → length a ≡ 1 → a ≡ get_or a 0 0 ∷ []
as_one [] h = absurd (omega arith)
as_one (x ∷ []) h = refl
as_one (x ∷ y ∷ a) h = absurd (omega arith)

pub as_five : (a : List ℕ) → length a ≡ 5 → get_or a 0 0 ∷ get_or a 1 0 ∷ get_or a 2 0 ∷ get_or a 3 0 ∷ get_or a 4 0 ∷ [] ≡ a
as_five [] h = absurd (omega arith)
as_five (x ∷ []) h = absurd (omega arith)
as_five (x ∷ y ∷ []) h = absurd (omega arith)
as_five (x ∷ y ∷ z ∷ []) h = absurd (omega arith)
as_five (x ∷ y ∷ z ∷ u ∷ []) h = absurd (omega arith)
as_five (x ∷ y ∷ z ∷ u ∷ v ∷ []) h = refl
as_five (x ∷ y ∷ z ∷ u ∷ v ∷ w ∷ a) h = absurd (omega arith)

pub line_same : (k l : Line) → letter_of k ≡ letter_of l → numbers k ≡ numbers l → k ≡ l
line_same k l e n = grind arith

one_line : (bs : List ℕ) (k l : Line) → Says bs k → Says bs l → k ≡ l
one_line bs k l (s, d) (t, e) = let n : fields (numbers k) ≡ fields (numbers l) = cc in line_same k l (cc) (fields_same (numbers k) (numbers l) s t n)

-- what is read of the bytes is the one line that they can be the text of
pub one_text : (bs : List ℕ) (r : Option Line) → Reads bs r → OneText bs r
one_text bs None h = λ k s. absurd (h k s)
one_text bs (Some l) h = λ k s. ap Some (one_line bs l k h s)
