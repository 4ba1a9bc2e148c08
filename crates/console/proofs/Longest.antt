-- No line has more than 64 bytes. Assumes nothing.
use Rattle.std.proofs.Common.{◌≡◌, ℕ, ◌*◌, ◌<◌, ◌≤◌, List, [], ◌∷◌, length, None, decimal, ap, arith, length-append}
use Rattle.std.proofs.lemmas.Fmt.{length-decimal-le}
use Rattle.lines.specs.declared.change.Change.TheVariants.{Fit, Unfit, Set}
use Rattle.lines.specs.declared.question.Question.TheVariants.{Minutes, Count, Longest, Trial, Indices}
use Rattle.lines.specs.declared.line.Line.{Line}
use Rattle.lines.specs.declared.line.Line.TheVariants.{Change, Question}
use Rattle.lines.specs.Lines.{numbers, fields, text, Small, Reads}

-- a space and at most ten digits for each number
fields_short : (ns : List ℕ) → Small ns → length (fields ns) ≤ 11 * length ns
fields_short [] h = omega arith
fields_short (n ∷ ns) h =
    let small = h.0 in
    let digits = length-decimal-le 10 n (omega arith) (omega (arith, small)) (omega (arith, small)) in
    let more = fields_short ns h.1 in
    omega (arith, length-append (decimal n) (fields ns), digits, more)

few : (l : Line) → length (numbers l) ≤ 5
few (Change (Fit k)) = omega arith
few (Change (Unfit k)) = omega arith
few (Change (Set k a b c d)) = omega arith
few (Question (Minutes m)) = omega arith
few (Question (Count m)) = omega arith
few (Question (Longest m)) = omega arith
few (Question (Trial k)) = omega arith
few (Question Indices) = omega arith

pub too_long : (bs : List ℕ) → 64 < length bs → Reads bs None
too_long bs long l says =
    let a = fields_short (numbers l) says.0 in
    let b = few l in
    let e : length bs ≡ length (text l) = ap length says.1 in
    omega (arith, a, b, e, long)
