-- The bytes of a line: its letter, then each of its numbers after one space.
use Rattle.std.specs.Prelude.{◌≡◌, ℕ, ◌^◌, ◌<◌, List, [], ◌∷◌, ◌++◌, length, Some, decimal, Option, MatchOption}
use Rattle.std.specs.List.{AllByRecursion}
use Rattle.lines.specs.declared.line.Line.{Line}
use Rattle.lines.specs.declared.change.Change.TheVariants.{Fit, Unfit, Set}
use Rattle.lines.specs.declared.question.Question.TheVariants.{Minutes, Count, Longest, Trial, Indices}
use Rattle.lines.specs.declared.line.Line.TheVariants as line

abbrev pub letter_of : Line → ℕ
letter_of (line.Change (Fit k)) = 70
letter_of (line.Change (Unfit k)) = 85
letter_of (line.Change (Set k rate quarters customers load)) = 83
letter_of (line.Question (Minutes m)) = 68
letter_of (line.Question (Count m)) = 67
letter_of (line.Question (Longest m)) = 76
letter_of (line.Question (Trial k)) = 71
letter_of (line.Question Indices) = 88

abbrev pub numbers : Line → List ℕ
numbers (line.Change (Fit k)) = k ∷ []
numbers (line.Change (Unfit k)) = k ∷ []
numbers (line.Change (Set k rate quarters customers load)) = k ∷ rate ∷ quarters ∷ customers ∷ load ∷ []
numbers (line.Question (Minutes m)) = m ∷ []
numbers (line.Question (Count m)) = m ∷ []
numbers (line.Question (Longest m)) = m ∷ []
numbers (line.Question (Trial k)) = k ∷ []
numbers (line.Question Indices) = []

-- each number after one space
abbrev pub fields : List ℕ → List ℕ
fields [] = []
fields (n ∷ ns) = 32 ∷ (decimal n ++ fields ns)

abbrev pub text : Line → List ℕ
text l = letter_of l ∷ fields (numbers l)

-- numbers of 32 bits
abbrev pub Small : List ℕ → Type 0
Small ns = AllByRecursion (λ n. n < 2 ^ 32) ns

-- bs is the text of n numbers, ns
abbrev pub Lists : ℕ → List ℕ → List ℕ → Type 0
Lists n bs ns = (length ns ≡ n) × Small ns × (bs ≡ fields ns)

-- bs is the text of the line l
abbrev pub Says : List ℕ → Line → Type 0
Says bs l = Small (numbers l) × (bs ≡ text l)

-- what is read of the bytes: the line that they are the text of, or nothing where there is none
abbrev pub Reads : List ℕ → Option Line → Type 0
Reads bs r = MatchOption r ((l : Line) → Says bs l → ⊥) (λ l. Says bs l)

-- no two lines have one text: whichever line the bytes are the text of is the one that is read
abbrev pub OneText : List ℕ → Option Line → Type 0
OneText bs r = (k : Line) → Says bs k → r ≡ Some k
