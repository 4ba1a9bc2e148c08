-- The bytes of an answer, and what writing leaves in a list.
use Rattle.std.specs.Prelude.{◌≡◌, ℕ, ◌+◌, ◌<◌, ◌≤◌, List, [], ◌∷◌, ◌++◌, length, take, drop, Some, None, decimal, Result, MatchResult}
use Rattle.lines.specs.declared.refusal.Refusal.{Refusal}
use Rattle.lines.specs.declared.refusal.Refusal.TheVariants.{Short}
use Rattle.lines.specs.declared.answer.Answer.{Answer}
use Rattle.lines.specs.declared.answer.Answer.TheVariants.{Done, Number, Longest, Trial, Indices, Refused, Fault}
use Rattle.lines.specs.declared.write.Pen.{Pen}
use Rattle.lines.specs.Lines.{fields}
use Rattle.lines.specs.Refusals.{number_of}

-- the answer line without its line feed: ok, none, numbers with one space between them, or E and what was wrong
abbrev pub body : Answer → List ℕ
body Done = 111 ∷ 107 ∷ []
body (Number n) = decimal n
body (Longest None) = 110 ∷ 111 ∷ 110 ∷ 101 ∷ []
body (Longest (Some o)) = decimal o.minutes ++ fields (o.section ∷ [])
body (Trial flow load product) = decimal flow ++ fields (load ∷ product ∷ [])
body (Indices saifi saidi eens) = decimal saifi ++ fields (saidi ∷ eens ∷ [])
body (Refused r) = 69 ∷ fields (number_of r ∷ [])
body (Fault number place) = 69 ∷ fields (number ∷ place ∷ [])

abbrev pub answer_text : Answer → List ℕ
answer_text a = body a ++ (10 ∷ [])

-- the pen wrote xs at its place in its list, and went on past them
pub record Wrote (was : Pen) (xs : List ℕ) (after : Pen) : Type 0 where
  pub same_list : after.out.ghost_name ≡ was.out.ghost_name
  pub size : length after.out.now ≡ length was.out.now
  pub place : after.at ≡ was.at + length xs
  pub front : take after.at after.out.now ≡ take was.at was.out.now ++ xs
  pub rest : drop after.at after.out.now ≡ drop after.at was.out.now

-- the answer a stands in n bytes at the front of the list, and every byte past it is as it was
pub record Written (a : Answer) (was : List ℕ) (n : ℕ) (after : List ℕ) : Type 0 where
  pub room : 64 ≤ length was
  pub size : n ≡ length (answer_text a)
  pub small : n ≤ 64
  pub list : after ≡ answer_text a ++ drop n was

-- a list under 64 bytes is refused and left as it was
pub record Unwritten (was : List ℕ) (f : Refusal) (after : List ℕ) : Type 0 where
  pub under : length was < 64
  pub short : f ≡ Short
  pub kept : after ≡ was

-- what writing an answer into an output list leaves there, and gives
abbrev pub Answered : Answer → List ℕ → Result ℕ Refusal → List ℕ → Type 0
Answered a was r after = MatchResult r (λ n. Written a was n after) (λ f. Unwritten was f after)
