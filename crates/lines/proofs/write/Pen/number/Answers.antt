use Rattle.std.proofs.Common.{◌≡◌, ℕ, ◌+◌, ◌<◌, ◌≤◌, ◌/◌, ◌%◌, [], ◌∷◌, ◌++◌, length, decimal, sym, ap, ◌∙◌, arith}
use Rattle.std.proofs.lemmas.Fmt.{decimal_digit, decimal_nonempty, decimal_step}
use Rattle.lines.proofs.Writes.{then, wrote_as}
use Rattle.lines.proofs.write.Pen.number.Goals as goal

two : (n : ℕ) → 10 ≤ n → n < 100 → decimal n ≡ (48 + n / 10) ∷ (48 + n % 10) ∷ []
two n low high = decimal_step n low (omega arith) ∙ ap (λ ds. ds ++ ((48 + n % 10) ∷ [])) (decimal_digit (n / 10) (omega arith))

pub byte-requires : goal.byte-requires
byte-requires c = omega (arith, decimal_nonempty c.args.n (omega arith))

pub byte-requires-then-n-lt100 : goal.byte-requires-then-n-lt100
byte-requires-then-n-lt100 c = omega (arith, ap length (two c.args.n (omega arith) (omega arith)))

pub byte-requires-then-n-lt100-2 : goal.byte-requires-then-n-lt100-2
byte-requires-then-n-lt100-2 c = omega (arith, ap length (two c.args.n (omega arith) (omega arith)), c.byte-then-n-lt100.ensures.place, c.byte-then-n-lt100.ensures.size)

pub returns-then-n-lt10 : goal.returns-then-n-lt10
returns-then-n-lt10 c = wrote_as (sym (decimal_digit c.args.n (omega arith))) c.byte.ensures

pub returns-then-n-lt100 : goal.returns-then-n-lt100
returns-then-n-lt100 c = wrote_as (sym (two c.args.n (omega arith) (omega arith))) (then c.byte-then-n-lt100.ensures c.byte-then-n-lt100-2.ensures)
