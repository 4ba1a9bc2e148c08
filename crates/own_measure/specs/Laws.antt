-- The laws of Prolonged, from those of capped sums. Assumes nothing.
use Rattle.std.specs.Prelude.{◌≡◌, ℕ, ◌+◌, ◌≤◌, min, cond, nat_lt}
use Rattle.std.proofs.Common.{arith}
use Rattle.std.proofs.lemmas.Bool.Decides.{nat_tests}
use Rattle.feeder.specs.Measure.{Lawful}
use Rattle.feeder.specs.Weighed.{Weighs}
use Rattle.measures.specs.Additive.{Additive}
use Rattle.measures.specs.Caps.{by_sums, sums_weigh}
use Rattle.own_measure.specs.Prolonged.{prolonged, prolonged_amounts}

-- no far node waits longer than the switching time
far_none : (rate r s : ℕ) → cond (nat_lt s (min r s)) rate 0 + cond (nat_lt s r) rate 0 ≡ cond (nat_lt s r) rate 0
far_none rate r s = grind (arith, nat_tests)

most : (rate s t : ℕ) → rate ≤ 100000 → cond (nat_lt s t) rate 0 ≤ 1008000000
most rate s t h = grind (arith, nat_tests)

pub prolonged_additive : Additive prolonged_amounts
prolonged_additive = record { parts = λ k d s r. far_none d.rate d.repair s; most = λ k d s t r l. most d.rate s t r.rate }

pub prolonged_lawful : Lawful prolonged
prolonged_lawful = by_sums prolonged_amounts.amount prolonged_amounts.excess prolonged_additive.parts

pub prolonged_weighs : Weighs prolonged (λ v. v.value)
prolonged_weighs = sums_weigh prolonged_amounts.amount prolonged_amounts.excess prolonged_additive.most
