-- Capped numbers, and the meanings of Minutes and Count.
use Rattle.std.specs.Prelude.{ℕ, ◌+◌, ◌-◌, ◌*◌, ◌^◌, min}
use Rattle.std.proofs.Common.{arith}
use Rattle.measures.specs.declared.capped.Capped.{Capped}
use Rattle.feeder.specs.declared.section.Figures.{Figures}
use Rattle.feeder.specs.Measure.{Meaning}

-- the number itself where it is below 2^64, and 2^64 - 1 above
abbrev pub cap : ℕ → Capped
cap n = record { value = min n (2 ^ 64 - 1); fits = omega arith }

abbrev pub sum : Capped → Capped → Capped
sum a b = cap (a.value + b.value)

-- what one fault adds, and what a near one adds beyond a far one
pub record Amounts : Type 0 where
  pub amount : ℕ → Figures → ℕ → ℕ → ℕ
  pub excess : ℕ → Figures → ℕ → ℕ

abbrev pub minutes_amounts : Amounts
minutes_amounts = record { amount = λ k d s t. d.rate * t; excess = λ k d s. d.rate * d.repair - d.rate * min d.repair s }

abbrev pub count_amounts : Amounts
count_amounts = record { amount = λ k d s t. d.rate; excess = λ k d s. 0 }

abbrev pub minutes : Meaning Capped
minutes = record {
  nothing = cap 0;
  join = sum;
  effect = λ k d s t. cap (d.rate * t);
  extra = λ k d s. cap (d.rate * d.repair - d.rate * min d.repair s);
}

abbrev pub count : Meaning Capped
count = record {
  nothing = cap 0;
  join = sum;
  effect = λ k d s t. cap d.rate;
  extra = λ k d s. cap 0;
}
