-- The meaning of Prolonged: the rate if the time out is longer than the switching time, and 0 otherwise. Assumes nothing.
use Rattle.std.specs.Prelude.{ℕ, cond, nat_lt}
use Rattle.feeder.specs.declared.section.Figures.{Figures}
use Rattle.feeder.specs.Measure.{Meaning}
use Rattle.measures.specs.declared.capped.Capped.{Capped}
use Rattle.measures.specs.Capped.{cap, sum, Amounts}

abbrev pub longer : Figures → ℕ → ℕ → ℕ
longer d s t = cond (nat_lt s t) d.rate 0

abbrev pub prolonged_amounts : Amounts
prolonged_amounts = record { amount = λ k d s t. longer d s t; excess = λ k d s. longer d s d.repair }

abbrev pub prolonged : Meaning Capped
prolonged = record {
  nothing = cap 0;
  join = sum;
  effect = λ k d s t. cap (longer d s t);
  extra = λ k d s. cap (longer d s d.repair);
}
