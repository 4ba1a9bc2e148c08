-- The meaning of Longest.
use Rattle.std.specs.Prelude.{ℕ, min, max, cond, Some, None, Option, ◌==◌, nat_lt}
use Rattle.feeder.specs.declared.section.Figures.{Figures}
use Rattle.measures.specs.declared.outage.Outage.{Outage}
use Rattle.feeder.specs.Measure.{Meaning}

abbrev pub at : ℕ → ℕ → Outage
at t k = record { minutes = t; section = k }

-- the longer time; on equal times the lower section
abbrev pub longer : Outage → Outage → Outage
longer a b = at (max a.minutes b.minutes)
    (cond (nat_lt b.minutes a.minutes) a.section (cond (nat_lt a.minutes b.minutes) b.section (min a.section b.section)))

abbrev pub keep : Option Outage → Option Outage → Option Outage
keep None b = b
keep (Some a) None = Some a
keep (Some a) (Some b) = Some (longer a b)

abbrev pub out : ℕ → Figures → ℕ → Option Outage
out k d t = cond (d.rate == 0) None (Some (at t k))

abbrev pub longest : Meaning (Option Outage)
longest = record {
  nothing = None;
  join = keep;
  effect = λ k d s t. out k d t;
  extra = λ k d s. cond (nat_lt s d.repair) (out k d d.repair) None;
}
