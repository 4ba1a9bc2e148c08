-- The feeder that a view shows, and its answers where a section or room is missing. Assumes nothing.
use Rattle.std.specs.Prelude.{ℕ, cond, Some, None, Option, nat_lt}
use Rattle.feeder.specs.Feeder.{Feeder, size}
use Rattle.sweeps.specs.declared.up.TooShort.{TooShort}
use Rattle.sweeps.specs.declared.view.View.{View}

abbrev pub shown : View → Feeder
shown v = record { sections = v.sections.now; switching = v.switching }

-- a value at section j, if there is such a section
abbrev pub if_there : {A : Type 0} → Feeder → ℕ → A → Option A
if_there f j x = cond (nat_lt j (size f)) (Some x) None

-- the one value of `TooShort`
abbrev pub too_short : TooShort
too_short = record {}
