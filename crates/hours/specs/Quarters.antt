-- Repair hours as a whole count of quarter hours.
use Rattle.std.specs.Prelude.{ℕ, ◌≤◌, false, Float}
use Rattle.std.specs.Float.Ieee.Exact.{HasValue}

-- x is finite, not negative, and exactly q / 4, for a count q of quarters from 1 to 672
abbrev pub Quarters : Float → ℕ → Type 0
Quarters x q = (1 ≤ q) × (q ≤ 672) × HasValue x false q 4
