-- What one more switch spares a node. Assumes nothing.
use Rattle.std.specs.Prelude.{ℕ, cond, not, ◌&&◌, ◌==◌}
use Rattle.feeder.specs.Tree.{below, head}
use Rattle.feeder.specs.Feeder.{Feeder, up, cut, fitted}
use Rattle.feeder.specs.Measure.{Meaning}
use Rattle.feeder.specs.Totals.{over, when, extra_part}

-- the extra parts of the faults whose head is j
unfoldable pub headed : {V : Type 0} → Meaning V → Feeder → ℕ → V
headed μ f j = over μ f (λ k. when μ f (head (up f) (cut f) k == j) (extra_part μ f k))

-- what a switch fitted at j spares node m: nothing, unless m is below the former head of j and not below j
unfoldable pub spared : {V : Type 0} → Meaning V → Feeder → ℕ → ℕ → V
spared μ f j m = cond (below (up f) m (head (up f) (cut f) j) && not (below (up f) m j)) (headed μ (fitted f j) j) μ.nothing
