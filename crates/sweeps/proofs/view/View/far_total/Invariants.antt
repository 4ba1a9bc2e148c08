use Rattle.std.proofs.Common.{◌≡◌}
use Rattle.feeder.specs.Totals.{join_over, far_effect}
use Rattle.sweeps.specs.Views.{shown}
use Rattle.sweeps.proofs.view.View.far_total.Given as goal

abbrev pub invariant-loop-k : goal.invariant-loop-k
invariant-loop-k g l = let μ = g.M.Measure.meaning l.m in l.sum ≡ join_over μ.nothing μ.join l.k (far_effect μ (shown l.self))
