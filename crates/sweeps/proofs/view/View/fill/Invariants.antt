use Rattle.feeder.specs.Totals.{extra_part}
use Rattle.sweeps.specs.Lists.{Holds}
use Rattle.sweeps.specs.Views.{shown}
use Rattle.sweeps.proofs.view.View.fill.Given as goal

abbrev pub invariant-loop-k : goal.invariant-loop-k
invariant-loop-k g l = let μ = g.M.Measure.meaning l.m in Holds μ.nothing (extra_part μ (shown l.self)) l.k l.out
