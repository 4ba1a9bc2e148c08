use Rattle.std.proofs.Common.{◌≤◌}
use Rattle.feeder.specs.Feeder.{size}
use Rattle.feeder.specs.Flows.{stage}
use Rattle.sweeps.specs.Lists.{Holds}
use Rattle.sweeps.specs.Views.{shown}
use Rattle.sweeps.proofs.view.View.gather.Given as goal

abbrev pub invariant-loop-j : goal.invariant-loop-j
invariant-loop-j g l =
    let μ = g.M.Measure.meaning l.m in
    let f = shown l.self in
    (1 ≤ l.j) × Holds μ.nothing (stage μ f l.j) (size f) l.out
