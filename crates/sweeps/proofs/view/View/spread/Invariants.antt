use Rattle.sweeps.specs.Views.{shown}
use Rattle.sweeps.proofs.Turns.{Risen}
use Rattle.sweeps.proofs.view.View.spread.Given as goal

abbrev pub invariant-loop-j : goal.invariant-loop-j
invariant-loop-j g l = Risen (g.M.Measure.meaning l.m) (shown l.self) l.j l.out
