use Rattle.std.proofs.Common.{◌≡◌, ◌<◌}
use Rattle.feeder.specs.Feeder.{size, up, cut}
use Rattle.feeder.specs.Tree.{head}
use Rattle.sweeps.specs.Views.{shown}
use Rattle.sweeps.proofs.view.View.head_of.Given as goal

abbrev pub invariant-loop-h : goal.invariant-loop-h
invariant-loop-h l = let f = shown l.self in (l.h < size f) × (head (up f) (cut f) l.h ≡ head (up f) (cut f) l.k)

abbrev pub decreases-loop-h : goal.decreases-loop-h
decreases-loop-h l = l.h
