use Rattle.std.proofs.Common.{◌≡◌, false}
use Rattle.feeder.specs.Feeder.{up}
use Rattle.feeder.specs.Tree.{below}
use Rattle.feeder.specs.Weighed.{sum_over}
use Rattle.sweeps.specs.Lists.{Holds}
use Rattle.sweeps.specs.Views.{shown}
use Rattle.sweeps.proofs.Steps.{part}
use Rattle.sweeps.proofs.view.View.weight_below.Given as goal

abbrev pub invariant-loop-k : goal.invariant-loop-k
invariant-loop-k l =
    let f = shown l.self in
    Holds false (λ i. below (up f) i l.j) l.k l.known × (l.sum ≡ sum_over l.k (part f l.by l.j))
