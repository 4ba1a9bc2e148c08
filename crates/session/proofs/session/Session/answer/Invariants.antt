use Rattle.std.proofs.Common.{◌≡◌, ◌-◌, ◌≤◌, length, take, drop}
use Rattle.std.specs.List.{between}
use Rattle.engine.specs.Studies.{feeder_of, beyond}
use Rattle.session.specs.Talks.{Talks}
use Rattle.session.proofs.session.Session.answer.Given as goal

abbrev pub invariant-loop-at : goal.invariant-loop-at
invariant-loop-at l =
    (l.from ≤ l.at)
    × (l.from ≤ length l.block → l.at ≤ length l.block)
    × (l.used ≤ length l.out)
    × (l.at ≡ l.from → l.used ≡ 0)
    × Talks l.initial.self (feeder_of l.initial.study) (between l.from l.at l.block) (take l.used l.out) l.self (feeder_of l.study)
    × (drop l.used l.out ≡ drop l.used l.initial.out)
    × (beyond l.study ≡ beyond l.initial.study)

abbrev pub decreases-loop-at : goal.decreases-loop-at
decreases-loop-at l = length l.block - l.at
