use Rattle.std.proofs.Common.{◌≡◌, ◌+◌, ◌-◌, ◌≤◌, length, drop}
use Rattle.engine.specs.Logs.{naming}
use Rattle.journal.specs.Compared.{listb}
use Rattle.journal.proofs.walk.same_at.Given as goal

abbrev pub invariant-walk : goal.invariant-walk
invariant-walk l = (l.i ≤ length l.a) × (l.j ≤ length l.b) × (listb (naming l.k l.a) (naming l.k l.b) ≡ listb (naming l.k (drop l.i l.a)) (naming l.k (drop l.j l.b)))

abbrev pub decreases-walk : goal.decreases-walk
decreases-walk l = (length l.a - l.i) + (length l.b - l.j)
