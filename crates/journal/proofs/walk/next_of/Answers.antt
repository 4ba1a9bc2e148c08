use Rattle.std.proofs.Common.{◌∙◌, arith, rules}
use Rattle.journal.proofs.Places.{skip}
use Rattle.journal.proofs.walk.next_of.Goals as goal

pub loop-i-preserved : goal.loop-i-preserved
loop-i-preserved c = (omega arith, omega arith, c.loop-i.invariant.2 ∙ skip c.args.k c.args.a.now c.loop-i.i (omega arith) (search rules))
