use Rattle.std.proofs.Common.{◌-◌, length}
use Rattle.study.proofs.answer_block.Given as goal

abbrev pub decreases-loop-from : goal.decreases-loop-from
decreases-loop-from l = length l.block - l.from
