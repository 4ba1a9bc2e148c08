use Rattle.std.proofs.Common.{take}
use Rattle.archive.specs.Archives.{Records}
use Rattle.archive.proofs.load.read_sections.Given as goal

abbrev pub invariant-loop-i : goal.invariant-loop-i
invariant-loop-i l = Records l.bytes 0 4 (take l.i l.list) l.at
