use Rattle.archive.proofs.Laying.{laid_hours}
use Rattle.archive.proofs.load.read_section.Goals as goal

pub section_of-requires : goal.section_of-requires
section_of-requires c = laid_hours c.args.bytes.now c.args.at c.args.number c.in-Ok.record c.in-Ok.end c.in-Ok.ensures.outcome
