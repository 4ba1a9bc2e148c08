use Rattle.std.proofs.Common.{rules}
use Rattle.archive.proofs.Digits.{be8_is}
use Rattle.archive.proofs.fields.Mapped.hours.Goals as goal

pub returns-then-is_none : goal.returns-then-is_none
returns-then-is_none c = search (rules, be8_is)

pub returns : goal.returns
returns c = search (rules, be8_is)
