use Rattle.measures.specs.Caps.{minutes_lawful, minutes_weighs}
use Rattle.measures.proofs.minutes.MinutesAdditive.amount.Goals as goal

pub returns-clause-lawful : goal.returns-clause-lawful
returns-clause-lawful c = minutes_lawful

pub returns-clause-weighs : goal.returns-clause-weighs
returns-clause-weighs c = minutes_weighs
