use Rattle.measures.specs.Caps.{count_lawful, count_weighs}
use Rattle.measures.proofs.count.CountAdditive.amount.Goals as goal

pub returns-clause-lawful : goal.returns-clause-lawful
returns-clause-lawful c = count_lawful

pub returns-clause-weighs : goal.returns-clause-weighs
returns-clause-weighs c = count_weighs
