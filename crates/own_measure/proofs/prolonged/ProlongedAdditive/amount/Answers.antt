use Rattle.own_measure.specs.Laws.{prolonged_lawful, prolonged_weighs}
use Rattle.own_measure.proofs.prolonged.ProlongedAdditive.amount.Goals as goal

pub returns-clause-lawful : goal.returns-clause-lawful
returns-clause-lawful c = prolonged_lawful

pub returns-clause-weighs : goal.returns-clause-weighs
returns-clause-weighs c = prolonged_weighs
