use Rattle.std.proofs.Common.{rules}
use Rattle.engine.specs.Questions.{eens_of}
use Rattle.engine.proofs.Asked.{alike_by}
use Rattle.engine.proofs.study.Study.eens.Goals as goal

pub returns-in_err-view-clause-alike : goal.returns-in_err-view-clause-alike
returns-in_err-view-clause-alike c = alike_by eens_of _ _ (search rules)

pub returns-clause-alike : goal.returns-clause-alike
returns-clause-alike c = alike_by eens_of _ _ (search rules)
