use Rattle.std.proofs.Common.{rules}
use Rattle.engine.specs.Questions.{saifi_of}
use Rattle.engine.proofs.Asked.{alike_by}
use Rattle.engine.proofs.study.Study.saifi.Goals as goal

pub returns-clause-alike : goal.returns-clause-alike
returns-clause-alike c = alike_by saifi_of _ _ (search rules)
