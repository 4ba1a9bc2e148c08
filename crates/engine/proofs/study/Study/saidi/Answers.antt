use Rattle.std.proofs.Common.{rules}
use Rattle.engine.specs.Questions.{saidi_of}
use Rattle.engine.proofs.Asked.{alike_by}
use Rattle.engine.proofs.study.Study.saidi.Goals as goal

pub returns-clause-alike : goal.returns-clause-alike
returns-clause-alike c = alike_by saidi_of _ _ (search rules)
