use Rattle.std.proofs.Common.{rules}
use Rattle.engine.specs.Questions.{WorstOf}
use Rattle.engine.proofs.Asked.{alike}
use Rattle.engine.proofs.Replies.{worst_one}
use Rattle.engine.proofs.study.Study.worst.Goals as goal

pub returns-in_err-view-clause-alike : goal.returns-in_err-view-clause-alike
returns-in_err-view-clause-alike g c =
    let μ = g.M.Measure.meaning c.args.m.now in
    let number = g.M.Weighed.number c.args.m.now in
    alike (WorstOf μ number) (worst_one μ number) _ _ (search rules)

pub returns-clause-alike : goal.returns-clause-alike
returns-clause-alike g c =
    let μ = g.M.Measure.meaning c.args.m.now in
    let number = g.M.Weighed.number c.args.m.now in
    alike (WorstOf μ number) (worst_one μ number) _ _ (search rules)
