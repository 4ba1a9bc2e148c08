use Rattle.std.proofs.Common.{rules}
use Rattle.feeder.proofs.Children.{by_children}
use Rattle.engine.specs.Questions.{flow_of}
use Rattle.engine.proofs.Asked.{alike_by}
use Rattle.engine.proofs.study.Study.flow.Goals as goal

pub returns-in_err-at-clause-alike : goal.returns-in_err-at-clause-alike
returns-in_err-at-clause-alike g c = alike_by (flow_of (g.M.Measure.meaning c.args.m.now) c.args.j) _ _ (search rules)

pub returns-in_err-at-clause-children : goal.returns-in_err-at-clause-children
returns-in_err-at-clause-children g c = by_children

pub returns-clause-alike : goal.returns-clause-alike
returns-clause-alike g c = alike_by (flow_of (g.M.Measure.meaning c.args.m.now) c.args.j) _ _ (search rules)

pub returns-clause-children : goal.returns-clause-children
returns-clause-children g c = by_children
