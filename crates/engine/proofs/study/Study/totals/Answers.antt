use Rattle.std.proofs.Common.{rules}
use Rattle.engine.specs.Questions.{totals_of}
use Rattle.engine.specs.Studies.{feeder_of}
use Rattle.engine.proofs.Asked.{alike_by, switch_spares}
use Rattle.engine.proofs.Sounds.{sound_if}
use Rattle.engine.proofs.study.Study.totals.Goals as goal

pub returns-in_err-view-clause-alike : goal.returns-in_err-view-clause-alike
returns-in_err-view-clause-alike g c = alike_by (totals_of (g.M.Measure.meaning c.args.m.now) c.args.out.now) _ _ (search rules)

pub returns-clause-alike : goal.returns-clause-alike
returns-clause-alike g c = alike_by (totals_of (g.M.Measure.meaning c.args.m.now) c.args.out.now) _ _ (search rules)

pub returns-clause-spares : goal.returns-clause-spares
returns-clause-spares g c =
    let s = c.args.self.now in
    switch_spares (g.M.Measure.meaning c.args.m.now) (g.met.M.Measure.lawful c.args.m.now) (feeder_of s) (sound_if s)
