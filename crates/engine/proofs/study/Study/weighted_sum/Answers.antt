use Rattle.std.proofs.Common.{rules}
use Rattle.sweeps.specs.Weights.{weight_of}
use Rattle.sweeps.proofs.Shares.{light}
use Rattle.engine.specs.Questions.{sum_of}
use Rattle.engine.specs.Studies.{feeder_of}
use Rattle.engine.proofs.Asked.{alike_by, switch_worth}
use Rattle.engine.proofs.Sounds.{sound_if}
use Rattle.engine.proofs.study.Study.weighted_sum.Goals as goal

pub returns-in_err-view-clause-alike : goal.returns-in_err-view-clause-alike
returns-in_err-view-clause-alike g c = alike_by (sum_of (g.M.Measure.meaning c.args.m.now) (g.M.Weighed.number c.args.m.now) (weight_of c.args.by)) _ _ (search rules)

pub returns-clause-alike : goal.returns-clause-alike
returns-clause-alike g c = alike_by (sum_of (g.M.Measure.meaning c.args.m.now) (g.M.Weighed.number c.args.m.now) (weight_of c.args.by)) _ _ (search rules)

pub returns-clause-worth : goal.returns-clause-worth
returns-clause-worth g c =
    let s = c.args.self.now in
    let m = c.args.m.now in
    switch_worth (g.M.Measure.meaning m) (g.met.M.Measure.lawful m) (feeder_of s) (sound_if s) (g.M.Weighed.number m) (g.met.M.Weighed.weighs m) (weight_of c.args.by) (light c.args.by)
