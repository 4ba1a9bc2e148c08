use Rattle.std.proofs.Common.{rules}
use Rattle.engine.specs.Questions.{full_trial_of}
use Rattle.engine.specs.Studies.{feeder_of}
use Rattle.engine.proofs.Asked.{alike_by, switch_spares}
use Rattle.engine.proofs.Logged.{extends}
use Rattle.engine.proofs.Sounds.{sound_if}
use Rattle.engine.proofs.study.Study.full_trial.Goals as goal

pub returns-in_err-at-clause-alike : goal.returns-in_err-at-clause-alike
returns-in_err-at-clause-alike g c = alike_by (full_trial_of (g.M.Measure.meaning c.args.m.now) c.args.j c.args.out.now) _ _ (search rules)

pub returns-in_err-at-clause-spares : goal.returns-in_err-at-clause-spares
returns-in_err-at-clause-spares g c =
    let s = c.args.self.now in
    switch_spares (g.M.Measure.meaning c.args.m.now) (g.met.M.Measure.lawful c.args.m.now) (feeder_of s) (sound_if s)

pub returns-in_err-at-clause-logged : goal.returns-in_err-at-clause-logged
returns-in_err-at-clause-logged g c = extends _ _ _ (search rules)

pub returns-clause-alike : goal.returns-clause-alike
returns-clause-alike g c = alike_by (full_trial_of (g.M.Measure.meaning c.args.m.now) c.args.j c.args.out.now) _ _ (search rules)

pub returns-clause-spares : goal.returns-clause-spares
returns-clause-spares g c =
    let s = c.args.self.now in
    switch_spares (g.M.Measure.meaning c.args.m.now) (g.met.M.Measure.lawful c.args.m.now) (feeder_of s) (sound_if s)

pub returns-clause-logged : goal.returns-clause-logged
returns-clause-logged g c = extends _ _ _ (search rules)
