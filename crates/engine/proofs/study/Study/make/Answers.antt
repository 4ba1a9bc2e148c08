use Rattle.lines.specs.declared.change.Change.{Change}
use Rattle.std.proofs.Common.{sym, subst}
use Rattle.engine.specs.Changes.{direct, gave}
use Rattle.engine.specs.Logs.{Step, changed}
use Rattle.engine.specs.Studies.{feeder_of}
use Rattle.engine.proofs.Logged.{extends}
use Rattle.engine.proofs.study.Study.make.Goals as goal

pub returns-in-Fit-clause-logged : goal.returns-in-Fit-clause-logged
returns-in-Fit-clause-logged c =
    extends _ _ _ (subst (λ (x : Change). Step (feeder_of c.args.self.now) (changed (direct x) (gave c.fit.result)) (feeder_of c.fit.new.self)) (sym c.in-Fit.is) c.fit.ensures.step)

pub returns-in-Unfit-clause-logged : goal.returns-in-Unfit-clause-logged
returns-in-Unfit-clause-logged c =
    extends _ _ _ (subst (λ (x : Change). Step (feeder_of c.args.self.now) (changed (direct x) (gave c.unfit.result)) (feeder_of c.unfit.new.self)) (sym c.in-Unfit.is) c.unfit.ensures.step)

pub returns-in-Set-clause-logged : goal.returns-in-Set-clause-logged
returns-in-Set-clause-logged c =
    extends _ _ _ (subst (λ (x : Change). Step (feeder_of c.args.self.now) (changed (direct x) (gave c.set.result)) (feeder_of c.set.new.self)) (sym c.in-Set.is) c.set.ensures.step)
