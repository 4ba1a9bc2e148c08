use Rattle.std.proofs.Common.{rules, ℕ, get_or, take, set, refl, ap, ◌∙◌, length-set, drop-set-lt}
use Rattle.feeder.specs.Feeder.{Feeder, switched, blank}
use Rattle.sweeps.specs.Lists.{feeder}
use Rattle.lines.specs.declared.change.Change.TheVariants.{Fit}
use Rattle.engine.specs.declared.journal.Call.TheVariants.{Direct}
use Rattle.engine.specs.Studies.{feeder_of}
use Rattle.engine.proofs.Fines.{fine_take_marked, altered}
use Rattle.engine.proofs.Judges.{step_done}
use Rattle.engine.proofs.Logged.{extends}
use Rattle.engine.proofs.Replies.{index_of}
use Rattle.engine.proofs.Switches.{fit_switched, fit_switches}
use Rattle.engine.proofs.study.Study.fit.Goals as goal

pub returns-in_err-at-clause-logged : goal.returns-in_err-at-clause-logged
returns-in_err-at-clause-logged c = extends _ _ _ (search rules)

pub invariant_of-self : goal.invariant_of-self
invariant_of-self c =
    let s = c.args.self.now in
    let i = index_of s c.args.k c.in_ok-at.at c.in_ok-at.ensures in
    record { within = simp length-set s.within; few = s.few; low = s.low; high = s.high; fine = fine_take_marked s.lent.list.now s.count _ _ s.within i.not_root i.within s.fine }

pub returns : goal.returns
returns c =
    let s = c.args.self.now in
    let xs = s.lent.list.now in
    let k = c.args.k in
    let i = index_of s k c.in_ok-at.at c.in_ok-at.ensures in
    let made : ℕ → Feeder = λ a. feeder (take s.count (set xs a (switched (get_or xs a blank)))) s.switching in
    let g : Feeder = made c.in_ok-at.at in
    let step = step_done (feeder_of s) (Fit k) g i.free (ap made i.same ∙ altered xs s.count k s.switching switched (rw i.same at i.within)) in
    record { step = step; logged = extends _ (feeder_of s) g step; switched = fit_switched (feeder_of s) g k Direct refl i.free step.1; apart = fit_switches (feeder_of s) k i.free; rest = drop-set-lt s.count xs _ _ i.within }
