use Rattle.std.proofs.Common.{rules, ℕ, ◌<◌, true, false, get_or, take, set, sym, ap, ◌∙◌, arith, length-set, drop-set-lt}
use Rattle.feeder.specs.Feeder.{Feeder, blank}
use Rattle.sweeps.specs.Lists.{feeder}
use Rattle.lines.specs.declared.change.Change.TheVariants.{Unfit}
use Rattle.lines.specs.declared.refusal.Refusal.TheVariants.{Clear}
use Rattle.engine.specs.Changes.{marked}
use Rattle.engine.specs.Studies.{feeder_of}
use Rattle.engine.proofs.Fines.{fine_take_marked, altered}
use Rattle.engine.proofs.Judges.{not_zero, unfit_judged, step_refused, step_done}
use Rattle.engine.proofs.Logged.{extends}
use Rattle.engine.proofs.study.Study.unfit.Goals as goal

pub returns-in_err-at-clause-logged : goal.returns-in_err-at-clause-logged
returns-in_err-at-clause-logged c = extends _ _ _ (search rules)

pub returns-then-not-self-at-clause-logged : goal.returns-then-not-self-at-clause-logged
returns-then-not-self-at-clause-logged c =
    let s = c.args.self.now in
    let f : Feeder = feeder_of s in
    let k = c.args.k in
    let i = c.in_ok-at.ensures in
    let bare = ap (λ (a : ℕ). (get_or s.lent.list.now a blank).switch) (sym i.0) ∙ c.if-not-self-at.true in
    extends _ f f (step_refused f (Unfit k) Clear (unfit_judged s.lent.list.now s.count k s.switching s.within i.2 (not_zero _ i.1) false bare))

pub invariant_of-self : goal.invariant_of-self
invariant_of-self c =
    let s = c.args.self.now in
    let a = c.in_ok-at.at in
    let i = c.in_ok-at.ensures in
    let pos : 0 < a = omega (arith, i.0, i.1) in
    let within : a < s.count = omega (arith, i.0, i.2) in
    record { within = simp length-set s.within; few = s.few; low = s.low; high = s.high; fine = fine_take_marked s.lent.list.now s.count a false s.within pos within s.fine }

pub returns : goal.returns
returns c =
    let s = c.args.self.now in
    let xs = s.lent.list.now in
    let k = c.args.k in
    let a = c.in_ok-at.at in
    let i = c.in_ok-at.ensures in
    let within : a < s.count = omega (arith, i.0, i.2) in
    let stood = ap (λ (a : ℕ). (get_or xs a blank).switch) (sym i.0) ∙ c.if-not-self-at.false in
    let made : ℕ → Feeder = λ a. feeder (take s.count (set xs a (marked (get_or xs a blank) false))) s.switching in
    let step = step_done (feeder_of s) (Unfit k) (made a)
    (unfit_judged xs s.count k s.switching s.within i.2 (not_zero _ i.1) true stood)
    (ap made i.0 ∙ altered xs s.count k s.switching (λ c. marked c false) i.2) in
    record { step = step; logged = extends _ (feeder_of s) _ step; rest = drop-set-lt s.count xs a _ within }
