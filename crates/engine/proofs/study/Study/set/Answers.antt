use Rattle.std.proofs.Common.{ℕ, ◌<◌, ◌≤◌, get_or, take, set, ap, ◌∙◌, arith, length-set, drop-set-lt, rules}
use Rattle.feeder.specs.Feeder.{Feeder, blank}
use Rattle.sweeps.specs.Lists.{feeder}
use Rattle.feeder.specs.Checked.{AllFine}
use Rattle.lines.specs.declared.change.Change.{Change}
use Rattle.lines.specs.declared.change.Change.TheVariants.{Set}
use Rattle.engine.specs.Changes.{touched}
use Rattle.engine.specs.Studies.{feeder_of}
use Rattle.engine.proofs.Fines.{fine_take, fine_at, fine_refigured, altered}
use Rattle.engine.proofs.Judges.{set_judged, in_ranges, step_done}
use Rattle.engine.proofs.Logged.{extends}
use Rattle.engine.proofs.study.Study.set.Goals as goal

pub returns-then-rate-gt100000-clause-logged : goal.returns-then-rate-gt100000-clause-logged
returns-then-rate-gt100000-clause-logged c = extends _ _ _ (search rules)

pub returns-in_err-at-clause-logged : goal.returns-in_err-at-clause-logged
returns-in_err-at-clause-logged c = extends _ _ _ (search rules)

pub invariant_of-self : goal.invariant_of-self
invariant_of-self c =
    let s = c.args.self.now in
    let a = c.args in
    let xs = s.lent.list.now in
    let i = c.in_ok-at.ensures in
    let k = c.in_ok-at.at in
    let l : k < s.count = omega (arith, i.0, i.1) in
    let least : 1 ≤ a.quarters = omega (arith, c.if-quarters-lt1.false) in
    let was = fine_at xs s.count k s.within l s.fine in
    let customers = c.if-customers-gt4000.false in
    let load = c.if-load-gt4000.false in
    let in_place : (u l : ℕ) → u ≤ 4000 → l ≤ 4000 → AllFine (take s.count (set xs k (touched (Set k a.rate a.quarters u l) (get_or xs k blank)))) = λ u v p q.
    fine_take xs s.count k _ s.within l s.fine (fine_refigured k (get_or xs k blank) a.rate a.quarters u v was c.if-rate-gt100000.false least c.if-quarters-gt672.false p q) in
    record { within = simp length-set s.within; few = s.few; low = s.low; high = s.high; fine = search (in_place, customers, load) }

pub returns : goal.returns
returns c =
    let s = c.args.self.now in
    let a = c.args in
    let xs = s.lent.list.now in
    let i = c.in_ok-at.ensures in
    let x : Change = Set a.k a.rate a.quarters a.customers a.load in
    let least : 1 ≤ a.quarters = omega (arith, c.if-quarters-lt1.false) in
    let good = in_ranges a.rate a.quarters a.customers a.load c.if-rate-gt100000.false least c.if-quarters-gt672.false c.if-customers-gt4000.false c.if-load-gt4000.false in
    let made : ℕ → Feeder = λ k. feeder (take s.count (set xs k (touched x (get_or xs k blank)))) s.switching in
    let step = step_done (feeder_of s) x (made c.in_ok-at.at) (set_judged xs s.count a.k s.switching a.rate a.quarters a.customers a.load s.within i.1 good)
    (ap made i.0 ∙ altered xs s.count a.k s.switching (touched x) i.1) in
    record { step = step; logged = extends _ (feeder_of s) _ step; rest = drop-set-lt s.count xs c.in_ok-at.at _ (omega (arith, i.0, i.1)) }
