use Rattle.std.proofs.Common.{rules, ◌≡◌, ◌<◌, true, leb, None, Ok, sym, ap, ◌∙◌, arith, get_or, le-leb}
use Rattle.std.proofs.lemmas.Bool.{cond-true}
use Rattle.feeder.specs.Feeder.{Feeder, size}
use Rattle.feeder.specs.Measure.{Meaning}
use Rattle.feeder.specs.Totals.{total}
use Rattle.feeder.proofs.Totals.{tree}
use Rattle.sweeps.proofs.Turns.{written_holds}
use Rattle.sweeps.specs.Views.{shown}
use Rattle.engine.specs.Questions.{total_of}
use Rattle.engine.specs.Studies.{feeder_of}
use Rattle.engine.proofs.Asked.{alike_by, switch_spares, answered}
use Rattle.engine.proofs.Replies.{before_end}
use Rattle.engine.proofs.Sounds.{size_is, sound_if}
use Rattle.engine.proofs.study.Study.total.Goals as goal

pub returns-in_err-at-clause-alike : goal.returns-in_err-at-clause-alike
returns-in_err-at-clause-alike g c = alike_by (total_of (g.M.Measure.meaning c.args.m.now) c.args.node) _ _ (search rules)

pub returns-in_err-at-clause-spares : goal.returns-in_err-at-clause-spares
returns-in_err-at-clause-spares g c =
    let s = c.args.self.now in
    switch_spares (g.M.Measure.meaning c.args.m.now) (g.met.M.Measure.lawful c.args.m.now) (feeder_of s) (sound_if s)

pub returns-in_err-at-clause-words : goal.returns-in_err-at-clause-words
returns-in_err-at-clause-words g c = tree

pub returns : goal.returns
returns g c =
    let s = c.args.self.now in
    let f : Feeder = feeder_of s in
    let h : Feeder = shown c.in_ok-v.v in
    let e : h ≡ f = c.in_ok-v.ensures.1 in
    let k = c.args.node in
    let μ : Meaning g.row.M-Value.Denot = g.M.Measure.meaning c.args.m.now in
    let few = s.few in
    let n : size h ≡ s.count = ap size e ∙ size_is s in
    let i = c.in_ok-at.ensures in
    let l : c.in_ok-at.at < size h = omega (arith, n, i.0, i.1) in
    let fits : leb (size h) 1024 ≡ true = le-leb _ _ (omega (arith, n, few)) in
    let value : get_or c.totals_into.new.out c.in_ok-at.at c.index-totals-at.result ≡ total μ f k =
    written_holds (total μ h) (size h) _ _ _ (c.totals_into.ensures.totals ∙ cond-true _ _ _ fits) c.in_ok-at.at l
    ∙ ap (λ (x : Feeder). total μ x c.in_ok-at.at) e
    ∙ ap (total μ f) i.0 in
    let told : Ok (get_or c.totals_into.new.out c.in_ok-at.at c.index-totals-at.result) ≡ total_of μ k f = ap Ok value ∙ sym (answered _ _ (before_end s k None i.1)) in
    record { answer = told; alike = alike_by (total_of μ k) _ _ told; spares = switch_spares μ (g.met.M.Measure.lawful c.args.m.now) f (sound_if s); words = tree }
