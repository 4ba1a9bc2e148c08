use Rattle.std.proofs.Common.{sym, ap, ◌∙◌, rules}
use Rattle.std.proofs.lemmas.List.{get_or_default, places}
use Rattle.std.proofs.lemmas.Bool.{cond-true, cond-false}
use Rattle.feeder.specs.Feeder.{Feeder, cut, size, blank}
use Rattle.feeder.specs.Measure.{Meaning}
use Rattle.feeder.specs.Flows.{held}
use Rattle.sweeps.specs.Views.{shown}
use Rattle.sweeps.proofs.Turns.{written_holds}
use Rattle.sweeps.proofs.Views.{there}
use Rattle.sweeps.proofs.view.View.flow_at.Goals as goal

pub returns-then-section : goal.returns-then-section
unfolding cut
returns-then-section g c =
    let f : Feeder = shown c.args.self.now in
    let (l, is) = c.in_ok-section.ensures.lookup.3 in
    there f c.args.j _ _ l (c.nothing.ensures.value ∙ sym (cond-true _ _ _ (ap (λ s. s.switch) (sym (is blank)) ∙ c.if-section.true)))

pub returns : goal.returns
unfolding cut
returns g c =
    let μ : Meaning g.row.M-Value.Denot = g.M.Measure.meaning c.args.m.now in
    let f : Feeder = shown c.args.self.now in
    let few = c.args.self.now.few in
    let (l, is) = c.in_ok-section.ensures.lookup.3 in
    there f c.args.j _ _ l
    (get_or_default c.held_into.new.out c.args.j c.index-held-j.result μ.nothing (search (rules, places))
    ∙ written_holds (held μ f) (size f) _ _ μ.nothing c.held_into.ensures c.args.j l
    ∙ sym (cond-false _ _ _ (ap (λ s. s.switch) (sym (is blank)) ∙ c.if-section.false)))
