use Rattle.std.proofs.Common.{◌≡◌, length, sym, ◌∙◌, rules}
use Rattle.std.proofs.lemmas.Bool.{cond-true, le-leb}
use Rattle.std.proofs.lemmas.List.{places}
use Rattle.feeder.specs.Feeder.{size}
use Rattle.feeder.specs.Totals.{total}
use Rattle.feeder.specs.Flows.{held}
use Rattle.sweeps.specs.Views.{shown}
use Rattle.sweeps.proofs.Turns.{written_holds, written_front}
use Rattle.sweeps.proofs.view.View.totals_into.Goals as goal

pub spread-requires-clause-start : goal.spread-requires-clause-start
spread-requires-clause-start g c =
    let μ = g.M.Measure.meaning c.args.m.now in
    let f = shown c.args.self.now in
    written_holds (held μ f) (size f) _ _ μ.nothing c.held_into.ensures

pub returns-clause-totals : goal.returns-clause-totals
returns-clause-totals g c =
    let μ = g.M.Measure.meaning c.args.m.now in
    let f = shown c.args.self.now in
    let long : length c.spread.new.out ≡ size f = search (rules, places) in
    written_front (total μ f) (size f) _ c.args.out.now μ.nothing long c.spread.ensures ∙ sym (cond-true _ _ _ (le-leb _ _ c.if-out-n.false))
