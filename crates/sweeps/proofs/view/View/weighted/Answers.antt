use Rattle.std.proofs.Common.{◌∙◌, arith}
use Rattle.std.proofs.lemmas.Bool.{le-leb, cond-true}
use Rattle.feeder.specs.Feeder.{size}
use Rattle.feeder.specs.Totals.{total}
use Rattle.feeder.proofs.Weights.{weighed_at}
use Rattle.sweeps.specs.Views.{shown}
use Rattle.sweeps.specs.Weights.{weight_of}
use Rattle.sweeps.proofs.Shares.{light}
use Rattle.sweeps.proofs.Turns.{written_holds}
use Rattle.sweeps.proofs.Views.{view_sound}
use Rattle.sweeps.proofs.view.View.weighted.Goals as goal

pub add_up-requires-clause-told : goal.add_up-requires-clause-told
add_up-requires-clause-told g c =
    let μ = g.M.Measure.meaning c.args.m.now in
    let f = shown c.args.self.now in
    written_holds (total μ f) (size f) _ _ μ.nothing (c.totals_into.ensures.totals ∙ cond-true _ _ _ (le-leb _ _ c.args.self.now.few))

pub returns-clause-value : goal.returns-clause-value
returns-clause-value g c = c.add_up.ensures

pub returns-clause-small : goal.returns-clause-small
returns-clause-small g c =
    let m = c.args.m.now in
    let f = shown c.args.self.now in
    let w = weighed_at (g.M.Measure.meaning m) (g.met.M.Measure.lawful m) (g.M.Weighed.number m) (g.met.M.Weighed.weighs m) (weight_of c.args.by) (light c.args.by) f (view_sound c.args.self.now) in
    omega (arith, c.add_up.ensures, w.sum_small)
