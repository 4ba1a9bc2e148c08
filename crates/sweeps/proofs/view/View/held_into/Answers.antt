use Rattle.std.proofs.Common.{◌≡◌, length, rules}
use Rattle.std.proofs.lemmas.List.{places}
use Rattle.feeder.specs.Feeder.{size}
use Rattle.feeder.specs.Flows.{held}
use Rattle.sweeps.specs.Views.{shown}
use Rattle.sweeps.proofs.Turns.{written_front}
use Rattle.sweeps.proofs.view.View.held_into.Goals as goal

pub returns : goal.returns
returns g c =
    let μ = g.M.Measure.meaning c.args.m.now in
    let f = shown c.args.self.now in
    let long : length c.gather.new.out ≡ size f = search (rules, places) in
    written_front (held μ f) (size f) _ c.args.out.now μ.nothing long c.gather.ensures
