use Rattle.std.proofs.Common.{◌≡◌, ℕ, List, length, take, get_or, ap, ◌∙◌, rules}
use Rattle.std.proofs.lemmas.Bool.{le-leb, cond-true}
use Rattle.std.proofs.lemmas.List.{get_or-take, places}
use Rattle.feeder.specs.Feeder.{size}
use Rattle.feeder.specs.Totals.{total}
use Rattle.sweeps.specs.Views.{shown}
use Rattle.sweeps.proofs.Turns.{written_holds}
use Rattle.sweeps.proofs.Shares.{largest_same}
use Rattle.sweeps.proofs.view.View.worst.Goals as goal

pub returns : goal.returns
returns g c =
    let μ = g.M.Measure.meaning c.args.m.now in
    let number = g.M.Weighed.number c.args.m.now in
    let f = shown c.args.self.now in
    let n : ℕ = size f in
    let few = c.args.self.now.few in
    let out : List g.row.M-Value.Denot = c.totals_into.new.out in
    let long : length (take n out) ≡ n = search (rules, places) in
    let told = written_holds (total μ f) n _ _ μ.nothing (c.totals_into.ensures.totals ∙ cond-true _ _ _ (le-leb _ _ few)) in
    largest_same (λ j. number (get_or (take n out) j μ.nothing)) (λ j. number (total μ f j)) (length (take n out)) n c.largest.result long (λ j l. ap number (get_or-take n out j μ.nothing l ∙ told j l)) c.largest.ensures
