use Rattle.std.proofs.Common.{◌≡◌, ◌*◌, ℕ, List, ap₂, ◌∙◌, arith, rules}
use borrow.Author.Tests.{tests}
use Rattle.std.proofs.lemmas.Iterator.{YieldsList-from_slice, YieldsList-from_zip, YieldsList-from_map}
use Rattle.std.proofs.lemmas.Iterator.Adapters.{serves_from_places}
use Rattle.std.proofs.lemmas.Iterator.Consumers.{sum_by_from_yields_List, fits_by_from_yields_list, YieldsList-at}
use Rattle.std.specs.List.{zip}
use Rattle.feeder.specs.declared.section.Section.{Section}
use Rattle.feeder.specs.Feeder.{Feeder, Sound}
use Rattle.feeder.specs.Weighed.{weighted_sum}
use Rattle.sweeps.specs.Views.{shown}
use Rattle.sweeps.proofs.Shares.{share_of, share_at, shares_listed, listed_small}
use Rattle.sweeps.proofs.Views.{view_sound}
use Rattle.sweeps.proofs.view.View.add_up.Goals as goal

pub sum-requires-clause-can : goal.sum-requires-clause-can
sum-requires-clause-can g c =
    let μ = g.M.Measure.meaning c.args.m.now in
    let L = g.met.M.Measure.lawful c.args.m.now in
    let number = g.M.Weighed.number c.args.m.now in
    let W = g.met.M.Weighed.weighs c.args.m.now in
    let f : Feeder = shown c.args.self.now in
    let S : Sound f = view_sound c.args.self.now in
    let ys : List g.row.M-Value.Denot = c.args.totals.now in (
      (tt, tt),
      serves_from_places (YieldsList-from_zip (YieldsList-from_slice f.sections (cc)) (YieldsList-from_slice ys (cc))) (λ x q r. search (rules, tests))
          (λ x k l e κs p n ts is u of v num.
          let same : of.result * num.result ≡ share_of μ L number W c.args.by f S (x.0.now, x.1.now) = ap₂ ◌*◌ (rw c.map.ensures.closure at of.ensures) (rw c.map.ensures.closure at num.ensures.0) in
          omega (arith, same, share_at μ L number W c.args.by f S ys c.requires.room c.requires.told (x.0.now, x.1.now) k l e)),
    )

pub sum-requires-clause-fits : goal.sum-requires-clause-fits
sum-requires-clause-fits g c =
    let μ = g.M.Measure.meaning c.args.m.now in
    let L = g.met.M.Measure.lawful c.args.m.now in
    let number = g.M.Weighed.number c.args.m.now in
    let W = g.met.M.Weighed.weighs c.args.m.now in
    let f : Feeder = shown c.args.self.now in
    let S : Sound f = view_sound c.args.self.now in
    let ys : List g.row.M-Value.Denot = c.args.totals.now in
    let h : Section × g.row.M-Value.Denot → ℕ = share_of μ L number W c.args.by f S in
    fits_by_from_yields_list h (zip f.sections ys) c.map.result _
    (YieldsList-from_map _ h (YieldsList-at c.map.ensures.source (YieldsList-from_zip (YieldsList-from_slice f.sections (cc)) (YieldsList-from_slice ys (cc)))) c.map.ensures.closure (λ x r q k. search (rules, tests)))
    (listed_small μ L number W c.args.by f S ys c.requires.room c.requires.told)

pub returns : goal.returns
unfolding weighted_sum
returns g c =
    let μ = g.M.Measure.meaning c.args.m.now in
    let L = g.met.M.Measure.lawful c.args.m.now in
    let number = g.M.Weighed.number c.args.m.now in
    let W = g.met.M.Weighed.weighs c.args.m.now in
    let f : Feeder = shown c.args.self.now in
    let S : Sound f = view_sound c.args.self.now in
    let ys : List g.row.M-Value.Denot = c.args.totals.now in
    let h : Section × g.row.M-Value.Denot → ℕ = share_of μ L number W c.args.by f S in
    sum_by_from_yields_List h (zip f.sections ys) c.map.result _ c.sum.ensures.ran
    (YieldsList-from_map _ h (YieldsList-at c.map.ensures.source (YieldsList-from_zip (YieldsList-from_slice f.sections (cc)) (YieldsList-from_slice ys (cc)))) c.map.ensures.closure (λ x r q k. search (rules, tests)))
    ∙ shares_listed μ L number W c.args.by f S ys c.requires.room c.requires.told
