use Rattle.std.proofs.Common.{◌≡◌, length, ap, ◌∙◌, add-one, arith}
use Rattle.feeder.specs.Totals.{join_over, far_total, far_effect}
use Rattle.sweeps.specs.Views.{shown}
use Rattle.sweeps.proofs.view.View.far_total.Goals as goal

pub loop-k-init : goal.loop-k-init
unfolding join_over
loop-k-init g c = c.nothing-sum.ensures.value

pub loop-k-preserved : goal.loop-k-preserved
unfolding join_over
loop-k-preserved g c =
    let μ = g.M.Measure.meaning c.args.m.now in
    let joined = c.join-sum.ensures in
    let far = c.effect.ensures in
    let time = c.min-time.ensures in
    let old = c.loop-k.invariant in
    let next = ap (λ n. join_over μ.nothing μ.join n (far_effect μ (shown c.args.self.now))) (add-one c.loop-k.k) in
    cc

pub returns : goal.returns
unfolding far_total
returns g c =
    let μ = g.M.Measure.meaning c.args.m.now in
    let end : c.loop-k.k ≡ length c.args.self.now.sections.now = omega arith in
    c.loop-k.invariant ∙ ap (λ n. join_over μ.nothing μ.join n (far_effect μ (shown c.args.self.now))) end
