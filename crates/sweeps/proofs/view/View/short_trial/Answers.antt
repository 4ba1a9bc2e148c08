use Rattle.std.proofs.Common.{◌+◌, ◌*◌, ◌≤◌, sym, ap, ◌∙◌, ap₂, mul-le-mul, arith}
use Rattle.feeder.specs.Feeder.{Feeder, fitted}
use Rattle.feeder.specs.Weighed.{weighted_sum}
use Rattle.feeder.proofs.Weights.{flow_small, weighed_at}
use Rattle.sweeps.specs.Views.{shown}
use Rattle.sweeps.specs.Weights.{weight_of}
use Rattle.sweeps.proofs.Shares.{light}
use Rattle.sweeps.proofs.Views.{view_sound, is_there}
use Rattle.sweeps.proofs.view.View.short_trial.Goals as goal

pub overflow_mul-result : goal.overflow_mul-result
overflow_mul-result g c =
    let m = c.args.m.now in
    let asked = is_there (shown c.args.self.now) c.args.j _ _ c.in_ok-flow_at.ensures in
    let is = c.number-flow.ensures.value ∙ ap (g.M.Weighed.number m) asked.1 in
    let small = flow_small (g.M.Measure.meaning m) (g.met.M.Measure.lawful m) (g.M.Weighed.number m) (g.met.M.Weighed.weighs m) (weight_of c.args.by) (light c.args.by)
    (shown c.args.self.now) (view_sound c.args.self.now) c.args.j in
    let flow : c.number-flow.result ≤ 1032192000000 = omega (arith, is, small) in
    omega (arith, mul-le-mul flow c.weight_shielded-weight.ensures.small)

pub returns-clause-law : goal.returns-clause-law
returns-clause-law g c pos bare =
    let m = c.args.m.now in
    let μ = g.M.Measure.meaning m in
    let number = g.M.Weighed.number m in
    let w = weight_of c.args.by in
    let f : Feeder = shown c.args.self.now in
    let asked = is_there f c.args.j _ _ c.in_ok-flow_at.ensures in
    (weighed_at μ (g.met.M.Measure.lawful m) number (g.met.M.Weighed.weighs m) w (light c.args.by) f (view_sound c.args.self.now)).trial c.args.j pos asked.0 bare
    ∙ ap (λ x. weighted_sum μ number w (fitted f c.args.j) + x) (sym (ap₂ ◌*◌ (c.number-flow.ensures.value ∙ ap number asked.1) c.weight_shielded-weight.ensures.value))
