use Rattle.std.proofs.Common.{◌-◌, ap, ◌∙◌, ap₂, arith}
use Rattle.feeder.specs.Feeder.{Feeder}
use Rattle.feeder.specs.Weighed.{weight_below, shielded}
use Rattle.feeder.proofs.Weights.{shields}
use Rattle.sweeps.specs.Views.{shown}
use Rattle.sweeps.specs.Weights.{weight_of}
use Rattle.sweeps.proofs.Views.{view_sound}
use Rattle.sweeps.proofs.view.View.weight_shielded.Goals as goal

pub overflow_sub-result : goal.overflow_sub-result
overflow_sub-result c =
    let f : Feeder = shown c.args.self.now in
    let above = c.weight_below.ensures.value ∙ ap (weight_below (weight_of c.args.by) f) c.head_of-head.ensures in
    omega (arith, above, c.weight_below-2.ensures.value, shields (weight_of c.args.by) f (view_sound c.args.self.now) c.args.j)

pub returns-clause-value : goal.returns-clause-value
unfolding shielded
returns-clause-value c =
    ap₂ ◌-◌ (c.weight_below.ensures.value ∙ ap (weight_below (weight_of c.args.by) (shown c.args.self.now)) c.head_of-head.ensures) c.weight_below-2.ensures.value
