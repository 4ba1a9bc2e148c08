use Rattle.std.proofs.Common.{sym, ap, ◌∙◌, arith}
use Rattle.feeder.specs.Feeder.{Feeder, Sound, up, cut}
use Rattle.feeder.specs.Tree.{head}
use Rattle.sweeps.specs.Views.{shown}
use Rattle.sweeps.proofs.Steps.{head_here, head_above, T}
use Rattle.sweeps.proofs.Views.{view_sound, parent_at, root_at}
use Rattle.sweeps.proofs.view.View.head_of.Goals as goal

pub loop-h-preserved : goal.loop-h-preserved
unfolding cut
loop-h-preserved c =
    let v = c.args.self.now in
    let r = parent_at v c.loop-h.h c.in-Some.p c.loop-h.invariant.0 c.in-Some.is in
    (omega (arith, r.2, c.loop-h.invariant.0), head_above (shown v) (view_sound v) c.loop-h.h _ r.0 c.loop-h-test.true (omega (arith, r.1)) ∙ c.loop-h.invariant.1)

pub returns-after-loop-h : goal.returns-after-loop-h
unfolding cut
returns-after-loop-h c =
    sym (head_here (shown c.args.self.now) (view_sound c.args.self.now) c.loop-h.h c.loop-h-test.false) ∙ c.loop-h.invariant.1

pub returns-in-loop-h : goal.returns-in-loop-h
returns-in-loop-h c =
    let f : Feeder = shown c.args.self.now in
    let S : Sound f = view_sound c.args.self.now in
    let z = root_at c.args.self.now c.loop-h.h c.loop-h.invariant.0 (cc) in
    z ∙ sym (ap (head (up f) (cut f)) z ∙ (T f S).head_root) ∙ c.loop-h.invariant.1
