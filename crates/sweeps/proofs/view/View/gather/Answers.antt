use Rattle.std.proofs.Common.{◌≡◌, ℕ, ◌+◌, ◌-◌, ◌≤◌, List, length, get_or, set, sym, subst, arith}
use Rattle.std.proofs.lemmas.List.{get_or_read}
use Rattle.feeder.specs.Feeder.{Feeder, Sound, cut, size}
use Rattle.feeder.specs.Measure.{Meaning}
use Rattle.sweeps.specs.Views.{shown}
use Rattle.sweeps.proofs.Turns.{Staged, turn_skip, turn_join, first_stage, last_stage}
use Rattle.sweeps.proofs.Views.{view_sound, parent_at, root_at}
use Rattle.sweeps.proofs.view.View.gather.Goals as goal
use Rattle.sweeps.proofs.view.View.gather.Goals.{else-not-section-via-else-not-section, else-not-section-via-then-not-section+in-None-1}

pub loop-j-init : goal.loop-j-init
loop-j-init g c =
    let v = c.args.self.now in
    (v.some, first_stage (g.M.Measure.meaning c.args.m.now) (g.met.M.Measure.lawful c.args.m.now) (shown v) (view_sound v) c.args.out.now c.requires.start)

pub loop-j-preserved-in-loop-j : goal.loop-j-preserved-in-loop-j
unfolding cut
loop-j-preserved-in-loop-j g c =
    let μ : Meaning g.row.M-Value.Denot = g.M.Measure.meaning c.args.m.now in
    let L = g.met.M.Measure.lawful c.args.m.now in
    let f : Feeder = shown c.args.self.now in
    let S : Sound f = view_sound c.args.self.now in
    let i : ℕ = c.loop-j.j - 1 in
    let p : ℕ = c.from-parent.result in
    let out : List g.row.M-Value.Denot = c.loop-j.out in
    let r = parent_at c.args.self.now i c.in-Some.p (omega arith) c.in-Some.is in
    let e : c.loop-j.j ≡ i + 1 = omega arith in
    let room : size f ≤ length out = omega arith in
    let at_p = get_or_read out p c.index-out-parent.result (omega arith) c.index-out-parent.is μ.nothing in
    let at_i = get_or_read out i c.index-out-j.result (omega arith) c.index-out-j.is μ.nothing in
    let v : c.join.result ≡ μ.join (get_or out p μ.nothing) (get_or out i μ.nothing) = let e = c.join.ensures in cc in (
      omega arith,
      subst (λ (x : g.row.M-Value.Denot). Staged μ L f S i (set out p x)) (sym v)
          (turn_join μ L f S i p out (omega arith) (omega arith) c.if-not-section.true (omega (arith, r.1)) (omega (arith, r.2)) room
          (subst (λ (x : ℕ). Staged μ L f S x out) e c.loop-j.invariant.1)),
    )

pub loop-j-preserved : goal.loop-j-preserved
unfolding cut
loop-j-preserved g c =
    let μ = g.M.Measure.meaning c.args.m.now in
    let L = g.met.M.Measure.lawful c.args.m.now in
    let f : Feeder = shown c.args.self.now in
    let S : Sound f = view_sound c.args.self.now in
    let i : ℕ = c.loop-j.j - 1 in
    let e : c.loop-j.j ≡ i + 1 = omega arith in (
      omega arith,
      elim c.else-not-section.branch [
        | else-not-section-via-else-not-section w ↦
            turn_skip μ L f S i c.loop-j.out (omega arith) w.if-not-section.false
            (subst (λ (x : ℕ). Staged μ L f S x c.loop-j.out) e c.loop-j.invariant.1)
        | else-not-section-via-then-not-section+in-None-1 w ↦ absurd (omega (arith, root_at c.args.self.now i (omega arith) (cc)))
      ],
    )

pub returns : goal.returns
returns g c =
    let v = c.args.self.now in
    last_stage (g.M.Measure.meaning c.args.m.now) (g.met.M.Measure.lawful c.args.m.now) (shown v) (view_sound v) c.loop-j.j c.loop-j.out (omega (arith, c.loop-j.invariant.0)) c.loop-j.invariant.1
