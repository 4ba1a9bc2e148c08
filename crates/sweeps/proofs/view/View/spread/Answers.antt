use Rattle.std.proofs.Common.{◌≡◌, ℕ, ◌+◌, ◌≤◌, List, length, get_or, set, sym, subst, arith}
use Rattle.std.proofs.lemmas.List.{get_or_read}
use Rattle.feeder.specs.Feeder.{Feeder, Sound, cut, size}
use Rattle.feeder.specs.Measure.{Meaning}
use Rattle.feeder.specs.Totals.{far_total}
use Rattle.sweeps.specs.Views.{shown}
use Rattle.sweeps.proofs.Turns.{Risen, rise_root, rise_bare, rise_switched}
use Rattle.sweeps.proofs.Views.{view_sound, parent_at, root_at}
use Rattle.sweeps.proofs.view.View.spread.Goals as goal
use Rattle.sweeps.proofs.view.View.spread.Goals.{in-None, in-Some+then-section, in-Some+else-section}

pub loop-j-preserved : goal.loop-j-preserved
unfolding cut
loop-j-preserved g c =
    let V = g.row.M-Value.Denot in
    let μ : Meaning V = g.M.Measure.meaning c.args.m.now in
    let L = g.met.M.Measure.lawful c.args.m.now in
    let v = c.args.self.now in
    let f : Feeder = shown v in
    let S : Sound f = view_sound v in
    let i : ℕ = c.loop-j.j in
    let out : List V = c.loop-j.out in
    let room : size f ≤ length out = omega arith in
    let base = c.requires.base in
    elim c.match-section.branch [
      | in-None w ↦
          let at_i = get_or_read out i w.index-out-j.result (omega arith) w.index-out-j.is μ.nothing in
          let is = w.out-is in
          let e = w.join.ensures in
          let new : c.match-section.out ≡ set out i (μ.join (far_total μ f) (get_or out i μ.nothing)) = cc in
          subst (λ (xs : List V). Risen μ f (i + 1) xs) (sym new) (rise_root μ L f S i out (root_at v i (omega arith) w.in-None.is) room c.loop-j.invariant)
      | in-Some+then-section w ↦
          let r = parent_at v i w.in-Some.p (omega arith) w.in-Some.is in
          let p : ℕ = w.from.result in
          let at_p = get_or_read out p w.index-out-from.result (omega (arith, r.2)) w.index-out-from.is μ.nothing in
          let at_i = get_or_read out i w.index-out-j-then-section.result (omega arith) w.index-out-j-then-section.is μ.nothing in
          let is = w.out-is in
          let e = w.join-then-section.ensures in
          let new : c.match-section.out ≡ set out i (μ.join (get_or out p μ.nothing) (get_or out i μ.nothing)) = cc in
          subst (λ (xs : List V). Risen μ f (i + 1) xs) (sym new)
          (rise_switched μ L f S i p out r.0 (omega arith) room w.if-section.true (omega (arith, r.1)) (omega (arith, r.2)) c.loop-j.invariant)
      | in-Some+else-section w ↦
          let r = parent_at v i w.in-Some.p (omega arith) w.in-Some.is in
          let p : ℕ = w.from.result in
          let at_p = get_or_read out p w.index-out-from.result (omega (arith, r.2)) w.index-out-from.is μ.nothing in
          let is = w.out-is in
          let new : c.match-section.out ≡ set out i (get_or out p μ.nothing) = cc in
          subst (λ (xs : List V). Risen μ f (i + 1) xs) (sym new)
          (rise_bare μ L f S i p out r.0 (omega arith) room w.if-section.false (omega (arith, r.1)) (omega (arith, r.2)) c.loop-j.invariant)
    ]
