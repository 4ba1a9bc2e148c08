use Rattle.std.proofs.Common.{◌≡◌, ℕ, ◌+◌, false, sym, refl, ap, ◌∙◌, ap₂, arith}
use Rattle.std.proofs.lemmas.Bool.{cond-true, cond-false}
use Rattle.feeder.specs.Feeder.{Feeder, Sound, up, figures, size}
use Rattle.feeder.specs.Tree.{below}
use Rattle.feeder.specs.Totals.{join_over}
use Rattle.feeder.specs.Weighed.{sum_over, weight_below}
use Rattle.sweeps.specs.Views.{shown}
use Rattle.sweeps.specs.Weights.{weight_of}
use Rattle.sweeps.proofs.Shares.{light}
use Rattle.sweeps.proofs.Steps.{part, parts_small, holds_more, sum_more}
use Rattle.sweeps.proofs.Views.{view_sound}
use Rattle.sweeps.proofs.view.View.weight_below.Goals as goal
use Rattle.sweeps.proofs.view.View.weight_below.Goals.{then-under, else-under}

pub loop-k-init : goal.loop-k-init
unfolding join_over
loop-k-init c = (λ j l. absurd (omega arith), refl)

pub overflow_add-sum : goal.overflow_add-sum
overflow_add-sum c =
    let v = c.args.self.now in
    let f : Feeder = shown v in
    let S : Sound f = view_sound v in
    let k : ℕ = c.loop-k.k in
    let few = v.few in
    omega (arith, c.loop-k.invariant.1, c.of-sum.ensures, light c.args.by k (figures f k) v.switching (S.ranges k (omega arith)), parts_small f S c.args.by c.args.j k (omega arith))

pub loop-k-preserved : goal.loop-k-preserved
loop-k-preserved c =
    let v = c.args.self.now in
    let f : Feeder = shown v in
    let k : ℕ = c.loop-k.k in
    let g : ℕ → ℕ = part f c.args.by c.args.j in
    let is = c.is_below-under.ensures in
    let old = c.loop-k.invariant.1 in
    let few = v.few in (
      holds_more false (λ i. below (up f) i c.args.j) k c.loop-k.known c.is_below-under.result (omega arith) is c.loop-k.invariant.0,
      elim c.if-under.branch [
        | then-under w ↦
            let here : g k ≡ weight_of c.args.by (figures f k) = cond-true _ _ _ (sym is ∙ w.if-under.true) in
            w.sum-is ∙ ap₂ ◌+◌ old (w.of-sum.ensures ∙ sym here) ∙ sym (sum_more g k)
        | else-under w ↦
            let here : g k ≡ 0 = cond-false _ _ _ (sym is ∙ w.if-under.false) in
            w.sum-is ∙ omega (arith, old, here, sum_more g k)
      ],
    )

pub returns : goal.returns
unfolding weight_below
returns c =
    let v = c.args.self.now in
    let f : Feeder = shown v in
    let g : ℕ → ℕ = part f c.args.by c.args.j in
    let few = v.few in
    let value : c.loop-k.sum ≡ sum_over (size f) g = c.loop-k.invariant.1 ∙ ap (λ n. sum_over n g) (omega arith) in
    record { value = value; small = omega (arith, value, parts_small f (view_sound v) c.args.by c.args.j (size f) (omega arith)) }
