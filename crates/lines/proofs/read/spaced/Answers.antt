use Rattle.std.proofs.Common.{ℕ, ◌^◌, ◌<◌, length, take, sym, ◌∙◌, subst, arith}
use Rattle.std.proofs.lemmas.List.{length-set, take_more_set}
use Rattle.std.proofs.ByRecursion.{All-push}
use Rattle.lines.specs.Lines.{Small}
use Rattle.lines.proofs.Fields.{next, more, spaced_one}
use Rattle.lines.proofs.read.spaced.Goals as goal

pub loop-n-preserved : goal.loop-n-preserved
loop-n-preserved g c =
    let inv = c.loop-n.invariant in
    let all = c.loop-n.n-items in
    let left = c.loop-n.left.now in
    let i = c.loop-n.n-index in
    let n = c.in_ok-n.field-0-0 in
    let f = c.in_ok-n.ensures in
    let lt : i < length all = omega arith in (
      length-set all i n ∙ inv.0,
      subst Small (sym (take_more_set all i n lt)) (All-push (λ (x : ℕ). x < 2 ^ 32) (take i all) n inv.1 f.0),
      more c.args.text.now all left c.in_ok-n.field-0-1.now i n lt inv.2 f,
      λ ns h. (spaced_one left n _ c.in_ok-n.field-0-1.now _ f (next ns left i (omega (arith, h.0)) h.1 (inv.3 ns h))).1,
    )

pub returns-in_err-n : goal.returns-in_err-n
returns-in_err-n g c = rw c.from_residual.ensures (λ ns h.
    c.in_err-n.ensures _ _ (next ns c.loop-n.left.now c.loop-n.n-index (omega (arith, h.0)) h.1 (c.loop-n.invariant.3 ns h)))
