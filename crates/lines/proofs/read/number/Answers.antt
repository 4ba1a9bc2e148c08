use Rattle.std.proofs.Common.{◌≡◌, ◌<◌, get_or, ap, ◌∙◌, arith}
use Rattle.std.specs.Str.Parse.{digits_value}
use Rattle.lines.proofs.Values.{refused, accepted}
use Rattle.lines.proofs.read.number.Goals as goal

pub returns-in-empty : goal.returns-in-empty
returns-in-empty c = λ n rest b.
    let r = refused c.args.text.now c.digits.result n rest c.digits.ensures b in
    grind arith

pub returns-in_err-value_of-in_default : goal.returns-in_err-value_of-in_default
returns-in_err-value_of-in_default c = rw c.from_residual.ensures (λ n rest b.
    let v = (refused c.args.text.now c.digits.result n rest c.digits.ensures b).2 in
    omega (arith, c.in_err-value_of-in_default.ensures, ap (digits_value 10) c.split_at.ensures.front))

pub returns-in_ok-value_of-in_default : goal.returns-in_ok-value_of-in_default
returns-in_ok-value_of-in_default c =
    let text = c.args.text.now in
    let k = c.digits.result in
    let v = c.in_ok-value_of-in_default.ensures ∙ ap (digits_value 10) c.split_at.ensures.front in
    let some : 0 < k = grind arith in
    let one : get_or text 0 0 ≡ 48 → k ≡ 1 = λ h. grind arith in
    rw (v, c.split_at.ensures.back) (accepted text k c.digits.ensures some one (omega arith))
