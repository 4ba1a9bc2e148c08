use Rattle.std.proofs.Common.{arith}
use Rattle.lines.proofs.Values.{value_step}
use Rattle.lines.proofs.read.value_of.Goals as goal

pub returns-in_err-checked_mul : goal.returns-in_err-checked_mul
returns-in_err-checked_mul c =
    let v = value_step c.args.digits.now c.loop-b.b-index c.requires (omega arith) in
    rw c.from_residual.ensures (omega (arith, c.in_err-checked_mul.ensures))

pub returns-in_err-n : goal.returns-in_err-n
returns-in_err-n c =
    let v = value_step c.args.digits.now c.loop-b.b-index c.requires (omega arith) in
    rw c.from_residual-in_err-n.ensures (omega (arith, c.in_err-n.ensures, c.in_ok-checked_mul.ensures))

pub loop-b-preserved : goal.loop-b-preserved
loop-b-preserved c =
    let v = value_step c.args.digits.now c.loop-b.b-index c.requires (omega arith) in
    omega (arith, c.in_ok-n.ensures, c.in_ok-checked_mul.ensures)
