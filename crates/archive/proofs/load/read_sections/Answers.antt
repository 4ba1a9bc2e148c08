use Rattle.std.proofs.Common.{◌≡◌, ℕ, ◌<◌, List, length, take, sym, ◌∙◌, subst, arith}
use Rattle.std.proofs.lemmas.Result.{err_from_is_err_and}
use Rattle.std.proofs.lemmas.List.{take_more_set, length-take-le}
use Rattle.archive.specs.Records.{Faulty}
use Rattle.archive.specs.Archives.{Records}
use Rattle.feeder.specs.declared.section.Section.{Section}
use Rattle.archive.proofs.Laying.{records_push}
use Rattle.archive.proofs.load.read_sections.Goals as goal

pub returns-in_err-slot : goal.returns-in_err-slot
returns-in_err-slot c =
    let p = err_from_is_err_and c.from_residual.result c.from_residual.ensures.1 in
    let i = c.loop-i.i in
    let xs = take i c.loop-i.list in
    let l : length xs ≡ i = length-take-le i c.loop-i.list (omega arith) in
    let h = c.in_err-slot.ensures in
    rw (p.1, p.2)
    (xs, c.loop-i.at, omega arith, c.loop-i.invariant, h.0 ∙ sym l, subst (λ (y : ℕ). Faulty c.args.bytes.now c.loop-i.at y c.in_err-slot.field-0.0.fault) (sym l) h.1)

pub loop-i-preserved : goal.loop-i-preserved
loop-i-preserved c =
    let i = c.loop-i.i in
    let xs = take i c.loop-i.list in
    let w : i < length c.loop-i.list = omega arith in
    let l : length xs ≡ i = length-take-le i c.loop-i.list (omega arith) in
    let h = c.in_ok-slot.ensures in
    subst (λ (ys : List Section). Records c.args.bytes.now 0 4 ys c.in_ok-slot.field-0-1) (sym (take_more_set c.loop-i.list i c.in_ok-slot.field-0-0 w))
    (records_push c.args.bytes.now 0 4 xs c.loop-i.at i h.0 c.in_ok-slot.field-0-1 c.in_ok-slot.field-0-0 (omega arith) c.loop-i.invariant h.1 h.2)
