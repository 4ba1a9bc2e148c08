use Rattle.std.proofs.Common.{◌≡◌, [], take, ap, ◌∙◌, arith}
use Rattle.std.proofs.lemmas.List.{take-take, length-take}
use Rattle.stream.proofs.lines.Lines.end_with.Goals as goal

pub returns-clause-given : goal.returns-clause-given
returns-clause-given c = λ part h.
    let rest = c.args.rest.now in
    let len = c.args.len in
    let none : part ≡ [] = grind arith in
    let front : take len c.in-Some.room.now ≡ take len rest = ap (take len) c.in-Some.ensures.cases.same ∙ take-take len 64 rest (omega arith) in
    rw none (omega (arith, length-take len rest), c.front.ensures ∙ front)

pub returns-2-clause-given : goal.returns-2-clause-given
returns-2-clause-given c = λ part h. c.end_line.ensures.given _ (c.take.ensures part h)
