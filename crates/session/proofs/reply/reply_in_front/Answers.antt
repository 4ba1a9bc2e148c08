use Rattle.std.proofs.Common.{◌≡◌, ℕ, List, take, Ok, Result, sym, ap, ◌∙◌, subst, arith, length-take-le}
use Rattle.feeder.specs.Feeder.{Feeder}
use Rattle.lines.specs.declared.refusal.Refusal.{Refusal}
use Rattle.stream.specs.Streams.{Delivers}
use Rattle.engine.specs.Studies.{feeder_of}
use Rattle.console.specs.Laws.{Lined}
use Rattle.session.proofs.Parts.{behind_front}
use Rattle.session.proofs.Talks.{heard, never_short}
use Rattle.session.proofs.reply.reply_in_front.Goals as goal

pub returns-clause-heard : goal.returns-clause-heard
returns-clause-heard c =
    let f : Feeder = feeder_of c.args.study.now in
    let g : Feeder = feeder_of c.answer_input.new.study in
    let front = take 64 c.args.out.now in
    let after = c.answer_input.new.out in
    let n = c.unwrap_or.result in
    let room = length-take-le 64 c.args.out.now c.requires in
    let is : c.answer_input.result ≡ Ok n = never_short _ _ c.answer_input.ensures.fits (omega (arith, room)) ∙ ap Ok (sym c.unwrap_or.ensures) in
    let lined : (l : List ℕ) → Delivers l c.args.input.now → Lined l front f (Ok n) after g = λ l d. subst (λ (r : Result ℕ Refusal). Lined l front f r after g) is (c.answer_input.ensures.lined l d) in
    let h = heard c.args.input.now front f n after g lined in
    record { line = h.line; reads = h.reads; size = h.size; small = h.small; list = behind_front 64 n c.args.out.now after _ h.small h.size h.list; feeder = h.feeder }
