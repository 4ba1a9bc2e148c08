use Rattle.std.proofs.Common.{length, Err, refl, subst}
use Rattle.feeder.specs.Feeder.{Feeder}
use Rattle.lines.specs.declared.answer.Answer.{Answer}
use Rattle.lines.specs.declared.refusal.Refusal.TheVariants.{Short}
use Rattle.lines.specs.Answers.{Answered}
use Rattle.engine.proofs.Asked.{alike}
use Rattle.engine.proofs.Logged.{extends}
use Rattle.engine.specs.Studies.{feeder_of}
use Rattle.console.specs.Laws.{LineAnswer}
use Rattle.console.specs.Replies.{said}
use Rattle.console.proofs.Four.{four_sections}
use Rattle.console.proofs.Steps.{short_step, long_step, line_one}
use Rattle.console.proofs.answer.answer_line.Goals as goal

pub returns-then-out-lt-ROOM : goal.returns-then-out-lt-ROOM
returns-then-out-lt-ROOM c =
    let f : Feeder = feeder_of c.args.study.now in
    let text = c.args.text.now in
    let before = c.args.out.now in
    let o = c.read_line-line.result in
    let read = c.read_line-line.ensures in
    let written : Answered (said o f) before (Err Short) before = record { under = c.if-out-lt-ROOM.true; short = refl; kept = refl } in
    let step = short_step o (length before) f before c.if-out-lt-ROOM.true in
    record {
      lined = record { line = o; reads = read.reads; answer = written; step = step; logged = extends _ f f step };
      alike = alike (LineAnswer text before) (line_one text before) f (Err Short, before) (o, read.reads, written);
      rest = refl;
      example = four_sections;
    }

pub returns : goal.returns
returns c =
    let f : Feeder = feeder_of c.args.study.now in
    let g : Feeder = feeder_of c.put-answer.new.study in
    let text = c.args.text.now in
    let before = c.args.out.now in
    let o = c.read_line-line.result in
    let read = c.read_line-line.ensures in
    let after = c.write_answer.new.out in
    let r = c.write_answer.result in
    let written : Answered (said o f) before r after = subst (λ (a : Answer). Answered a before r after) c.put-answer.ensures.answer c.write_answer.ensures in
    let step = long_step o f g before after r c.if-out-lt-ROOM.false written c.put-answer.ensures.feeder in
    record {
      lined = record { line = o; reads = read.reads; answer = written; step = step; logged = extends _ f g step };
      alike = alike (LineAnswer text before) (line_one text before) f (r, after) (o, read.reads, written);
      rest = c.put-answer.ensures.rest;
      example = four_sections;
    }
