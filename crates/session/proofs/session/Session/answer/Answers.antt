use Rattle.std.proofs.Common.{Option, ◌∙◌, subst, arith}
use Rattle.std.specs.List.{between}
use Rattle.session.specs.Talks.{Input}
use Rattle.stream.specs.Streams.{Feeds}
use Rattle.engine.specs.Studies.{feeder_of}
use Rattle.session.proofs.Talks.{turn_line, turn_none, past_more}
use Rattle.session.proofs.session.Session.answer.Goals as goal

pub loop-at-preserved-in-Some : goal.loop-at-preserved-in-Some
loop-at-preserved-in-Some c =
    let i = c.loop-at.invariant in
    let k = c.reply-used.ensures.replied in
    let go = c.next-next.ensures.goes in
    let feeds = subst (λ (o : Option Input). Feeds c.loop-at.self.lines (between c.loop-at.at c.next-next.result.0 c.args.block.now) o c.next-next.new.self) c.in-Some.is c.next-next.ensures.fed in
    let moved = go.moves c.loop-at-test.true in
    let long = c.reply-used.auto.out in (
      omega (arith, i.0, moved),
      (λ l. go.within (omega (arith, i.1 l))),
      omega (arith, k.fits, long),
      (λ e. absurd (omega (arith, e, i.0, moved))),
      turn_line c.args.self.now c.loop-at.self (record { lines = c.next-next.new.self }) (feeder_of c.args.study.now) (feeder_of c.loop-at.study) (feeder_of c.reply-used.new.study) c.args.block.now c.loop-at.out
          c.args.from c.loop-at.at c.next-next.result.0 c.loop-at.used i.0 go.forth i.4 c.in-Some.input c.reply-used.result c.reply-used.new.out k feeds,
      past_more c.loop-at.used c.reply-used.result c.args.out.now c.loop-at.out c.reply-used.new.out k.rest i.5,
      c.reply-used.ensures.rest ∙ i.6,
    )

pub loop-at-preserved : goal.loop-at-preserved
loop-at-preserved c =
    let i = c.loop-at.invariant in
    let go = c.next-next.ensures.goes in
    let moved = go.moves c.loop-at-test.true in
    let feeds = subst (λ (o : Option Input). Feeds c.loop-at.self.lines (between c.loop-at.at c.next-next.result.0 c.args.block.now) o c.next-next.new.self) c.in_default.is c.next-next.ensures.fed in (
      omega (arith, i.0, moved),
      (λ l. go.within (omega (arith, i.1 l))),
      i.2,
      (λ e. absurd (omega (arith, e, i.0, moved))),
      turn_none c.args.self.now c.loop-at.self (record { lines = c.next-next.new.self }) (feeder_of c.args.study.now) (feeder_of c.loop-at.study) (feeder_of c.loop-at.study) c.args.block.now c.loop-at.out
          c.args.from c.loop-at.at c.next-next.result.0 c.loop-at.used i.0 go.forth i.4 feeds,
      i.5,
      i.6,
    )
