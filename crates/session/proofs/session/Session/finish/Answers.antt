use Rattle.std.proofs.Common.{◌≡◌, ℕ, ◌++◌, take, sym, ap, ◌∙◌, subst, zero-add}
use Rattle.lines.specs.Answers.{answer_text}
use Rattle.console.specs.Replies.{said}
use Rattle.feeder.specs.Feeder.{Feeder}
use Rattle.engine.specs.Studies.{feeder_of}
use Rattle.session.specs.Talks.{Conversation}
use Rattle.session.proofs.Sites.{sites_agree}
use Rattle.session.proofs.Talks.{ended_line, ended_none}
use Rattle.session.proofs.session.Session.finish.Goals as goal

pub returns-in-Some-clause-ended : goal.returns-in-Some-clause-ended
returns-in-Some-clause-ended c =
    let k = c.reply.ensures.replied in
    let n = c.reply.result in
    let after = c.reply.new.out in
    let front : take n after ≡ answer_text (said k.line (feeder_of c.args.study.now)) = ap (λ (m : ℕ). take m after) (sym (zero-add n)) ∙ k.front in
    λ f bs written t. subst (λ (g : Feeder). Conversation f bs (written ++ take n after) g) (sym k.feeder)
    (ended_line f (feeder_of c.args.study.now) bs written (take n after) c.args.self.now c.in-Some.input k.line t c.in-Some.ensures.ended k.reads front)

pub returns-in-None-clause-ended : goal.returns-in-None-clause-ended
returns-in-None-clause-ended c = λ f bs written k. ended_none f _ bs written c.args.self.now k c.in-None.ensures.ended

pub returns-then-out-lt-ROOM-clause-sites : goal.returns-then-out-lt-ROOM-clause-sites
returns-then-out-lt-ROOM-clause-sites c = sites_agree

pub returns-in-Some-clause-sites : goal.returns-in-Some-clause-sites
returns-in-Some-clause-sites c = sites_agree

pub returns-in-None-clause-sites : goal.returns-in-None-clause-sites
returns-in-None-clause-sites c = sites_agree
