use Rattle.std.proofs.Common.{◌-◌, ◌≤◌, length, arith}
use Rattle.session.proofs.Parts.{front_behind, rest_behind}
use Rattle.session.proofs.reply.reply.Goals as goal

pub returns-clause-replied : goal.returns-clause-replied
returns-clause-replied c =
    let xs = c.args.out.now in
    let used = c.args.used in
    let h = c.reply_in_front.ensures.heard in
    let n = c.reply_in_front.result in
    let small = h.small in
    let l : used ≤ length xs = omega (arith, c.requires) in
    let m : n ≤ length xs - used = omega (arith, small, c.requires) in
    record {
      line = h.line;
      reads = h.reads;
      fits = omega (arith, small, c.requires);
      front = front_behind used (length xs - used) n xs _ _ l m h.size h.list;
      rest = rest_behind used (length xs - used) n xs _ _ l m h.size h.list;
      feeder = h.feeder;
    }
