use Rattle.std.proofs.Common.{◌≡◌, ◌<◌, ◌≤◌, true, false, length, get_or, arith, rules}
use Rattle.journal.specs.Compared.{put_eqb}
use Rattle.journal.specs.Compared.{no_put}
use Rattle.journal.proofs.Places.{at_next, end_first, end_second, differ, agree}
use Rattle.journal.proofs.walk.same_at.Goals as goal

pub returns-then-x-a : goal.returns-then-x-a
returns-then-x-a c =
    let e = at_next _ _ _ _ _ _ _ _ c.next_of-x.ensures c.next_of-y.ensures c.walk.invariant.2 in
    let h : length c.args.a.now ≤ c.next_of-x.result = omega arith in
    end_first _ _ _ _ _ _ e h c.next_of-y.ensures.here

pub returns-then-y-b : goal.returns-then-y-b
returns-then-y-b c =
    let e = at_next _ _ _ _ _ _ _ _ c.next_of-x.ensures c.next_of-y.ensures c.walk.invariant.2 in
    let h : c.next_of-x.result < length c.args.a.now = omega arith in
    let l : length c.args.b.now ≤ c.next_of-y.result = omega arith in
    end_second _ _ _ _ _ _ e h (c.next_of-x.ensures.here h) l

pub returns-then-not-same_put : goal.returns-then-not-same_put
returns-then-not-same_put c =
    let e = at_next _ _ _ _ _ _ _ _ c.next_of-x.ensures c.next_of-y.ensures c.walk.invariant.2 in
    let h : c.next_of-x.result < length c.args.a.now = omega arith in
    let l : c.next_of-y.result < length c.args.b.now = omega arith in
    let d : put_eqb (get_or c.args.a.now c.next_of-x.result no_put) (get_or c.args.b.now c.next_of-y.result no_put) ≡ false = search rules in
    differ _ _ _ _ _ _ e h (c.next_of-x.ensures.here h) l (c.next_of-y.ensures.here l) d

pub walk-preserved : goal.walk-preserved
walk-preserved c =
    let e = at_next _ _ _ _ _ _ _ _ c.next_of-x.ensures c.next_of-y.ensures c.walk.invariant.2 in
    let h : c.next_of-x.result < length c.args.a.now = omega arith in
    let l : c.next_of-y.result < length c.args.b.now = omega arith in
    let d : put_eqb (get_or c.args.a.now c.next_of-x.result no_put) (get_or c.args.b.now c.next_of-y.result no_put) ≡ true = search rules in
    (omega arith, omega arith, agree _ _ _ _ _ _ e h (c.next_of-x.ensures.here h) l (c.next_of-y.ensures.here l) d)
