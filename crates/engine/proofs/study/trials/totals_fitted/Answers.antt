use Rattle.std.proofs.Common.{◌≡◌, ◌<◌, ◌≤◌, true, List, length, get_or, take, set, sym, ap, ◌∙◌, subst, arith, length-set, length-take-le}
use Rattle.engine.specs.Questions.{if_room}
use Rattle.engine.proofs.Judges.{roomy}
use Rattle.feeder.specs.declared.section.Section.{Section}
use Rattle.feeder.specs.Feeder.{blank, switched, fitted}
use Rattle.feeder.specs.Checked.{AllFine}
use Rattle.feeder.specs.Totals.{total}
use Rattle.sweeps.specs.Lists.{feeder}
use Rattle.engine.proofs.Fines.{fine_take_marked, take_fitted, unmarked}
use Rattle.engine.proofs.study.trials.totals_fitted.Goals as goal

pub invariant_of-v : goal.invariant_of-v
invariant_of-v g c =
    let xs : List Section = c.args.list.now in
    let n = c.args.n in
    let ys : List Section = set xs c.args.at (switched (get_or xs c.args.at blank)) in
    let lent : c.sections-lent.result.now ≡ ys = c.sections-lent.ensures in
    let part : take n c.sections-lent.result.now ≡ take n ys = ap (take n) lent in
    let w : n ≤ length ys = rw (length-set xs c.args.at (switched (get_or xs c.args.at blank))) c.requires.within in
    let long : length (take n c.sections-lent.result.now) ≡ n = ap length part ∙ length-take-le n ys w in
    record {
      some = omega (arith, long, c.requires.below);
      few = omega (arith, long, c.requires.few);
      low = c.requires.low;
      high = c.requires.high;
      fine = subst AllFine (sym part) (fine_take_marked xs n c.args.at true c.requires.within c.requires.above c.requires.below c.requires.fine);
    }

pub returns : goal.returns
returns g c =
    let xs : List Section = c.args.list.now in
    let n = c.args.n in
    let k = c.args.at in
    let μ = g.M.Measure.meaning c.args.m.now in
    let ys : List Section = set xs k (switched (get_or xs k blank)) in
    let lent : c.sections-lent.result.now ≡ ys = c.sections-lent.ensures in
    let zs : List Section = take n c.sections-lent.result.now in
    let part : zs ≡ take n ys = ap (take n) lent in
    let w : n ≤ length ys = rw (length-set xs k (switched (get_or xs k blank))) c.requires.within in
    let h : k < length xs = omega (arith, c.requires.within, c.requires.below) in
    let long : length zs ≡ n = ap length part ∙ length-take-le n ys w in
    let shown : feeder zs c.args.switching ≡ fitted (feeder (take n xs) c.args.switching) k = ap (λ (zs : List Section). feeder zs c.args.switching) part ∙ take_fitted xs n k c.args.switching c.requires.below in
    record {
      kept = c.drop-guard.ensures ∙ unmarked xs k h c.requires.bare;
      totals =
          ap (λ r. (r, c.totals_into.new.out)) c.or.ensures
          ∙ roomy _ _ c.args.out.now _ _ c.totals_into.ensures.fits c.totals_into.ensures.totals
          ∙ (λ t. if_room (long t) (total μ (shown t)) c.args.out.now);
    }
