use Rattle.std.proofs.Common.{List, take, ap, arith}
use Rattle.std.proofs.lemmas.Result.{err_from_is_err_and}
use Rattle.feeder.specs.declared.section.Section.{Section}
use Rattle.sweeps.specs.Lists.{feeder}
use Rattle.archive.proofs.Fine.{keeps_fine}
use Rattle.engine.proofs.study.Study.load.Goals as goal

pub returns-in_err-count : goal.returns-in_err-count
returns-in_err-count c =
    let s = c.args.self.now in
    let p = err_from_is_err_and c.from_residual.result c.from_residual.ensures.1 in
    let h = c.in_err-count.ensures.outcome in
    rw (p.1, p.2) (record {
      outcome = record { fails = h.fails; list = h.list; feeder = ap (λ (ys : List Section). feeder (take s.count ys) s.switching) h.list };
      one = c.in_err-count.ensures.one;
      starts = tt;
    })

pub invariant_of-self-2 : goal.invariant_of-self-2
invariant_of-self-2 c =
    let h = c.in_ok-count.ensures.outcome in
    let k = h.keeps in
    record { within = h.within; few = omega (arith, h.count, k.count_range.1); low = λ _. k.time_range.0; high = k.time_range.1; fine = keeps_fine k }
