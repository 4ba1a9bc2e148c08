use Rattle.std.proofs.Common.{◌≡◌, ℕ, ◌<◌, ◌≤◌, List, length, take, drop, sym, refl, ap, ◌∙◌, subst, arith, length-append, take_at, drop_at}
use Rattle.std.proofs.lemmas.Result.{err_from_is_err_and}
use Rattle.feeder.specs.declared.section.Section.{Section}
use Rattle.archive.specs.Reading.{be2}
use Rattle.archive.specs.Archives.{Records, faulty_record, after}
use Rattle.archive.proofs.ArchiveSame.{kept, records_within}
use Rattle.archive.proofs.ArchiveOne.{one_outcome}
use Rattle.archive.proofs.Fine.{keeps_sound}
use Rattle.archive.proofs.load.load_sections.Goals as goal

pub returns-in_err-end-clause-outcome : goal.returns-in_err-end-clause-outcome
returns-in_err-end-clause-outcome c =
    let p = err_from_is_err_and c.from_residual-in_err-end.result c.from_residual-in_err-end.ensures.1 in
    let k = c.in_ok-count.ensures in
    let h = c.in_err-end.ensures in
    let l : length h.0 < be2 c.args.bytes.now 0 = omega (arith, h.2, k.0) in
    rw (p.1, p.2) (record { fails = faulty_record k.2 c.in_err-end.field-0.0 (h.0, h.1, l, h.3, h.4, h.5) refl; list = refl })

pub returns-then-end-bytes-clause-outcome : goal.returns-then-end-bytes-clause-outcome
returns-then-end-bytes-clause-outcome c =
    let k = c.in_ok-count.ensures in
    let l : length c.read_sections.new.list ≡ c.in_ok-count.count = omega arith in
    record {
      fails = after k.2 c.read_sections.new.list c.in_ok-end.end (l ∙ k.0) c.in_ok-end.ensures c.if-end-bytes.true refl;
      list = refl;
    }

pub returns-clause-outcome : goal.returns-clause-outcome
returns-clause-outcome c =
    let s = c.args.bytes.now in
    let xs = c.read_sections.new.list in
    let n = c.in_ok-count.count in
    let l : length xs ≡ n = omega arith in
    let k = c.in_ok-count.ensures in
    let r = c.in_ok-end.ensures in
    let t : take n c.copy.new.list ≡ xs = ap (take n) c.copy.ensures ∙ take_at xs _ n l in
    let e : c.in_ok-end.end ≤ length s = records_within s 0 4 xs c.in_ok-end.end r k.2.1.1.0 in
    let f : c.in_ok-end.end ≡ length s = omega arith in
    let m : length (take n c.copy.new.list) ≡ n = ap length t ∙ l in
    let k' = kept s (length c.args.list.now) (record { sections = take n c.copy.new.list; switching = c.in_ok-count.switching }) (record {
      header = k.2;
      count = m ∙ k.0;
      time = k.1;
      records = subst (λ (ys : List Section). Records s 0 4 ys (length s)) (sym t) (subst (λ (q : ℕ). Records s 0 4 xs q) f r);
    }) in
    record {
      keeps = k';
      sound = keeps_sound k';
      within = rw c.copy.ensures (simp length-append (omega arith));
      count = m;
      rest = ap (drop n) c.copy.ensures ∙ drop_at xs _ n l ∙ ap (λ (k : ℕ). drop k c.args.list.now) l;
    }

pub returns-in_err-count-clause-one : goal.returns-in_err-count-clause-one
returns-in_err-count-clause-one c = one_outcome c.args.bytes.now (length c.args.list.now)

pub returns-in_err-end-clause-one : goal.returns-in_err-end-clause-one
returns-in_err-end-clause-one c = one_outcome c.args.bytes.now (length c.args.list.now)

pub returns-then-end-bytes-clause-one : goal.returns-then-end-bytes-clause-one
returns-then-end-bytes-clause-one c = one_outcome c.args.bytes.now (length c.args.list.now)

pub returns-clause-one : goal.returns-clause-one
returns-clause-one c = one_outcome c.args.bytes.now (length c.args.list.now)
