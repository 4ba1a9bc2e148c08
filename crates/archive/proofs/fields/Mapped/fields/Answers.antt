use Rattle.std.proofs.Common.{inl, inr}
use Rattle.std.proofs.lemmas.Result.{err_from_is_err_and}
use Rattle.archive.proofs.fields.Mapped.fields.Goals as goal

pub returns-in_err-customers : goal.returns-in_err-customers
returns-in_err-customers c =
    let p = err_from_is_err_and c.from_residual-in_err-customers.result c.from_residual-in_err-customers.ensures.1 in
    let h = c.in_ok-hours.ensures in
    rw (p.1, p.2)
    (inr (
      c.in_ok-parent.parent,
      c.in_ok-parent.at,
      c.in_ok-parent.ensures,
      inr (
        c.in_ok-rate.rate,
        c.in_ok-rate.at,
        c.in_ok-rate.ensures,
        inr (
          h.0,
          c.in_ok-hours.at,
          h.1,
          inl c.in_err-customers.ensures,
        ),
      ),
    ))

pub returns-in_err-load : goal.returns-in_err-load
returns-in_err-load c =
    let p = err_from_is_err_and c.from_residual-in_err-load.result c.from_residual-in_err-load.ensures.1 in
    let h = c.in_ok-hours.ensures in
    rw (p.1, p.2)
    (inr (
      c.in_ok-parent.parent,
      c.in_ok-parent.at,
      c.in_ok-parent.ensures,
      inr (
        c.in_ok-rate.rate,
        c.in_ok-rate.at,
        c.in_ok-rate.ensures,
        inr (
          h.0,
          c.in_ok-hours.at,
          h.1,
          inr (
            c.in_ok-customers.customers,
            c.in_ok-customers.at,
            c.in_ok-customers.ensures,
            inl c.in_err-load.ensures,
          ),
        ),
      ),
    ))
