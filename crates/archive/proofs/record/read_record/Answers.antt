use Rattle.std.proofs.Common.{[], ◌∷◌, inl, inr}
use Rattle.std.proofs.lemmas.Result.{err_from_is_err_and}
use Rattle.archive.proofs.RecordOne.{one_record}
use Rattle.archive.proofs.record.read_record.Goals as goal

pub returns-in_err-fields-clause-outcome : goal.returns-in_err-fields-clause-outcome
returns-in_err-fields-clause-outcome c =
    let p = err_from_is_err_and c.from_residual-in_err-fields.result c.from_residual-in_err-fields.ensures.1 in
    rw (p.1, p.2) (inr (inl (c.in_ok-map.map, c.in_ok-map.ensures, c.in_err-fields.ensures)))

pub returns-in_err-name-clause-outcome : goal.returns-in_err-name-clause-outcome
returns-in_err-name-clause-outcome c =
    let p = err_from_is_err_and c.from_residual-in_err-name.result c.from_residual-in_err-name.ensures.1 in
    let h = c.in_ok-fields.ensures in
    let f = c.in_ok-fields.fields in
    rw (p.1, p.2) (inr (inr (c.in_ok-map.map, f.parent ∷ f.rate ∷ h.0 ∷ f.customers ∷ f.load ∷ [], c.in_ok-fields.next, c.in_ok-map.ensures, h.2, c.in_err-name.ensures)))

pub returns-in_err-map-clause-one : goal.returns-in_err-map-clause-one
returns-in_err-map-clause-one c = one_record c.args.bytes.now c.args.at c.args.number

pub returns-in_err-fields-clause-one : goal.returns-in_err-fields-clause-one
returns-in_err-fields-clause-one c = one_record c.args.bytes.now c.args.at c.args.number

pub returns-in_err-name-clause-one : goal.returns-in_err-name-clause-one
returns-in_err-name-clause-one c = one_record c.args.bytes.now c.args.at c.args.number

pub returns-clause-one : goal.returns-clause-one
returns-clause-one c = one_record c.args.bytes.now c.args.at c.args.number
