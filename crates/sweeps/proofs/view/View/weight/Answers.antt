use Rattle.std.proofs.Common.{ℕ, List, sym, ◌∙◌, arith, rules}
use borrow.Author.Tests.{tests}
use Rattle.std.proofs.lemmas.Iterator.{YieldsList-from_slice, YieldsList-from_map}
use Rattle.std.proofs.lemmas.Iterator.Consumers.{sum_by_from_yields_List, fits_by_from_yields_list}
use Rattle.feeder.specs.declared.section.Section.{Section}
use Rattle.feeder.specs.Feeder.{blank, size}
use Rattle.sweeps.specs.Views.{shown}
use Rattle.sweeps.specs.Weights.{weight_of}
use Rattle.sweeps.proofs.Sums.{sum_listed}
use Rattle.sweeps.proofs.Shares.{weights_small}
use Rattle.sweeps.proofs.Views.{view_sound}
use Rattle.sweeps.proofs.view.View.weight.Goals as goal

pub sum-requires-clause-fits : goal.sum-requires-clause-fits
sum-requires-clause-fits c =
    let v = c.args.self.now in
    let xs : List Section = v.sections.now in
    let h : Section → ℕ = λ s. weight_of c.args.by s.figures in
    let few = v.few in
    fits_by_from_yields_list h xs c.map.result _ (YieldsList-from_map _ h (YieldsList-from_slice xs cc) c.map.ensures.closure (λ x r q k. search (rules, tests)))
    (omega (arith, sum_listed h blank xs, weights_small c.args.by (shown v) (view_sound v) (size (shown v)) (omega arith)))

pub returns : goal.returns
returns c =
    let xs : List Section = c.args.self.now.sections.now in
    let h : Section → ℕ = λ s. weight_of c.args.by s.figures in
    sum_by_from_yields_List h xs c.map.result _ c.sum.ensures.ran (YieldsList-from_map _ h (YieldsList-from_slice xs cc) c.map.ensures.closure (λ x r q k. search (rules, tests)))
    ∙ sym (sum_listed h blank xs)
