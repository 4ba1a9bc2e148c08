use Rattle.std.proofs.Common.{◌≡◌, ℕ, max, get_or}
use Rattle.sweeps.specs.Weights.{FirstLargest}
use Rattle.sweeps.proofs.weights.largest.Given as goal

abbrev pub invariant-loop-k : goal.invariant-loop-k
invariant-loop-k g l =
    let number : ℕ → ℕ = λ j. g.M.Weighed.number l.m (get_or l.totals j (g.M.Measure.meaning l.m).nothing) in
    FirstLargest number (max 1 l.k) l.at × (l.most ≡ number l.at)
