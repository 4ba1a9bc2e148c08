-- What is held at a section, and the flow there. Assumes nothing.
use Rattle.std.specs.Prelude.{ℕ, Bool, cond, not, ◌&&◌, ◌==◌, nat_lt}
use Rattle.feeder.specs.Tree.{drains, from}
use Rattle.feeder.specs.Feeder.{Feeder, up, cut}
use Rattle.feeder.specs.Measure.{Meaning}
use Rattle.feeder.specs.Totals.{over, when, extra_part}

module _ {V : Type 0} (μ : Meaning V) (f : Feeder) where
  -- the extra parts of the faults below j with no switch on the way up
  unfoldable pub held : ℕ → V
  held j = over μ f (λ k. when μ f (drains (up f) (cut f) k j) (extra_part μ f k))

  -- what is held at j if it bears no switch, and nothing if it does
  abbrev pub flow : ℕ → V
  flow j = cond (cut f j) μ.nothing (held j)

  -- what the downward sweep has at j when the sections from i on are done:
  -- the extra parts of the faults that come to j over sections from i on alone
  unfoldable pub stage : ℕ → ℕ → V
  stage i j = over μ f (λ k. when μ f (drains (up f) (from (cut f) i) k j) (extra_part μ f k))

-- c is a child of j and bears no switch
abbrev pub open_child : Feeder → ℕ → ℕ → Bool
open_child f j c = nat_lt 0 c && (up f c == j && not (cut f c))
