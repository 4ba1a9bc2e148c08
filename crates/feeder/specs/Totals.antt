-- The total of a node: the joining, over every section's fault, of the near or far effect on it. Assumes nothing.
use Rattle.std.specs.Prelude.{ℕ, zero, suc, min, Bool, cond}
use Rattle.feeder.specs.Tree.{near}
use Rattle.feeder.specs.Feeder.{Feeder, size, figures, up, cut}
use Rattle.feeder.specs.Measure.{Meaning}

-- the joining of g 0, .., g (n - 1)
unfoldable pub join_over : {V : Type 0} → V → (V → V → V) → ℕ → (ℕ → V) → V
join_over nothing join zero g = nothing
join_over nothing join (suc n) g = join (join_over nothing join n g) (g n)

module _ {V : Type 0} (μ : Meaning V) (f : Feeder) where
  -- the joining over the faults of all sections
  abbrev pub over : (ℕ → V) → V
  over g = join_over μ.nothing μ.join (size f) g

  abbrev pub when : Bool → V → V
  when b v = cond b v μ.nothing

  -- the effects of a fault on k on a near node and on a far node, and the extra part
  abbrev pub near_effect : ℕ → V
  near_effect k = μ.effect k (figures f k) f.switching (figures f k).repair

  abbrev pub far_effect : ℕ → V
  far_effect k = μ.effect k (figures f k) f.switching (min (figures f k).repair f.switching)

  abbrev pub extra_part : ℕ → V
  extra_part k = μ.extra k (figures f k) f.switching

  unfoldable pub total : ℕ → V
  total m = over (λ k. cond (near (up f) (cut f) k m) (near_effect k) (far_effect k))

  -- what every node bears: the far effects of all faults
  unfoldable pub far_total : V
  far_total = over far_effect
