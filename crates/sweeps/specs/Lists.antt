-- The lists that the sweeps read and write. Assumes nothing.
use Rattle.std.specs.Prelude.{◌≡◌, ℕ, ◌<◌, List, ◌++◌, map, drop, slice_index_or}
use Rattle.std.specs.List.{range_with_len}
use Rattle.feeder.specs.declared.section.Section.{Section}
use Rattle.feeder.specs.Feeder.{Feeder}

abbrev pub feeder : List Section → ℕ → Feeder
feeder sections s = record { sections = sections; switching = s }

-- the first n entries of a list are g 0, .., g (n - 1)
abbrev pub Holds : {V : Type 0} → V → (ℕ → V) → ℕ → List V → Type 0
Holds d g n xs = (j : ℕ) → j < n → slice_index_or xs j d ≡ g j

-- g 0, .., g (n - 1), and past them what the list held
abbrev pub written : {V : Type 0} → (ℕ → V) → ℕ → List V → List V
written g n xs = map g (range_with_len 0 n) ++ drop n xs
