-- What a load leaves in the section list.
use Rattle.std.specs.Prelude.{◌≡◌, ℕ, ◌≤◌, List, length, take, drop}
use Rattle.feeder.specs.declared.section.Section.{Section}
use Rattle.feeder.specs.Feeder.{Sound}
use Rattle.archive.specs.declared.fault.LoadFault.{LoadFault}
use Rattle.archive.specs.Grammar.{Keeps}
use Rattle.archive.specs.Archives.{Fails}

-- The archive s is accepted: the first n entries of the list are the sections of its feeder, which is sound, and those past them are as they were.
pub record Loaded (s : List ℕ) (before after : List Section) (n switching : ℕ) : Type 0 where
  pub keeps : Keeps s (length before) (record { sections = take n after; switching = switching })
  pub sound : Sound (record { sections = take n after; switching = switching })
  pub within : n ≤ length after
  pub count : length (take n after) ≡ n
  pub rest : drop n after ≡ drop n before

-- It is refused: f is the first fault, and the list is as it was.
pub record Refused (s : List ℕ) (before after : List Section) (f : LoadFault) : Type 0 where
  pub fails : Fails s (length before) f
  pub list : after ≡ before
