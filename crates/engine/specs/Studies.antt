-- The feeder of a study, and what a load does to it. Assumes nothing.
use Rattle.std.specs.Prelude.{◌≡◌, ℕ, ◌<◌, ◌≤◌, false, List, [], length, take, drop, slice_index_or}
use Rattle.feeder.specs.declared.section.Section.{Section}
use Rattle.feeder.specs.Feeder.{Feeder, blank}
use Rattle.feeder.specs.Checked.{AllFine}
use Rattle.archive.specs.declared.fault.LoadFault.{LoadFault}
use Rattle.archive.specs.Grammar.{Keeps}
use Rattle.archive.specs.Archives.{Fails}
use Rattle.engine.specs.declared.study.Study.{Study}

-- the first `count` sections of its list, and the switching time
abbrev pub feeder_of : Study → Feeder
feeder_of s = record { sections = take s.count s.lent.list.now; switching = s.switching }

-- the whole lent list
abbrev pub lent_to : Study → List Section
lent_to s = s.lent.list.now

-- what the lent list holds past the feeder's sections
abbrev pub beyond : Study → List Section
beyond s = drop s.count s.lent.list.now

-- no feeder yet
abbrev pub unloaded : Feeder
unloaded = record { sections = []; switching = 0 }

-- An accepted load: the bytes are the archive of the study's feeder, and the lent list past its sections is as it was.
pub record Loaded (archive : List ℕ) (before after : Study) : Type 0 where
  pub keeps : Keeps archive (length (lent_to before)) (feeder_of after)
  pub rest : beyond after ≡ drop after.count (lent_to before)

-- A refused load: the fault is the first, and the study and its list are as they were.
pub record Refused (archive : List ℕ) (before after : Study) (f : LoadFault) : Type 0 where
  pub fails : Fails archive (length (lent_to before)) f
  pub list : lent_to after ≡ lent_to before
  pub feeder : feeder_of after ≡ feeder_of before

-- The first n entries of the list are the sections of a feeder with the switching time s, and a switch can be fitted at section k.
pub record Triable (list : List Section) (n s k : ℕ) : Type 0 where
  pub within : n ≤ length list
  pub few : n ≤ 1024
  pub low : 1 ≤ s
  pub high : s ≤ 1440
  pub fine : AllFine (take n list)
  pub above : 0 < k
  pub below : k < n
  pub bare : (slice_index_or list k blank).switch ≡ false
