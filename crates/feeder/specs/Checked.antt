-- Soundness as tests on single sections: the form that a struct's invariant takes. Assumes nothing.
use Rattle.std.specs.Prelude.{◌≡◌, ℕ, zero, suc, ◌%◌, ◌<◌, Bool, true, false, not, ◌&&◌, ◌||◌, List, length, Some, None, Option, ◌==◌, nat_le, nat_lt, slice_index_or}
use Rattle.feeder.specs.declared.section.Figures.{Figures}
use Rattle.feeder.specs.declared.section.Section.{Section}
use Rattle.feeder.specs.Feeder.{blank}

-- section 0 has no parent and no switch mark, any other has a lower parent
abbrev pub placed : ℕ → Option ℕ → Bool → Bool
placed zero None b = not b
placed zero (Some p) b = false
placed (suc k) None b = false
placed (suc k) (Some p) b = nat_lt p (suc k)

-- at most 32 bytes; an empty name has place 0
abbrev pub name_fine : Figures → Bool
name_fine d = nat_le d.name.len 32 && (nat_lt 0 d.name.len || d.name.at == 0)

-- from 15 to 10,080 minutes, in steps of 15
abbrev pub repair_fine : Figures → Bool
repair_fine d = nat_le 15 d.repair && (nat_le d.repair 10080 && d.repair % 15 == 0)

abbrev pub in_range : Figures → Bool
in_range d = nat_le d.rate 100000 && (repair_fine d && (nat_le d.customers 4000 && (nat_le d.load 4000 && name_fine d)))

abbrev pub fine : ℕ → Section → Bool
fine k c = placed k c.figures.parent c.switch && in_range c.figures

abbrev pub AllFine : List Section → Type 0
AllFine xs = (k : ℕ) → k < length xs → fine k (slice_index_or xs k blank) ≡ true
