-- The layout of an archive: the ranges of the header, the bits of a record's map byte, and of each number field the bit, the width, the range, the number for absence and the fault.
use Rattle.std.specs.Prelude.{ℕ, zero, suc, ◌-◌, ◌<◌, ◌≤◌, Bool, not, List, [], ◌∷◌, Some, None, Option, ◌==◌, bit_and, from_bits}
use Rattle.std.specs.Float.{binary64}
use Rattle.hours.specs.Quarters.{Quarters}
use Rattle.archive.specs.declared.record.RecordFault.{RecordFault}
use Rattle.archive.specs.declared.record.RecordFault.TheVariants.{Parent, Figure}

-- ---- the header: how many sections, and the switching time in minutes
abbrev pub CountGood : ℕ → Type 0
CountGood n = (1 ≤ n) × (n ≤ 1024)

abbrev pub TimeGood : ℕ → Type 0
TimeGood s = (1 ≤ s) × (s ≤ 1440)

-- ---- the map byte
-- whether the bit with the weight b stands in the map m
abbrev pub stands : ℕ → ℕ → Bool
stands m b = not (bit_and m b == 0)

-- the bits that must not stand: bit 7, and in section 0 bits 0 and 5 too
abbrev pub forbidden : ℕ → ℕ
forbidden zero = 161
forbidden (suc n) = 128

-- a switch stands at the section's upper end
abbrev pub marked : ℕ → Bool
marked m = stands m 32

abbrev pub named : ℕ → Bool
named m = stands m 64

-- ---- the number fields, in the order of their bits
pub data Field : Type 0 where
  parent rate hours customers load : Field

-- the weight of the field's bit in the map byte
abbrev pub bit : Field → ℕ
bit parent = 1
bit rate = 2
bit hours = 4
bit customers = 8
bit load = 16

abbrev pub width : Field → ℕ
width parent = 2
width rate = 4
width hours = 8
width customers = 2
width load = 2

-- the range, in the record of section n
abbrev pub Good : ℕ → Field → ℕ → Type 0
Good n parent x = x < n
Good n rate x = x ≤ 100000
Good n hours x = (q : ℕ) × Quarters (from_bits binary64 x) q
Good n customers x = x ≤ 4000
Good n load x = x ≤ 4000

-- the number for absence: the section before, and the pattern of 2 hours
abbrev pub absent : ℕ → Field → ℕ
absent n parent = n - 1
absent n rate = 0
absent n hours = 0x4000_0000_0000_0000
absent n customers = 0
absent n load = 0

-- the fault of a number out of range in the field at place p
abbrev pub bad : Field → ℕ → RecordFault
bad parent p = Parent p
bad rate p = Figure p
bad hours p = Figure p
bad customers p = Figure p
bad load p = Figure p

abbrev pub fields : List Field
fields = parent ∷ rate ∷ hours ∷ customers ∷ load ∷ []

-- section 0 has no parent
abbrev pub parent_of : ℕ → ℕ → Option ℕ
parent_of zero v = None
parent_of (suc n) v = Some v

-- ---- the name
abbrev pub longest_name : ℕ
longest_name = 32

abbrev pub Printable : ℕ → Type 0
Printable b = (32 ≤ b) × (b ≤ 126)
