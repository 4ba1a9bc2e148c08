-- A section record at its place in the archive: what is read, and the first fault.
use Rattle.std.specs.Prelude.{◌≡◌, ℕ, ◌+◌, ◌<◌, ◌≤◌, Bool, true, false, ◌⊎◌, List, [], ◌∷◌, length, ◌≢◌, bit_and, from_bits, slice_index}
use Rattle.std.specs.Float.{binary64}
use Rattle.archive.specs.Layout.{fields, forbidden, marked, named, parent_of, longest_name, Printable}
use Rattle.archive.specs.Reading.{ReadAll, FirstFault}
use Rattle.archive.specs.declared.record.RecordFault.{RecordFault}
use Rattle.archive.specs.declared.record.RecordFault.TheVariants.{Bytes, Map, Name}
use Rattle.archive.specs.declared.record.Record.{Record}

-- the l bytes from place p on are printable
abbrev pub Text : List ℕ → ℕ → ℕ → Type 0
Text s p l = (i : ℕ) → i < l → Printable (slice_index s (p + i))

-- an optional name whose length byte is at place p: its text's place and length, and the place after it
abbrev pub NameRead : List ℕ → Bool → ℕ → ℕ → ℕ → ℕ → Type 0
NameRead s true p a l q = (l ≡ slice_index s p) × (1 ≤ l) × (l ≤ longest_name) × (p + 1 + l ≤ length s) × Text s (p + 1) l × (a ≡ p + 1) × (q ≡ p + 1 + l)
NameRead s false p a l q = (l ≡ 0) × (a ≡ 0) × (q ≡ p)

-- its fault: no length byte; a length out of range; a text cut short; the first byte that is not printable
abbrev pub NameRefused : List ℕ → Bool → ℕ → RecordFault → Type 0
NameRefused s true p f =
    ((length s < p + 1) × (f ≡ Bytes (record { at = p })))
    ⊎ ((p + 1 ≤ length s) × (1 ≤ slice_index s p → slice_index s p ≤ longest_name → ⊥) × (f ≡ Name p))
    ⊎ ((1 ≤ slice_index s p) × (slice_index s p ≤ longest_name) × (p + 1 ≤ length s) × (length s < p + 1 + slice_index s p) × (f ≡ Bytes (record { at = p })))
    ⊎ ((i : ℕ) × (1 ≤ slice_index s p) × (slice_index s p ≤ longest_name) × (p + 1 + slice_index s p ≤ length s) × (i < slice_index s p) × Text s (p + 1) i × (Printable (slice_index s (p + 1 + i)) → ⊥) × (f ≡ Name (p + 1 + i)))
NameRefused s false p f = ⊥

-- The map byte of section n at place p is m, and has no bit that must not stand.
abbrev pub MapRead : List ℕ → ℕ → ℕ → ℕ → Type 0
MapRead s p n m = (p + 1 ≤ length s) × (m ≡ slice_index s p) × (bit_and m (forbidden n) ≡ 0)

abbrev pub MapRefused : List ℕ → ℕ → ℕ → RecordFault → Type 0
MapRefused s p n f = ((length s < p + 1) × (f ≡ Bytes (record { at = p }))) ⊎ ((p + 1 ≤ length s) × (bit_and (slice_index s p) (forbidden n) ≢ 0) × (f ≡ Map p))

-- The record of section n that stands at place p is r, and q comes after it.
abbrev pub Laid : List ℕ → ℕ → ℕ → Record → ℕ → Type 0
Laid s p n r q =
    (m : ℕ) × (v : ℕ) × (h : ℕ) × (o : ℕ) × MapRead s p n m × ReadAll s n m fields (p + 1) (v ∷ r.rate ∷ h ∷ r.customers ∷ r.load ∷ []) o
    × NameRead s (named m) o r.name.at r.name.len q
    × (r.at ≡ p) × (r.parent ≡ parent_of n v) × (r.hours ≡ from_bits binary64 h) × (r.switch ≡ marked m)

-- The first fault of the record of section n that should stand at place p is f.
abbrev pub Faulty : List ℕ → ℕ → ℕ → RecordFault → Type 0
Faulty s p n f =
    MapRefused s p n f
    ⊎ ((m : ℕ) × MapRead s p n m × FirstFault s n m fields (p + 1) f)
    ⊎ ((m : ℕ) × (vs : List ℕ) × (o : ℕ) × MapRead s p n m × ReadAll s n m fields (p + 1) vs o × NameRefused s (named m) o f)
