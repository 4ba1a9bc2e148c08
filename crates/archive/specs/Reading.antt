-- The number fields of a record at their places in the archive: what is read, and the first fault.
use Rattle.std.specs.Prelude.{◌≡◌, ℕ, ◌+◌, ◌*◌, ◌<◌, ◌≤◌, Bool, true, false, ◌⊎◌, List, [], ◌∷◌, length, take, drop, slice_index}
use Rattle.archive.specs.declared.bytes.BytesFault.{BytesFault}
use Rattle.archive.specs.declared.record.RecordFault.{RecordFault}
use Rattle.archive.specs.declared.record.RecordFault.TheVariants.{Bytes}
use Rattle.archive.specs.Layout.{Field, parent, rate, hours, customers, load, stands, bit, width, Good, absent, bad}

-- ---- w bytes at place p of the archive s
-- They are there, and make x, which is v.
abbrev pub BytesRead : {A : Type 0} → List ℕ → ℕ → ℕ → A → A → Type 0
BytesRead s p w x v = (p + w ≤ length s) × (v ≡ x)

-- the w bytes themselves
abbrev pub bytes_from : List ℕ → ℕ → ℕ → List ℕ
bytes_from s p w = take w (drop p s)

-- They are cut short.
abbrev pub BytesCut : List ℕ → ℕ → ℕ → BytesFault → Type 0
BytesCut s p w e = (length s < p + w) × (e.at ≡ p)

-- the number that the bytes at place p make, the most significant first
abbrev pub be2 : List ℕ → ℕ → ℕ
be2 s p = slice_index s p * 256 + slice_index s (p + 1)

abbrev pub be4 : List ℕ → ℕ → ℕ
be4 s p = slice_index s p * 16777216 + slice_index s (p + 1) * 65536 + slice_index s (p + 2) * 256 + slice_index s (p + 3)

abbrev pub be8 : List ℕ → ℕ → ℕ
be8 s p = slice_index s p * 72057594037927936 + slice_index s (p + 1) * 281474976710656 + slice_index s (p + 2) * 1099511627776 + slice_index s (p + 3) * 4294967296
    + slice_index s (p + 4) * 16777216 + slice_index s (p + 5) * 65536 + slice_index s (p + 6) * 256 + slice_index s (p + 7)

-- the number that stands at place p
abbrev pub number : Field → List ℕ → ℕ → ℕ
number parent = be2
number rate = be4
number hours = be8
number customers = be2
number load = be2

-- ---- one field of w bytes at place p of the archive s, where its bit may stand
-- It is read without a fault as the number v, and q is the place after it: where it stands it is whole and in range; where it does not, v is the number for absence.
abbrev pub FieldRead : List ℕ → Bool → ℕ → ℕ → ℕ → Type 0 → ℕ → ℕ → ℕ → Type 0
FieldRead s true p w x Good absent v q = (p + w ≤ length s) × Good × (v ≡ x) × (q ≡ p + w)
FieldRead s false p w x Good absent v q = (v ≡ absent) × (q ≡ p)

-- Its fault is f: it stands, and is cut short, or is whole and out of range.
abbrev pub FieldRefused : List ℕ → Bool → ℕ → ℕ → Type 0 → RecordFault → RecordFault → Type 0
FieldRefused s true p w Good bad f = ((length s < p + w) × (f ≡ Bytes (record { at = p }))) ⊎ ((p + w ≤ length s) × (Good → ⊥) × (f ≡ bad))
FieldRefused s false p w Good bad f = ⊥

-- ---- a field of the table
abbrev pub ReadAt : List ℕ → ℕ → ℕ → Field → ℕ → ℕ → ℕ → Type 0
ReadAt s n m k p v q = FieldRead s (stands m (bit k)) p (width k) (number k s p) (Good n k (number k s p)) (absent n k) v q

abbrev pub RefusedAt : List ℕ → ℕ → ℕ → Field → ℕ → RecordFault → Type 0
RefusedAt s n m k p f = FieldRefused s (stands m (bit k)) p (width k) (Good n k (number k s p)) (bad k p) f

-- ---- fields one after another
-- The fields ks from place p on are read without a fault as the numbers vs, and q comes after them.
abbrev pub ReadAll : List ℕ → ℕ → ℕ → List Field → ℕ → List ℕ → ℕ → Type 0
ReadAll s n m [] p [] q = q ≡ p
ReadAll s n m [] p (v ∷ vs) q = ⊥
ReadAll s n m (k ∷ ks) p [] q = ⊥
ReadAll s n m (k ∷ ks) p (v ∷ vs) q = (o : ℕ) × ReadAt s n m k p v o × ReadAll s n m ks o vs q

-- The first fault of the fields ks from place p on is f.
abbrev pub FirstFault : List ℕ → ℕ → ℕ → List Field → ℕ → RecordFault → Type 0
FirstFault s n m [] p f = ⊥
FirstFault s n m (k ∷ ks) p f = RefusedAt s n m k p f ⊎ ((v : ℕ) × (o : ℕ) × ReadAt s n m k p v o × FirstFault s n m ks o f)
