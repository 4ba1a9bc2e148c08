-- The archive of a feeder, byte for byte: a header, then for each section a map byte and the bytes of the fields whose bits stand, in order.
use Rattle.std.specs.Prelude.{◌≡◌, ℕ, ◌+◌, ◌*◌, ◌<◌, ◌≤◌, Bool, true, false, List, [], ◌∷◌, ◌++◌, length, bit_and, from_bits, slice_index}
use Rattle.std.specs.Float.{binary64}
use Rattle.archive.specs.Layout.{Field, fields, stands, bit, width, Good, absent, forbidden, marked, named, parent_of, longest_name, Printable, CountGood, TimeGood}
use Rattle.archive.specs.Sections.{SectionOf}
use Rattle.archive.specs.declared.record.Record.{Record}
use Rattle.feeder.specs.declared.section.Section.{Section}
use Rattle.feeder.specs.Feeder.{Feeder}

-- the number that some bytes make, the most significant first, after those that make a
abbrev pub big_after : ℕ → List ℕ → ℕ
big_after a [] = a
big_after a (b ∷ bs) = big_after (a * 256 + b) bs

abbrev pub big : List ℕ → ℕ
big bs = big_after 0 bs

-- A field of section n, whose number is v: where it stands, its bytes make v, which is in range; else it has no bytes.
abbrev pub FieldIs : ℕ → Bool → Field → ℕ → List ℕ → Type 0
FieldIs n true k v bs = (length bs ≡ width k) × (v ≡ big bs) × Good n k v
FieldIs n false k v bs = (bs ≡ []) × (v ≡ absent n k)

-- fields one after another, under the map m
abbrev pub FieldsAre : ℕ → ℕ → List Field → List ℕ → List ℕ → Type 0
FieldsAre n m [] [] bs = bs ≡ []
FieldsAre n m [] (v ∷ vs) bs = ⊥
FieldsAre n m (k ∷ ks) [] bs = ⊥
FieldsAre n m (k ∷ ks) (v ∷ vs) bs = (a : List ℕ) × (b : List ℕ) × (bs ≡ a ++ b) × FieldIs n (stands m (bit k)) k v a × FieldsAre n m ks vs b

-- A name whose bytes begin at place p: a length byte and the text, which begins at place t and is l long.
abbrev pub NameIs : Bool → ℕ → ℕ → ℕ → List ℕ → Type 0
NameIs true p t l bs = (text : List ℕ) × (bs ≡ length text ∷ text) × (l ≡ length text) × (1 ≤ l) × (l ≤ longest_name) × ((i : ℕ) → i < length text → Printable (slice_index text i)) × (t ≡ p + 1)
NameIs false p t l bs = (bs ≡ []) × (l ≡ 0) × (t ≡ 0)

-- The record r of section n, which begins at place p, has the bytes bs.
pub record RecordIs (n p : ℕ) (r : Record) (bs : List ℕ) : Type 0 where
  pub map : ℕ
  pub parent : ℕ
  pub hours : ℕ
  pub figures : List ℕ
  pub name : List ℕ
  pub bytes : bs ≡ map ∷ (figures ++ name)
  pub allowed : bit_and map (forbidden n) ≡ 0
  pub fields_are : FieldsAre n map fields (parent ∷ r.rate ∷ hours ∷ r.customers ∷ r.load ∷ []) figures
  pub name_is : NameIs (named map) (p + 1 + length figures) r.name.at r.name.len name
  pub place : r.at ≡ p
  pub parent_is : r.parent ≡ parent_of n parent
  pub hours_are : r.hours ≡ from_bits binary64 hours
  pub switch_is : r.switch ≡ marked map

-- The records of the sections xs, which are k, k + 1 and on, have the bytes bs, which begin at place p.
abbrev pub RecordsAre : ℕ → ℕ → List Section → List ℕ → Type 0
RecordsAre k p [] bs = bs ≡ []
RecordsAre k p (x ∷ xs) bs = (r : Record) × (a : List ℕ) × (b : List ℕ) × (bs ≡ a ++ b) × RecordIs k p r a × SectionOf r x × RecordsAre (k + 1) (p + length a) xs b

-- The bytes s are an archive of the feeder f, and a section list of room entries is long enough for it.
pub record Keeps (s : List ℕ) (room : ℕ) (f : Feeder) : Type 0 where
  pub count : List ℕ
  pub time : List ℕ
  pub records : List ℕ
  pub bytes : s ≡ count ++ (time ++ records)
  pub count_two : length count ≡ 2
  pub count_is : length f.sections ≡ big count
  pub count_range : CountGood (length f.sections)
  pub time_two : length time ≡ 2
  pub time_is : f.switching ≡ big time
  pub time_range : TimeGood f.switching
  pub records_are : RecordsAre 0 4 f.sections records
  pub fits : length f.sections ≤ room
