-- What holds of every byte string and every section list.
use Rattle.std.specs.Prelude.{◌≡◌, ℕ, ◌+◌, ◌⊎◌, List, length, take, drop}
use Rattle.archive.specs.declared.record.Record.{Record}
use Rattle.archive.specs.declared.record.RecordFault.{RecordFault}
use Rattle.archive.specs.Records.{Laid, Faulty}
use Rattle.archive.specs.declared.fault.LoadFault.{LoadFault}
use Rattle.feeder.specs.Feeder.{Feeder}
use Rattle.archive.specs.Grammar.{RecordIs, Keeps}
use Rattle.archive.specs.Archives.{Fails}

-- At any place a section number has one outcome: one record with one place after it, or one first fault, and never both. The bytes of a record that is read are the record's, by the grammar.
pub record OneRecord (s : List ℕ) (p n : ℕ) : Type 0 where
  pub some : ((r : Record) × (q : ℕ) × Laid s p n r q) ⊎ ((f : RecordFault) × Faulty s p n f)
  pub read : (r : Record) (q : ℕ) (r' : Record) (q' : ℕ) → Laid s p n r q → Laid s p n r' q' → (r ≡ r') × (q ≡ q')
  pub fault : (f f' : RecordFault) → Faulty s p n f → Faulty s p n f' → f ≡ f'
  pub never : (r : Record) (q : ℕ) (f : RecordFault) → Laid s p n r q → Faulty s p n f → ⊥
  pub bytes : (r : Record) (q : ℕ) → Laid s p n r q → (bs : List ℕ) × (bs ≡ take (length bs) (drop p s)) × (q ≡ p + length bs) × RecordIs n p r bs

-- Bytes and a room have one outcome: one feeder or one first fault, and never both.
pub record OneOutcome (s : List ℕ) (room : ℕ) : Type 0 where
  pub some : ((f : Feeder) × Keeps s room f) ⊎ ((e : LoadFault) × Fails s room e)
  pub feeder : (f f' : Feeder) → Keeps s room f → Keeps s room f' → f ≡ f'
  pub fault : (e e' : LoadFault) → Fails s room e → Fails s room e' → e ≡ e'
  pub never : (f : Feeder) (e : LoadFault) → Keeps s room f → Fails s room e → ⊥
