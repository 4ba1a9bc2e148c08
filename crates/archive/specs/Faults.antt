-- What a fault tells: its number, its layer, the section if it has one, and the place of the byte.
use Rattle.std.specs.Prelude.{ℕ, Some, None, Option}
use Rattle.archive.specs.declared.bytes.BytesFault.{BytesFault}
use Rattle.archive.specs.declared.record.RecordFault.{RecordFault}
use Rattle.archive.specs.declared.record.RecordFault.TheVariants.{Bytes, Map, Parent, Figure, Name}
use Rattle.archive.specs.declared.fault.LoadFault.{LoadFault}
use Rattle.archive.specs.declared.fault.LoadFault.TheVariants.{Header, Range, NoRoom, Record, Trailing}
use Rattle.archive.specs.declared.fault.Layer.{Layer}
use Rattle.archive.specs.declared.fault.Layer.TheVariants as layer

-- what a fault tells whatever the section
pub record Cause : Type 0 where
  pub number : ℕ
  pub layer : Layer
  pub place : ℕ

abbrev pub in_bytes : BytesFault → Cause
in_bytes e = record { number = 1; layer = layer.Bytes; place = e.at }

abbrev pub in_record : RecordFault → Cause
in_record (Bytes e) = in_bytes e
in_record (Map at) = record { number = 3; layer = layer.Record; place = at }
in_record (Parent at) = record { number = 4; layer = layer.Record; place = at }
in_record (Figure at) = record { number = 5; layer = layer.Record; place = at }
in_record (Name at) = record { number = 6; layer = layer.Record; place = at }

pub record Told : Type 0 where
  pub number : ℕ
  pub layer : Layer
  pub section : Option ℕ
  pub place : ℕ

abbrev pub tell : Cause → Option ℕ → Told
tell c k = record { number = c.number; layer = c.layer; section = k; place = c.place }

abbrev pub told : LoadFault → Told
told (Header e) = tell (in_bytes e) None
told (Range at) = record { number = 2; layer = layer.Feeder; section = None; place = at }
told NoRoom = record { number = 24; layer = layer.Feeder; section = None; place = 0 }
told (Record e) = tell (in_record e.fault) (Some e.section)
told (Trailing at) = record { number = 7; layer = layer.Feeder; section = None; place = at }
