-- The 64 bytes are an archive of the four-section feeder: each part by computation.
use Rattle.std.proofs.Common.{◌≡◌, ℕ, ◌≤◌, true, false, [], ◌∷◌, Some, None, refl, lit<, lit≤}
use lib.Ieee.{binary64, of_bits}
use Rattle.hours.specs.Quarters.{Quarters}
use Rattle.archive.specs.Grammar.{RecordIs, Keeps}
use Rattle.archive.specs.declared.record.Record.{Record}
use Rattle.feeder.specs.Feeder.{Feeder}
use Rattle.archive.specs.declared.fault.LoadFault.{LoadFault}
use Rattle.archive.specs.Archives.{Fails}
use Rattle.archive.proofs.ArchiveOne.{keeps_one, one_outcome}
use Rattle.archive.specs.Example.{four_bytes, four_feeder}

hours_zero : Quarters (of_bits binary64 4616189618054758400) 16
unfolding of_bits
hours_zero = (lit≤ tt, lit≤ tt, (refl, refl))

hours_one : Quarters (of_bits binary64 4611686018427387904) 8
unfolding of_bits
hours_one = (lit≤ tt, lit≤ tt, (refl, refl))

hours_two : Quarters (of_bits binary64 4613937818241073152) 12
unfolding of_bits
hours_two = (lit≤ tt, lit≤ tt, (refl, refl))

hours_three : Quarters (of_bits binary64 4604930618986332160) 3
unfolding of_bits
hours_three = (lit≤ tt, lit≤ tt, (refl, refl))

abbrev record_zero : Record
record_zero = record { parent = None; rate = 100; hours = of_bits binary64 4616189618054758400; customers = 0; load = 30; switch = false; name = record { at = 0; len = 0 }; at = 4 }

is_zero : RecordIs 0 4 record_zero (22 ∷ 0 ∷ 0 ∷ 0 ∷ 100 ∷ 64 ∷ 16 ∷ 0 ∷ 0 ∷ 0 ∷ 0 ∷ 0 ∷ 0 ∷ 0 ∷ 30 ∷ [])
is_zero = record {
  map = 22;
  parent = 0;
  hours = 4616189618054758400;
  figures = 0 ∷ 0 ∷ 0 ∷ 100 ∷ 64 ∷ 16 ∷ 0 ∷ 0 ∷ 0 ∷ 0 ∷ 0 ∷ 0 ∷ 0 ∷ 30 ∷ [];
  name = [];
  bytes = refl;
  allowed = refl;
  fields_are = ([], _, refl, (refl, refl), (0 ∷ 0 ∷ 0 ∷ 100 ∷ [], _, refl, (refl, refl, lit≤ tt), (64 ∷ 16 ∷ 0 ∷ 0 ∷ 0 ∷ 0 ∷ 0 ∷ 0 ∷ [], _, refl, (refl, refl, (16, hours_zero)), ([], _, refl, (refl, refl), (0 ∷ 30 ∷ [], _, refl, (refl, refl, lit≤ tt), refl)))));
  name_is = (refl, refl, refl);
  place = refl;
  parent_is = refl;
  hours_are = refl;
  switch_is = refl;
}

abbrev record_one : Record
record_one = record { parent = Some 0; rate = 200; hours = of_bits binary64 4611686018427387904; customers = 10; load = 50; switch = false; name = record { at = 0; len = 0 }; at = 19 }

is_one : RecordIs 1 19 record_one (26 ∷ 0 ∷ 0 ∷ 0 ∷ 200 ∷ 0 ∷ 10 ∷ 0 ∷ 50 ∷ [])
is_one = record {
  map = 26;
  parent = 0;
  hours = 4611686018427387904;
  figures = 0 ∷ 0 ∷ 0 ∷ 200 ∷ 0 ∷ 10 ∷ 0 ∷ 50 ∷ [];
  name = [];
  bytes = refl;
  allowed = refl;
  fields_are = ([], _, refl, (refl, refl), (0 ∷ 0 ∷ 0 ∷ 200 ∷ [], _, refl, (refl, refl, lit≤ tt), ([], _, refl, (refl, refl), (0 ∷ 10 ∷ [], _, refl, (refl, refl, lit≤ tt), (0 ∷ 50 ∷ [], _, refl, (refl, refl, lit≤ tt), refl)))));
  name_is = (refl, refl, refl);
  place = refl;
  parent_is = refl;
  hours_are = refl;
  switch_is = refl;
}

abbrev record_two : Record
record_two = record { parent = Some 1; rate = 300; hours = of_bits binary64 4613937818241073152; customers = 20; load = 80; switch = true; name = record { at = 0; len = 0 }; at = 28 }

is_two : RecordIs 2 28 record_two (62 ∷ 0 ∷ 0 ∷ 1 ∷ 44 ∷ 64 ∷ 8 ∷ 0 ∷ 0 ∷ 0 ∷ 0 ∷ 0 ∷ 0 ∷ 0 ∷ 20 ∷ 0 ∷ 80 ∷ [])
is_two = record {
  map = 62;
  parent = 1;
  hours = 4613937818241073152;
  figures = 0 ∷ 0 ∷ 1 ∷ 44 ∷ 64 ∷ 8 ∷ 0 ∷ 0 ∷ 0 ∷ 0 ∷ 0 ∷ 0 ∷ 0 ∷ 20 ∷ 0 ∷ 80 ∷ [];
  name = [];
  bytes = refl;
  allowed = refl;
  fields_are = ([], _, refl, (refl, refl), (0 ∷ 0 ∷ 1 ∷ 44 ∷ [], _, refl, (refl, refl, lit≤ tt), (64 ∷ 8 ∷ 0 ∷ 0 ∷ 0 ∷ 0 ∷ 0 ∷ 0 ∷ [], _, refl, (refl, refl, (12, hours_two)), (0 ∷ 20 ∷ [], _, refl, (refl, refl, lit≤ tt), (0 ∷ 80 ∷ [], _, refl, (refl, refl, lit≤ tt), refl)))));
  name_is = (refl, refl, refl);
  place = refl;
  parent_is = refl;
  hours_are = refl;
  switch_is = refl;
}

abbrev record_three : Record
record_three = record { parent = Some 1; rate = 400; hours = of_bits binary64 4604930618986332160; customers = 5; load = 20; switch = false; name = record { at = 0; len = 0 }; at = 45 }

is_three : RecordIs 3 45 record_three (31 ∷ 0 ∷ 1 ∷ 0 ∷ 0 ∷ 1 ∷ 144 ∷ 63 ∷ 232 ∷ 0 ∷ 0 ∷ 0 ∷ 0 ∷ 0 ∷ 0 ∷ 0 ∷ 5 ∷ 0 ∷ 20 ∷ [])
is_three = record {
  map = 31;
  parent = 1;
  hours = 4604930618986332160;
  figures = 0 ∷ 1 ∷ 0 ∷ 0 ∷ 1 ∷ 144 ∷ 63 ∷ 232 ∷ 0 ∷ 0 ∷ 0 ∷ 0 ∷ 0 ∷ 0 ∷ 0 ∷ 5 ∷ 0 ∷ 20 ∷ [];
  name = [];
  bytes = refl;
  allowed = refl;
  fields_are = (0 ∷ 1 ∷ [], _, refl, (refl, refl, lit< tt), (0 ∷ 0 ∷ 1 ∷ 144 ∷ [], _, refl, (refl, refl, lit≤ tt), (63 ∷ 232 ∷ 0 ∷ 0 ∷ 0 ∷ 0 ∷ 0 ∷ 0 ∷ [], _, refl, (refl, refl, (3, hours_three)), (0 ∷ 5 ∷ [], _, refl, (refl, refl, lit≤ tt), (0 ∷ 20 ∷ [], _, refl, (refl, refl, lit≤ tt), refl)))));
  name_is = (refl, refl, refl);
  place = refl;
  parent_is = refl;
  hours_are = refl;
  switch_is = refl;
}

pub four : (room : ℕ) → 4 ≤ room → Keeps four_bytes room four_feeder
four room w = record {
  count = 0 ∷ 4 ∷ [];
  time = 0 ∷ 60 ∷ [];
  records = _;
  bytes = refl;
  count_two = refl;
  count_is = refl;
  count_range = (lit≤ tt, lit≤ tt);
  time_two = refl;
  time_is = refl;
  time_range = (lit≤ tt, lit≤ tt);
  records_are = (
    record_zero,
    22 ∷ 0 ∷ 0 ∷ 0 ∷ 100 ∷ 64 ∷ 16 ∷ 0 ∷ 0 ∷ 0 ∷ 0 ∷ 0 ∷ 0 ∷ 0 ∷ 30 ∷ [],
    _,
    refl,
    is_zero,
    (16, hours_zero, refl),
    (
      record_one,
      26 ∷ 0 ∷ 0 ∷ 0 ∷ 200 ∷ 0 ∷ 10 ∷ 0 ∷ 50 ∷ [],
      _,
      refl,
      is_one,
      (8, hours_one, refl),
      (
        record_two,
        62 ∷ 0 ∷ 0 ∷ 1 ∷ 44 ∷ 64 ∷ 8 ∷ 0 ∷ 0 ∷ 0 ∷ 0 ∷ 0 ∷ 0 ∷ 0 ∷ 20 ∷ 0 ∷ 80 ∷ [],
        _,
        refl,
        is_two,
        (12, hours_two, refl),
        (
          record_three,
          31 ∷ 0 ∷ 1 ∷ 0 ∷ 0 ∷ 1 ∷ 144 ∷ 63 ∷ 232 ∷ 0 ∷ 0 ∷ 0 ∷ 0 ∷ 0 ∷ 0 ∷ 0 ∷ 5 ∷ 0 ∷ 20 ∷ [],
          _,
          refl,
          is_three,
          (3, hours_three, refl),
          refl,
        ),
      ),
    ),
  );
  fits = w;
}

-- So a load of these bytes gives this feeder and no other, and into four entries or more it is not refused.
pub four_only : {room : ℕ} {f : Feeder} → Keeps four_bytes room f → f ≡ four_feeder
four_only h = keeps_one h (four 4 (lit≤ tt))

pub four_accepted : {room : ℕ} {e : LoadFault} → 4 ≤ room → Fails four_bytes room e → ⊥
four_accepted {room} {e} w h = (one_outcome four_bytes room).never four_feeder e (four room w) h
