-- The four-section feeder, and the 64 bytes of its archive.
use Rattle.std.specs.Prelude.{ℕ, true, false, List, [], ◌∷◌, Some, None}
use Rattle.feeder.specs.Feeder.{Feeder}

abbrev pub four_bytes : List ℕ
four_bytes =
    0 ∷ 4 ∷ 0 ∷ 60
    ∷ 22 ∷ 0 ∷ 0 ∷ 0 ∷ 100 ∷ 64 ∷ 16 ∷ 0 ∷ 0 ∷ 0 ∷ 0 ∷ 0 ∷ 0 ∷ 0 ∷ 30
    ∷ 26 ∷ 0 ∷ 0 ∷ 0 ∷ 200 ∷ 0 ∷ 10 ∷ 0 ∷ 50
    ∷ 62 ∷ 0 ∷ 0 ∷ 1 ∷ 44 ∷ 64 ∷ 8 ∷ 0 ∷ 0 ∷ 0 ∷ 0 ∷ 0 ∷ 0 ∷ 0 ∷ 20 ∷ 0 ∷ 80
    ∷ 31 ∷ 0 ∷ 1 ∷ 0 ∷ 0 ∷ 1 ∷ 144 ∷ 63 ∷ 232 ∷ 0 ∷ 0 ∷ 0 ∷ 0 ∷ 0 ∷ 0 ∷ 0 ∷ 5 ∷ 0 ∷ 20
    ∷ []

abbrev pub four_feeder : Feeder
four_feeder = record {
  sections =
      record { figures = record { parent = None; rate = 100; repair = 240; customers = 0; load = 30; name = record { at = 0; len = 0 } }; switch = false }
      ∷ record { figures = record { parent = Some 0; rate = 200; repair = 120; customers = 10; load = 50; name = record { at = 0; len = 0 } }; switch = false }
      ∷ record { figures = record { parent = Some 1; rate = 300; repair = 180; customers = 20; load = 80; name = record { at = 0; len = 0 } }; switch = true }
      ∷ record { figures = record { parent = Some 1; rate = 400; repair = 45; customers = 5; load = 20; name = record { at = 0; len = 0 } }; switch = false }
      ∷ [];
  switching = 60;
}
