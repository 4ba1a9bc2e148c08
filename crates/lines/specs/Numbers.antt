-- Decimal numbers as they stand in a line.
use Rattle.std.specs.Prelude.{◌≡◌, ℕ, ◌^◌, ◌<◌, ◌≤◌, List, ◌∷◌, ◌++◌, length, decimal, slice_index}
use Rattle.std.specs.Int.{IsInRange}

-- a decimal digit
abbrev pub Digit : ℕ → Type 0
Digit c = IsInRange 48 57 c

-- nothing but digits
abbrev pub AllDigits : List ℕ → Type 0
AllDigits ds = (i : ℕ) → i < length ds → Digit (slice_index ds i)

-- no digit comes first
abbrev pub Stops : List ℕ → Type 0
Stops bs = Digit (slice_index bs 0) → ⊥

-- k digits stand in front of the text, and no more
pub record Front (text : List ℕ) (k : ℕ) : Type 0 where
  pub within : k ≤ length text
  pub front : (i : ℕ) → i < k → Digit (slice_index text i)
  pub stops : Digit (slice_index text k) → ⊥

-- the text begins with the number n, which a line can hold, and goes on with rest
abbrev pub Begins : List ℕ → ℕ → List ℕ → Type 0
Begins text n rest = (n < 2 ^ 32) × Stops rest × (text ≡ decimal n ++ rest)

-- the same after one space
abbrev pub Spaced : List ℕ → ℕ → List ℕ → Type 0
Spaced text n rest = (n < 2 ^ 32) × Stops rest × (text ≡ 32 ∷ (decimal n ++ rest))
