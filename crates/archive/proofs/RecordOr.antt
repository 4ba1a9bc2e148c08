-- Whatever the bytes, a record is laid out or has a first fault.
use Rattle.std.proofs.Common.{◌≡◌, ℕ, zero, suc, ◌+◌, ◌<◌, ◌≤◌, Bool, true, false, ◌⊎◌, List, [], ◌∷◌, length, get_or, refl, subst, inl, inr, ⊎_elim, not-le_of_lt, arith}
use lib.Bits.{bit_and}
use lib.Ieee.{binary64, of_bits}
use lib.Ieee.Bits.{of_bits-fits}
use Rattle.std.proofs.lemmas.Bool.{cases_lt, cases_eq}
use Rattle.hours.proofs.Decided.{quarters_or}
use Rattle.archive.specs.declared.record.RecordFault.{RecordFault}
use Rattle.archive.specs.declared.record.RecordFault.TheVariants.{Bytes, Map, Name}
use Rattle.archive.specs.declared.record.Record.{Record}
use Rattle.archive.specs.Layout.{Field, parent, rate, hours, customers, load, fields, stands, bit, width, Good, absent, bad, forbidden, parent_of, Printable, marked, named}
use Rattle.archive.specs.Reading.{number, FieldRead, FieldRefused, ReadAll, FirstFault}
use Rattle.archive.specs.Records.{Text, NameRead, NameRefused, MapRead, MapRefused, Laid, Faulty}

pub at_most : (x m : ℕ) → (x ≤ m) ⊎ (x ≤ m → ⊥)
at_most x m = ⊎_elim (λ (h : m < x). inr (not-le_of_lt h)) (λ (h : x ≤ m). inl h) (cases_lt m x)

good_or : (n : ℕ) (k : Field) (x : ℕ) → Good n k x ⊎ (Good n k x → ⊥)
good_or n parent x = ⊎_elim (λ (h : x < n). inl h) (λ (h : n ≤ x). inr (λ g. not-le_of_lt g h)) (cases_lt x n)
good_or n rate x = at_most x 100000
good_or n hours x = quarters_or (of_bits binary64 x) (of_bits-fits binary64 x)
good_or n customers x = at_most x 4000
good_or n load x = at_most x 4000

module _ (s : List ℕ) (n m : ℕ) where
  read_or : (k : Field) (p : ℕ) (here : Bool) → ((v : ℕ) × (q : ℕ) × FieldRead s here p (width k) (number k s p) (Good n k (number k s p)) (absent n k) v q)
      ⊎ ((f : RecordFault) × FieldRefused s here p (width k) (Good n k (number k s p)) (bad k p) f)
  read_or k p true = ⊎_elim
      (λ (h : length s < p + width k). inr (Bytes (record { at = p }), inl (h, refl)))
      (λ (h : p + width k ≤ length s). ⊎_elim
      (λ (g : Good n k (number k s p)). inl (number k s p, p + width k, (h, g, refl, refl)))
      (λ (g : Good n k (number k s p) → ⊥). inr (bad k p, inr (h, g, refl)))
      (good_or n k (number k s p)))
      (cases_lt (length s) (p + width k))
  read_or k p false = inl (absent n k, p, (refl, refl))

  all_or : (ks : List Field) (p : ℕ) → ((vs : List ℕ) × (q : ℕ) × ReadAll s n m ks p vs q) ⊎ ((f : RecordFault) × FirstFault s n m ks p f)
  all_or [] p = inl ([], p, refl)
  all_or (k ∷ ks) p = elim (read_or k p (stands m (bit k))) [
    | inl a ↦ elim (all_or ks a.1) [
      | inl b ↦ inl (a.0 ∷ b.0, b.1, (a.1, a.2, b.2))
      | inr b ↦ inr (b.0, inr (a.0, a.1, a.2, b.1))
    ]
    | inr a ↦ inr (a.0, inl a.1)
  ]

text_or : (s : List ℕ) (p l : ℕ) → Text s p l ⊎ ((i : ℕ) × (i < l) × Text s p i × (Printable (get_or s (p + i) 0) → ⊥))
text_or s p zero = inl (λ i h. absurd (omega (arith, h)))
text_or s p (suc l) = elim (text_or s p l) [
  | inr b ↦ (let w : b.0 < suc l = omega (arith, b.1) in inr (b.0, w, b.2, b.3))
  | inl t ↦ elim (printable (get_or s (p + l) 0)) [
    | inl g ↦ inl (λ i h. ⊎_elim (λ (c : i < l). t i c) (λ (c : l ≤ i). let e : l ≡ i = omega arith in subst (λ (j : ℕ). Printable (get_or s (p + j) 0)) e g) (cases_lt i l))
    | inr g ↦ (let w : l < suc l = omega arith in inr (l, w, t, g))
  ]
]
  where
    printable : (b : ℕ) → Printable b ⊎ (Printable b → ⊥)
    printable b = elim (at_most 32 b) [
      | inl lo ↦ elim (at_most b 126) [ inl hi ↦ inl (lo, hi) | inr nay ↦ inr (λ g. nay g.1) ]
      | inr nay ↦ inr (λ g. nay g.0)
    ]

map_or : (s : List ℕ) (p n : ℕ) → ((m : ℕ) × MapRead s p n m) ⊎ ((f : RecordFault) × MapRefused s p n f)
map_or s p n = elim (at_most (p + 1) (length s)) [
  | inl h ↦ elim (cases_eq (bit_and (get_or s p 0) (forbidden n)) 0) [
    | inl e ↦ inl (get_or s p 0, (h, refl, e))
    | inr e ↦ inr (Map p, inr (h, e, refl))
  ]
  | inr h ↦ (let w : length s < p + 1 = ⊎_elim (λ (c : length s < p + 1). c) (λ (c : p + 1 ≤ length s). absurd (h c)) (cases_lt (length s) (p + 1)) in inr (Bytes (record { at = p }), inl (w, refl)))
]

name_or : (s : List ℕ) (p : ℕ) (here : Bool) → ((a : ℕ) × (l : ℕ) × (q : ℕ) × NameRead s here p a l q) ⊎ ((f : RecordFault) × NameRefused s here p f)
name_or s p false = inl (0, 0, p, (refl, refl, refl))
name_or s p true = elim (cases_lt (length s) (p + 1)) [
  | inl h ↦ inr (Bytes (record { at = p }), inl (h, refl))
  | inr h ↦ elim (at_most 1 (get_or s p 0)) [
    | inr nay ↦ inr (Name p, inr (inl (h, (λ a b. nay a), refl)))
    | inl lo ↦ elim (at_most (get_or s p 0) 32) [
      | inr nay ↦ inr (Name p, inr (inl (h, (λ a b. nay b), refl)))
      | inl hi ↦ elim (cases_lt (length s) (p + 1 + get_or s p 0)) [
        | inl c ↦ inr (Bytes (record { at = p }), inr (inr (inl (lo, hi, h, c, refl))))
        | inr c ↦ elim (text_or s (p + 1) (get_or s p 0)) [
          | inl t ↦ inl (p + 1, get_or s p 0, p + 1 + get_or s p 0, (refl, lo, hi, c, t, refl, refl))
          | inr b ↦ inr (Name (p + 1 + b.0), inr (inr (inr (b.0, lo, hi, c, b.1, b.2, b.3, refl))))
        ]
      ]
    ]
  ]
]

five : (s : List ℕ) (n m p : ℕ) (vs : List ℕ) (q : ℕ) → ReadAll s n m fields p vs q
    → (v : ℕ) × (r : ℕ) × (h : ℕ) × (c : ℕ) × (l : ℕ) × ReadAll s n m fields p (v ∷ r ∷ h ∷ c ∷ l ∷ []) q
five s n m p [] q a = absurd a
five s n m p (v ∷ []) q a = absurd a.2
five s n m p (v ∷ r ∷ []) q a = absurd a.2.2
five s n m p (v ∷ r ∷ h ∷ []) q a = absurd a.2.2.2
five s n m p (v ∷ r ∷ h ∷ c ∷ []) q a = absurd a.2.2.2.2
five s n m p (v ∷ r ∷ h ∷ c ∷ l ∷ []) q a = (v, r, h, c, l, a)
five s n m p (v ∷ r ∷ h ∷ c ∷ l ∷ x ∷ xs) q a = absurd a.2.2.2.2.2

pub record_or : (s : List ℕ) (p n : ℕ) → ((r : Record) × (q : ℕ) × Laid s p n r q) ⊎ ((f : RecordFault) × Faulty s p n f)
record_or s p n = elim (map_or s p n) [
  | inr a ↦ inr (a.0, inl a.1)
  | inl a ↦ elim (all_or s n a.0 fields (p + 1)) [
    | inr b ↦ inr (b.0, inr (inl (a.0, a.1, b.1)))
    | inl b ↦ elim (name_or s b.1 (named a.0)) [
      | inr c ↦ inr (c.0, inr (inr (a.0, b.0, b.1, a.1, b.2, c.1)))
      | inl c ↦ (let d = five s n a.0 (p + 1) b.0 b.1 b.2 in
          inl (
            record { parent = parent_of n d.0; rate = d.1; hours = of_bits binary64 d.2; customers = d.3; load = d.4; switch = marked a.0; name = record { at = c.0; len = c.1 }; at = p },
            c.2,
            (a.0, d.0, d.2, b.1, a.1, d.5, c.3, refl, refl, refl, refl),
          ))
    ]
  ]
]
