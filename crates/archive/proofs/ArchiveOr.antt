-- Whatever the bytes and the room, there is a feeder or a first fault.
use Rattle.std.proofs.Common.{◌≡◌, ℕ, zero, suc, ◌+◌, ◌*◌, ◌<◌, ◌≤◌, ◌⊎◌, List, [], ◌∷◌, length, refl, ap, subst, inl, inr, arith}
use Rattle.std.proofs.lemmas.Bool.{cases_lt}
use Rattle.archive.specs.Sections.{section_with}
use Rattle.archive.specs.Grammar.{Keeps}
use Rattle.archive.specs.Reading.{be2}
use Rattle.archive.specs.Records.{Faulty}
use Rattle.archive.specs.Archives.{Records, Check, All, First, checks, Fails, faulty_header, faulty_record, after}
use Rattle.feeder.specs.Feeder.{Feeder}
use Rattle.archive.specs.declared.record.RecordFault.{RecordFault}
use Rattle.archive.proofs.RecordOr.{at_most, record_or}
use Rattle.feeder.specs.declared.section.Section.{Section}
use Rattle.archive.specs.declared.fault.SectionFault.{SectionFault}
use Rattle.archive.specs.declared.fault.LoadFault.{LoadFault}
use Rattle.archive.specs.declared.fault.LoadFault.TheVariants.{Record as InRecord, Trailing}
use Rattle.archive.proofs.Laying.{laid_hours}
use Rattle.archive.proofs.ArchiveSame.{records_within, kept}

between : (l x m : ℕ) → ((l ≤ x) × (x ≤ m)) ⊎ ((l ≤ x) × (x ≤ m) → ⊥)
between l x m = elim (at_most l x) [
  | inl lo ↦ elim (at_most x m) [ inl hi ↦ inl (lo, hi) | inr nay ↦ inr (λ g. nay g.1) ]
  | inr nay ↦ inr (λ g. nay g.0)
]

-- checks that are each decided
abbrev Decided : List Check → Type 0
Decided [] = Unit {0}
Decided (c ∷ cs) = (c.holds ⊎ (c.holds → ⊥)) × Decided cs

first_or : (cs : List Check) → Decided cs → All cs ⊎ ((f : LoadFault) × First cs f)
first_or [] d = inl tt
first_or (c ∷ cs) d = elim d.0 [
  | inr nay ↦ inr (c.fault, inl (nay, refl))
  | inl yea ↦ elim (first_or cs d.1) [ inl a ↦ inl (yea, a) | inr b ↦ inr (b.0, inr (yea, b.1)) ]
]

header_or : (s : List ℕ) (room : ℕ) → All (checks s room) ⊎ ((f : LoadFault) × First (checks s room) f)
header_or s room = first_or (checks s room)
    (at_most 2 (length s), (between 1 (be2 s 0) 1024, (at_most 4 (length s), (between 1 (be2 s 2) 1440, (at_most (be2 s 0) room, tt)))))

records_or : (s : List ℕ) (m k p : ℕ)
    → ((xs : List Section) × (q : ℕ) × (length xs ≡ m) × Records s k p xs q)
    ⊎ ((xs : List Section) × (q : ℕ) × (f : RecordFault) × (length xs < m) × Records s k p xs q × Faulty s q (k + length xs) f)
records_or s zero k p = inl ([], p, refl, refl)
records_or s (suc m) k p = elim (record_or s p k) [
  | inr a ↦ (let z : 0 < suc m = omega arith in let e : k ≡ k + 0 = omega arith in inr ([], p, a.0, z, refl, subst (λ (y : ℕ). Faulty s p y a.0) e a.1))
  | inl a ↦ (let h = laid_hours s p k a.0 a.1 a.2 in
      let x : Section = section_with a.0 (15 * h.0) in
      elim (records_or s m (k + 1) a.1) [
        | inl b ↦ inl (x ∷ b.0, b.1, ap suc b.2, (a.0, a.1, a.2, (h.0, h.1, refl), b.3))
        | inr b ↦ (let w : length (x ∷ b.0) < suc m = omega (arith, b.3) in
            let e : k + 1 + length b.0 ≡ k + length (x ∷ b.0) = omega arith in
            inr (x ∷ b.0, b.1, b.2, w, (a.0, a.1, a.2, (h.0, h.1, refl), b.4), subst (λ (y : ℕ). Faulty s b.1 y b.2) e b.5))
      ])
]

pub load_or : (s : List ℕ) (room : ℕ) → ((f : Feeder) × Keeps s room f) ⊎ ((e : LoadFault) × Fails s room e)
load_or s room = elim (header_or s room) [
  | inr a ↦ inr (a.0, faulty_header a.1)
  | inl a ↦ elim (records_or s (be2 s 0) 0 4) [
    | inr b ↦ (let e : 0 + length b.0 ≡ length b.0 = omega arith in
        let d : SectionFault = record { section = length b.0; fault = b.2 } in
        inr (InRecord d, faulty_record a d (b.0, b.1, b.3, b.4, refl, subst (λ (y : ℕ). Faulty s b.1 y b.2) e b.5) refl))
    | inl b ↦ elim (cases_lt b.1 (length s)) [
      | inl c ↦ inr (Trailing b.1, after a b.0 b.1 b.2 b.3 c refl)
      | inr c ↦ (let w : b.1 ≤ length s = records_within s 0 4 b.0 b.1 b.3 a.1.1.0 in
          let e : b.1 ≡ length s = omega arith in
          let f : Feeder = record { sections = b.0; switching = be2 s 2 } in
          inl (f, kept s room f (record { header = a; count = b.2; time = refl; records = subst (λ (q : ℕ). Records s 0 4 b.0 q) e b.3 })))
    ]
  ]
]
