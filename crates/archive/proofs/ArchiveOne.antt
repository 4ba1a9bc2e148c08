-- The bytes and the room fix what a load answers.
use Rattle.std.proofs.Common.{◌≡◌, ℕ, ◌+◌, ◌*◌, ◌<◌, ◌≤◌, List, [], ◌∷◌, length, sym, refl, ap, ◌∙◌, subst, inl, inr, ⊎_elim, arith}
use Rattle.hours.specs.Quarters.{Quarters}
use Rattle.hours.proofs.Decided.{quarters_one}
use Rattle.std.proofs.lemmas.Bool.{cases_lt}
use Rattle.archive.specs.Sections.{SectionOf, section_with}
use Rattle.archive.specs.Grammar.{Keeps}
use Rattle.archive.specs.Reading.{be2}
use Rattle.archive.specs.Records.{Faulty}
use Rattle.archive.specs.Archives.{Records, Check, All, First, checks, RecordFails, Fails, faulty_header, faulty_record, after}
use Rattle.feeder.specs.Feeder.{Feeder}
use Rattle.archive.specs.declared.record.Record.{Record}
use Rattle.archive.specs.declared.record.RecordFault.{RecordFault}
use Rattle.archive.proofs.RecordOne.{laid_one, laid_never, faulty_one}
use Rattle.feeder.specs.declared.section.Section.{Section}
use Rattle.archive.specs.declared.fault.SectionFault.{SectionFault}
use Rattle.archive.specs.declared.fault.LoadFault.{LoadFault}
use Rattle.archive.specs.declared.fault.LoadFault.TheVariants.{Record as InRecord, Trailing}
use Rattle.archive.proofs.ArchiveSame.{Placed, placed}
use Rattle.archive.proofs.ArchiveOr.{load_or}
use Rattle.archive.specs.Laws.{OneOutcome}

first_one : (cs : List Check) (f f' : LoadFault) → First cs f → First cs f' → f ≡ f'
first_one [] f f' h h' = absurd h
first_one (c ∷ cs) f f' (inl h) (inl h') = h.1 ∙ sym h'.1
first_one (c ∷ cs) f f' (inl h) (inr h') = absurd (h.0 h'.0)
first_one (c ∷ cs) f f' (inr h) (inl h') = absurd (h'.0 h.0)
first_one (c ∷ cs) f f' (inr h) (inr h') = first_one cs f f' h.1 h'.1

first_never : (cs : List Check) (f : LoadFault) → All cs → First cs f → ⊥
first_never [] f a h = h
first_never (c ∷ cs) f a (inl h) = h.0 a.0
first_never (c ∷ cs) f a (inr h) = first_never cs f a.1 h.1

section_one : (r r' : Record) (x x' : Section) → r ≡ r' → SectionOf r x → SectionOf r' x' → x ≡ x'
section_one r r' x x' e (q, h, t) (q', h', t') =
    let k : q ≡ q' = quarters_one r.hours q q' h (subst (λ (d : Record). Quarters d.hours q') (sym e) h') in
    t ∙ ap (λ (n : ℕ). section_with r (15 * n)) k ∙ ap (λ (d : Record). section_with d (15 * q')) e ∙ sym t'

records_one : (s : List ℕ) (k p : ℕ) (xs : List Section) (q : ℕ) (xs' : List Section) (q' : ℕ) → length xs ≡ length xs' → Records s k p xs q → Records s k p xs' q' → (xs ≡ xs') × (q ≡ q')
records_one s k p [] q [] q' l a a' = (refl, a ∙ sym a')
records_one s k p [] q (x' ∷ xs') q' l a a' = absurd (omega (arith, l))
records_one s k p (x ∷ xs) q [] q' l a a' = absurd (omega (arith, l))
records_one s k p (x ∷ xs) q (x' ∷ xs') q' l (r, o, d, t, a) (r', o', d', t', a') =
    let e = laid_one s p k r o r' o' d d' in
    let m : length xs ≡ length xs' = omega arith in
    let i = records_one s (k + 1) o xs q xs' q' m a (subst (λ (y : ℕ). Records s (k + 1) y xs' q') (sym e.1) a') in
    let x-one : x ≡ x' = section_one r r' x x' e.0 t t' in
    ((λ j. x-one j ∷ i.0 j), i.1)

-- A record that has a fault is not among those that are read.
records_never : (s : List ℕ) (k p : ℕ) (xs : List Section) (q : ℕ) (xs' : List Section) (q' : ℕ) (j : ℕ) (f : RecordFault)
    → length xs < length xs' → Records s k p xs q → Records s k p xs' q' → j ≡ k + length xs → Faulty s q j f → ⊥
records_never s k p [] q [] q' j f l a a' n g = omega (arith, l)
records_never s k p (x ∷ xs) q [] q' j f l a a' n g = omega (arith, l)
records_never s k p [] q (x' ∷ xs') q' j f l a (r', o', d', t', a') n g =
    let m : j ≡ k = omega (arith, n) in
    laid_never s p k r' o' f d' (subst (λ (y : ℕ). Faulty s p y f) m (subst (λ (y : ℕ). Faulty s y j f) a g))
records_never s k p (x ∷ xs) q (x' ∷ xs') q' j f l (r, o, d, t, a) (r', o', d', t', a') n g =
    let e = laid_one s p k r o r' o' d d' in
    let m : length xs < length xs' = omega (arith, l) in
    let i : j ≡ (k + 1) + length xs = omega (arith, n) in
    records_never s (k + 1) o xs q xs' q' j f m a (subst (λ (y : ℕ). Records s (k + 1) y xs' q') (sym e.1) a') i g

never_read : (s : List ℕ) (n : ℕ) (e : SectionFault) (xs : List Section) (q : ℕ) → RecordFails s n e → length xs ≡ n → Records s 0 4 xs q → ⊥
never_read s n e xs q (ys, p, l, a, k, g) m b =
    let w : length ys < length xs = omega arith in
    let z : length ys ≡ 0 + length ys = omega arith in
    records_never s 0 4 ys p xs q (length ys) e.fault w a b z g

fault_one : (s : List ℕ) (n : ℕ) (e e' : SectionFault) → RecordFails s n e → RecordFails s n e' → e ≡ e'
fault_one s n e e' (xs, p, l, a, k, g) (xs', p', l', a', k', g') =
    ⊎_elim (λ (h : length xs < length xs'). absurd (let z : length xs ≡ 0 + length xs = omega arith in records_never s 0 4 xs p xs' p' (length xs) e.fault h a a' z g))
    (λ (h : length xs' ≤ length xs). ⊎_elim
    (λ (h' : length xs' < length xs). absurd (let z : length xs' ≡ 0 + length xs' = omega arith in records_never s 0 4 xs' p' xs p (length xs') e'.fault h' a' a z g'))
    (λ (h' : length xs ≤ length xs').
    let m : length xs ≡ length xs' = omega arith in
    let i = records_one s 0 4 xs p xs' p' m a a' in
    let ef : e.fault ≡ e'.fault = faulty_one s p (length xs) e.fault e'.fault g
    (subst (λ (y : ℕ). Faulty s y (length xs) e'.fault) (sym i.1) (subst (λ (y : ℕ). Faulty s p' y e'.fault) (sym m) g')) in
    let es : e.section ≡ e'.section = k ∙ m ∙ sym k' in
    (λ j. record { section = es j; fault = ef j }))
    (cases_lt (length xs') (length xs)))
    (cases_lt (length xs) (length xs'))

-- An archive has one feeder, whatever the rooms.
pub keeps_one : {s : List ℕ} {room room' : ℕ} {f f' : Feeder} → Keeps s room f → Keeps s room' f' → f ≡ f'
keeps_one {s} {room} {room'} {f} {f'} k k' =
    let h = placed s room f k in
    let h' = placed s room' f' k' in
    let i = records_one s 0 4 f.sections (length s) f'.sections (length s) (h.count ∙ sym h'.count) h.records h'.records in
    let t : f.switching ≡ f'.switching = h.time ∙ sym h'.time in
    λ j. record { sections = i.0 j; switching = t j }

fails_one : (s : List ℕ) (room : ℕ) (f f' : LoadFault) → Fails s room f → Fails s room f' → f ≡ f'
fails_one s room f f' (faulty_header h) (faulty_header h') = first_one (checks s room) f f' h h'
fails_one s room f f' (faulty_header h) (faulty_record a e g t) = absurd (first_never (checks s room) f a h)
fails_one s room f f' (faulty_header h) (after a xs p l r w t) = absurd (first_never (checks s room) f a h)
fails_one s room f f' (faulty_record a e g t) (faulty_header h) = absurd (first_never (checks s room) f' a h)
fails_one s room f f' (faulty_record a e g t) (faulty_record a' e' g' t') = t ∙ ap InRecord (fault_one s (be2 s 0) e e' g g') ∙ sym t'
fails_one s room f f' (faulty_record a e g t) (after a' xs p l r w t') = absurd (never_read s (be2 s 0) e xs p g l r)
fails_one s room f f' (after a xs p l r w t) (faulty_header h) = absurd (first_never (checks s room) f' a h)
fails_one s room f f' (after a xs p l r w t) (faulty_record a' e g t') = absurd (never_read s (be2 s 0) e xs p g l r)
fails_one s room f f' (after a xs p l r w t) (after a' xs' p' l' r' w' t') =
    t ∙ ap Trailing (records_one s 0 4 xs p xs' p' (l ∙ sym l') r r').1 ∙ sym t'

never_both : (s : List ℕ) (room : ℕ) (f : Feeder) (e : LoadFault) → Placed s room f → Fails s room e → ⊥
never_both s room f e h (faulty_header g) = first_never (checks s room) e h.header g
never_both s room f e h (faulty_record a d g t) = never_read s (be2 s 0) d f.sections (length s) g h.count h.records
never_both s room f e h (after a xs p l r w t) =
    let i = records_one s 0 4 xs p f.sections (length s) (l ∙ sym h.count) r h.records in
    omega (arith, w, i.1)

pub one_outcome : (s : List ℕ) (room : ℕ) → OneOutcome s room
one_outcome s room = record {
  some = load_or s room;
  feeder = λ f f' h h'. keeps_one h h';
  fault = fails_one s room;
  never = λ f e h. never_both s room f e (placed s room f h);
}
