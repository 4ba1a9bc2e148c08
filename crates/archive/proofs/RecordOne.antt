-- The bytes fix a whole record: one record with one place after it, or one first fault, and never both.
use Rattle.std.proofs.Common.{◌≡◌, ℕ, ◌+◌, ◌<◌, ◌≤◌, Bool, true, false, List, [], ◌∷◌, get_or, sym, ap, ◌∙◌, subst, inl, inr, ⊎_elim, not-le_of_lt, arith}
use lib.Bits.{bit_and}
use lib.Ieee.{binary64, of_bits}
use Rattle.std.proofs.lemmas.Bool.{cases_lt}
use Rattle.archive.specs.declared.record.RecordFault.{RecordFault}
use Rattle.archive.specs.declared.record.RecordFault.TheVariants.{Name}
use Rattle.archive.specs.declared.record.Record.{Record}
use Rattle.archive.specs.Layout.{fields, forbidden, parent_of, Printable, marked, named}
use Rattle.archive.specs.Reading.{ReadAll, FirstFault}
use Rattle.archive.specs.Records.{Text, NameRead, NameRefused, MapRead, MapRefused, Laid, Faulty}
use Rattle.archive.specs.Laws.{OneRecord}
use Rattle.archive.proofs.RecordOr.{record_or}
use Rattle.archive.proofs.RecordSame.{record_to}
use Rattle.archive.proofs.Sits.{sits_is}
use Rattle.archive.proofs.FieldsOne.{read_all_one, first_fault_one, never_all}

-- ---- the map byte
map_one : (s : List ℕ) (p n m m' : ℕ) → MapRead s p n m → MapRead s p n m' → m ≡ m'
map_one s p n m m' r r' = r.1 ∙ sym r'.1

map_never : (s : List ℕ) (p n m : ℕ) (f : RecordFault) → MapRead s p n m → MapRefused s p n f → ⊥
map_never s p n m f r (inl e) = not-le_of_lt e.0 r.0
map_never s p n m f r (inr e) = e.1 (subst (λ (y : ℕ). bit_and y (forbidden n) ≡ 0) r.1 r.2)

map_fault : (s : List ℕ) (p n : ℕ) (f f' : RecordFault) → MapRefused s p n f → MapRefused s p n f' → f ≡ f'
map_fault s p n f f' (inl e) (inl e') = e.1 ∙ sym e'.1
map_fault s p n f f' (inl e) (inr e') = absurd (not-le_of_lt e.0 e'.0)
map_fault s p n f f' (inr e) (inl e') = absurd (not-le_of_lt e'.0 e.0)
map_fault s p n f f' (inr e) (inr e') = e.2 ∙ sym e'.2

-- ---- the name
name_one : (s : List ℕ) (here : Bool) (p a l q a' l' q' : ℕ) → NameRead s here p a l q → NameRead s here p a' l' q' → (a ≡ a') × (l ≡ l') × (q ≡ q')
name_one s true p a l q a' l' q' r r' =
    let e : l ≡ l' = r.0 ∙ sym r'.0 in
    (r.5 ∙ sym r'.5, e, r.6 ∙ ap (λ (y : ℕ). p + 1 + y) e ∙ sym r'.6)
name_one s false p a l q a' l' q' r r' = (r.1 ∙ sym r'.1, r.0 ∙ sym r'.0, r.2 ∙ sym r'.2)

name_never : (s : List ℕ) (here : Bool) (p a l q : ℕ) (f : RecordFault) → NameRead s here p a l q → NameRefused s here p f → ⊥
name_never s true p a l q f r (inl e) = omega (arith, r.3, e.0)
name_never s true p a l q f r (inr (inl e)) = e.1 (omega (arith, r.0, r.1)) (omega (arith, r.0, r.2))
name_never s true p a l q f r (inr (inr (inl e))) = omega (arith, r.0, r.3, e.3)
name_never s true p a l q f r (inr (inr (inr e))) = e.6 (r.4 e.0 (omega (arith, r.0, e.4)))
name_never s false p a l q f r e = e

-- of two first bytes that are not printable, neither comes before the other
bad_byte_one : (s : List ℕ) (p i j : ℕ) → Text s p i → (Printable (get_or s (p + i) 0) → ⊥) → Text s p j → (Printable (get_or s (p + j) 0) → ⊥) → i ≡ j
bad_byte_one s p i j t b t' b' =
    ⊎_elim (λ (h : i < j). absurd (b (t' i h)))
    (λ (h : j ≤ i). ⊎_elim (λ (g : j < i). absurd (b' (t j g))) (λ (g : i ≤ j). let e : i ≡ j = omega arith in e) (cases_lt j i))
    (cases_lt i j)

name_fault : (s : List ℕ) (here : Bool) (p : ℕ) (f f' : RecordFault) → NameRefused s here p f → NameRefused s here p f' → f ≡ f'
name_fault s true p f f' (inl e) (inl e') = e.1 ∙ sym e'.1
name_fault s true p f f' (inl e) (inr (inl e')) = absurd (not-le_of_lt e.0 e'.0)
name_fault s true p f f' (inl e) (inr (inr (inl e'))) = absurd (not-le_of_lt e.0 e'.2)
name_fault s true p f f' (inl e) (inr (inr (inr e'))) = absurd (omega (arith, e.0, e'.3))
name_fault s true p f f' (inr (inl e)) (inl e') = absurd (not-le_of_lt e'.0 e.0)
name_fault s true p f f' (inr (inl e)) (inr (inl e')) = e.2 ∙ sym e'.2
name_fault s true p f f' (inr (inl e)) (inr (inr (inl e'))) = absurd (e.1 e'.0 e'.1)
name_fault s true p f f' (inr (inl e)) (inr (inr (inr e'))) = absurd (e.1 e'.1 e'.2)
name_fault s true p f f' (inr (inr (inl e))) (inl e') = absurd (not-le_of_lt e'.0 e.2)
name_fault s true p f f' (inr (inr (inl e))) (inr (inl e')) = absurd (e'.1 e.0 e.1)
name_fault s true p f f' (inr (inr (inl e))) (inr (inr (inl e'))) = e.4 ∙ sym e'.4
name_fault s true p f f' (inr (inr (inl e))) (inr (inr (inr e'))) = absurd (not-le_of_lt e.3 e'.3)
name_fault s true p f f' (inr (inr (inr e))) (inl e') = absurd (omega (arith, e'.0, e.3))
name_fault s true p f f' (inr (inr (inr e))) (inr (inl e')) = absurd (e'.1 e.1 e.2)
name_fault s true p f f' (inr (inr (inr e))) (inr (inr (inl e'))) = absurd (not-le_of_lt e'.3 e.3)
name_fault s true p f f' (inr (inr (inr e))) (inr (inr (inr e'))) =
    let i : e.0 ≡ e'.0 = bad_byte_one s (p + 1) e.0 e'.0 e.5 e.6 e'.5 e'.6 in
    e.7 ∙ ap (λ (y : ℕ). Name (p + 1 + y)) i ∙ sym e'.7
name_fault s false p f f' e e' = absurd e

-- ---- the record
pub laid_one : (s : List ℕ) (p n : ℕ) (r : Record) (q : ℕ) (r' : Record) (q' : ℕ) → Laid s p n r q → Laid s p n r' q' → (r ≡ r') × (q ≡ q')
laid_one s p n r q r' q' (m, v, h, o, mr, ra, nr, e1, e2, e3, e4) (m', v', h', o', mr', ra', nr', e1', e2', e3', e4') =
    let em : m ≡ m' = map_one s p n m m' mr mr' in
    let vs = v ∷ r.rate ∷ h ∷ r.customers ∷ r.load ∷ [] in
    let vs' = v' ∷ r'.rate ∷ h' ∷ r'.customers ∷ r'.load ∷ [] in
    let a = read_all_one s n m fields (p + 1) vs o vs' o' ra (subst (λ (y : ℕ). ReadAll s n y fields (p + 1) vs' o') (sym em) ra') in
    let b = name_one s (named m) o r.name.at r.name.len q r'.name.at r'.name.len q' nr
    (subst (λ (y : ℕ). NameRead s (named m) y r'.name.at r'.name.len q') (sym a.1)
    (subst (λ (y : ℕ). NameRead s (named y) o' r'.name.at r'.name.len q') (sym em) nr')) in
    let at : (i : ℕ) → get_or vs i 0 ≡ get_or vs' i 0 = λ i. ap (λ (ws : List ℕ). get_or ws i 0) a.0 in
    let ep : r.parent ≡ r'.parent = e2 ∙ ap (parent_of n) (at 0) ∙ sym e2' in
    let eh : r.hours ≡ r'.hours = e3 ∙ ap (of_bits binary64) (at 2) ∙ sym e3' in
    let es : r.switch ≡ r'.switch = e4 ∙ ap (λ (y : ℕ). marked y) em ∙ sym e4' in
    let ea : r.at ≡ r'.at = e1 ∙ sym e1' in
    let er : r.rate ≡ r'.rate = at 1 in
    let ec : r.customers ≡ r'.customers = at 3 in
    let el : r.load ≡ r'.load = at 4 in
    ((λ j. record { parent = ep j; rate = er j; hours = eh j; customers = ec j; load = el j; switch = es j; name = record { at = b.0 j; len = b.1 j }; at = ea j }), b.2)

pub laid_never : (s : List ℕ) (p n : ℕ) (r : Record) (q : ℕ) (f : RecordFault) → Laid s p n r q → Faulty s p n f → ⊥
laid_never s p n r q f (m, v, h, o, mr, ra, nr, e1, e2, e3, e4) (inl g) = map_never s p n m f mr g
laid_never s p n r q f (m, v, h, o, mr, ra, nr, e1, e2, e3, e4) (inr (inl (m', mr', g))) =
    never_all s n m fields (p + 1) (v ∷ r.rate ∷ h ∷ r.customers ∷ r.load ∷ []) o f ra (subst (λ (y : ℕ). FirstFault s n y fields (p + 1) f) (map_one s p n m' m mr' mr) g)
laid_never s p n r q f (m, v, h, o, mr, ra, nr, e1, e2, e3, e4) (inr (inr (m', vs', o', mr', ra', g))) =
    let em : m' ≡ m = map_one s p n m' m mr' mr in
    let a = read_all_one s n m fields (p + 1) vs' o' (v ∷ r.rate ∷ h ∷ r.customers ∷ r.load ∷ []) o (subst (λ (y : ℕ). ReadAll s n y fields (p + 1) vs' o') em ra') ra in
    name_never s (named m) o r.name.at r.name.len q f nr
    (subst (λ (y : ℕ). NameRefused s (named m) y f) a.1 (subst (λ (y : ℕ). NameRefused s (named y) o' f) em g))

pub faulty_one : (s : List ℕ) (p n : ℕ) (f f' : RecordFault) → Faulty s p n f → Faulty s p n f' → f ≡ f'
faulty_one s p n f f' (inl g) (inl g') = map_fault s p n f f' g g'
faulty_one s p n f f' (inl g) (inr (inl (m', mr', g'))) = absurd (map_never s p n m' f mr' g)
faulty_one s p n f f' (inl g) (inr (inr (m', vs', o', mr', ra', g'))) = absurd (map_never s p n m' f mr' g)
faulty_one s p n f f' (inr (inl (m, mr, g))) (inl g') = absurd (map_never s p n m f' mr g')
faulty_one s p n f f' (inr (inl (m, mr, g))) (inr (inl (m', mr', g'))) =
    first_fault_one s n m fields (p + 1) f f' g (subst (λ (y : ℕ). FirstFault s n y fields (p + 1) f') (map_one s p n m' m mr' mr) g')
faulty_one s p n f f' (inr (inl (m, mr, g))) (inr (inr (m', vs', o', mr', ra', g'))) =
    absurd (never_all s n m fields (p + 1) vs' o' f (subst (λ (y : ℕ). ReadAll s n y fields (p + 1) vs' o') (map_one s p n m' m mr' mr) ra') g)
faulty_one s p n f f' (inr (inr (m, vs, o, mr, ra, g))) (inl g') = absurd (map_never s p n m f' mr g')
faulty_one s p n f f' (inr (inr (m, vs, o, mr, ra, g))) (inr (inl (m', mr', g'))) =
    absurd (never_all s n m fields (p + 1) vs o f' ra (subst (λ (y : ℕ). FirstFault s n y fields (p + 1) f') (map_one s p n m' m mr' mr) g'))
faulty_one s p n f f' (inr (inr (m, vs, o, mr, ra, g))) (inr (inr (m', vs', o', mr', ra', g'))) =
    let em : m' ≡ m = map_one s p n m' m mr' mr in
    let a = read_all_one s n m fields (p + 1) vs' o' vs o (subst (λ (y : ℕ). ReadAll s n y fields (p + 1) vs' o') em ra') ra in
    name_fault s (named m) o f f' g
    (subst (λ (y : ℕ). NameRefused s (named m) y f') a.1 (subst (λ (y : ℕ). NameRefused s (named y) o' f') em g'))

pub one_record : (s : List ℕ) (p n : ℕ) → OneRecord s p n
one_record s p n = record {
  some = record_or s p n;
  read = laid_one s p n;
  fault = faulty_one s p n;
  never = laid_never s p n;
  bytes = λ r q h. let t = record_to s p n r q h in (t.0, sits_is s p t.0 t.1, t.2, t.3);
}
