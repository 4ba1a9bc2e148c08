-- The bytes of a record by their places, and as one part after another, are the same.
use Rattle.std.proofs.Common.{◌≡◌, ℕ, zero, suc, ◌+◌, ◌<◌, ◌≤◌, Bool, true, false, List, [], ◌∷◌, ◌++◌, length, get_or, sym, refl, ap, ◌∙◌, subst, add-zero, arith, length-append}
use Rattle.archive.specs.Layout.{Field, fields, stands, bit, width, Good, absent, Printable, named}
use Rattle.archive.specs.Grammar.{FieldIs, FieldsAre, NameIs, RecordIs}
use Rattle.archive.specs.Reading.{number, FieldRead, ReadAll}
use Rattle.archive.specs.Records.{NameRead, Laid}
use Rattle.archive.specs.declared.record.Record.{Record}
use Rattle.archive.proofs.Sits.{Sits, sits_nil, sits_append, sits_left, sits_right, part, length_part, sits_part, number_big}

module _ (s : List ℕ) (n : ℕ) where
  -- ---- a field
  field_to : (here : Bool) (k : Field) (p v q : ℕ) → p ≤ length s
      → FieldRead s here p (width k) (number k s p) (Good n k (number k s p)) (absent n k) v q
      → (a : List ℕ) × Sits s p a × (q ≡ p + length a) × FieldIs n here k v a
  field_to true k p v q w r =
      let l : length (part s p (width k)) ≡ width k = length_part s p (width k) r.0 in
      let t = sits_part s p (width k) r.0 in (
        part s p (width k),
        t,
        r.3 ∙ ap (λ (y : ℕ). p + y) (sym l),
        (l, r.2 ∙ number_big k s p (part s p (width k)) l t, subst (λ (y : ℕ). Good n k y) (sym r.2) r.1),
      )
  field_to false k p v q w r = ([], sits_nil s p w, r.1 ∙ sym (add-zero p), (refl, r.0))

  field_from : (here : Bool) (k : Field) (p v : ℕ) (a : List ℕ) → Sits s p a → FieldIs n here k v a
      → FieldRead s here p (width k) (number k s p) (Good n k (number k s p)) (absent n k) v (p + length a)
  field_from true k p v a t f =
      let e : v ≡ number k s p = f.1 ∙ sym (number_big k s p a f.0 t) in
      (subst (λ (y : ℕ). p + y ≤ length s) f.0 t.0, subst (λ (y : ℕ). Good n k y) e f.2, e, ap (λ (y : ℕ). p + y) f.0)
  field_from false k p v a t f = (f.1, ap (λ (y : List ℕ). p + length y) f.0 ∙ add-zero p)

  -- ---- the fields
  fields_to : (m : ℕ) (ks : List Field) (p : ℕ) (vs : List ℕ) (q : ℕ) → p ≤ length s → ReadAll s n m ks p vs q
      → (a : List ℕ) × Sits s p a × (q ≡ p + length a) × FieldsAre n m ks vs a
  fields_to m [] p [] q w r = ([], sits_nil s p w, r ∙ sym (add-zero p), refl)
  fields_to m [] p (v ∷ vs) q w r = absurd r
  fields_to m (k ∷ ks) p [] q w r = absurd r
  fields_to m (k ∷ ks) p (v ∷ vs) q w (o, r, rs) =
      let f = field_to (stands m (bit k)) k p v o w r in
      let x : o ≤ length s = omega (arith, f.1.0, f.2) in
      let g = fields_to m ks o vs q x rs in
      let b : Sits s (p + length f.0) g.0 = subst (λ (y : ℕ). Sits s y g.0) f.2 g.1 in
      let l : length (f.0 ++ g.0) ≡ length f.0 + length g.0 = length-append f.0 g.0 in
      let e : q ≡ p + length (f.0 ++ g.0) = omega (arith, f.2, g.2) in
      (f.0 ++ g.0, sits_append s p f.0 g.0 f.1 b, e, (f.0, g.0, refl, f.3, g.3))

  fields_from : (m : ℕ) (ks : List Field) (p : ℕ) (vs : List ℕ) (bs : List ℕ) → Sits s p bs → FieldsAre n m ks vs bs → ReadAll s n m ks p vs (p + length bs)
  fields_from m [] p [] bs t f = ap (λ (y : List ℕ). p + length y) f ∙ add-zero p
  fields_from m [] p (v ∷ vs) bs t f = absurd f
  fields_from m (k ∷ ks) p [] bs t f = absurd f
  fields_from m (k ∷ ks) p (v ∷ vs) bs t (a, b, e, f, g) =
      let u : Sits s p (a ++ b) = subst (λ (y : List ℕ). Sits s p y) e t in
      let l : length (a ++ b) ≡ length a + length b = length-append a b in
      let d : length bs ≡ length (a ++ b) = ap length e in
      let x : p + length a + length b ≡ p + length bs = omega arith in (
        p + length a,
        field_from (stands m (bit k)) k p v a (sits_left s p a b u) f,
        subst (λ (y : ℕ). ReadAll s n m ks (p + length a) vs y) x (fields_from m ks (p + length a) vs b (sits_right s p a b u) g),
      )

-- ---- one byte
one_at : (s : List ℕ) (p x : ℕ) → x ≡ get_or s p 0 → (i : ℕ) → i < 1 → get_or s (p + i) 0 ≡ get_or (x ∷ []) i 0
one_at s p x e zero h = ap (λ (k : ℕ). get_or s k 0) (add-zero p) ∙ sym e
one_at s p x e (suc i) h = absurd (omega (arith, h))

sits_one : (s : List ℕ) (p x : ℕ) → p + 1 ≤ length s → x ≡ get_or s p 0 → Sits s p (x ∷ [])
sits_one s p x w e = (w, one_at s p x e)

one_is : (s : List ℕ) (p x : ℕ) → Sits s p (x ∷ []) → x ≡ get_or s p 0
one_is s p x t = let l : 0 < 1 = omega arith in sym (t.1 0 l) ∙ ap (λ (k : ℕ). get_or s k 0) (add-zero p)

-- ---- the name
name_to : (s : List ℕ) (here : Bool) (p a l q : ℕ) → p ≤ length s → NameRead s here p a l q
    → (bs : List ℕ) × Sits s p bs × (q ≡ p + length bs) × NameIs here p a l bs
name_to s true p a l q w r =
    let text = part s (p + 1) l in
    let e : length text ≡ l = length_part s (p + 1) l r.3 in
    let t : Sits s (p + 1) text = sits_part s (p + 1) l r.3 in
    let x : p + 1 ≤ length s = omega (arith, r.3) in
    let u : Sits s p (length text ∷ text) = sits_append s p (length text ∷ []) text (sits_one s p (length text) x (e ∙ r.0)) t in
    let z : q ≡ p + length (length text ∷ text) = omega (arith, r.6) in (
      length text ∷ text,
      u,
      z,
      (
        text,
        refl,
        sym e,
        r.1,
        r.2,
        (λ i h. let g : i < l = omega arith in subst (λ (y : ℕ). Printable y) (t.1 i h) (r.4 i g)),
        r.5,
      ),
    )
name_to s false p a l q w r = ([], sits_nil s p w, r.2 ∙ sym (add-zero p), (refl, r.0, r.1))

name_from : (s : List ℕ) (here : Bool) (p a l : ℕ) (bs : List ℕ) → Sits s p bs → NameIs here p a l bs → NameRead s here p a l (p + length bs)
name_from s true p a l bs t (text, e, f, lo, hi, ok, g) =
    let u : Sits s p (length text ∷ text) = subst (λ (y : List ℕ). Sits s p y) e t in
    let v : Sits s (p + 1) text = sits_right s p (length text ∷ []) text u in
    let d : length bs ≡ length (length text ∷ text) = ap length e in
    let x : p + 1 + l ≤ length s = omega (arith, v.0, f) in
    let z : p + length bs ≡ p + 1 + l = omega arith in (
      f ∙ one_is s p (length text) (sits_left s p (length text ∷ []) text u),
      lo,
      hi,
      x,
      (λ i h. let c : i < length text = omega arith in subst (λ (y : ℕ). Printable y) (sym (v.1 i c)) (ok i c)),
      g,
      z,
    )
name_from s false p a l bs t f = (f.1, f.2, ap (λ (y : List ℕ). p + length y) f.0 ∙ add-zero p)

-- ---- the record
pub record_to : (s : List ℕ) (p n : ℕ) (r : Record) (q : ℕ) → Laid s p n r q → (bs : List ℕ) × Sits s p bs × (q ≡ p + length bs) × RecordIs n p r bs
record_to s p n r q (m, v, h, o, mr, ra, nr, e1, e2, e3, e4) =
    let f = fields_to s n m fields (p + 1) (v ∷ r.rate ∷ h ∷ r.customers ∷ r.load ∷ []) o mr.0 ra in
    let w : o ≤ length s = omega (arith, f.1.0, f.2) in
    let g = name_to s (named m) o r.name.at r.name.len q w nr in
    let x : Sits s (p + 1 + length f.0) g.0 = subst (λ (y : ℕ). Sits s y g.0) f.2 g.1 in
    let t : Sits s p (m ∷ (f.0 ++ g.0)) = sits_append s p (m ∷ []) (f.0 ++ g.0) (sits_one s p m mr.0 mr.1) (sits_append s (p + 1) f.0 g.0 f.1 x) in
    let l : length (f.0 ++ g.0) ≡ length f.0 + length g.0 = length-append f.0 g.0 in
    let z : q ≡ p + length (m ∷ (f.0 ++ g.0)) = omega (arith, f.2, g.2) in (
      m ∷ (f.0 ++ g.0),
      t,
      z,
      record {
        map = m;
        parent = v;
        hours = h;
        figures = f.0;
        name = g.0;
        bytes = refl;
        allowed = mr.2;
        fields_are = f.3;
        name_is = subst (λ (y : ℕ). NameIs (named m) y r.name.at r.name.len g.0) f.2 g.3;
        place = e1;
        parent_is = e2;
        hours_are = e3;
        switch_is = e4;
      },
    )

pub record_from : (s : List ℕ) (p n : ℕ) (r : Record) (bs : List ℕ) → Sits s p bs → RecordIs n p r bs → Laid s p n r (p + length bs)
record_from s p n r bs t d =
    let m = d.map in
    let fs = d.figures in
    let u : Sits s p (m ∷ (fs ++ d.name)) = subst (λ (y : List ℕ). Sits s p y) d.bytes t in
    let a : Sits s p (m ∷ []) = sits_left s p (m ∷ []) (fs ++ d.name) u in
    let b : Sits s (p + 1) (fs ++ d.name) = sits_right s p (m ∷ []) (fs ++ d.name) u in
    let l : length (fs ++ d.name) ≡ length fs + length d.name = length-append fs d.name in
    let k : length bs ≡ length (m ∷ (fs ++ d.name)) = ap length d.bytes in
    let z : p + 1 + length fs + length d.name ≡ p + length bs = omega arith in (
      m,
      d.parent,
      d.hours,
      p + 1 + length fs,
      (a.0, one_is s p m a, d.allowed),
      fields_from s n m fields (p + 1) (d.parent ∷ r.rate ∷ d.hours ∷ r.customers ∷ r.load ∷ []) fs (sits_left s (p + 1) fs d.name b) d.fields_are,
      subst (λ (y : ℕ). NameRead s (named m) (p + 1 + length fs) r.name.at r.name.len y) z
          (name_from s (named m) (p + 1 + length fs) r.name.at r.name.len d.name (sits_right s (p + 1) fs d.name b) d.name_is),
      d.place,
      d.parent_is,
      d.hours_are,
      d.switch_is,
    )
