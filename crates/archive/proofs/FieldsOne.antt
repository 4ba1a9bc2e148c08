-- The layout fixes what is read: at most one list of numbers and place after, at most one first fault, and never both.
use Rattle.std.proofs.Common.{◌≡◌, ℕ, Bool, true, false, List, [], ◌∷◌, sym, refl, ◌∙◌, subst, inl, inr, not-le_of_lt}
use Rattle.archive.specs.declared.record.RecordFault.{RecordFault}
use Rattle.archive.specs.Layout.{Field, stands, bit, width, Good, absent, bad}
use Rattle.archive.specs.Reading.{FieldRead, FieldRefused, ReadAt, ReadAll, FirstFault, number}

module _ (s : List ℕ) (p w x : ℕ) (G : Type 0) (a : ℕ) (b : RecordFault) where
  read_one : (here : Bool) (v q v' q' : ℕ) → FieldRead s here p w x G a v q → FieldRead s here p w x G a v' q' → (v ≡ v') × (q ≡ q')
  read_one true v q v' q' r r' = (r.2 ∙ sym r'.2, r.3 ∙ sym r'.3)
  read_one false v q v' q' r r' = (r.0 ∙ sym r'.0, r.1 ∙ sym r'.1)

  refused_one : (here : Bool) (f f' : RecordFault) → FieldRefused s here p w G b f → FieldRefused s here p w G b f' → f ≡ f'
  refused_one true f f' (inl r) (inl r') = r.1 ∙ sym r'.1
  refused_one true f f' (inl r) (inr r') = absurd (not-le_of_lt r.0 r'.0)
  refused_one true f f' (inr r) (inl r') = absurd (not-le_of_lt r'.0 r.0)
  refused_one true f f' (inr r) (inr r') = r.2 ∙ sym r'.2
  refused_one false f f' r r' = absurd r

  never_both : (here : Bool) (v q : ℕ) (f : RecordFault) → FieldRead s here p w x G a v q → FieldRefused s here p w G b f → ⊥
  never_both true v q f r (inl e) = not-le_of_lt e.0 r.0
  never_both true v q f r (inr e) = e.1 r.1
  never_both false v q f r e = e

module _ (s : List ℕ) (n m : ℕ) where
  at_one : (k : Field) (p v q v' q' : ℕ) → ReadAt s n m k p v q → ReadAt s n m k p v' q' → (v ≡ v') × (q ≡ q')
  at_one k p v q v' q' r r' = read_one s p (width k) (number k s p) (Good n k (number k s p)) (absent n k) (bad k p) (stands m (bit k)) v q v' q' r r'

  pub read_all_one : (ks : List Field) (p : ℕ) (vs : List ℕ) (q : ℕ) (vs' : List ℕ) (q' : ℕ) → ReadAll s n m ks p vs q → ReadAll s n m ks p vs' q' → (vs ≡ vs') × (q ≡ q')
  read_all_one [] p [] q [] q' r r' = (refl, r ∙ sym r')
  read_all_one [] p [] q (v' ∷ vs') q' r r' = absurd r'
  read_all_one [] p (v ∷ vs) q vs' q' r r' = absurd r
  read_all_one (k ∷ ks) p [] q vs' q' r r' = absurd r
  read_all_one (k ∷ ks) p (v ∷ vs) q [] q' r r' = absurd r'
  read_all_one (k ∷ ks) p (v ∷ vs) q (v' ∷ vs') q' (o, r, rs) (o', r', rs') =
      let e = at_one k p v o v' o' r r' in
      let i = read_all_one ks o vs q vs' q' rs (subst (λ (y : ℕ). ReadAll s n m ks y vs' q') (sym e.1) rs') in
      ((λ j. e.0 j ∷ i.0 j), i.1)

  pub first_fault_one : (ks : List Field) (p : ℕ) (f f' : RecordFault) → FirstFault s n m ks p f → FirstFault s n m ks p f' → f ≡ f'
  first_fault_one [] p f f' h h' = absurd h
  first_fault_one (k ∷ ks) p f f' (inl h) (inl h') = refused_one s p (width k) (number k s p) (Good n k (number k s p)) (absent n k) (bad k p) (stands m (bit k)) f f' h h'
  first_fault_one (k ∷ ks) p f f' (inl h) (inr (v', o', r', h')) = absurd (never_both s p (width k) (number k s p) (Good n k (number k s p)) (absent n k) (bad k p) (stands m (bit k)) v' o' f r' h)
  first_fault_one (k ∷ ks) p f f' (inr (v, o, r, h)) (inl h') = absurd (never_both s p (width k) (number k s p) (Good n k (number k s p)) (absent n k) (bad k p) (stands m (bit k)) v o f' r h')
  first_fault_one (k ∷ ks) p f f' (inr (v, o, r, h)) (inr (v', o', r', h')) =
      first_fault_one ks o f f' h (subst (λ (y : ℕ). FirstFault s n m ks y f') (sym (at_one k p v o v' o' r r').1) h')

  pub never_all : (ks : List Field) (p : ℕ) (vs : List ℕ) (q : ℕ) (f : RecordFault) → ReadAll s n m ks p vs q → FirstFault s n m ks p f → ⊥
  never_all [] p vs q f r h = h
  never_all (k ∷ ks) p [] q f r h = r
  never_all (k ∷ ks) p (v ∷ vs) q f (o, r, rs) (inl h) = never_both s p (width k) (number k s p) (Good n k (number k s p)) (absent n k) (bad k p) (stands m (bit k)) v o f r h
  never_all (k ∷ ks) p (v ∷ vs) q f (o, r, rs) (inr (v', o', r', h)) =
      never_all ks o vs q f rs (subst (λ (y : ℕ). FirstFault s n m ks y f) (sym (at_one k p v o v' o' r r').1) h)
