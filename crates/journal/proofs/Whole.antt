-- Lists of changes that agree at each section that is named agree at every section. Assumes nothing.
use Rattle.std.proofs.Common.{◌≡◌, ℕ, suc, ◌<◌, Bool, true, false, cond, eqb, ◌⊎◌, List, [], ◌∷◌, length, get_or, sym, refl, ap, ◌∙◌, subst, inl, inr, arith, eqb-true}
use Rattle.engine.specs.declared.journal.Put.{Put}
use Rattle.engine.specs.Changes.{named}
use Rattle.engine.specs.Logs.{naming, Same}
use Rattle.journal.specs.Compared.{put_eqb}
use Rattle.journal.proofs.Tests.{put_eq, put_refl, and_left, and_right, both_true}
use Rattle.engine.proofs.Apart.{order_apart}
use Rattle.journal.specs.Compared.{no_put, listb, Settles}

pub list_eq : (ps qs : List Put) → listb ps qs ≡ true → ps ≡ qs
list_eq [] [] h = refl
list_eq [] (q ∷ qs) h = cc
list_eq (p ∷ ps) [] h = cc
list_eq (p ∷ ps) (q ∷ qs) h =
    let u : p ≡ q = put_eq p q (and_left _ _ h) in
    let v : ps ≡ qs = list_eq ps qs (and_right (put_eqb p q) _ h) in
    cc

list_refl : (ps : List Put) → listb ps ps ≡ true
list_refl [] = refl
list_refl (p ∷ ps) = both_true _ _ (put_refl p) (list_refl ps)

pub not_same : (k : ℕ) (ps qs : List Put) → listb (naming k ps) (naming k qs) ≡ false → Same ps qs → ⊥
not_same k ps qs h same =
    let t : listb (naming k ps) (naming k qs) ≡ true = subst (λ (l : List Put). listb (naming k ps) l ≡ true) (same k) (list_refl (naming k ps)) in
    let z : ◌≡◌ {A = ℕ} 0 1 = cc in
    omega arith

abbrev Hit : ℕ → List Put → Type 0
Hit k ps = (naming k ps ≡ []) ⊎ ((m : ℕ) × (m < length ps) × (named (get_or ps m no_put).change ≡ k))

further : (k : ℕ) (p : Put) (ps : List Put) (b : Bool) → eqb (named p.change) k ≡ b → Hit k ps → (cond b (p ∷ naming k ps) (naming k ps) ≡ []) ⊎ ((m : ℕ) × (m < length (p ∷ ps)) × (named (get_or (p ∷ ps) m no_put).change ≡ k))
further k p ps true e h = inr (0, omega arith, eqb-true _ _ e)
further k p ps false e (inl n) = inl n
further k p ps false e (inr t) = let l : t.0 < length ps = t.1 in inr (suc t.0, omega arith, t.2)

hit : (k : ℕ) (ps : List Put) → Hit k ps
hit k [] = inl refl
hit k (p ∷ ps) = further k p ps (eqb (named p.change) k) refl (hit k ps)

abbrev pub On : List Put → List Put → List Put → Type 0
On ks ps qs = (m : ℕ) → m < length ks → listb (naming (named (get_or ks m no_put).change) ps) (naming (named (get_or ks m no_put).change) qs) ≡ true

at_hit : (ks ps qs : List Put) (k : ℕ) → On ks ps qs → (m : ℕ) × (m < length ks) × (named (get_or ks m no_put).change ≡ k) → naming k ps ≡ naming k qs
at_hit ks ps qs k on t = subst (λ (j : ℕ). naming j ps ≡ naming j qs) t.2 (list_eq _ _ (on t.0 t.1))

whole_at : (ps qs : List Put) (k : ℕ) → On ps ps qs → On qs ps qs → Hit k ps → Hit k qs → naming k ps ≡ naming k qs
whole_at ps qs k u v (inr t) h = at_hit ps ps qs k u t
whole_at ps qs k u v (inl e) (inr t) = at_hit qs ps qs k v t
whole_at ps qs k u v (inl e) (inl f) = e ∙ sym f

pub whole : (ps qs : List Put) → On ps ps qs → On qs ps qs → Same ps qs
whole ps qs u v = λ k. whole_at ps qs k u v (hit k ps) (hit k qs)

pub settled : (ps qs : List Put) → Same ps qs → Settles ps qs
settled ps qs same archive es fs f g l m p q =
    order_apart archive es fs f g l m (λ k. ap (naming k) p ∙ same k ∙ ap (naming k) (sym q))
