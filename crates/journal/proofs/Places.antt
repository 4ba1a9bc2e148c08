-- One place more of a list of changes. Assumes nothing.
use Rattle.std.proofs.Common.{◌≡◌, ℕ, ◌+◌, ◌<◌, ◌≤◌, Bool, true, false, cond, ◌&&◌, leb, List, [], ◌∷◌, length, get_or, drop, sym, refl, ap, ◌∙◌, add-one, drop-cons, eq-eqb, ne_eqb, leb-false, leb-true}
use Rattle.std.proofs.lemmas.List.{drop_all}
use Rattle.engine.specs.declared.journal.Put.{Put}
use Rattle.engine.specs.Changes.{named}
use Rattle.engine.specs.Logs.{naming}
use Rattle.journal.specs.Compared.{no_put, listb, Next}
use Rattle.journal.specs.Compared.{put_eqb}

opened : (k : ℕ) (ps : List Put) (i : ℕ) → i < length ps → naming k (drop i ps) ≡ naming k (get_or ps i no_put ∷ drop (i + 1) ps)
opened k ps i h = let q : drop i ps ≡ get_or ps i no_put ∷ drop (i + 1) ps = rw (add-one, drop-cons ps i no_put) in ap (naming k) q

pub skip : (k : ℕ) (ps : List Put) (i : ℕ) → i < length ps → (named (get_or ps i no_put).change ≡ k → ⊥) → naming k (drop i ps) ≡ naming k (drop (i + 1) ps)
skip k ps i h ne = opened k ps i h ∙ ap (λ (b : Bool). cond b (get_or ps i no_put ∷ naming k (drop (i + 1) ps)) (naming k (drop (i + 1) ps))) (ne_eqb _ k ne)

pub found : (k : ℕ) (ps : List Put) (i : ℕ) → i < length ps → named (get_or ps i no_put).change ≡ k → naming k (drop i ps) ≡ get_or ps i no_put ∷ naming k (drop (i + 1) ps)
found k ps i h e = opened k ps i h ∙ ap (λ (b : Bool). cond b (get_or ps i no_put ∷ naming k (drop (i + 1) ps)) (naming k (drop (i + 1) ps))) (eq-eqb _ k e)

pub past : (k : ℕ) (ps : List Put) (i : ℕ) → length ps ≤ i → naming k (drop i ps) ≡ []
past k ps i h = ap (naming k) (drop_all i ps h)

-- E is the answer wanted, x and y the next places in ps and qs
module _ (k : ℕ) (ps qs : List Put) (E : Bool) (x y : ℕ) (e : E ≡ listb (naming k (drop x ps)) (naming k (drop y qs))) where
  none_left : (b : Bool) → leb (length qs) y ≡ b → (y < length qs → named (get_or qs y no_put).change ≡ k) → b ≡ listb [] (naming k (drop y qs))
  none_left true h q = sym (ap (listb []) (past k qs y (leb-true _ _ h)))
  none_left false h q = sym (ap (listb []) (found k qs y (leb-false _ _ h) (q (leb-false _ _ h))))

  pub end_first : length ps ≤ x → (y < length qs → named (get_or qs y no_put).change ≡ k) → leb (length qs) y ≡ E
  end_first h q = none_left _ refl q ∙ sym (e ∙ ap (λ (l : List Put). listb l (naming k (drop y qs))) (past k ps x h))

  pub end_second : x < length ps → named (get_or ps x no_put).change ≡ k → length qs ≤ y → false ≡ E
  end_second h p l = sym (let u = found k ps x h p in let v = past k qs y l in e ∙ ap (λ (a : List Put). listb a (naming k (drop y qs))) u ∙ ap (listb (get_or ps x no_put ∷ naming k (drop (x + 1) ps))) v)

  pub both : x < length ps → named (get_or ps x no_put).change ≡ k → y < length qs → named (get_or qs y no_put).change ≡ k → E ≡ (put_eqb (get_or ps x no_put) (get_or qs y no_put) && listb (naming k (drop (x + 1) ps)) (naming k (drop (y + 1) qs)))
  both h p l q = e ∙ ap (λ (a : List Put). listb a (naming k (drop y qs))) (found k ps x h p) ∙ ap (listb (get_or ps x no_put ∷ naming k (drop (x + 1) ps))) (found k qs y l q)

  pub differ : x < length ps → named (get_or ps x no_put).change ≡ k → y < length qs → named (get_or qs y no_put).change ≡ k → put_eqb (get_or ps x no_put) (get_or qs y no_put) ≡ false → false ≡ E
  differ h p l q d = sym (both h p l q ∙ ap (λ (b : Bool). b && listb (naming k (drop (x + 1) ps)) (naming k (drop (y + 1) qs))) d)

  pub agree : x < length ps → named (get_or ps x no_put).change ≡ k → y < length qs → named (get_or qs y no_put).change ≡ k → put_eqb (get_or ps x no_put) (get_or qs y no_put) ≡ true → E ≡ listb (naming k (drop (x + 1) ps)) (naming k (drop (y + 1) qs))
  agree h p l q d = both h p l q ∙ ap (λ (b : Bool). b && listb (naming k (drop (x + 1) ps)) (naming k (drop (y + 1) qs))) d

pub at_next : (k : ℕ) (ps qs : List Put) (E : Bool) (i j x y : ℕ) → Next k ps i x → Next k qs j y → E ≡ listb (naming k (drop i ps)) (naming k (drop j qs)) → E ≡ listb (naming k (drop x ps)) (naming k (drop y qs))
at_next k ps qs E i j x y n m e = e ∙ ap (λ (a : List Put). listb a (naming k (drop j qs))) n.rest ∙ ap (listb (naming k (drop x ps))) m.rest
