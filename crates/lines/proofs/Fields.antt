-- Numbers one after another, each after one space.
use Rattle.std.proofs.Common.{◌≡◌, ℕ, zero, suc, ◌+◌, ◌^◌, ◌<◌, List, [], ◌∷◌, ◌++◌, length, get_or, take, drop, set, Some, None, decimal, Option, sym, refl, ap, ◌∙◌, arith, MatchOption}
use Rattle.std.proofs.lemmas.Fmt.{digits_decimal, decimal_injective}
use Rattle.std.proofs.lemmas.List.{append_assoc, drop_more, take_more_set}
use Rattle.lines.specs.Numbers.{Stops, Spaced}
use Rattle.lines.specs.Lines.{fields, Small}
use Rattle.lines.proofs.Values.{parted, own}

pub fields_stop : (ns : List ℕ) → Stops (fields ns)
fields_stop [] d = omega arith
fields_stop (n ∷ ns) d = omega arith

pub fields_push : (xs : List ℕ) (n : ℕ) (rest : List ℕ) → fields (xs ++ (n ∷ [])) ++ rest ≡ fields xs ++ (32 ∷ (decimal n ++ rest))
fields_push [] n rest = ap (λ (l : List ℕ). 32 ∷ l) (append_assoc (decimal n) [] rest)
fields_push (x ∷ xs) n rest =
    ap (λ (l : List ℕ). 32 ∷ l) (append_assoc (decimal x) (fields (xs ++ (n ∷ []))) rest ∙ ap (λ (l : List ℕ). decimal x ++ l) (fields_push xs n rest) ∙ sym (append_assoc (decimal x) (fields xs) (32 ∷ (decimal n ++ rest))))

-- a text begins with one number
pub spaced_one : (text : List ℕ) (m n : ℕ) (a b : List ℕ) → Spaced text m a → Spaced text n b → (m ≡ n) × (a ≡ b)
spaced_one text m n a b (l, s, e) (l', s', e') =
    let q : decimal m ++ a ≡ decimal n ++ b = cc in
    let p = parted (decimal m) a (decimal n) b (digits_decimal own m (omega arith)) s (digits_decimal own n (omega arith)) s' q in
    (decimal_injective m n (omega arith) (omega arith) p.0, p.1)

small_at : (ns : List ℕ) (i : ℕ) → Small ns → i < length ns → get_or ns i 0 < 2 ^ 32
small_at (n ∷ ns) zero s h = s.0
small_at (n ∷ ns) (suc i) s h = small_at ns i s.1 (omega arith)
small_at [] i s h = absurd (omega arith)

-- the next of the numbers ns, where those from i on are left
pub next : (ns left : List ℕ) (i : ℕ) → i < length ns → Small ns → left ≡ fields (drop i ns) → Spaced left (get_or ns i 0) (fields (drop (i + 1) ns))
next ns left i h s e = (small_at ns i s h, fields_stop (drop (i + 1) ns), e ∙ ap fields (drop_more ns i 0 h))

-- one more number is read
pub more : (text all left rest : List ℕ) (i n : ℕ) → i < length all → text ≡ fields (take i all) ++ left → Spaced left n rest → text ≡ fields (take (i + 1) (set all i n)) ++ rest
more text all left rest i n h e (l, s, f) =
    e ∙ ap (λ (x : List ℕ). fields (take i all) ++ x) f ∙ sym (fields_push (take i all) n rest) ∙ ap (λ (x : List ℕ). fields x ++ rest) (sym (take_more_set all i n h))

pub cases_both : {T : Type 0} (r : Option T) {P P' : Type 0} {Q Q' : T → Type 0} → MatchOption r P Q → (P → P') → ((x : T) → Q x → Q' x) → MatchOption r P' Q'
cases_both None h f g = f h
cases_both (Some x) h f g = g x h

-- a text is that of one list of numbers
pub fields_same : (a b : List ℕ) → Small a → Small b → fields a ≡ fields b → a ≡ b
fields_same [] [] s t e = refl
fields_same [] (y ∷ b) s t e = let h : ◌≡◌ {A = ℕ} 0 1 = cc in absurd (omega arith)
fields_same (x ∷ a) [] s t e = let h : ◌≡◌ {A = ℕ} 0 1 = cc in absurd (omega arith)
fields_same (x ∷ a) (y ∷ b) (l, s) (m, t) e =
    let p = spaced_one (fields (x ∷ a)) x y (fields a) (fields b) (l, fields_stop a, refl) (m, fields_stop b, e) in
    let f : a ≡ b = fields_same a b s t p.1 in
    let g : x ≡ y = p.0 in
    cc
