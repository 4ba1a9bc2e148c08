-- A study's list with one section altered. Assumes nothing.
use Rattle.std.proofs.Common.{◌≡◌, ℕ, zero, suc, ◌*◌, ◌%◌, ◌<◌, ◌≤◌, Bool, true, false, ◌&&◌, List, length, get_or, take, set, Some, None, Option, sym, refl, ap, ◌∙◌, subst, ⊎_elim, not-suc-le-zero, arith, length-set, length-take-le, get_or-set_other, get_or-take, get_or-set_same, set-set}
use native.Mathlib.Nat.{mul-mod_right}
use lib.Seq.{take-set-lt, set-get_or}
use Rattle.std.proofs.lemmas.Bool.{cases_eq, and_parts, and_from, le-leb, eq-eqb}
use Rattle.feeder.specs.declared.section.Section.{Section}
use Rattle.feeder.specs.Feeder.{blank, switched, fitted}
use Rattle.feeder.proofs.Checks.{name_is_fine}
use Rattle.feeder.specs.Checked.{AllFine, fine, placed, in_range}
use Rattle.sweeps.specs.Lists.{feeder}
use Rattle.lines.specs.declared.change.Change.TheVariants.{Set}
use Rattle.engine.specs.Changes.{marked, touched}

-- a section's place does not rest on its mark, but for section 0
placed_marked : (k : ℕ) (o : Option ℕ) (a b : Bool) → 0 < k → placed k o a ≡ placed k o b
placed_marked zero o a b h = absurd (not-suc-le-zero h)
placed_marked (suc k) None a b h = refl
placed_marked (suc k) (Some p) a b h = refl

pub fine_marked : (k : ℕ) (c : Section) (b : Bool) → 0 < k → fine k c ≡ true → fine k (marked c b) ≡ true
fine_marked k c b h e = ap (λ (x : Bool). x && in_range c.figures) (placed_marked k c.figures.parent b c.switch h) ∙ e

pub fine_set : (xs : List Section) (k : ℕ) (v : Section) → k < length xs → AllFine xs → fine k v ≡ true → AllFine (set xs k v)
fine_set xs k v h a e = λ i l. ⊎_elim
    (λ q. rw q (ap (fine k) (get_or-set_same xs k v blank h) ∙ e))
    (λ q. ap (fine i) (get_or-set_other xs k i v blank q) ∙ a i (rw (length-set xs k v) at l))
    (cases_eq i k)

-- the first n sections, one of them altered
pub fine_take : (xs : List Section) (n k : ℕ) (v : Section) → n ≤ length xs → k < n → AllFine (take n xs) → fine k v ≡ true → AllFine (take n (set xs k v))
fine_take xs n k v w h a e =
    let l : k < length (take n xs) = rw (length-take-le n xs w) h in
    subst AllFine (sym (take-set-lt n xs k v h)) (fine_set (take n xs) k v l a e)

pub fine_at : (xs : List Section) (n k : ℕ) → n ≤ length xs → k < n → AllFine (take n xs) → fine k (get_or xs k blank) ≡ true
fine_at xs n k w h a =
    let l : k < length (take n xs) = rw (length-take-le n xs w) h in
    ap (fine k) (sym (get_or-take n xs k blank h)) ∙ a k l

pub fine_take_marked : (xs : List Section) (n k : ℕ) (b : Bool) → n ≤ length xs → 0 < k → k < n → AllFine (take n xs) → AllFine (take n (set xs k (marked (get_or xs k blank) b)))
fine_take_marked xs n k b w pos h a = fine_take xs n k (marked (get_or xs k blank) b) w h a (fine_marked k (get_or xs k blank) b pos (fine_at xs n k w h a))

-- the first n sections of a list with the mark of k set are those of the fitted feeder
pub take_fitted : (xs : List Section) (n k s : ℕ) → k < n → feeder (take n (set xs k (switched (get_or xs k blank)))) s ≡ fitted (feeder (take n xs) s) k
unfolding fitted
take_fitted xs n k s h = ap (λ (ys : List Section). feeder ys s)
    (take-set-lt n xs k _ h ∙ ap (λ (c : Section). set (take n xs) k (switched c)) (sym (get_or-take n xs k blank h)))

with_mark : (c : Section) (b : Bool) → c.switch ≡ b → marked c b ≡ c
with_mark c b e = ap (λ (m : Bool). record { figures = c.figures; switch = m }) (sym e)

-- a mark set where none stood, and cleared again, leaves the list as it was
pub unmarked : (xs : List Section) (k : ℕ) → k < length xs → (get_or xs k blank).switch ≡ false
    → set (set xs k (switched (get_or xs k blank))) k (marked (get_or (set xs k (switched (get_or xs k blank))) k blank) false) ≡ xs
unmarked xs k h e =
    let v : Section = switched (get_or xs k blank) in
    let g : get_or (set xs k v) k blank ≡ v = get_or-set_same xs k v blank h in
    ap (λ (c : Section). set (set xs k v) k (marked c false)) g
    ∙ set-set xs k v (marked (get_or xs k blank) false)
    ∙ ap (λ (c : Section). set xs k c) (with_mark (get_or xs k blank) false e)
    ∙ set-get_or xs k blank

-- new figures in their ranges, at the old place and with the old name
pub fine_refigured : (k : ℕ) (c : Section) (rate quarters customers load : ℕ) → fine k c ≡ true → rate ≤ 100000 → 1 ≤ quarters → quarters ≤ 672 → customers ≤ 4000 → load ≤ 4000
    → fine k (touched (Set k rate quarters customers load) c) ≡ true
fine_refigured k c rate quarters customers load e a b d u v =
    let place = (and_parts (placed k c.figures.parent c.switch) _ e).0 in
    let name = name_is_fine c.figures (and_parts (placed k c.figures.parent c.switch) (in_range c.figures) e).1 in
    let least : 15 ≤ 15 * quarters = omega (arith, b) in
    let most : 15 * quarters ≤ 10080 = omega (arith, d) in
    let steps : (15 * quarters) % 15 ≡ 0 = mul-mod_right 15 quarters in
    and_from _ _ place
    (and_from _ _ (le-leb _ _ a)
    (and_from _ _ (and_from _ _ (le-leb _ _ least) (and_from _ _ (le-leb _ _ most) (eq-eqb _ _ steps)))
    (and_from _ _ (le-leb _ _ u) (and_from _ _ (le-leb _ _ v) name))))

-- one section of the first n is altered by t
pub altered : (xs : List Section) (n k s : ℕ) (t : Section → Section) → k < n
    → feeder (take n (set xs k (t (get_or xs k blank)))) s ≡ feeder (set (take n xs) k (t (get_or (take n xs) k blank))) s
altered xs n k s t h = ap (λ (ys : List Section). feeder ys s)
    (take-set-lt n xs k _ h ∙ ap (λ (c : Section). set (take n xs) k (t c)) (sym (get_or-take n xs k blank h)))
