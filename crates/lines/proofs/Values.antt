-- What digits are worth, and where a number ends.
use Rattle.std.proofs.Common.{◌≡◌, ℕ, zero, suc, ◌+◌, ◌-◌, ◌*◌, ◌^◌, ◌<◌, ◌≤◌, List, [], ◌∷◌, ◌++◌, length, get_or, take, drop, decimal, sym, refl, ap, ◌∙◌, subst, suc-le-suc, arith}
use Rattle.std.specs.Str.Parse.{digits_value}
use Rattle.std.proofs.lemmas.Str.{digit_value_digit}
use Rattle.std.proofs.lemmas.Str.Parse.{IsNumeralModel, numerals_by_value, tells_by_index, digits_value-take-le}
use Rattle.std.proofs.lemmas.Fmt.{digits_decimal, digits_value-decimal, decimal-digits_value, decimal_nonempty, first_decimal, decimal_digit}
use Rattle.std.proofs.lemmas.Int.Digits.{digits_value_more}
use Rattle.std.proofs.lemmas.List.{take-append-drop, length-take-le, get_or-take, get_or-drop}
use Rattle.lines.specs.Numbers.{Digit, AllDigits, Stops, Front, Begins}

-- one digit more of those that write a number
pub value_step : (ds : List ℕ) (i : ℕ) → AllDigits ds → i < length ds → (digits_value 10 (take (i + 1) ds) ≡ digits_value 10 (take i ds) * 10 + (get_or ds i 0 - 48)) × (digits_value 10 (take (i + 1) ds) ≤ digits_value 10 ds)
value_step ds i p h =
    let d = digit_value_digit (get_or ds i 0) (p i h) in
    (omega (arith, digits_value_more 10 ds i h), digits_value-take-le 10 ds (i + 1) (omega arith))

-- digits and what follows them can be parted in one way only
pub parted : (a b c d : List ℕ) → AllDigits a → Stops b → AllDigits c → Stops d → a ++ b ≡ c ++ d → (a ≡ c) × (b ≡ d)
parted [] b [] d p s q t e = (refl, e)
parted [] b (y ∷ c) d p s q t e = absurd (s (subst (λ (l : List ℕ). Digit (get_or l 0 0)) (sym e) (q 0 (omega arith))))
parted (x ∷ a) b [] d p s q t e = absurd (t (subst (λ (l : List ℕ). Digit (get_or l 0 0)) e (p 0 (omega arith))))
parted (x ∷ a) b (y ∷ c) d p s q t e =
    let k : x ≡ y = cc in
    let l : a ++ b ≡ c ++ d = cc in
    let r = parted a b c d (λ i h. p (suc i) (suc-le-suc h)) s (λ i h. q (suc i) (suc-le-suc h)) t l in
    let f : a ≡ c = r.0 in
    ((cc), r.1)

pub own : IsNumeralModel AllDigits (digits_value 10)
own = numerals_by_value AllDigits tells_by_index

pub front_digits : (text : List ℕ) (k : ℕ) → Front text k → AllDigits (take k text)
front_digits text k f = λ i h.
    let e : length (take k text) ≡ k = length-take-le k text f.within in
    let l : i < k = omega arith in
    rw (get_or-take k text i 0 l) (f.front i l)

pub rest_stops : (text : List ℕ) (k : ℕ) → Front text k → Stops (drop k text)
rest_stops text k f = λ d. f.stops (subst Digit (get_or-drop k text 0 0 ∙ ap (λ (j : ℕ). get_or text j 0) (omega arith)) d)

pub begun : (text : List ℕ) (k n : ℕ) (rest : List ℕ) → Front text k → Begins text n rest → (take k text ≡ decimal n) × (drop k text ≡ rest)
begun text k n rest f (lt, s, e) =
    parted (take k text) (drop k text) (decimal n) rest (front_digits text k f) (rest_stops text k f) (digits_decimal own n (omega arith)) s (take-append-drop k text ∙ e)

-- only 0 begins with a zero
zero_only : (n : ℕ) → n < 2 ^ 64 → get_or (decimal n) 0 0 ≡ 48 → length (decimal n) ≡ 1
zero_only zero lt z = ap length (decimal_digit 0 (omega arith))
zero_only (suc n) lt z = let h : 48 < get_or (decimal (suc n)) 0 0 = first_decimal (suc n) (omega arith) lt in omega arith

-- what a number in front of the text says of its k digits
pub refused : (text : List ℕ) (k n : ℕ) (rest : List ℕ) → Front text k → Begins text n rest → (0 < k) × (get_or text 0 0 ≡ 48 → k ≡ 1) × (digits_value 10 (take k text) < 2 ^ 32)
refused text k n rest f b =
    let e : take k text ≡ decimal n = (begun text k n rest f b).0 in
    let lt : n < 2 ^ 64 = omega arith in
    let l : length (take k text) ≡ k = length-take-le k text f.within in
    let s : 0 < length (decimal n) = decimal_nonempty n lt in
    let m : length (take k text) ≡ length (decimal n) = ap length e in
    let p : 0 < k = omega arith in
    let g : get_or text 0 0 ≡ get_or (decimal n) 0 0 = sym (get_or-take k text 0 0 p) ∙ ap (λ (x : List ℕ). get_or x 0 0) e in
    let v : digits_value 10 (take k text) ≡ n = ap (digits_value 10) e ∙ digits_value-decimal own n lt in
    (p, (λ z. let o : length (decimal n) ≡ 1 = zero_only n lt (sym g ∙ z) in omega arith), omega arith)

pub accepted : (text : List ℕ) (k : ℕ) → Front text k → 0 < k → (get_or text 0 0 ≡ 48 → k ≡ 1) → digits_value 10 (take k text) < 2 ^ 32 → Begins text (digits_value 10 (take k text)) (drop k text)
accepted text k f p z lt =
    let l : length (take k text) ≡ k = length-take-le k text f.within in
    let e : decimal (digits_value 10 (take k text)) ≡ take k text = decimal-digits_value own (take k text) (front_digits text k f) (omega arith) (λ h. l ∙ z (sym (get_or-take k text 0 0 p) ∙ h)) (omega arith) in
    (lt, rest_stops text k f, sym (take-append-drop k text) ∙ ap (λ (x : List ℕ). x ++ drop k text) (sym e))
