-- One piece written after another.
use Rattle.std.proofs.Common.{Fits, w64, suc, ◌≡◌, ℕ, ◌+◌, ◌-◌, ◌*◌, ◌^◌, ◌<◌, ◌≤◌, List, [], ◌∷◌, ◌++◌, length, get_or, take, drop, decimal, sym, refl, ap, ◌∙◌, subst, arith}
use Rattle.std.proofs.lemmas.List.{append_assoc, append-nil, take_more, length-append, drop-drop, take-append-drop}
use Rattle.std.proofs.lemmas.Fmt.{length-decimal-le}
use Rattle.lines.specs.declared.write.Pen.{Pen}
use Rattle.lines.specs.Lines.{fields}
use Rattle.lines.specs.Answers.{Wrote}

pub then : {was mid after : Pen} {xs ys : List ℕ} → Wrote was xs mid → Wrote mid ys after → Wrote was (xs ++ ys) after
then {was} {mid} {after} {xs} {ys} a b =
    let l : length (xs ++ ys) ≡ length xs + length ys = length-append xs ys in
    let n : ℕ = after.at - mid.at in
    let s : after.at ≡ mid.at + n = omega (arith, a.place, b.place) in
    let d : drop after.at mid.out.now ≡ drop after.at was.out.now =
    ap (λ (k : ℕ). drop k mid.out.now) s ∙ sym (drop-drop n mid.at mid.out.now) ∙ ap (drop n) a.rest ∙ drop-drop n mid.at was.out.now ∙ ap (λ (k : ℕ). drop k was.out.now) (sym s) in
    record {
      same_list = b.same_list ∙ a.same_list;
      size = b.size ∙ a.size;
      place = omega (arith, a.place, b.place);
      front = b.front ∙ ap (λ (x : List ℕ). x ++ ys) a.front ∙ append_assoc (take was.at was.out.now) xs ys;
      rest = b.rest ∙ d;
    }

pub wrote_as : {was after : Pen} {xs ys : List ℕ} → xs ≡ ys → Wrote was xs after → Wrote was ys after
wrote_as {was} {after} e w = subst (λ (x : List ℕ). Wrote was x after) e w

pub length_decimal : (n : ℕ) → n < 2 ^ 64 → length (decimal n) ≤ 20
length_decimal n h = length-decimal-le 20 n (omega arith) (omega arith) h

fields_append : (xs ys : List ℕ) → fields (xs ++ ys) ≡ fields xs ++ fields ys
fields_append [] ys = refl
fields_append (x ∷ xs) ys = ap (λ (l : List ℕ). 32 ∷ l) (ap (λ (l : List ℕ). decimal x ++ l) (fields_append xs ys) ∙ sym (append_assoc (decimal x) (fields xs) (fields ys)))

pub fields_more : (ns : List ℕ) (i : ℕ) → i < length ns → (fields (take i ns) ++ (32 ∷ [])) ++ decimal (get_or ns i 0) ≡ fields (take (i + 1) ns)
fields_more ns i h =
    append_assoc (fields (take i ns)) (32 ∷ []) (decimal (get_or ns i 0)) ∙ ap (λ (l : List ℕ). fields (take i ns) ++ (32 ∷ l)) (sym (append-nil (decimal (get_or ns i 0))))
    ∙ sym (fields_append (take i ns) (get_or ns i 0 ∷ [])) ∙ ap fields (sym (take_more ns i 0 h))

-- there is room for each number in turn where there is for all
pub room : (ns : List ℕ) (i : ℕ) → i < length ns → length (fields (take i ns)) + 1 + length (decimal (get_or ns i 0)) ≤ length (fields ns)
room ns i h =
    let d : fields ns ≡ fields (take (i + 1) ns) ++ fields (drop (i + 1) ns) = ap fields (sym (take-append-drop (i + 1) ns)) ∙ fields_append (take (i + 1) ns) (drop (i + 1) ns) in
    omega (arith, ap length d, length-append (fields (take (i + 1) ns)) (fields (drop (i + 1) ns)), ap length (fields_more ns i h), length-append (fields (take i ns) ++ (32 ∷ [])) (decimal (get_or ns i 0)), length-append (fields (take i ns)) (32 ∷ []))

pub length_fields : (ns : List ℕ) → ((i : ℕ) → Fits w64 (get_or ns i 0)) → length (fields ns) ≤ 21 * length ns
length_fields [] h = omega arith
length_fields (n ∷ ns) h = omega (arith, length-append (decimal n) (fields ns), length_decimal n (omega (arith, h 0)), length_fields ns (λ i. h (suc i)))
