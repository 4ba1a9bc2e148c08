-- Parts of lists that a block and an output list come in. Assumes nothing.
use Rattle.std.proofs.Common.{◌≡◌, ℕ, ◌+◌, ◌-◌, ◌≤◌, List, ◌++◌, length, take, drop, sym, ap, ◌∙◌, ap₂, append_assoc, arith, length-append, length-take-le, drop-drop, take_at, take-add, drop_at, zero-add}
use borrow.Rule.Slice.PartMut.{put_mid}
use Rattle.std.proofs.lemmas.List.{drop-take, take-append-drop}
use Rattle.std.specs.List.{between}

pub between_join : (xs : List ℕ) (i j k : ℕ) → i ≤ j → j ≤ k → between i k xs ≡ between i j xs ++ between j k xs
between_join xs i j k a b =
    let e : k - i ≡ (j - i) + (k - j) = omega arith in
    let p : i + (j - i) ≡ j = omega arith in
    ap (λ (n : ℕ). take n (drop i xs)) e ∙ take-add (j - i) (k - j) (drop i xs)
    ∙ ap (λ (ys : List ℕ). take (j - i) (drop i xs) ++ take (k - j) ys) (drop-drop (j - i) i xs ∙ ap (λ (n : ℕ). drop n xs) p)

rejoined : (n k : ℕ) (xs : List ℕ) → n ≤ k → drop n (take k xs) ++ drop k xs ≡ drop n xs
rejoined n k xs l =
    let e : k ≡ n + (k - n) = omega arith in
    ap (λ (i : ℕ). drop n (take i xs) ++ drop i xs) e ∙ ap₂ ◌++◌ (drop-take n (k - n) xs) (sym (drop-drop (k - n) n xs)) ∙ take-append-drop (k - n) (drop n xs)

module _ (used k n : ℕ) (xs ys text : List ℕ) (l : used ≤ length xs) (m : n ≤ k) (s : n ≡ length text) (e : ys ≡ text ++ drop n (take k (drop used xs))) where
  -- a text written to the front of the k entries of xs from used on
  behind : put_mid used k xs ys ≡ (take used xs ++ text) ++ drop (used + n) xs
  behind =
      ap (λ (zs : List ℕ). take used xs ++ zs)
      (ap (λ (zs : List ℕ). zs ++ drop k (drop used xs)) e ∙ append_assoc text _ _ ∙ ap (λ (zs : List ℕ). text ++ zs) (rejoined n k (drop used xs) m ∙ drop-drop n used xs))
      ∙ sym (append_assoc (take used xs) text (drop (used + n) xs))

  long : length (take used xs ++ text) ≡ used + n
  long = length-append (take used xs) text ∙ ap₂ ◌+◌ (length-take-le used xs l) (sym s)

  pub front_behind : take (used + n) (put_mid used k xs ys) ≡ take used xs ++ text
  front_behind = ap (take (used + n)) behind ∙ take_at (take used xs ++ text) _ _ long

  pub rest_behind : drop (used + n) (put_mid used k xs ys) ≡ drop (used + n) xs
  rest_behind = ap (drop (used + n)) behind ∙ drop_at (take used xs ++ text) _ _ long

-- the same in the first k entries of a list
pub behind_front : (k n : ℕ) (os ys text : List ℕ) → n ≤ k → n ≡ length text → ys ≡ text ++ drop n (take k os) → put_mid 0 k os ys ≡ text ++ drop n os
behind_front k n os ys text m s e = behind 0 k n os ys text (omega arith) m s e ∙ ap (λ (i : ℕ). text ++ drop i os) (zero-add n)
