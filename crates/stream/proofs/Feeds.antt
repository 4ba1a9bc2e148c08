-- More of a stream.
use Rattle.std.proofs.Common.{◌≡◌, ◌≢◌, ℕ, List, [], ◌∷◌, ◌++◌, Result, sym, refl, ap, ◌∙◌, subst, arith}
use Rattle.std.specs.List.{AllByRecursion}
use Rattle.std.proofs.lemmas.List.{append_assoc}
use Rattle.std.proofs.ByRecursion.{All-append, All-push}
use Rattle.stream.specs.declared.text.Text.{Text}
use Rattle.stream.specs.declared.text.TooLong.{TooLong}
use Rattle.stream.specs.declared.lines.Lines.{Lines}
use Rattle.stream.specs.Streams.{Plain, stream, Delivers, DeliversAll, Holds, Fed, Ended, last_line, OneParting}

stream_more : (ls : List (List ℕ)) (p xs : List ℕ) → stream ls (p ++ xs) ≡ stream ls p ++ xs
stream_more [] p xs = refl
stream_more (l ∷ ls) p xs = ap (λ (x : List ℕ). l ++ (10 ∷ x)) (stream_more ls p xs) ∙ sym (append_assoc l (10 ∷ stream ls p) xs)

stream_line : (ls : List (List ℕ)) (p : List ℕ) → stream (ls ++ (p ∷ [])) [] ≡ stream ls p ++ (10 ∷ [])
stream_line [] p = refl
stream_line (l ∷ ls) p = ap (λ (x : List ℕ). l ++ (10 ∷ x)) (stream_line ls p) ∙ sym (append_assoc l (10 ∷ stream ls p) (10 ∷ []))

delivers_append : (ls ms : List (List ℕ)) (ds es : List (Result Text TooLong)) → DeliversAll ls ds → DeliversAll ms es → DeliversAll (ls ++ ms) (ds ++ es)
delivers_append [] ms [] es h k = k
delivers_append [] ms (d ∷ ds) es h k = absurd h
delivers_append (l ∷ ls) ms [] es h k = absurd h
delivers_append (l ∷ ls) ms (d ∷ ds) es (a, h) k = (a, delivers_append ls ms ds es h k)

-- the bytes xs and a line feed
pub fed_line : (bs : List ℕ) (ds : List (Result Text TooLong)) (s t : Lines) (xs : List ℕ) (d : Result Text TooLong) → Fed bs ds s → Plain xs → ((part : List ℕ) → Holds s part → Delivers (part ++ xs) d) → Holds t []
    → Fed ((bs ++ xs) ++ (10 ∷ [])) (ds ++ (d ∷ [])) t
fed_line bs ds s t xs d f plain given none =
    let l = f.part ++ xs in
    record {
      lines = f.lines ++ (l ∷ []);
      part = [];
      whole = ap (λ (x : List ℕ). (x ++ xs) ++ (10 ∷ [])) f.whole ∙ ap (λ (x : List ℕ). x ++ (10 ∷ [])) (sym (stream_more f.lines f.part xs)) ∙ sym (stream_line f.lines l);
      plain = All-push Plain f.lines l f.plain (All-append (λ b. b ≢ 10) f.part xs f.plain_part plain);
      plain_part = tt;
      gave = delivers_append f.lines (l ∷ []) ds (d ∷ []) f.gave (given f.part f.kept, tt);
      kept = none;
    }

pub fed_more : (bs : List ℕ) (ds : List (Result Text TooLong)) (s t : Lines) (xs : List ℕ) → Fed bs ds s → Plain xs → ((part : List ℕ) → Holds s part → Holds t (part ++ xs)) → Fed (bs ++ xs) ds t
fed_more bs ds s t xs f plain taken = record {
  lines = f.lines;
  part = f.part ++ xs;
  whole = ap (λ (x : List ℕ). x ++ xs) f.whole ∙ sym (stream_more f.lines f.part xs);
  plain = f.plain;
  plain_part = All-append (λ b. b ≢ 10) f.part xs f.plain_part plain;
  gave = f.gave;
  kept = taken f.part f.kept;
}

-- what is handed out at the end of the input for the line being read
pub last_none : (part : List ℕ) → part ≡ [] → DeliversAll (last_line part) []
last_none [] h = tt
last_none (b ∷ part) h = let z : ◌≡◌ {A = ℕ} 0 1 = cc in absurd (omega arith)

pub last_some : (part : List ℕ) (d : Result Text TooLong) → part ≢ [] → Delivers part d → DeliversAll (last_line part) (d ∷ [])
last_some [] d h k = absurd (h refl)
last_some (b ∷ part) d h k = (k, tt)

pub ended_with : (bs : List ℕ) (ds es : List (Result Text TooLong)) (s : Lines) → ((part : List ℕ) → Holds s part → DeliversAll (last_line part) es) → Fed bs ds s → Ended bs (ds ++ es)
ended_with bs ds es s last f = record {
  lines = f.lines;
  last = f.part;
  whole = f.whole;
  plain = f.plain;
  plain_last = f.plain_part;
  gave = delivers_append f.lines (last_line f.part) ds es f.gave (last f.part f.kept);
}

never : (l rest p : List ℕ) → Plain p → l ++ (10 ∷ rest) ≡ p → ⊥
never [] rest [] h e = let z : ◌≡◌ {A = ℕ} 0 1 = cc in omega arith
never [] rest (b ∷ p) h e = h.0 (cc)
never (x ∷ l) rest [] h e = let z : ◌≡◌ {A = ℕ} 0 1 = cc in omega arith
never (x ∷ l) rest (b ∷ p) h e = never l rest p h.1 (cc)

cut : (l m r t : List ℕ) → Plain l → Plain m → l ++ (10 ∷ r) ≡ m ++ (10 ∷ t) → (l ≡ m) × (r ≡ t)
cut [] [] r t a b e = (refl, (cc))
cut [] (y ∷ m) r t a b e = absurd (b.0 (cc))
cut (x ∷ l) [] r t a b e = absurd (a.0 (cc))
cut (x ∷ l) (y ∷ m) r t a b e =
    let h : (l ≡ m) × (r ≡ t) = cut l m r t a.1 b.1 (cc) in
    let f : l ≡ m = h.0 in
    let g : x ≡ y = cc in
    ((cc), h.1)

-- a stream is parted in one way
parted : (ls ms : List (List ℕ)) (p q : List ℕ) → AllByRecursion Plain ls → AllByRecursion Plain ms → Plain p → Plain q → stream ls p ≡ stream ms q → (ls ≡ ms) × (p ≡ q)
parted [] [] p q pl pm pp pq e = (refl, e)
parted [] (m ∷ ms) p q pl pm pp pq e = absurd (never m (stream ms q) p pp (sym e))
parted (l ∷ ls) [] p q pl pm pp pq e = absurd (never l (stream ls p) q pq e)
parted (l ∷ ls) (m ∷ ms) p q (a, pl) (b, pm) pp pq e =
    let h = cut l m (stream ls p) (stream ms q) a b e in
    let r = parted ls ms p q pl pm pp pq h.1 in
    let f : l ≡ m = h.0 in
    let g : ls ≡ ms = r.0 in
    ((cc), r.1)

pub one_parting : (bs : List ℕ) (ds : List (Result Text TooLong)) → Ended bs ds → OneParting bs ds
one_parting bs ds e = λ ls p w pl pp.
    let r = parted e.lines ls e.last p e.plain pl e.plain_last pp (sym e.whole ∙ w) in
    let f : e.lines ++ last_line e.last ≡ ls ++ last_line p = ap (λ (x : List (List ℕ)). x ++ last_line e.last) r.0 ∙ ap (λ (x : List ℕ). ls ++ last_line x) r.1 in
    subst (λ (x : List (List ℕ)). DeliversAll x ds) f e.gave
