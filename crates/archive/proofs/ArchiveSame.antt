-- An archive by its places, and as one part after another, is the same.
use Rattle.std.proofs.Common.{◌≡◌, ℕ, ◌+◌, ◌≤◌, List, [], ◌∷◌, ◌++◌, length, sym, refl, ap, ◌∙◌, subst, add-zero, arith, length-append}
use Rattle.archive.specs.Grammar.{RecordsAre, Keeps}
use Rattle.archive.specs.Reading.{be2}
use Rattle.archive.specs.Archives.{Records, All, checks}
use Rattle.archive.proofs.Sits.{Sits, sits_nil, sits_append, sits_left, sits_right, sits_all, sits_self, part, length_part, sits_part, be2_big}
use Rattle.archive.proofs.RecordSame.{record_to, record_from}
use Rattle.feeder.specs.declared.section.Section.{Section}
use Rattle.feeder.specs.Feeder.{Feeder}

-- The bytes s are an archive of the feeder f, by places.
pub record Placed (s : List ℕ) (room : ℕ) (f : Feeder) : Type 0 where
  pub header : All (checks s room)
  pub count : length f.sections ≡ be2 s 0
  pub time : f.switching ≡ be2 s 2
  pub records : Records s 0 4 f.sections (length s)

records_to : (s : List ℕ) (k p : ℕ) (xs : List Section) (q : ℕ) → p ≤ length s → Records s k p xs q → (bs : List ℕ) × Sits s p bs × (q ≡ p + length bs) × RecordsAre k p xs bs
records_to s k p [] q w e = ([], sits_nil s p w, e ∙ sym (add-zero p), refl)
records_to s k p (x ∷ xs) q w (r, o, d, t, a) =
    let f = record_to s p k r o d in
    let v : o ≤ length s = omega (arith, f.1.0, f.2) in
    let g = records_to s (k + 1) o xs q v a in
    let l : length (f.0 ++ g.0) ≡ length f.0 + length g.0 = length-append f.0 g.0 in
    let z : q ≡ p + length (f.0 ++ g.0) = omega (arith, f.2, g.2) in (
      f.0 ++ g.0,
      sits_append s p f.0 g.0 f.1 (subst (λ (y : ℕ). Sits s y g.0) f.2 g.1),
      z,
      (r, f.0, g.0, refl, f.3, t, subst (λ (y : ℕ). RecordsAre (k + 1) y xs g.0) f.2 g.3),
    )

-- What is read ends within the archive.
pub records_within : (s : List ℕ) (k p : ℕ) (xs : List Section) (q : ℕ) → Records s k p xs q → p ≤ length s → q ≤ length s
records_within s k p xs q a w = let g = records_to s k p xs q w a in omega (arith, g.1.0, g.2)

records_from : (s : List ℕ) (k p : ℕ) (xs : List Section) (bs : List ℕ) → Sits s p bs → RecordsAre k p xs bs → Records s k p xs (p + length bs)
records_from s k p [] bs t e = ap (λ (y : List ℕ). p + length y) e ∙ add-zero p
records_from s k p (x ∷ xs) bs t (r, a, b, e, d, u, g) =
    let v : Sits s p (a ++ b) = subst (λ (y : List ℕ). Sits s p y) e t in
    let l : length (a ++ b) ≡ length a + length b = length-append a b in
    let m : length bs ≡ length (a ++ b) = ap length e in
    let z : p + length a + length b ≡ p + length bs = omega arith in (
      r,
      p + length a,
      record_from s p k r a (sits_left s p a b v) d,
      u,
      subst (λ (y : ℕ). Records s (k + 1) (p + length a) xs y) z (records_from s (k + 1) (p + length a) xs b (sits_right s p a b v) g),
    )

pub kept : (s : List ℕ) (room : ℕ) (f : Feeder) → Placed s room f → Keeps s room f
kept s room f h =
    let w : 4 ≤ length s = h.header.1.1.0 in
    let x : 0 + 2 ≤ length s = omega arith in
    let y : 2 + 2 ≤ length s = omega arith in
    let lc : length (part s 0 2) ≡ 2 = length_part s 0 2 x in
    let lt : length (part s 2 2) ≡ 2 = length_part s 2 2 y in
    let c = sits_part s 0 2 x in
    let t = sits_part s 2 2 y in
    let g = records_to s 0 4 f.sections (length s) w h.records in
    let l2 : length (part s 2 2 ++ g.0) ≡ length (part s 2 2) + length g.0 = length-append (part s 2 2) g.0 in
    let l1 : length (part s 0 2 ++ (part s 2 2 ++ g.0)) ≡ length (part s 0 2) + length (part s 2 2 ++ g.0) = length-append (part s 0 2) (part s 2 2 ++ g.0) in
    let all : length (part s 0 2 ++ (part s 2 2 ++ g.0)) ≡ length s = omega (arith, g.2) in
    let e4 : 4 ≡ 2 + length (part s 2 2) = omega arith in
    let e2 : 2 ≡ 0 + length (part s 0 2) = omega arith in
    let tr : Sits s 2 (part s 2 2 ++ g.0) = sits_append s 2 (part s 2 2) g.0 t (subst (λ (k : ℕ). Sits s k g.0) e4 g.1) in
    let ctr : Sits s 0 (part s 0 2 ++ (part s 2 2 ++ g.0)) = sits_append s 0 (part s 0 2) (part s 2 2 ++ g.0) c (subst (λ (k : ℕ). Sits s k (part s 2 2 ++ g.0)) e2 tr) in
    let n : length f.sections ≡ be2 s 0 = h.count in
    let m : f.switching ≡ be2 s 2 = h.time in
    record {
      count = part s 0 2;
      time = part s 2 2;
      records = g.0;
      bytes = sits_all s (part s 0 2 ++ (part s 2 2 ++ g.0)) all ctr;
      count_two = lc;
      count_is = n ∙ be2_big s 0 (part s 0 2) lc c;
      count_range = subst (λ (k : ℕ). (1 ≤ k) × (k ≤ 1024)) (sym n) h.header.1.0;
      time_two = lt;
      time_is = m ∙ be2_big s 2 (part s 2 2) lt t;
      time_range = subst (λ (k : ℕ). (1 ≤ k) × (k ≤ 1440)) (sym m) h.header.1.1.1.0;
      records_are = g.3;
      fits = subst (λ (k : ℕ). k ≤ room) (sym n) h.header.1.1.1.1.0;
    }

pub placed : (s : List ℕ) (room : ℕ) (f : Feeder) → Keeps s room f → Placed s room f
placed s room f h =
    let a : Sits s 0 (h.count ++ (h.time ++ h.records)) = subst (λ (y : List ℕ). Sits s 0 y) h.bytes (sits_self s) in
    let c : Sits s 0 h.count = sits_left s 0 h.count (h.time ++ h.records) a in
    let e2 : 0 + length h.count ≡ 2 = omega (arith, h.count_two) in
    let tr : Sits s 2 (h.time ++ h.records) = subst (λ (k : ℕ). Sits s k (h.time ++ h.records)) e2 (sits_right s 0 h.count (h.time ++ h.records) a) in
    let t : Sits s 2 h.time = sits_left s 2 h.time h.records tr in
    let e4 : 2 + length h.time ≡ 4 = omega (arith, h.time_two) in
    let r : Sits s 4 h.records = subst (λ (k : ℕ). Sits s k h.records) e4 (sits_right s 2 h.time h.records tr) in
    let n : length f.sections ≡ be2 s 0 = h.count_is ∙ sym (be2_big s 0 h.count h.count_two c) in
    let m : f.switching ≡ be2 s 2 = h.time_is ∙ sym (be2_big s 2 h.time h.time_two t) in
    let l2 : length (h.time ++ h.records) ≡ length h.time + length h.records = length-append h.time h.records in
    let l1 : length (h.count ++ (h.time ++ h.records)) ≡ length h.count + length (h.time ++ h.records) = length-append h.count (h.time ++ h.records) in
    let ls : length s ≡ length (h.count ++ (h.time ++ h.records)) = ap length h.bytes in
    let all : 4 + length h.records ≡ length s = omega (arith, h.count_two, h.time_two) in
    let w4 : 4 ≤ length s = omega arith in
    let w2 : 2 ≤ length s = omega arith in
    record {
      header = (w2, (subst (λ (k : ℕ). (1 ≤ k) × (k ≤ 1024)) n h.count_range, (w4, (subst (λ (k : ℕ). (1 ≤ k) × (k ≤ 1440)) m h.time_range, (subst (λ (k : ℕ). k ≤ room) n h.fits, tt)))));
      count = n;
      time = m;
      records = subst (λ (q : ℕ). Records s 0 4 f.sections q) all (records_from s 0 4 f.sections h.records r h.records_are);
    }
