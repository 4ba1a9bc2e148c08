-- A change is judged on the number of sections and on the section that it names, and alters that section alone.
-- So each section of a log's feeder comes from the changes that name it. Assumes nothing.
use Rattle.std.proofs.Common.{◌≡◌, ℕ, ◌<◌, Bool, true, false, cond, eqb, ◌≢◌, List, [], ◌∷◌, length, get_or, set, Some, None, Option, sym, refl, ap, ◌∙◌, subst, arith, length-set, get_or-set_other, get_or-set_same, eqb-true, leb-false}
use borrow.Author.Tests.{eqb-false}
use Rattle.std.proofs.lemmas.List.{same_lists, get_or_default}
use Rattle.feeder.specs.declared.section.Section.{Section}
use Rattle.lines.specs.declared.refusal.Refusal.{Refusal}
use Rattle.lines.specs.declared.change.Change.{Change}
use Rattle.lines.specs.declared.change.Change.TheVariants.{Fit, Unfit, Set}
use Rattle.archive.proofs.ArchiveOne.{keeps_one}
use Rattle.engine.specs.declared.journal.Put.{Put}
use Rattle.feeder.specs.Feeder.{Feeder, at, size, blank}
use Rattle.engine.specs.Changes.{named, first, against, fault, touched, told, unless, judged, answer, after, Answer}
use Rattle.engine.specs.Logs.{Entry, changed, asked, Run, Log, changes, naming, answers, Same, Agree}

-- one section under one change, and under those that name it
abbrev local : ℕ → Section → Put → Section
local n s p = unless (fault n s p) (touched p.change s) s

abbrev local_run : ℕ → Section → List Put → Section
local_run n s [] = s
local_run n s (p ∷ ps) = local_run n (local n s p) ps

abbrev local_told : ℕ → Section → List Put → List Answer
local_told n s [] = []
local_told n s (p ∷ ps) = told p.call (fault n s p) ∷ local_told n (local n s p) ps

-- an accepted change names a section that stands
pub first_head : (b : Bool) (e : Refusal) (o : Option Refusal) → first b e o ≡ None → b ≡ false
first_head true e o h = cc
first_head false e o h = refl

pub first_tail : (b : Bool) (e : Refusal) (o : Option Refusal) → first b e o ≡ None → o ≡ None
first_tail true e o h = cc
first_tail false e o h = h

within : (n : ℕ) (s : Section) (x : Change) → against n s x ≡ None → named x < n
within n s (Fit k) h = leb-false n k (first_head _ _ _ h)
within n s (Unfit k) h = leb-false n k (first_head _ _ _ h)
within n s (Set k rate quarters customers load) h = leb-false n k (first_head _ _ _ (first_tail _ _ _ h))

length_unless : (o : Option Refusal) (xs : List Section) (k : ℕ) (c : Section) → length (unless o (set xs k c) xs) ≡ length xs
length_unless None xs k c = length-set xs k c
length_unless (Some e) xs k c = refl

length_after : (f : Feeder) (p : Put) → size (after f p) ≡ size f
length_after f p = length_unless (judged f p) f.sections _ _

at_unless : (o : Option Refusal) (xs : List Section) (k : ℕ) (c : Section) → (o ≡ None → k < length xs) → get_or (unless o (set xs k c) xs) k blank ≡ unless o c (get_or xs k blank)
at_unless None xs k c h = get_or-set_same xs k c blank (h refl)
at_unless (Some e) xs k c h = refl

other_unless : (o : Option Refusal) (xs : List Section) (k j : ℕ) (c : Section) → j ≢ k → get_or (unless o (set xs k c) xs) j blank ≡ get_or xs j blank
other_unless None xs k j c h = get_or-set_other xs k j c blank h
other_unless (Some e) xs k j c h = refl

at_named : (f : Feeder) (p : Put) → at (after f p) (named p.change) ≡ local (size f) (at f (named p.change)) p
at_named f p = at_unless (judged f p) f.sections _ _ (λ h. within (size f) (at f (named p.change)) p.change (first_tail _ _ _ h))

at_after : (f : Feeder) (p : Put) (k : ℕ) (b : Bool) → eqb (named p.change) k ≡ b → at (after f p) k ≡ cond b (local (size f) (at f k) p) (at f k)
at_after f p k true e = subst (λ (j : ℕ). at (after f p) j ≡ local (size f) (at f j) p) (eqb-true _ _ e) (at_named f p)
at_after f p k false e = other_unless (judged f p) f.sections _ k _ (λ q. eqb-false _ _ e (sym q))

told_named : (f : Feeder) (p : Put) (k : ℕ) → eqb (named p.change) k ≡ true → answer f p ≡ told p.call (fault (size f) (at f k) p)
told_named f p k e = ap (λ (j : ℕ). told p.call (fault (size f) (at f j) p)) (eqb-true _ _ e)

pick_run : (b : Bool) (n : ℕ) (s : Section) (p : Put) (ps : List Put) → local_run n s (cond b (p ∷ ps) ps) ≡ local_run n (cond b (local n s p) s) ps
pick_run true n s p ps = refl
pick_run false n s p ps = refl

pick_told : (b : Bool) (n : ℕ) (s : Section) (p : Put) (ps : List Put) (a : Answer) (bs : List Answer) → (b ≡ true → a ≡ told p.call (fault n s p)) → bs ≡ local_told n (cond b (local n s p) s) ps → cond b (a ∷ bs) bs ≡ local_told n s (cond b (p ∷ ps) ps)
pick_told true n s p ps a bs h e = let q = h refl in cc
pick_told false n s p ps a bs h e = e

pub record Tracked (f : Feeder) (es : List Entry) (g : Feeder) (k : ℕ) : Type 0 where
  pub long : size g ≡ size f
  pub timed : g.switching ≡ f.switching
  pub holds : at g k ≡ local_run (size f) (at f k) (naming k (changes es))
  pub tells : answers k es ≡ local_told (size f) (at f k) (naming k (changes es))

tracked : (es : List Entry) (f g : Feeder) (k : ℕ) → Run f es g → Tracked f es g k
tracked [] f g k r = record { long = ap size r; timed = ap (λ (x : Feeder). x.switching) r; holds = ap (λ (x : Feeder). at x k) r; tells = refl }
tracked (asked ∷ es) f g k r =
    let t = tracked es f g k (subst (λ (h : Feeder). Run h es g) r.1 r.2) in
    record { long = t.long; timed = t.timed; holds = t.holds; tells = t.tells }
tracked (changed p a ∷ es) f g k r =
    let t = tracked es (after f p) g k (subst (λ (h : Feeder). Run h es g) r.1.1 r.2) in
    let b : Bool = eqb (named p.change) k in
    let n = length_after f p in
    let s = at_after f p k b refl in
    let run : Section → Section = λ x. local_run (size f) x (naming k (changes es)) in
    let tell : Section → List Answer = λ x. local_told (size f) x (naming k (changes es)) in
    record {
      long = t.long ∙ n;
      timed = t.timed;
      holds = t.holds ∙ ap (λ (m : ℕ). local_run m (at (after f p) k) (naming k (changes es))) n ∙ ap run s ∙ sym (pick_run b (size f) (at f k) p (naming k (changes es)));
      tells =
          pick_told b (size f) (at f k) p (naming k (changes es)) a (answers k es)
          (λ e. r.1.0 ∙ told_named f p k e)
          (t.tells ∙ ap (λ (m : ℕ). local_told m (at (after f p) k) (naming k (changes es))) n ∙ ap tell s);
    }

by_sections : (f g : Feeder) → size f ≡ size g → f.switching ≡ g.switching → ((k : ℕ) → at f k ≡ at g k) → f ≡ g
by_sections f g n s h =
    let xs : f.sections ≡ g.sections = same_lists f.sections g.sections n (λ k d l. let m : k < size g = omega arith in get_or_default f.sections k d blank l ∙ h k ∙ sym (get_or_default g.sections k d blank m)) in
    λ t. record { sections = xs t; switching = s t }

-- Two logs from one archive with the same changes at each section give the same answers to them and end on one feeder.
pub order_apart : (archive : List ℕ) (es fs : List Entry) (f g : Feeder) → Log archive es f → Log archive fs g → Same (changes es) (changes fs) → Agree es f fs g
order_apart archive es fs f g l m same =
    let q : l.1 ≡ m.1 = keeps_one l.2 m.2 in
    let r : Run m.1 es f = subst (λ (h : Feeder). Run h es f) q l.3 in
    let t : (k : ℕ) → Tracked m.1 es f k = λ k. tracked es m.1 f k r in
    let u : (k : ℕ) → Tracked m.1 fs g k = λ k. tracked fs m.1 g k m.3 in (
      by_sections f g ((t 0).long ∙ sym (u 0).long) ((t 0).timed ∙ sym (u 0).timed)
          (λ k. (t k).holds ∙ ap (local_run (size m.1) (at m.1 k)) (same k) ∙ sym (u k).holds),
      λ k. (t k).tells ∙ ap (local_told (size m.1) (at m.1 k)) (same k) ∙ sym (u k).tells,
    )
