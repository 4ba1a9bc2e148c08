-- How changes and trials are judged on a study's feeder. Assumes nothing.
use Rattle.std.proofs.Common.{◌≡◌, ℕ, ◌<◌, ◌≤◌, Bool, true, false, cond, not, eqb, leb, List, length, get_or, take, set, Some, None, Ok, Err, Option, Result, sym, refl, ap, ◌∙◌, length-take-le, get_or-take, le-ltb, lt-ltb, ne_eqb, le-leb, leb-false, arith, leb-true}
use borrow.Author.Tests.{lt-leb}
use Rattle.std.proofs.lemmas.Bool.{and_from}
use Rattle.feeder.specs.declared.section.Section.{Section}
use Rattle.feeder.specs.Feeder.{Feeder, size, at, blank}
use Rattle.std.specs.Result.{result_or}
use Rattle.sweeps.specs.declared.up.TooShort.{TooShort}
use Rattle.sweeps.specs.Views.{too_short}
use Rattle.sweeps.specs.Lists.{feeder, written}
use Rattle.lines.specs.declared.refusal.Refusal.{Refusal}
use Rattle.lines.specs.declared.refusal.Refusal.TheVariants.{NoSection, Root, Clear, Short, Range}
use Rattle.lines.specs.declared.change.Change.{Change}
use Rattle.lines.specs.declared.change.Change.TheVariants.{Unfit, Set}
use Rattle.engine.specs.declared.journal.Call.TheVariants.{Direct}
use Rattle.engine.specs.Changes.{first, settable, judged, told, touched, named, direct, gave, unless}
use Rattle.engine.specs.Logs.{Step, changed}
use Rattle.engine.specs.Questions.{writes, if_room}

-- a section other than 0 that stands is judged by what comes after
pub stands : (n k : ℕ) (o : Option Refusal) → k < n → (k ≡ 0 → ⊥) → first (leb n k) NoSection (first (eqb k 0) Root o) ≡ o
stands n k o h z =
    let a : leb n k ≡ false = lt-leb n k h in
    let b : eqb k 0 ≡ false = ne_eqb k 0 z in
    simp (a, b)

pub not_zero : (k : ℕ) → 0 < k → k ≡ 0 → ⊥
not_zero k l z = omega (arith, l, z)

module _ (xs : List Section) (n k s : ℕ) (w : n ≤ length xs) (h : k < n) where
  at_is : at (feeder (take n xs) s) k ≡ get_or xs k blank
  at_is = get_or-take n xs k blank h

  size_is : size (feeder (take n xs) s) ≡ n
  size_is = length-take-le n xs w

  under : k < size (feeder (take n xs) s)
  under = rw size_is h

-- what a sweep of all totals leaves and answers, with the refusal of a list that is too short
pub roomy : {V : Type 0} (n : ℕ) (value : ℕ → V) (before after : List V) (r : Result (Unit {0}) TooShort)
    → r ≡ cond (leb n (length before)) (Ok tt) (Err too_short) → after ≡ cond (leb n (length before)) (written value n before) before
    → (result_or r (Err Short), after) ≡ if_room n value before
roomy n value before after r e o =
    let by_room : (b : Bool) → leb n (length before) ≡ b → (result_or (cond b (Ok tt) (Err too_short)) (Err Short), cond b (written value n before) before) ≡ if_room n value before = elim [
      | true ↦ λ t. sym (ap (λ (b : Bool). writes (first b Short None) (written value n before) before) (le-ltb (length before) n (leb-true _ _ t)))
      | false ↦ λ t. sym (ap (λ (b : Bool). writes (first b Short None) (written value n before) before) (lt-ltb (length before) n (leb-false _ _ t)))
    ] in
    (λ t. (result_or (e t) (Err Short), o t)) ∙ by_room (leb n (length before)) refl

pub unfit_judged : (xs : List Section) (n k s : ℕ) → n ≤ length xs → k < n → (k ≡ 0 → ⊥) → (b : Bool) → (get_or xs k blank).switch ≡ b
    → judged (feeder (take n xs) s) (direct (Unfit k)) ≡ first (not b) Clear None
unfit_judged xs n k s w h z b e =
    stands (size (feeder (take n xs) s)) k _ (under xs n k s w h) z ∙ ap (λ (b : Bool). first (not b) Clear None) (ap (λ (c : Section). c.switch) (at_is xs n k s w h) ∙ e)

pub set_judged : (xs : List Section) (n k s rate quarters customers load : ℕ) → n ≤ length xs → k < n → settable rate quarters customers load ≡ true
    → judged (feeder (take n xs) s) (direct (Set k rate quarters customers load)) ≡ None
set_judged xs n k s rate quarters customers load w h e =
    ap (λ (b : Bool). first (not b) Range (first (leb (size (feeder (take n xs) s)) k) NoSection None)) e
    ∙ ap (λ (b : Bool). first b NoSection None) (lt-leb (size (feeder (take n xs) s)) k (under xs n k s w h))

pub in_ranges : (rate quarters customers load : ℕ) → rate ≤ 100000 → 1 ≤ quarters → quarters ≤ 672 → customers ≤ 4000 → load ≤ 4000 → settable rate quarters customers load ≡ true
in_ranges rate quarters customers load a b d u v =
    and_from _ _ (le-leb _ _ a) (and_from _ _ (le-leb _ _ b) (and_from _ _ (le-leb _ _ d) (and_from _ _ (le-leb _ _ u) (le-leb _ _ v))))

pub step_refused : (f : Feeder) (x : Change) (e : Refusal) → judged f (direct x) ≡ Some e → Step f (changed (direct x) (gave (Err e))) f
step_refused f x e q = (
  sym (ap (told Direct) q),
  sym (ap (λ (o : Option Refusal). feeder (unless o (set f.sections (named x) (touched x (at f (named x)))) f.sections) f.switching) q),
)

pub step_done : (f : Feeder) (x : Change) (g : Feeder) → judged f (direct x) ≡ None → g ≡ feeder (set f.sections (named x) (touched x (at f (named x)))) f.switching
    → Step f (changed (direct x) (gave (Ok tt))) g
step_done f x g q e = (
  sym (ap (told Direct) q),
  e ∙ sym (ap (λ (o : Option Refusal). feeder (unless o (set f.sections (named x) (touched x (at f (named x)))) f.sections) f.switching) q),
)
