-- A fit that is accepted gives one more switch. Assumes nothing.
use Rattle.std.proofs.Common.{◌≡◌, ℕ, ◌<◌, Bool, false, eqb, leb, [], ◌∷◌, ◌++◌, set, None, Option, sym, refl, ap, ◌∙◌, arith, ne_eqb, leb-false}
use borrow.Author.Tests.{eqb-false, lt-leb}
use Rattle.feeder.specs.Feeder.{Feeder, size, at, cut, fitted, switched}
use Rattle.sweeps.specs.Lists.{feeder}
use Rattle.lines.specs.declared.refusal.Refusal.{Refusal}
use Rattle.lines.specs.declared.refusal.Refusal.TheVariants.{NoSection, Root, Stands, Short}
use Rattle.lines.specs.declared.change.Change.TheVariants.{Fit}
use Rattle.engine.specs.declared.journal.Call.{Call}
use Rattle.engine.specs.declared.journal.Put.{Put}
use Rattle.engine.specs.Changes.{after, unless, answer, first, short, judged}
use Rattle.engine.specs.Logs.{Entry, changed, naming}
use Rattle.engine.specs.Laws.{Switched, FitSwitches}
use Rattle.engine.specs.Questions.{untried}
use Rattle.engine.proofs.Apart.{first_head, first_tail, order_apart}
use Rattle.engine.proofs.Logged.{extends, changes_more}

-- where a switch may be fitted
pub record Bare (f : Feeder) (j : ℕ) : Type 0 where
  pub not_root : 0 < j
  pub stands : j < size f
  pub bare : cut f j ≡ false

pub bare_at : (f : Feeder) (j : ℕ) → untried f j ≡ None → Bare f j
unfolding cut
bare_at f j q =
    let t = first_tail (leb (size f) j) NoSection _ q in
    let b = eqb-false j 0 (first_head _ _ _ t) in
    record { not_root = omega (arith, b); stands = leb-false (size f) j (first_head _ _ _ q); bare = first_head _ Stands _ (first_tail (eqb j 0) Root _ t) }

pub untried_bare : (f : Feeder) (j : ℕ) → Bare f j → untried f j ≡ None
unfolding cut
untried_bare f j b =
    let p = b.not_root in
    let x : leb (size f) j ≡ false = lt-leb _ _ b.stands in
    let y : eqb j 0 ≡ false = ne_eqb j 0 (λ e. omega (arith, e, p)) in
    let z : (at f j).switch ≡ false = b.bare in
    simp (x, y, z)

-- a fit by either call
pub fit_switched : (f g : Feeder) (j : ℕ) (c : Call) → short c ≡ false → untried f j ≡ None → g ≡ after f (record { call = c; change = Fit j }) → Switched f j g
unfolding fitted
fit_switched f g j c wide q e =
    let b = bare_at f j q in
    let o : judged f (record { call = c; change = Fit j }) ≡ None = ap (λ (x : Bool). first x Short (untried f j)) wide ∙ q in
    record {
      not_root = b.not_root;
      stands = b.stands;
      bare = b.bare;
      same = e ∙ ap (λ (o : Option Refusal). feeder (unless o (set f.sections j (switched (at f j))) f.sections) f.switching) o;
    }

pub fit_switches : (f : Feeder) (j : ℕ) → untried f j ≡ None → FitSwitches f j
fit_switches f j q archive es fs g c wide l m same =
    let p : Put = record { call = c; change = Fit j } in
    let e : Entry = changed p (answer f p) in
    let both = order_apart archive (es ++ (e ∷ [])) fs (after f p) g (extends e f (after f p) (refl, refl) archive es l) m (λ k. ap (naming k) (changes_more es p (answer f p)) ∙ same k) in
    fit_switched f g j c wide q (sym both.0)
