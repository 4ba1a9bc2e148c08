use Rattle.std.proofs.Common.{◌≡◌, false, get_or, Some, None, Option, MatchOption, refl, ◌∙◌, eq-eqb, arith, rules}
use borrow.Author.Tests.{tests}
use Rattle.sweeps.specs.Views.{shown}
use Rattle.sweeps.proofs.Steps.{below_here, below_above, below_none}
use Rattle.sweeps.proofs.Views.{view_sound, parent_at, root_at}
use Rattle.sweeps.proofs.view.View.is_below.Goals as goal

by_option : {X A N : Type 0} {S : X → Type 0} (o : Option X) → MatchOption o N S → (o ≡ None → N → A) → ((x : X) → o ≡ Some x → S x → A) → A
by_option None h n s = n refl h
by_option (Some x) h n s = s x refl h

pub returns-then-k-j : goal.returns-then-k-j
returns-then-k-j c = eq-eqb c.args.k c.args.j c.if-k-j.true ∙ below_here (shown c.args.self.now) (view_sound c.args.self.now) c.args.k c.args.j (omega arith)

pub returns-else-k-j : goal.returns-else-k-j
returns-else-k-j c =
    let v = c.args.self.now in
    by_option _ c.is_some_and.ensures
    (λ e none. none ∙ below_none (shown v) (view_sound v) c.args.k c.args.j (root_at v c.args.k c.requires.within e) (omega arith))
    (λ p e call.
    let r = parent_at v c.args.k p c.requires.within e in
    let is : c.is_some_and.result ≡ get_or c.args.known.now p false = search (rules, tests) in
    is ∙ c.requires.told p (omega (arith, r.2)) ∙ below_above (shown v) (view_sound v) c.args.k p c.args.j r.0 (omega arith) r.1)
