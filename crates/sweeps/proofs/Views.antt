-- What a view shows is sound, the parents that are read there, and an answer where a section may be missing. Assumes nothing.
use Rattle.std.proofs.Common.{◌≡◌, ℕ, ◌<◌, lt-ltb, Some, None, sym, ap, ◌∙◌, ⊎_elim, arith}
use Rattle.std.proofs.lemmas.Bool.{cases_lt, le-ltb, cond-true}
use Rattle.feeder.specs.Feeder.{Feeder, Sound, size, figures, up}
use Rattle.feeder.proofs.Checks.{all_sound}
use Rattle.sweeps.specs.declared.view.View.{View}
use Rattle.sweeps.specs.Views.{shown, if_there}
use Rattle.sweeps.proofs.Steps.{parent_some, parent_none}

pub view_sound : (v : View) → Sound (shown v)
view_sound v = all_sound v.sections.now v.switching v.some v.few v.low v.high v.fine

pub parent_at : (v : View) (i p : ℕ) → i < size (shown v) → (figures (shown v) i).parent ≡ Some p → (0 < i) × (up (shown v) i ≡ p) × (p < i)
parent_at v = parent_some (shown v) (view_sound v)

pub root_at : (v : View) (i : ℕ) → i < size (shown v) → (figures (shown v) i).parent ≡ None → i ≡ 0
root_at v = parent_none (shown v) (view_sound v)

pub there : {A : Type 0} (f : Feeder) (j : ℕ) (x y : A) → j < size f → x ≡ y → Some x ≡ if_there f j y
there f j x y l e = ap Some e ∙ sym (cond-true _ _ _ (lt-ltb j (size f) l))

pub is_there : {A : Type 0} (f : Feeder) (j : ℕ) (x y : A) → Some x ≡ if_there f j y → (j < size f) × (x ≡ y)
is_there f j x y e = ⊎_elim
    (λ l. (l, let t = lt-ltb j (size f) l in cc))
    (λ l. let t = le-ltb j (size f) l in let z : ◌≡◌ {A = ℕ} 0 1 = cc in absurd (omega arith))
    (cases_lt j (size f))
