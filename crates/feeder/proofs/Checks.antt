-- Sections that pass the tests make a sound feeder. Assumes nothing.
use Rattle.std.proofs.Common.{◌≡◌, ℕ, zero, suc, ◌<◌, ◌≤◌, Bool, true, false, ◌||◌, eqb, ltb, leb, List, length, Some, None, Option, sym, refl, not-suc-le-zero, arith}
use Rattle.std.proofs.lemmas.Bool.Decides.{nat_tests}
use Rattle.std.proofs.lemmas.Bool.{and_parts, leb-true, ltb-true, eqb-true, true≢false}
use Rattle.feeder.specs.declared.section.Figures.{Figures}
use Rattle.feeder.specs.declared.section.Section.{Section}
use Rattle.feeder.specs.Feeder.{Sound, cut}
use Rattle.feeder.specs.Checked.{placed, in_range, repair_fine, name_fine, AllFine}

placed_root : (o : Option ℕ) (b : Bool) → placed 0 o b ≡ true → (o ≡ None) × (b ≡ false)
placed_root None true h = absurd (true≢false (sym h))
placed_root None false h = (refl, refl)
placed_root (Some p) b h = absurd (true≢false (sym h))

placed_lower : (k : ℕ) (o : Option ℕ) (b : Bool) → 0 < k → placed k o b ≡ true → (p : ℕ) × (o ≡ Some p) × (p < k)
placed_lower zero o b pos h = absurd (not-suc-le-zero pos)
placed_lower (suc k) None b pos h = absurd (true≢false (sym h))
placed_lower (suc k) (Some p) b pos h = (p, refl, ltb-true p (suc k) h)

empty_at : (len place : ℕ) → len ≡ 0 → (ltb 0 len || eqb place 0) ≡ true → place ≡ 0
empty_at len place e h = grind (arith, nat_tests)

-- what a range check says of the name alone
pub name_is_fine : (d : Figures) → in_range d ≡ true → name_fine d ≡ true
name_is_fine d e =
    let a = (and_parts (leb d.rate 100000) _ e).1 in
    let b = (and_parts (repair_fine d) _ a).1 in
    let c = (and_parts (leb d.customers 4000) _ b).1 in
    (and_parts (leb d.load 4000) (name_fine d) c).1

pub all_sound : (xs : List Section) (s : ℕ) → 1 ≤ length xs → length xs ≤ 1024 → 1 ≤ s → s ≤ 1440 → AllFine xs → Sound (record { sections = xs; switching = s })
unfolding cut
all_sound xs s some few low high h = record {
  some = some;
  few = few;
  root = (placed_root _ _ (and_parts _ _ (h 0 some)).0).0;
  root_bare = (placed_root _ _ (and_parts _ _ (h 0 some)).0).1;
  parents = λ k pos l. placed_lower k _ _ pos (and_parts _ _ (h k l)).0;
  ranges = λ k l.
      let (rate, a) = and_parts _ _ (and_parts _ _ (h k l)).1 in
      let (repair, b) = and_parts _ _ a in
      let (least, r) = and_parts _ _ repair in
      let (most, step) = and_parts _ _ r in
      let (customers, c) = and_parts _ _ b in
      let (load, name) = and_parts _ _ c in
      let (len, empty) = and_parts _ _ name in
      record {
        number = omega arith;
        rate = leb-true _ _ rate;
        repair_least = leb-true _ _ least;
        repair_most = leb-true _ _ most;
        repair_step = eqb-true _ _ step;
        customers = leb-true _ _ customers;
        load = leb-true _ _ load;
        name_length = leb-true _ _ len;
        name_empty = λ e. empty_at _ _ e empty;
        s_least = low;
        s_most = high;
      };
}
