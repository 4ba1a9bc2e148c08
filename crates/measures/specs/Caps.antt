-- Equality of capped numbers, and the laws of Minutes and Count.
use Rattle.std.specs.Prelude.{◌≡◌, ℕ, ◌+◌, ◌*◌, ◌^◌, ◌<◌, ◌≤◌, min, refl}
use Rattle.std.proofs.Common.{ap, subst, arith, mul-le-mul, mul-le-mul_left}
use Rattle.std.proofs.Math.Bridge.{le_prop}
use Rattle.feeder.specs.declared.section.Figures.{Figures}
use Rattle.feeder.specs.Feeder.{Ranges}
use Rattle.feeder.specs.Measure.{Lawful}
use Rattle.feeder.specs.Weighed.{Weighs}
use Rattle.measures.specs.declared.capped.Capped.{Capped}
use Rattle.measures.specs.Capped.{Amounts, minutes_amounts, count_amounts, minutes, count}
use Rattle.measures.specs.Additive.{Parted, Bounded, Additive, sums}

abbrev mk : (n : ℕ) → n < 2 ^ 64 → Capped
mk n h = record { value = n; fits = h }

pub same : (a b : Capped) → a.value ≡ b.value → a ≡ b
same a b e =
    let P : ℕ → Type 0 = λ n. (q : n < 2 ^ 64) → mk a.value a.fits ≡ mk n q in
    subst P e (λ q. ap (mk a.value) (le_prop a.fits q)) b.fits

-- two times with one rate, the shorter and what is left
pub times : (r t u : ℕ) → t ≤ u → r * t ≤ r * u
times r t u h = mul-le-mul_left r h

-- any measure by capped sums has the laws of the joining
pub amounts_lawful : (a : Amounts) → Parted a → Lawful (sums a)
amounts_lawful a parts = record {
  joining = record { assoc = λ a b c. same _ _ (omega arith); comm = λ a b. same _ _ (omega arith); unit = λ a. same _ _ (omega arith) };
  parts = λ k d s r. same _ _ (omega (arith, parts k d s r));
}

pub amounts_weigh : (a : Amounts) → Bounded a → Weighs (sums a) (λ v. v.value)
amounts_weigh a most = record {
  same = same;
  nothing = refl;
  join = λ a b. refl;
  near = λ k d s r. omega (arith, most k d s d.repair r r.repair_most);
  far = λ k d s r. omega (arith, most k d s (min d.repair s) r (omega (arith, r.repair_most)));
}

-- the same, for a measure whose two functions make no record
pub by_sums : (e : ℕ → Figures → ℕ → ℕ → ℕ) (x : ℕ → Figures → ℕ → ℕ) → ((k : ℕ) (d : Figures) (s : ℕ) → Ranges k d s → e k d s (min d.repair s) + x k d s ≡ e k d s d.repair)
    → Lawful (sums (record { amount = e; excess = x }))
by_sums e x parts = amounts_lawful (record { amount = e; excess = x }) parts

pub sums_weigh : (e : ℕ → Figures → ℕ → ℕ → ℕ) (x : ℕ → Figures → ℕ → ℕ) → ((k : ℕ) (d : Figures) (s t : ℕ) → Ranges k d s → t ≤ 10080 → e k d s t ≤ 1008000000)
    → Weighs (sums (record { amount = e; excess = x })) (λ v. v.value)
sums_weigh e x most = amounts_weigh (record { amount = e; excess = x }) most

pub minutes_additive : Additive minutes_amounts
minutes_additive = record {
  parts = λ k d s r. omega (arith, times d.rate (min d.repair s) d.repair (omega arith));
  most = λ k d s t r l. mul-le-mul r.rate l;
}

pub count_additive : Additive count_amounts
count_additive = record { parts = λ k d s r. omega arith; most = λ k d s t r l. omega (arith, r.rate) }

pub minutes_lawful : Lawful minutes
minutes_lawful = by_sums minutes_amounts.amount minutes_amounts.excess minutes_additive.parts

pub count_lawful : Lawful count
count_lawful = by_sums count_amounts.amount count_amounts.excess count_additive.parts

pub minutes_weighs : Weighs minutes (λ v. v.value)
minutes_weighs = sums_weigh minutes_amounts.amount minutes_amounts.excess minutes_additive.most

pub count_weighs : Weighs count (λ v. v.value)
count_weighs = sums_weigh count_amounts.amount count_amounts.excess count_additive.most
