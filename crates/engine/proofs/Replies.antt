-- What a result tells of the refusal behind it, and a study's answers by its feeder. Assumes nothing.
use Rattle.std.proofs.Common.{◌≡◌, ℕ, ◌<◌, Bool, true, false, Some, None, Ok, Err, Option, Result, sym, refl, ap, ◌∙◌, subst, ⊎_elim, arith}
use Rattle.std.proofs.lemmas.Bool.{cases_lt}
use Rattle.feeder.specs.Feeder.{Feeder, size, cut}
use Rattle.lines.specs.declared.refusal.Refusal.{Refusal}
use Rattle.feeder.specs.Measure.{Meaning}
use Rattle.sweeps.specs.Weights.{FirstLargest}
use Rattle.engine.specs.declared.study.Study.{Study}
use Rattle.engine.specs.Changes.{first}
use Rattle.engine.specs.Questions.{or_refused, untried, missing, WorstOf}
use Rattle.engine.specs.Studies.{feeder_of}
use Rattle.engine.proofs.Asked.{not_missing}
use Rattle.engine.proofs.Sounds.{size_is}
use Rattle.engine.proofs.Switches.{Bare, bare_at}

pub ok_none : {A : Type 0} (o : Option Refusal) (x y : A) → Ok y ≡ or_refused o x → (o ≡ None) × (y ≡ x)
ok_none None x y e = (refl, cc)
ok_none (Some r) x y e = let z : ◌≡◌ {A = ℕ} 0 1 = cc in absurd (omega arith)

-- what comes before it is told whatever comes after
pub sooner : (b : Bool) (x e : Refusal) (later : Option Refusal) → first b x None ≡ Some e → first b x later ≡ Some e
sooner true x e later q = q
sooner false x e later q = let z : ◌≡◌ {A = ℕ} 0 1 = cc in absurd (omega arith)

-- the index that stands for a section where a switch can be fitted
pub record Index (s : Study) (j a : ℕ) : Type 0 where
  pub same : a ≡ j
  pub free : untried (feeder_of s) j ≡ None
  pub not_root : 0 < a
  pub within : a < s.count
  pub bare : cut (feeder_of s) a ≡ false

pub index_of : (s : Study) (j a : ℕ) → Ok a ≡ or_refused (untried (feeder_of s) j) j → Index s j a
index_of s j a e =
    let (free, same) = ok_none (untried (feeder_of s) j) j a e in
    let b : Bare (feeder_of s) a = subst (Bare (feeder_of s)) (sym same) (bare_at (feeder_of s) j free) in
    let l = b.stands in
    record { same = same; free = free; not_root = b.not_root; within = omega (arith, l, size_is s); bare = b.bare }

pub before_end : (s : Study) (k : ℕ) (later : Option Refusal) → k < s.count → missing (feeder_of s) k later ≡ later
before_end s k later l = not_missing (feeder_of s) k later (omega (arith, size_is s, l))

-- the first of the largest is one
largest_one : (g : ℕ → ℕ) (n w w' : ℕ) → FirstLargest g n w → FirstLargest g n w' → w' ≡ w
largest_one g n w w' (a, b, c) (a', b', c') = ⊎_elim
    (λ l. absurd (omega (arith, c w' l, b' w a)))
    (λ m. ⊎_elim (λ l. absurd (omega (arith, c' w l, b w' a'))) (λ l. omega (arith, l, m)) (cases_lt w w'))
    (cases_lt w' w)

pub worst_one : {V : Type 0} (μ : Meaning V) (number : V → ℕ) (h : Feeder) (r r' : Result ℕ Refusal) → WorstOf μ number h r → WorstOf μ number h r' → r' ≡ r
worst_one μ number h (Ok w) (Ok w') a b = ap Ok (largest_one _ (size h) w w' a b)
worst_one μ number h (Ok w) (Err e) a b = let l = a.0 in let z = b.0 in absurd (omega (arith, l, z))
worst_one μ number h (Err e) (Ok w) a b = let l = b.0 in let z = a.0 in absurd (omega (arith, l, z))
worst_one μ number h (Err e) (Err e') a b = ap Err (b.1 ∙ sym a.1)
