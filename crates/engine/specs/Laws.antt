-- The laws over two logs from one archive. Assumes nothing.
use Rattle.std.specs.Prelude.{◌≡◌, ℕ, ◌+◌, ◌*◌, ◌<◌, ◌≤◌, false, List, [], ◌∷◌, ◌++◌, length, Ok, Err, Result}
use Rattle.feeder.specs.Feeder.{Feeder, size, cut, fitted}
use Rattle.feeder.specs.Measure.{Meaning}
use Rattle.feeder.specs.Totals.{total}
use Rattle.feeder.specs.Flows.{flow}
use Rattle.feeder.specs.Trials.{spared}
use Rattle.feeder.specs.Weighed.{Weight, shielded}
use Rattle.sweeps.specs.Lists.{written}
use Rattle.lines.specs.declared.refusal.Refusal.{Refusal}
use Rattle.lines.specs.declared.change.Change.TheVariants.{Fit}
use Rattle.engine.specs.declared.journal.Call.{Call}
use Rattle.engine.specs.Changes.{short}
use Rattle.engine.specs.Logs.{Entry, Log, Same, Agree, changes}
use Rattle.engine.specs.Questions.{total_of, full_trial_of, sum_of, short_trial_of}

-- Order does not matter. Where a log that ends on f and any other log from its archive hold, for every section number, the same
-- changes naming it in the same order, whatever lies between: these get the same answers, both end on one feeder, and whatever
-- answers the question after the other is r, the answer after the first.
abbrev pub Alike : {R : Type 0} → (Feeder → R → Type 0) → Feeder → R → Type 0
Alike {R} Answers f r =
    (archive : List ℕ) (es fs : List Entry) (g : Feeder) → Log archive es f → Log archive fs g → Same (changes es) (changes fs)
    → Agree es f fs g × ((r' : R) → Answers g r' → r' ≡ r)

-- the same for a question whose answer is worked out from the feeder
abbrev pub AlikeBy : {R : Type 0} → (Feeder → R) → Feeder → R → Type 0
AlikeBy reply f r = Alike (λ g r'. r' ≡ reply g) f r

-- g is f but for one more switch, at j
pub record Switched (f : Feeder) (j : ℕ) (g : Feeder) : Type 0 where
  pub not_root : 0 < j
  pub stands : j < size f
  pub bare : cut f j ≡ false
  pub same : g ≡ fitted f j

-- of any two logs from one archive, where the first ends on f and the second on the same but for one more switch
abbrev pub OneMore : Feeder → (ℕ → Feeder → Type 0) → Type 0
OneMore f P = (archive : List ℕ) (es fs : List Entry) (j : ℕ) (g : Feeder) → Log archive es f → Log archive fs g → Switched f j g → P j g

-- A log that holds, section by section, the changes of one that ends on f and then one fit of j, by either call, ends on f but
-- for the switch at j.
abbrev pub FitSwitches : Feeder → ℕ → Type 0
FitSwitches f j =
    (archive : List ℕ) (es fs : List Entry) (g : Feeder) (c : Call) → short c ≡ false → Log archive es f → Log archive fs g
    → Same (changes es ++ (record { call = c; change = Fit j } ∷ [])) (changes fs) → Switched f j g

-- an answered value joined with another
abbrev pub joined : {V : Type 0} → Meaning V → Result V Refusal → V → Result V Refusal
joined μ (Ok v) w = Ok (μ.join v w)
joined μ (Err e) w = Err e

-- What the switch spares: each node's total after the first log is its total after the second joined with what the switch spares
-- the node, and the switch's full trial after the first, with a value list long enough, writes the totals after the second.
pub record Spares {V : Type 0} (μ : Meaning V) (f : Feeder) (j : ℕ) (g : Feeder) : Type 0 where
  pub totals : (m : ℕ) → total_of μ m f ≡ joined μ (total_of μ m g) (spared μ f j m)
  pub trial : (before : List V) → size f ≤ length before → full_trial_of μ j before f ≡ (Ok tt, written (total μ g) (size g) before)

abbrev pub SwitchSpares : {V : Type 0} → Meaning V → Feeder → Type 0
SwitchSpares μ f = OneMore f (Spares μ f)

-- What the switch is worth, under a measure that can be weighed: the weighted sum after the first log is the sum after the second
-- and the flow at the switch's section after the first times the weight that the switch shields, and the short trial after the
-- first answers these two and their product.
pub record Worth {V : Type 0} (μ : Meaning V) (number : V → ℕ) (w : Weight) (f : Feeder) (j : ℕ) (g : Feeder) : Type 0 where
  pub before : ℕ
  pub after : ℕ
  pub sum_before : sum_of μ number w f ≡ Ok before
  pub sum_after : sum_of μ number w g ≡ Ok after
  pub less : before ≡ after + number (flow μ f j) * shielded w f j
  pub trial : short_trial_of μ number w j f ≡ Ok (number (flow μ f j), shielded w f j, number (flow μ f j) * shielded w f j)

abbrev pub SwitchWorth : {V : Type 0} → Meaning V → (V → ℕ) → Weight → Feeder → Type 0
SwitchWorth μ number w f = OneMore f (Worth μ number w f)
