-- The answers to questions and trials on a feeder, with the order in which they are refused. Assumes nothing.
use Rattle.std.specs.Prelude.{◌≡◌, ℕ, ◌+◌, ◌/◌, List, length, take, drop, Some, None, Ok, Err, Option, Result, MatchResult, ◌==◌, nat_le, nat_lt}
use Rattle.feeder.specs.Feeder.{Feeder, at, size, figures, fitted}
use Rattle.feeder.specs.Measure.{Meaning}
use Rattle.feeder.specs.Totals.{total}
use Rattle.feeder.specs.Flows.{flow}
use Rattle.feeder.specs.Weighed.{Weight, sum_over, weighted_sum, shielded}
use Rattle.measures.specs.declared.capped.Capped.{Capped}
use Rattle.measures.specs.Capped.{minutes, count}
use Rattle.sweeps.specs.declared.by.By.TheVariants.{Load, Customers}
use Rattle.sweeps.specs.Lists.{written}
use Rattle.sweeps.specs.Weights.{weight_of, short_trial, FirstLargest}
use Rattle.lines.specs.declared.refusal.Refusal.{Refusal}
use Rattle.lines.specs.declared.refusal.Refusal.TheVariants.{NoSection, Root, Short, NoCustomers, NameCut}
use Rattle.lines.specs.declared.change.Change.TheVariants.{Fit}
use Rattle.engine.specs.Changes.{against, first}

-- a value, unless the question is turned down
abbrev pub or_refused : {A : Type 0} → Option Refusal → A → Result A Refusal
or_refused None x = Ok x
or_refused (Some e) x = Err e

-- no section or node has that number
abbrev pub missing : Feeder → ℕ → Option Refusal → Option Refusal
missing f k later = first (nat_le (size f) k) NoSection later

-- the total of node m
abbrev pub total_of : {V : Type 0} → Meaning V → ℕ → Feeder → Result V Refusal
total_of μ m f = or_refused (missing f m None) (total μ f m)

-- the flow at section j, which is not section 0
abbrev pub flow_of : {V : Type 0} → Meaning V → ℕ → Feeder → Result V Refusal
flow_of μ j f = or_refused (missing f j (first (j == 0) Root None)) (flow μ f j)

-- what a call gives back, and what the caller's value list has afterwards
abbrev pub writes : {V : Type 0} → Option Refusal → List V → List V → Result (Unit {0}) Refusal × List V
writes None after before = (Ok tt, after)
writes (Some e) after before = (Err e, before)

-- a value for each of n nodes into a value list, or 24
abbrev pub if_room : {V : Type 0} → ℕ → (ℕ → V) → List V → Result (Unit {0}) Refusal × List V
if_room n value before = writes (first (nat_lt (length before) n) Short None) (written value n before) before

abbrev pub unless_refused : {V : Type 0} → Option Refusal → Result (Unit {0}) Refusal × List V → List V → Result (Unit {0}) Refusal × List V
unless_refused None a before = a
unless_refused (Some e) a before = (Err e, before)

-- all totals into a value list
abbrev pub totals_of : {V : Type 0} → Meaning V → List V → Feeder → Result (Unit {0}) Refusal × List V
totals_of μ before f = unless_refused (missing f 0 None) (if_room (size f) (total μ f) before) before

-- the sum of the totals, each times the weight of its node
abbrev pub sum_of : {V : Type 0} → Meaning V → (V → ℕ) → Weight → Feeder → Result ℕ Refusal
sum_of μ number w f = or_refused (missing f 0 None) (weighted_sum μ number w f)

-- r tells the node of the largest total, the lowest on equals
abbrev pub WorstOf : {V : Type 0} → Meaning V → (V → ℕ) → Feeder → Result ℕ Refusal → Type 0
WorstOf μ number f r = MatchResult r (λ w. FirstLargest (λ m. number (total μ f m)) (size f) w) (λ e. (size f ≡ 0) × (e ≡ NoSection))

-- the number of a capped value
abbrev pub plain : Capped → ℕ
plain v = v.value

-- all customers of the feeder
abbrev pub customers_of : Feeder → ℕ
customers_of f = sum_over (size f) (λ k. weight_of Customers (figures f k))

-- the customer-weighted sum per customer, rounded down
abbrev pub per_customer : {V : Type 0} → Meaning V → (V → ℕ) → Feeder → Result ℕ Refusal
per_customer μ number f = or_refused (missing f 0 (first (customers_of f == 0) NoCustomers None)) (weighted_sum μ number (weight_of Customers) f / customers_of f)

-- System Average Interruption Duration Index, in thousandths of a minute
abbrev pub saidi_of : Feeder → Result ℕ Refusal
saidi_of f = per_customer minutes plain f

-- System Average Interruption Frequency Index, in thousandths
abbrev pub saifi_of : Feeder → Result ℕ Refusal
saifi_of f = per_customer count plain f

-- Expected Energy Not Supplied, in kWh, rounded down
abbrev pub eens_of : Feeder → Result ℕ Refusal
eens_of f = or_refused (missing f 0 None) (weighted_sum minutes plain (weight_of Load) f / 60000)

-- the name of section k, as the archive shown has it
abbrev pub name_of : List ℕ → ℕ → Feeder → Result (List ℕ) Refusal
name_of archive k f =
    or_refused (missing f k (first (nat_lt (length archive) ((figures f k).name.at + (figures f k).name.len)) NameCut None))
    (take (figures f k).name.len (drop (figures f k).name.at archive))

-- why a trial of a switch at j is not made: as a fit is judged
abbrev pub untried : Feeder → ℕ → Option Refusal
untried f j = against (size f) (at f j) (Fit j)

-- the short trial of j: the flow there, the weight that a switch shields, and their product
abbrev pub short_trial_of : {V : Type 0} → Meaning V → (V → ℕ) → Weight → ℕ → Feeder → Result (ℕ × ℕ × ℕ) Refusal
short_trial_of μ number w j f = or_refused (untried f j) (short_trial (number (flow μ f j)) (shielded w f j))

-- the full trial of j on a value list: all totals as they would be with the switch fitted
abbrev pub full_trial_of : {V : Type 0} → Meaning V → ℕ → List V → Feeder → Result (Unit {0}) Refusal × List V
full_trial_of μ j before f = unless_refused (untried f j) (if_room (size f) (total μ (fitted f j)) before) before
