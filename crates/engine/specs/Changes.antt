-- What one change does to a feeder, and how it is answered. Assumes nothing.
use Rattle.std.specs.Prelude.{ℕ, ◌*◌, Bool, true, false, cond, not, ◌&&◌, List, [], length, Some, None, Ok, Err, Option, Result, ◌==◌, nat_le, nat_lt, slice_set}
use Rattle.feeder.specs.declared.section.Figures.{Figures}
use Rattle.feeder.specs.declared.section.Section.{Section}
use Rattle.feeder.specs.Feeder.{Feeder, at, size, switched}
use Rattle.lines.specs.declared.refusal.Refusal.{Refusal}
use Rattle.lines.specs.declared.refusal.Refusal.TheVariants.{Range, NoSection, Stands, Clear, Root, Short}
use Rattle.lines.specs.declared.change.Change.{Change}
use Rattle.lines.specs.declared.change.Change.TheVariants.{Fit, Unfit, Set}
use Rattle.lines.specs.declared.answer.Answer.TheVariants as line
use Rattle.lines.specs.Answers.{answer_text}
use Rattle.engine.specs.declared.journal.Call.{Call}
use Rattle.engine.specs.declared.journal.Call.TheVariants.{Direct, Console}
use Rattle.engine.specs.declared.journal.Put.{Put}

-- the section that a change names
abbrev pub named : Change → ℕ
named (Fit k) = k
named (Unfit k) = k
named (Set k rate quarters customers load) = k

-- a change by its own call of the library, and by a console line with an output list of n bytes
abbrev pub direct : Change → Put
direct x = record { call = Direct; change = x }

abbrev pub console : ℕ → Change → Put
console n x = record { call = Console n; change = x }

-- of conditions in their order, the first that holds
abbrev pub first : Bool → Refusal → Option Refusal → Option Refusal
first true e later = Some e
first false e later = later

-- a console's output list has 64 bytes or more
abbrev pub short : Call → Bool
short Direct = false
short (Console n) = nat_lt n 64

abbrev pub settable : ℕ → ℕ → ℕ → ℕ → Bool
settable rate quarters customers load = nat_le rate 100000 && (nat_le 1 quarters && (nat_le quarters 672 && (nat_le customers 4000 && nat_le load 4000)))

-- why a change is turned down where there are n sections and the named one is c
abbrev pub against : ℕ → Section → Change → Option Refusal
against n c (Fit k) = first (nat_le n k) NoSection (first (k == 0) Root (first c.switch Stands None))
against n c (Unfit k) = first (nat_le n k) NoSection (first (k == 0) Root (first (not c.switch) Clear None))
against n c (Set k rate quarters customers load) = first (not (settable rate quarters customers load)) Range (first (nat_le n k) NoSection None)

abbrev pub fault : ℕ → Section → Put → Option Refusal
fault n c p = first (short p.call) Short (against n c p.change)

abbrev pub marked : Section → Bool → Section
marked c b = record { figures = c.figures; switch = b }

-- rate, repair time, customers and load are replaced, and nothing else
abbrev pub refigured : Figures → ℕ → ℕ → ℕ → ℕ → Figures
refigured d rate quarters customers load =
    record { parent = d.parent; rate = rate; repair = 15 * quarters; customers = customers; load = load; name = d.name }

-- the named section once the change is made
abbrev pub touched : Change → Section → Section
touched (Fit k) c = switched c
touched (Unfit k) c = marked c false
touched (Set k rate quarters customers load) c = record { figures = refigured c.figures rate quarters customers load; switch = c.switch }

-- what a call gives back for a change: its result, and the bytes that it writes into an output list
pub data Answer : Type 0 where
  gave : Result (Unit {0}) Refusal → Answer
  wrote : Result ℕ Refusal → List ℕ → Answer

-- a line written to a console's output list of n bytes
abbrev pub lined : ℕ → List ℕ → Answer
lined n text = cond (nat_lt n 64) (wrote (Err Short) []) (wrote (Ok (length text)) text)

abbrev pub told : Call → Option Refusal → Answer
told Direct None = gave (Ok tt)
told Direct (Some e) = gave (Err e)
told (Console n) None = lined n (answer_text line.Done)
told (Console n) (Some e) = lined n (answer_text (line.Refused e))

abbrev pub unless : {A : Type 0} → Option Refusal → A → A → A
unless None x y = x
unless (Some e) x y = y

-- a change judged on the feeder so far: why it is turned down, the answer to it, and the feeder after it
abbrev pub judged : Feeder → Put → Option Refusal
judged f p = fault (size f) (at f (named p.change)) p

abbrev pub answer : Feeder → Put → Answer
answer f p = told p.call (judged f p)

abbrev pub after : Feeder → Put → Feeder
after f p = record { sections = unless (judged f p) (slice_set f.sections (named p.change) (touched p.change (at f (named p.change)))) f.sections; switching = f.switching }
