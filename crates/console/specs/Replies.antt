-- What a console line is answered on a feeder. Assumes nothing.
use Rattle.std.specs.Prelude.{ℕ, List, [], take, Some, None, Ok, Err, Option, Result}
use Rattle.feeder.specs.Feeder.{Feeder}
use Rattle.measures.specs.declared.capped.Capped.{Capped}
use Rattle.measures.specs.declared.outage.Outage.{Outage}
use Rattle.measures.specs.Capped.{minutes, count}
use Rattle.measures.specs.Longest.{longest}
use Rattle.sweeps.specs.declared.by.By.TheVariants.{Load}
use Rattle.sweeps.specs.Weights.{weight_of}
use Rattle.archive.specs.declared.fault.LoadFault.{LoadFault}
use Rattle.archive.specs.Faults.{told}
use Rattle.lines.specs.declared.refusal.Refusal.{Refusal}
use Rattle.lines.specs.declared.refusal.Refusal.TheVariants as refusal
use Rattle.lines.specs.declared.question.Question.{Question}
use Rattle.lines.specs.declared.question.Question.TheVariants as ask
use Rattle.lines.specs.declared.line.Line.{Line}
use Rattle.lines.specs.declared.line.Line.TheVariants as line
use Rattle.lines.specs.declared.answer.Answer.{Answer}
use Rattle.lines.specs.declared.answer.Answer.TheVariants.{Done, Number, Longest, Trial, Indices, Refused, Fault}
use Rattle.engine.specs.Changes.{judged, direct, console, wrote, after}
use Rattle.engine.specs.Logs.{Entry, changed, asked}
use Rattle.engine.specs.Questions.{total_of, short_trial_of, saifi_of, saidi_of, eens_of, plain}

-- an answer, or E and the refusal's number
abbrev pub spoken : Result Answer Refusal → Answer
spoken (Ok a) = a
spoken (Err e) = Refused e

-- ok, or E and the refusal's number
abbrev pub done : Option Refusal → Answer
done None = Done
done (Some e) = Refused e

abbrev pub numbered : Result Capped Refusal → Answer
numbered (Ok v) = Number v.value
numbered (Err e) = Refused e

abbrev pub outage : Result (Option Outage) Refusal → Answer
outage (Ok o) = Longest o
outage (Err e) = Refused e

abbrev pub tried : Result (ℕ × ℕ × ℕ) Refusal → Answer
tried (Ok t) = Trial t.0 t.1 t.2
tried (Err e) = Refused e

-- SAIFI, SAIDI and EENS, or the first refusal among them
abbrev pub indexed : Result ℕ Refusal → Result ℕ Refusal → Result ℕ Refusal → Answer
indexed (Err e) saidi eens = Refused e
indexed (Ok a) (Err e) eens = Refused e
indexed (Ok a) (Ok b) (Err e) = Refused e
indexed (Ok a) (Ok b) (Ok c) = Indices a b c

-- D, C and L ask for a node's total under Minutes, Count and Longest, G for the short trial of a switch, X for the indices
abbrev pub answer_of : Question → Feeder → Answer
answer_of (ask.Minutes m) f = numbered (total_of minutes m f)
answer_of (ask.Count m) f = numbered (total_of count m f)
answer_of (ask.Longest m) f = outage (total_of longest m f)
answer_of (ask.Trial k) f = tried (short_trial_of minutes plain (weight_of Load) k f)
answer_of ask.Indices f = indexed (saifi_of f) (saidi_of f) (eens_of f)

-- the answer to what was read of a line; a text that is no line's is answered by 8
abbrev pub said : Option Line → Feeder → Answer
said None f = Refused refusal.Line
said (Some (line.Change x)) f = done (judged f (direct x))
said (Some (line.Question q)) f = answer_of q f

-- the feeder after the line, if the answer can be written
abbrev pub moved : Option Line → Feeder → Feeder
moved None f = f
moved (Some (line.Change x)) f = after f (direct x)
moved (Some (line.Question q)) f = f

-- what the output list has of the answer
abbrev pub front : Result ℕ Refusal → List ℕ → List ℕ
front (Ok n) out = take n out
front (Err e) out = []

-- the entry that a line is in a log: a change through the console is a change like any other
abbrev pub entry_of : Option Line → ℕ → Result ℕ Refusal → List ℕ → Entry
entry_of None n r after = asked
entry_of (Some (line.Change x)) n r after = changed (console n x) (wrote r (front r after))
entry_of (Some (line.Question q)) n r after = asked

-- the line of a load fault: E, its number and its place
abbrev pub fault_answer : LoadFault → Answer
fault_answer e = Fault (told e).number (told e).place
