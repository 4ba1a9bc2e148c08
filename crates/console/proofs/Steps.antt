-- A console line as a step of a log, and that its answer is one. Assumes nothing.
use Rattle.std.proofs.Common.{◌≡◌, ℕ, ◌<◌, ◌≤◌, Bool, true, false, cond, ltb, List, [], ◌++◌, length, take, drop, set, Some, None, Ok, Err, Option, Result, sym, refl, ap, ◌∙◌, subst, ap₂, arith, take_at, le-ltb, lt-ltb, MatchResult}
use Rattle.feeder.specs.Feeder.{Feeder, size, at}
use Rattle.sweeps.specs.Lists.{feeder}
use Rattle.lines.specs.declared.refusal.Refusal.{Refusal}
use Rattle.lines.specs.declared.refusal.Refusal.TheVariants.{Short}
use Rattle.lines.specs.declared.change.Change.{Change}
use Rattle.lines.specs.declared.line.Line.{Line}
use Rattle.lines.specs.declared.line.Line.TheVariants as line
use Rattle.lines.specs.declared.answer.Answer.{Answer}
use Rattle.lines.specs.declared.answer.Answer.TheVariants.{Refused}
use Rattle.lines.specs.Answers.{Answered, answer_text}
use Rattle.lines.specs.Lines.{Reads}
use Rattle.lines.proofs.Forms.{one_text}
use Rattle.engine.specs.declared.journal.Call.TheVariants.{Console}
use Rattle.engine.specs.Changes.{judged, direct, console, wrote, told, unless, touched, named, first, against, lined, after}
use Rattle.engine.specs.Logs.{Step}
use Rattle.console.specs.Laws.{LineAnswer}
use Rattle.console.specs.Replies.{said, moved, entry_of, front, done}

-- a change made or not, by how it was judged
abbrev made : Feeder → Change → Option Refusal → Feeder
made f x o = feeder (unless o (set f.sections (named x) (touched x (at f (named x)))) f.sections) f.switching

-- with an output list under 64 bytes nothing is put to the study
pub short_step : (o : Option Line) (n : ℕ) (f : Feeder) (out : List ℕ) → n < 64 → Step f (entry_of o n (Err Short) out) f
short_step None n f out l = refl
short_step (Some (line.Question q)) n f out l = refl
short_step (Some (line.Change x)) n f out l =
    let b : ltb n 64 ≡ true = lt-ltb _ _ l in
    let o : judged f (console n x) ≡ Some Short = ap (λ (b : Bool). first b Short (against (size f) (at f (named x)) x)) b in
    let text = answer_text (Refused Short) in (
      sym (ap (told (Console n)) o ∙ ap (λ (b : Bool). cond b (wrote (Err Short) []) (wrote (Ok (length text)) text)) b),
      sym (ap (made f x) o),
    )

-- a line told on a console with room
pub told_done : (n : ℕ) (o : Option Refusal) → told (Console n) o ≡ lined n (answer_text (done o))
told_done n None = refl
told_done n (Some e) = refl

-- what was written is the whole answer
pub wrote_all : (a : Answer) (before after : List ℕ) (r : Result ℕ Refusal) → 64 ≤ length before → Answered a before r after
    → wrote r (front r after) ≡ wrote (Ok (length (answer_text a))) (answer_text a)
wrote_all a before after (Ok n) l h =
    let t : take n after ≡ answer_text a = ap (take n) h.list ∙ take_at (answer_text a) _ n (sym h.size) in
    ap₂ (λ (k : ℕ) (xs : List ℕ). wrote (Ok k) xs) h.size t
wrote_all a before after (Err e) l h = let u = h.under in absurd (omega (arith, u, l))

pub long_step : (o : Option Line) (f g : Feeder) (before after : List ℕ) (r : Result ℕ Refusal) → 64 ≤ length before → Answered (said o f) before r after → g ≡ moved o f
    → Step f (entry_of o (length before) r after) g
long_step None f g before after r l h e = e
long_step (Some (line.Question q)) f g before after r l h e = e
long_step (Some (line.Change x)) f g before after r l h e =
    let n = length before in
    let b : ltb n 64 ≡ false = le-ltb _ _ l in
    let o : judged f (console n x) ≡ judged f (direct x) = ap (λ (b : Bool). first b Short (against (size f) (at f (named x)) x)) b in
    let text = answer_text (done (judged f (direct x))) in (
      wrote_all (done (judged f (direct x))) before after r l h
          ∙ sym (ap (told (Console n)) o ∙ told_done n (judged f (direct x)) ∙ ap (λ (b : Bool). cond b (wrote (Err Short) []) (wrote (Ok (length text)) text)) b),
      e ∙ sym (ap (made f x) o),
    )

-- an answer is written in one way
answered_one : (a : Answer) (before : List ℕ) (r r' : Result ℕ Refusal) (after after' : List ℕ) → Answered a before r after → Answered a before r' after' → ◌≡◌ {A = Result ℕ Refusal × List ℕ} (r', after') (r, after)
answered_one a before (Ok n) (Ok m) after after' h k =
    let e : m ≡ n = k.size ∙ sym h.size in
    ap₂ (λ (i : ℕ) (xs : List ℕ). (Ok i, xs)) e (k.list ∙ ap (λ (i : ℕ). answer_text a ++ drop i before) e ∙ sym h.list)
answered_one a before (Ok n) (Err e) after after' h k = let u = k.under in let v = h.room in absurd (omega (arith, u, v))
answered_one a before (Err e) (Ok n) after after' h k = let u = h.under in let v = k.room in absurd (omega (arith, u, v))
answered_one a before (Err e) (Err d) after after' h k =
    ap₂ (λ (i : Refusal) (xs : List ℕ). (Err i, xs)) (k.short ∙ sym h.short) (k.kept ∙ sym h.kept)

-- a text is read in one way
pub reads_one : (text : List ℕ) (o o' : Option Line) → Reads text o → Reads text o' → o' ≡ o
reads_one text o (Some k) h k' = sym (one_text text o h k k')
reads_one text None None h k = refl
reads_one text (Some l) None h k = absurd (k l h)

pub line_one : (text before : List ℕ) (h : Feeder) (a a' : Result ℕ Refusal × List ℕ) → LineAnswer text before h a → LineAnswer text before h a' → a' ≡ a
line_one text before h a a' p q =
    let e : q.0 ≡ p.0 = reads_one text p.0 q.0 p.1 q.1 in
    answered_one (said p.0 h) before a.0 a'.0 a.1 a'.1 p.2 (subst (λ (x : Option Line). Answered (said x h) before a'.0 a'.1) e q.2)

-- the answer's bytes are within the output list
pub answer_fits : (a : Answer) (before : List ℕ) (r : Result ℕ Refusal) (after : List ℕ) → Answered a before r after → MatchResult r (λ n. n ≤ length before) (λ _. length before < 64)
answer_fits a before (Ok n) after h = let s = h.small in let m = h.room in omega (arith, s, m)
answer_fits a before (Err e) after h = h.under

-- the feeder after a line whose answer could be written
pub step_moved : (o : Option Line) (f g : Feeder) (before after : List ℕ) (r : Result ℕ Refusal) → 64 ≤ length before → Step f (entry_of o (length before) r after) g → g ≡ moved o f
step_moved None f g before after r l h = h
step_moved (Some (line.Question q)) f g before after r l h = h
step_moved (Some (line.Change x)) f g before after r l h = h.1 ∙ ap (made f x) (ap (λ (b : Bool). first b Short (against (size f) (at f (named x)) x)) (le-ltb _ _ l))
