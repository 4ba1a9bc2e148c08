-- A whole session is a log, so the order of changes at different sections does not matter. Assumes nothing.
use Rattle.std.proofs.Common.{ℕ, List, [], ◌∷◌, ◌++◌, length, Some, None, Ok, Option, sym, refl, ap, ◌∙◌, ap₂, arith}
use Rattle.std.proofs.lemmas.List.{take_all}
use Rattle.feeder.specs.Feeder.{Feeder}
use Rattle.lines.specs.declared.line.Line.{Line}
use Rattle.lines.specs.declared.line.Line.TheVariants as line
use Rattle.lines.specs.Answers.{answer_text}
use Rattle.stream.specs.Streams.{last_line}
use Rattle.engine.specs.Changes.{judged, direct, wrote}
use Rattle.engine.specs.Logs.{Step, Run}
use Rattle.engine.proofs.Apart.{order_apart}
use Rattle.console.specs.Replies.{said, moved, done}
use Rattle.console.proofs.Steps.{told_done, reads_one}
use Rattle.session.specs.Talks.{Talk}
use Rattle.session.specs.Sites.{line_entry, entries, SitesAgree}

step_of : (o : Option Line) (f : Feeder) → Step f (line_entry o f) (moved o f)
step_of None f = refl
step_of (Some (line.Question q)) f = refl
step_of (Some (line.Change x)) f =
    let text = answer_text (done (judged f (direct x))) in
    (ap (λ (xs : List ℕ). wrote (Ok (length text)) xs) (take_all (length text) text (omega arith)) ∙ sym (told_done 64 (judged f (direct x))), refl)

run_of : (ls : List (List ℕ)) (f : Feeder) (out : List ℕ) (g : Feeder) (t : Talk f ls out g) → Run f (entries f ls out g t) g
run_of [] f out g t = t.1
run_of (l ∷ ls) f out g t = (moved t.0 f, step_of t.0 f, run_of ls (moved t.0 f) t.1 g t.4)

pub sites_agree : (archive : List ℕ) → SitesAgree archive
sites_agree archive = record {
  logs = λ room f g bs out k c. (room, f, k, run_of (c.lines ++ last_line c.last) f out g c.talk);
  order = λ room room' f f' g g' bs out cs out' k k' a b same.
      let both = order_apart archive _ _ g g' (room, f, k, run_of (a.lines ++ last_line a.last) f out g a.talk) (room', f', k', run_of (b.lines ++ last_line b.last) f' out' g' b.talk) same in
      record {
        agree = both;
        next = λ l o o' r r'. ap₂ (λ (x : Option Line) (h : Feeder). answer_text (said x h)) (reads_one l o' o r' r) both.0;
      };
}
