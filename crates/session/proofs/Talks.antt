-- A session, line by line. Assumes nothing.
use Rattle.std.proofs.Common.{◌≡◌, ℕ, ◌+◌, ◌<◌, ◌≤◌, List, [], ◌∷◌, ◌++◌, length, take, drop, replicate, Some, None, Ok, Err, Option, Result, sym, refl, ap, ◌∙◌, subst, ap₂, append_assoc, append-nil, arith, length-take, drop-drop}
use Rattle.std.specs.List.{between}
use Rattle.std.specs.Result.{MatchResult, result_unwrap_or}
use Rattle.lines.specs.declared.refusal.Refusal.{Refusal}
use Rattle.std.specs.Option.{option_to_list}
use Rattle.feeder.specs.Feeder.{Feeder}
use Rattle.lines.specs.declared.line.Line.{Line}
use Rattle.lines.specs.Answers.{answer_text}
use Rattle.lines.specs.Lines.{Reads}
use Rattle.stream.specs.Streams.{held, Fed, Feeds, Ended, Delivers, DeliversAll}
use Rattle.console.specs.Laws.{Lined}
use Rattle.console.specs.Replies.{said, moved}
use Rattle.console.proofs.Longest.{too_long}
use Rattle.console.proofs.Steps.{step_moved}
use Rattle.session.specs.declared.session.Session.{Session}
use Rattle.session.specs.Talks.{Input, Talk, Conversation, InputReads, InputTalk, Talked, Talks, Replied, Heard}
use Rattle.session.proofs.Parts.{between_join}

-- one more line
inputs_more : (ds : List Input) (f g : Feeder) (out : List ℕ) (d : Input) (o : Option Line) → InputTalk f ds out g → InputReads d o
    → InputTalk f (ds ++ (d ∷ [])) (out ++ answer_text (said o g)) (moved o g)
inputs_more [] f g out d o t r = (
  o,
  [],
  r,
  ap₂ (λ (xs : List ℕ) (h : Feeder). xs ++ answer_text (said o h)) t.0 t.1 ∙ sym (append-nil (answer_text (said o f))),
  (refl, ap (moved o) t.1),
)
inputs_more (e ∷ ds) f g out d o t r = (
  t.0,
  t.1 ++ answer_text (said o g),
  t.2,
  ap (λ (xs : List ℕ). xs ++ answer_text (said o g)) t.3 ∙ append_assoc (answer_text (said t.0 f)) t.1 (answer_text (said o g)),
  inputs_more ds (moved t.0 f) g t.1 d o t.4 r,
)

pub talked_line : (f g : Feeder) (bs out xs text : List ℕ) (s t : Session) (d : Input) (o : Option Line) → Talked f bs out s g → Feeds s.lines xs (Some d) t.lines
    → InputReads d o → text ≡ answer_text (said o g) → Talked f (bs ++ xs) (out ++ text) t (moved o g)
talked_line f g bs out xs text s t d o k feeds r e = record {
  inputs = k.inputs ++ (d ∷ []);
  fed = feeds bs k.inputs k.fed;
  talk = subst (λ (ys : List ℕ). InputTalk f (k.inputs ++ (d ∷ [])) (out ++ ys) (moved o g)) (sym e) (inputs_more k.inputs f g out d o k.talk r);
}

pub talked_none : (f g : Feeder) (bs out xs : List ℕ) (s t : Session) → Talked f bs out s g → Feeds s.lines xs None t.lines → Talked f (bs ++ xs) out t g
talked_none f g bs out xs s t k feeds = record {
  inputs = k.inputs;
  fed = subst (λ (ds : List Input). Fed (bs ++ xs) ds t.lines) (append-nil k.inputs) (feeds bs k.inputs k.fed);
  talk = k.talk;
}

-- what is handed out tells of the lines
read_of : (l : List ℕ) (d : Input) (o : Option Line) → Delivers l d → InputReads d o → Reads l o
read_of l (Ok t) o h r = subst (λ (xs : List ℕ). Reads xs o) h.1 r
read_of l (Err e) o h r = subst (λ (p : Option Line). Reads l p) (sym r) (too_long l h)

talk_of : (ls : List (List ℕ)) (ds : List Input) (f g : Feeder) (out : List ℕ) → DeliversAll ls ds → InputTalk f ds out g → Talk f ls out g
talk_of [] [] f g out h t = t
talk_of [] (d ∷ ds) f g out h t = absurd h
talk_of (l ∷ ls) [] f g out h t = absurd h
talk_of (l ∷ ls) (d ∷ ds) f g out h t = (t.0, t.1, read_of l d t.0 h.0 t.2, t.3, talk_of ls ds (moved t.0 f) g t.1 h.1 t.4)

ended : (f g : Feeder) (bs out : List ℕ) (ds : List Input) → Ended bs ds → InputTalk f ds out g → Conversation f bs out g
ended f g bs out ds e t = record { lines = e.lines; last = e.last; whole = e.whole; plain = e.plain; plain_last = e.plain_last; talk = talk_of _ ds f g out e.gave t }

pub ended_line : (f g : Feeder) (bs out text : List ℕ) (s : Session) (d : Input) (o : Option Line) → Talked f bs out s g
    → ((bs : List ℕ) (ds : List Input) → Fed bs ds s.lines → Ended bs (ds ++ option_to_list (Some d))) → InputReads d o → text ≡ answer_text (said o g) → Conversation f bs (out ++ text) (moved o g)
ended_line f g bs out text s d o k ends r e =
    ended f (moved o g) bs (out ++ text) (k.inputs ++ (d ∷ [])) (ends bs k.inputs k.fed)
    (subst (λ (ys : List ℕ). InputTalk f (k.inputs ++ (d ∷ [])) (out ++ ys) (moved o g)) (sym e) (inputs_more k.inputs f g out d o k.talk r))

pub ended_none : (f g : Feeder) (bs out : List ℕ) (s : Session) → Talked f bs out s g
    → ((bs : List ℕ) (ds : List Input) → Fed bs ds s.lines → Ended bs (ds ++ [])) → Conversation f bs (out ++ []) g
ended_none f g bs out s k ends =
    subst (λ (ys : List ℕ). Conversation f bs ys g) (sym (append-nil out))
    (ended f g bs out (k.inputs ++ []) (ends bs k.inputs k.fed) (subst (λ (ds : List Input). InputTalk f ds out g) (sym (append-nil k.inputs)) k.talk))

none_read : (xs : List ℕ) (o : Option Line) → Reads xs None → Reads xs o → o ≡ None
none_read xs None h r = refl
none_read xs (Some l) h r = absurd (h l r)

-- what was read of a line as it was handed out, from what holds of every line that it may have been
pub heard : (i : Input) (before : List ℕ) (f : Feeder) (n : ℕ) (after : List ℕ) (g : Feeder) → ((l : List ℕ) → Delivers l i → Lined l before f (Ok n) after g) → Heard i before f n after g
heard (Ok t) before f n after g h =
    let m = t.fits in
    let k = h (held t) (omega (arith, length-take t.count t.bytes, m), refl) in
    record { line = k.line; reads = k.reads; size = k.answer.size; small = k.answer.small; list = k.answer.list; feeder = step_moved k.line f g before after (Ok n) k.answer.room k.step }
heard (Err e) before f n after g h =
    let xs : List ℕ = replicate 65 0 in
    let l : 64 < length xs = omega arith in
    let k = h xs l in
    record { line = k.line; reads = none_read xs k.line (too_long xs l) k.reads; size = k.answer.size; small = k.answer.small; list = k.answer.list; feeder = step_moved k.line f g before after (Ok n) k.answer.room k.step }

-- a call with room for every answer gives the answer's length
pub never_short : (r : Result ℕ Refusal) (room : ℕ) → MatchResult r (λ n. n ≤ room) (λ _. room < 64) → 64 ≤ room → r ≡ Ok (result_unwrap_or r 0)
never_short (Ok n) room h l = refl
never_short (Err e) room h l = absurd (omega (arith, h, l))

talked_same : (f : Feeder) (a a' b b' : List ℕ) (s : Session) (g g' : Feeder) → a ≡ a' → b ≡ b' → g ≡ g' → Talked f a b s g → Talked f a' b' s g'
talked_same f a a' b b' s g g' p q r t =
    subst (λ (xs : List ℕ). Talked f xs b' s g') p (subst (λ (ys : List ℕ). Talked f a ys s g') q (subst (λ (h : Feeder). Talked f a b s h) r t))

module _ (s₀ s t : Session) (f₁ f g : Feeder) (block out : List ℕ) (from at next used : ℕ) (l : from ≤ at) (m : at ≤ next)
    (so_far : Talks s₀ f₁ (between from at block) (take used out) s f) where
  whole : (bs : List ℕ) → (bs ++ between from at block) ++ between at next block ≡ bs ++ between from next block
  whole bs = append_assoc bs (between from at block) (between at next block) ∙ ap (λ (xs : List ℕ). bs ++ xs) (sym (between_join block from at next l m))

  -- a turn that ends a line
  pub turn_line : (d : Input) (n : ℕ) (after : List ℕ) → Replied d out used f n after g → Feeds s.lines (between at next block) (Some d) t.lines
      → Talks s₀ f₁ (between from next block) (take (used + n) after) t g
  turn_line d n after k feeds f₀ bs w told =
      talked_same f₀ _ _ _ _ t _ g (whole bs) (append_assoc w (take used out) (answer_text (said k.line f)) ∙ ap (λ (xs : List ℕ). w ++ xs) (sym k.front)) (sym k.feeder)
      (talked_line f₀ f (bs ++ between from at block) (w ++ take used out) (between at next block) (answer_text (said k.line f)) s t d k.line (so_far f₀ bs w told) feeds k.reads refl)

  -- a turn that ends none
  pub turn_none : Feeds s.lines (between at next block) None t.lines → Talks s₀ f₁ (between from next block) (take used out) t f
  turn_none feeds f₀ bs w told =
      subst (λ (xs : List ℕ). Talked f₀ xs (w ++ take used out) t f) (whole bs)
      (talked_none f₀ f (bs ++ between from at block) (w ++ take used out) (between at next block) s t (so_far f₀ bs w told) feeds)

-- what lies past the answers
pub past_more : (used n : ℕ) (first out after : List ℕ) → drop (used + n) after ≡ drop (used + n) out → drop used out ≡ drop used first → drop (used + n) after ≡ drop (used + n) first
past_more used n first out after e h = e ∙ sym (drop-drop n used out) ∙ ap (drop n) h ∙ drop-drop n used first
