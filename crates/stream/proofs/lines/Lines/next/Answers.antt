use Rattle.std.proofs.Common.{◌≡◌, ℕ, ◌+◌, ◌-◌, List, [], ◌∷◌, ◌++◌, take, drop, sym, ap, ◌∙◌, subst, arith}
use Rattle.std.specs.List.{between}
use Rattle.std.proofs.lemmas.List.{append_assoc, append-nil, take_more, take_rest}
use Rattle.stream.specs.Streams.{Fed}
use Rattle.stream.proofs.Feeds.{fed_line, fed_more}
use Rattle.stream.proofs.lines.Lines.next.Goals as goal

pub returns-in-None-clause-fed : goal.returns-in-None-clause-fed
returns-in-None-clause-fed c = λ bs ds f.
    subst (λ (xs : List ℕ). Fed (bs ++ xs) (ds ++ []) c.take.new.self) c.in-Some.ensures.lookup.0.2
    (rw (append-nil ds) (fed_more bs ds _ _ _ f c.in-None.ensures c.take.ensures))

pub returns-in-Some-first_feed-clause-fed : goal.returns-in-Some-first_feed-clause-fed
returns-in-Some-first_feed-clause-fed c = λ bs ds f.
    let from = c.args.from in
    let bytes = c.args.bytes.now in
    let rest = c.in-Some.rest.now in
    let i = c.in-Some-first_feed.i in
    let at = c.in-Some-first_feed.ensures in
    let tail : rest ≡ drop from bytes = c.in-Some.ensures.lookup.0.2 ∙ take_rest bytes from in
    let n : i + 1 ≡ (from + i + 1) - from = omega arith in
    let fed : take i rest ++ (10 ∷ []) ≡ between from (from + i + 1) bytes =
    ap (λ (b : ℕ). take i rest ++ (b ∷ [])) (sym at.2) ∙ sym (take_more rest i 0 at.0) ∙ ap (take (i + 1)) tail ∙ ap (λ (n : ℕ). take n (drop from bytes)) n in
    let ended = c.end_with in
    subst (λ (xs : List ℕ). Fed (bs ++ xs) (ds ++ ended.result ∷ []) ended.new.self) fed
    (subst (λ (xs : List ℕ). Fed xs (ds ++ ended.result ∷ []) ended.new.self) (append_assoc bs (take i rest) (10 ∷ []))
    (fed_line bs ds _ _ _ _ f at.1 ended.ensures.given ended.ensures.empty))
