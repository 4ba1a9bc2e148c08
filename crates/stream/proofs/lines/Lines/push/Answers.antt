use Rattle.std.proofs.Common.{List, ℕ, [], sym, subst}
use Rattle.std.proofs.lemmas.List.{append-nil}
use Rattle.stream.specs.Streams.{Delivers}
use Rattle.stream.proofs.Feeds.{fed_line, fed_more}
use Rattle.stream.proofs.lines.Lines.push.Goals as goal

pub returns-then-byte-eq-FEED : goal.returns-then-byte-eq-FEED
returns-then-byte-eq-FEED c = λ bs ds f.
    rw (c.if-byte-eq-FEED.true, sym (append-nil bs))
    (fed_line bs ds _ _ [] _ f tt (λ part h. subst (λ (l : List ℕ). Delivers l c.end_line.result) (sym (append-nil part)) (c.end_line.ensures.given part h)) c.end_line.ensures.empty)

pub returns-else-byte-eq-FEED : goal.returns-else-byte-eq-FEED
returns-else-byte-eq-FEED c = λ bs ds f. rw (append-nil ds) (fed_more bs ds _ _ _ f (c.if-byte-eq-FEED.false, tt) c.take.ensures)
