use Rattle.std.proofs.Common.{ℕ, List, arith}
use Rattle.stream.specs.Streams.{Delivers}
use Rattle.stream.proofs.Feeds.{ended_with, last_none, last_some, one_parting}
use Rattle.stream.proofs.lines.Lines.finish.Goals as goal

pub returns-in-Ok : goal.returns-in-Ok
returns-in-Ok c =
    let last = λ (part : List ℕ) (h : Delivers part c.args.self.now.line). last_none part (grind arith) in
    record { ended = λ bs ds f. ended_with bs ds _ _ last f; one = λ bs ds f. one_parting bs _ (ended_with bs ds _ _ last f) }

pub returns-in_default : goal.returns-in_default
returns-in_default c =
    let last = λ (part : List ℕ) (h : Delivers part c.args.self.now.line). last_some part _ (grind arith) h in
    record { ended = λ bs ds f. ended_with bs ds _ _ last f; one = λ bs ds f. one_parting bs _ (ended_with bs ds _ _ last f) }
