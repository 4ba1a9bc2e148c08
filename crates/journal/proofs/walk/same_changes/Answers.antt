-- The lists agree where both tests pass, and differ at the section where one fails.
use Rattle.journal.proofs.Whole.{whole, settled, not_same}
use Rattle.journal.proofs.walk.same_changes.Goals as goal

pub returns-then-agree_on-clause-yes : goal.returns-then-agree_on-clause-yes
returns-then-agree_on-clause-yes c h = whole _ _ (c.agree_on.ensures.all c.if-agree_on.true) (c.agree_on-then-agree_on.ensures.all h)

pub returns-then-agree_on-clause-no : goal.returns-then-agree_on-clause-no
returns-then-agree_on-clause-no c h = let t = c.agree_on-then-agree_on.ensures.some h in not_same t.0 _ _ t.1

pub returns-then-agree_on-clause-settles : goal.returns-then-agree_on-clause-settles
returns-then-agree_on-clause-settles c h = settled _ _ (whole _ _ (c.agree_on.ensures.all c.if-agree_on.true) (c.agree_on-then-agree_on.ensures.all h))

pub returns-else-agree_on-clause-no : goal.returns-else-agree_on-clause-no
returns-else-agree_on-clause-no c h = let t = c.agree_on.ensures.some h in not_same t.0 _ _ t.1
