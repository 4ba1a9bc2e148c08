-- One more entry of a log. Assumes nothing.
use Rattle.std.proofs.Common.{◌≡◌, List, [], ◌∷◌, ◌++◌, refl, ap, subst}
use Rattle.feeder.specs.Feeder.{Feeder}
use Rattle.engine.specs.declared.journal.Put.{Put}
use Rattle.engine.specs.Changes.{Answer}
use Rattle.engine.specs.Logs.{Entry, changed, asked, Step, Run, Extends, changes}

run_more : (es : List Entry) (e : Entry) (f g h : Feeder) → Run f es g → Step g e h → Run f (es ++ (e ∷ [])) h
run_more [] e f g h r s = (h, subst (λ (x : Feeder). Step x e h) r s, refl)
run_more (d ∷ es) e f g h r s = (r.0, r.1, run_more es e r.0 g h r.2 s)

pub extends : (e : Entry) (g h : Feeder) → Step g e h → Extends g e h
extends e g h s archive es l = (l.0, l.1, l.2, run_more es e l.1 g h l.3 s)

pub changes_more : (es : List Entry) (p : Put) (a : Answer) → changes (es ++ (changed p a ∷ [])) ≡ changes es ++ (p ∷ [])
changes_more [] p a = refl
changes_more (changed q b ∷ es) p a = ap (λ (l : List Put). q ∷ l) (changes_more es p a)
changes_more (asked ∷ es) p a = changes_more es p a
