-- Two recorded lists of changes compared. Assumes nothing.
use Rattle.std.specs.Prelude.{◌≡◌, ℕ, ◌<◌, ◌≤◌, Bool, true, false, ◌&&◌, List, [], ◌∷◌, length, drop, ◌==◌, slice_index_or}
use Rattle.feeder.specs.Feeder.{Feeder}
use Rattle.lines.specs.declared.change.Change.{Change}
use Rattle.lines.specs.declared.change.Change.TheVariants.{Fit, Unfit, Set}
use Rattle.engine.specs.declared.journal.Call.{Call}
use Rattle.engine.specs.declared.journal.Call.TheVariants.{Direct, Console}
use Rattle.engine.specs.declared.journal.Put.{Put}
use Rattle.engine.specs.Changes.{named, direct}
use Rattle.engine.specs.Logs.{Entry, Log, changes, naming, Agree}

-- tests of equality
abbrev pub call_eqb : Call → Call → Bool
call_eqb Direct Direct = true
call_eqb Direct (Console n) = false
call_eqb (Console m) Direct = false
call_eqb (Console m) (Console n) = m == n

abbrev pub change_eqb : Change → Change → Bool
change_eqb (Fit j) (Fit k) = j == k
change_eqb (Fit j) (Unfit k) = false
change_eqb (Fit j) (Set k a b c d) = false
change_eqb (Unfit j) (Fit k) = false
change_eqb (Unfit j) (Unfit k) = j == k
change_eqb (Unfit j) (Set k a b c d) = false
change_eqb (Set j r q u l) (Fit k) = false
change_eqb (Set j r q u l) (Unfit k) = false
change_eqb (Set j r q u l) (Set k a b c d) = j == k && (r == a && (q == b && (u == c && l == d)))

abbrev pub put_eqb : Put → Put → Bool
put_eqb p q = call_eqb p.call q.call && change_eqb p.change q.change

abbrev pub listb : List Put → List Put → Bool
listb [] [] = true
listb [] (q ∷ qs) = false
listb (p ∷ ps) [] = false
listb (p ∷ ps) (q ∷ qs) = put_eqb p q && listb ps qs

-- what a list has past its end
abbrev pub no_put : Put
no_put = direct (Fit 0)

-- r is the first place from i on whose change names k, or the end
pub record Next (k : ℕ) (ps : List Put) (i r : ℕ) : Type 0 where
  pub from : i ≤ r
  pub to : r ≤ length ps
  pub rest : naming k (drop i ps) ≡ naming k (drop r ps)
  pub here : r < length ps → named (slice_index_or ps r no_put).change ≡ k

-- the lists ps and qs agree at each section that ks names, or they do not at some section
pub record Covers (ks ps qs : List Put) (r : Bool) : Type 0 where
  pub all : r ≡ true → (m : ℕ) → m < length ks → listb (naming (named (slice_index_or ks m no_put).change) ps) (naming (named (slice_index_or ks m no_put).change) qs) ≡ true
  pub some : r ≡ false → (k : ℕ) × (listb (naming k ps) (naming k qs) ≡ false)

-- any two logs from one archive with these changes, whatever lies between, give the same answers to them and end on one feeder
abbrev pub Settles : List Put → List Put → Type 0
Settles ps qs =
    (archive : List ℕ) (es fs : List Entry) (f g : Feeder) → Log archive es f → Log archive fs g
    → changes es ≡ ps → changes fs ≡ qs → Agree es f fs g
