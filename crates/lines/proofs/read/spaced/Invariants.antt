use Rattle.std.proofs.Common.{◌≡◌, ℕ, List, ◌++◌, length, take, drop}
use Rattle.lines.specs.Lines.{fields, Small, Lists}
use Rattle.lines.proofs.read.spaced.Given as goal

abbrev pub invariant-loop-n : goal.invariant-loop-n
invariant-loop-n g l = (length l.n-items ≡ g.row.N) × Small (take l.n-index l.n-items) × (l.text ≡ fields (take l.n-index l.n-items) ++ l.left)
    × ((ns : List ℕ) → Lists g.row.N l.text ns → l.left ≡ fields (drop l.n-index ns))
