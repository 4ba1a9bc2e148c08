-- The numbers by which refusals are told.
use Rattle.std.specs.Prelude.{ℕ}
use Rattle.lines.specs.declared.refusal.Refusal.{Refusal}
use Rattle.lines.specs.declared.refusal.Refusal.TheVariants.{Line, Range, NoSection, Stands, Clear, Root, Short, NoCustomers, NameCut}

abbrev pub number_of : Refusal → ℕ
number_of Line = 8
number_of Range = 5
number_of NoSection = 20
number_of Stands = 21
number_of Clear = 22
number_of Root = 23
number_of Short = 24
number_of NoCustomers = 25
number_of NameCut = 26
