-- The section that a record makes.
use Rattle.std.specs.Prelude.{◌≡◌, ℕ, ◌*◌}
use Rattle.hours.specs.Quarters.{Quarters}
use Rattle.feeder.specs.declared.section.Section.{Section}
use Rattle.archive.specs.declared.record.Record.{Record}

-- with a repair time of m minutes
abbrev pub section_with : Record → ℕ → Section
section_with r m = record {
  figures = record { parent = r.parent; rate = r.rate; repair = m; customers = r.customers; load = r.load; name = r.name };
  switch = r.switch;
}

-- Its repair time is 15 minutes for each quarter of its hours.
abbrev pub SectionOf : Record → Section → Type 0
SectionOf r x = (q : ℕ) × Quarters r.hours q × (x ≡ section_with r (15 * q))
