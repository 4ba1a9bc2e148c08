use Rattle.std.proofs.Common.{◌≡◌, ◌∷◌, Some, sym, ◌∙◌, arith}
use Rattle.lines.specs.declared.change.Change.TheVariants.{Set}
use Rattle.lines.specs.declared.line.Line.TheVariants as line
use Rattle.lines.specs.Lines.{Reads}
use Rattle.lines.proofs.Fields.{cases_both, fields_same}
use Rattle.lines.proofs.Forms.{parts, says, as_one, as_five, one_text}
use Rattle.lines.proofs.read.read_line.Goals as goal

pub returns-in_ok-section-in-83 : goal.returns-in_ok-section-in-83
returns-in_ok-section-in-83 c =
    let h = c.in_ok-section-in-83.ensures in
    let e : c.args.text.now ≡ c.in_ok-letter.field-0-0.now ∷ c.in_ok-letter.rest.now = grind arith in
    let s = says _ _ _ _ (line.Change (Set _ _ _ _ _)) e h.1 h.2 (as_five _ h.0) (sym c.in-83.is) in
    record { reads = s; one = one_text _ (Some _) s }

pub returns-in_ok-number-in_default : goal.returns-in_ok-number-in_default
returns-in_ok-number-in_default c =
    let h = c.in_ok-number-in_default.ensures in
    let e : c.args.text.now ≡ c.in_ok-letter.field-0-0.now ∷ c.in_ok-letter.rest.now = grind arith in
    let o = as_one _ h.0 in
    let r : Reads c.args.text.now c.line_of.result = cases_both c.line_of.result c.line_of.ensures
    (λ none l s. let p = parts _ _ _ l e s in none l (fields_same _ _ s.0 h.1 (sym p.1 ∙ h.2) ∙ o) p.0)
    (λ l s. says _ _ _ _ l e h.1 h.2 (s.0 ∙ sym o) s.1) in
    record { reads = r; one = one_text _ _ r }
