use Rattle.std.proofs.Common.{rules, ◌≡◌, ℕ, List, ap, ◌∙◌, ◌+◌, ◌<◌, ◌-◌, Bool, true, length, slice_index, refl, inr, sym, subst, arith}
use Rattle.archive.specs.declared.record.RecordFault.TheVariants.{Name}
use Rattle.archive.specs.Layout.{named, Printable}
use Rattle.archive.specs.Reading.{bytes_from}
use Rattle.archive.specs.Records.{Text, NameRead, NameRefused}
use Rattle.archive.proofs.Digits.{byte, first, text_of}
use Rattle.archive.proofs.fields.Mapped.name.Goals as goal

pub returns-in-Some : goal.returns-in-Some
returns-in-Some c =
    let s = c.args.self.now.bytes.now in
    let p = c.args.at + 1 in
    let w = (p + c.from-size.result) - p in
    let i = c.in-Some.i in
    let f = c.in-Some.ensures in
    let l : i < w = omega (arith, f.0) in
    let b : Printable (slice_index s (p + i)) → ⊥ = subst (λ (x : ℕ). Printable x → ⊥) (byte s p w i l) f.2 in
    let e : slice_index c.in_ok-len.field-0.now 0 ≡ slice_index s c.args.at = ap (λ (f : List ℕ). slice_index f 0) c.in_ok-len.ensures.1 ∙ first s c.args.at 1 (omega arith) in
    let n : named c.args.self.now.map ≡ true = search rules in
    subst (λ (b : Bool). NameRefused s b c.args.at (Name (p + i))) (sym n)
    (inr (inr (inr (i, omega arith, omega arith, omega arith, omega arith, text_of s p w i (omega arith) f.1, b, refl))))

pub returns-in-None : goal.returns-in-None
returns-in-None c =
    let s = c.args.self.now.bytes.now in
    let p = c.args.at + 1 in
    let w = (p + c.from-size.result) - p in
    let l : length (bytes_from s p w) ≡ w = omega arith in
    let t = text_of s p w w (omega arith) (subst (λ (n : ℕ). Text (bytes_from s p w) 0 n) l c.in-None.ensures) in
    let v = slice_index c.in_ok-len.field-0.now 0 in
    let e : v ≡ slice_index s c.args.at = ap (λ (f : List ℕ). slice_index f 0) c.in_ok-len.ensures.1 ∙ first s c.args.at 1 (omega arith) in
    let k : w ≡ v = omega arith in
    let n : named c.args.self.now.map ≡ true = search rules in
    subst (λ (b : Bool). NameRead s b c.args.at p v (p + c.from-size.result)) (sym n)
    (e, omega arith, omega arith, omega arith, subst (λ (n : ℕ). Text s p n) k t, refl, omega arith)
