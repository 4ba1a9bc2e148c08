use Rattle.std.proofs.Common.{◌≡◌, ℕ, ◌+◌, ◌-◌, ◌<◌, ◌≤◌, leb, length, get_or, take, drop, Ok, Err, sym, ap, ◌∙◌, subst, arith}
use Rattle.std.proofs.lemmas.Result.{err_from_is_err_and}
use Rattle.feeder.specs.declared.section.Figures.{Figures}
use Rattle.feeder.specs.Feeder.{blank, size}
use Rattle.lines.specs.declared.refusal.Refusal.TheVariants.{NoSection, NameCut}
use Rattle.engine.specs.Questions.{name_of}
use Rattle.engine.specs.Studies.{feeder_of}
use Rattle.engine.proofs.Asked.{alike_by, turned_down}
use Rattle.engine.proofs.Names.{name_is, name_cut, name_whole}
use Rattle.engine.proofs.Replies.{sooner}
use Rattle.engine.proofs.study.Study.name.Goals as goal
use Rattle.engine.proofs.study.Study.name.Goals.{then-name-archive-via-then-name-archive, then-name-archive-via-else-name-archive+then-archive-name}

pub returns-in_err-at : goal.returns-in_err-at
returns-in_err-at c =
    let s = c.args.self.now in
    let p = err_from_is_err_and c.from_residual.result c.from_residual.ensures.1 in
    let told : name_of c.args.archive.now c.args.k (feeder_of s) ≡ Err c.in_err-at.field-0.0 = turned_down _ _ _ (sooner (leb (size (feeder_of s)) c.args.k) NoSection _ _ c.in_err-at.ensures) in
    rw (p.1, p.2) (record { answer = told; alike = alike_by (name_of c.args.archive.now c.args.k) (feeder_of s) _ (sym told) })

pub returns-then-name-archive : goal.returns-then-name-archive
returns-then-name-archive c =
    let s = c.args.self.now in
    let archive = c.args.archive.now in
    let i = c.in_ok-at.ensures in
    let k = c.args.k in
    let d : Figures = (get_or s.lent.list.now k blank).figures in
    let same : (get_or s.lent.list.now c.in_ok-at.at blank).figures ≡ d = ap (λ (a : ℕ). (get_or s.lent.list.now a blank).figures) i.0 in
    let past : length archive < d.name.at + d.name.len = subst (λ (d : Figures). length archive < d.name.at + d.name.len) same (elim c.then-name-archive.branch [
      | then-name-archive-via-then-name-archive w ↦ omega (arith, w.if-name-archive.true)
      | then-name-archive-via-else-name-archive+then-archive-name w ↦ omega (arith, w.if-name-archive.false, w.if-archive-name.true)
    ]) in
    let told : name_of archive k (feeder_of s) ≡ Err NameCut = name_is s archive k i.1 ∙ name_cut archive d past in
    record { answer = told; alike = alike_by (name_of archive k) (feeder_of s) _ (sym told) }

pub returns : goal.returns
returns c =
    let s = c.args.self.now in
    let archive = c.args.archive.now in
    let i = c.in_ok-at.ensures in
    let k = c.args.k in
    let d : Figures = (get_or s.lent.list.now c.in_ok-at.at blank).figures in
    let within : d.name.at + d.name.len ≤ length archive = omega (arith, c.if-name-archive.false, c.if-archive-name.false) in
    let told = ap (λ (a : ℕ). name_of archive a (feeder_of s)) (sym i.0) ∙ name_is s archive c.in_ok-at.at (omega (arith, i.0, i.1)) ∙ name_whole archive d within
    ∙ ap (λ (n : ℕ). Ok (take ((d.name.at + n) - d.name.at) (drop d.name.at archive))) (sym c.from-len.ensures) in
    record { answer = told; alike = alike_by (name_of archive k) (feeder_of s) _ (sym told) }
