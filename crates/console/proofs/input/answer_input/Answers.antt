use Rattle.std.proofs.Common.{◌≡◌, ℕ, List, None, Result, refl, ◌∙◌, subst}
use Rattle.feeder.specs.Feeder.{Feeder}
use Rattle.lines.specs.Lines.{Reads}
use Rattle.stream.specs.declared.text.Text.{Text}
use Rattle.stream.specs.declared.text.TooLong.{TooLong}
use Rattle.stream.specs.Streams.{Delivers}
use Rattle.engine.proofs.Asked.{alike}
use Rattle.engine.proofs.Logged.{extends}
use Rattle.engine.specs.Laws.{Alike}
use Rattle.engine.specs.Studies.{feeder_of}
use Rattle.console.specs.Laws.{Lined, LineAnswer}
use Rattle.console.proofs.Longest.{too_long}
use Rattle.console.proofs.Steps.{line_one, answer_fits}
use Rattle.console.proofs.input.answer_input.Goals as goal

pub returns-in-Ok : goal.returns-in-Ok
returns-in-Ok c =
    let f : Feeder = feeder_of c.args.study.now in
    let g : Feeder = feeder_of c.answer_line.new.study in
    let before = c.args.out.now in
    let after = c.answer_line.new.out in
    let r = c.answer_line.result in
    let said = c.answer_line.ensures in
    let is : (line : List ℕ) → Delivers line c.args.input.now → c.as_slice.result.now ≡ line = λ line d.
    let d' = subst (λ (i : Result Text TooLong). Delivers line i) c.in-Ok.is d in c.as_slice.ensures ∙ d'.1 in
    record {
      lined = λ line d. subst (λ (x : List ℕ). Lined x before f r after g) (is line d) said.lined;
      alike = λ line d. subst (λ (x : List ℕ). Alike (LineAnswer x before) f (r, after)) (is line d) said.alike;
      rest = said.rest;
      fits = answer_fits _ before r after said.lined.answer;
    }

pub returns-in-Err : goal.returns-in-Err
returns-in-Err c =
    let f : Feeder = feeder_of c.args.study.now in
    let before = c.args.out.now in
    let after = c.write_answer.new.out in
    let r = c.write_answer.result in
    let written = c.write_answer.ensures in
    let none : (line : List ℕ) → Delivers line c.args.input.now → Reads line None = λ line d.
    let d' = subst (λ (i : Result Text TooLong). Delivers line i) c.in-Err.is d in too_long line d' in
    record {
      lined = λ line d. record { line = None; reads = none line d; answer = written; step = refl; logged = extends _ f f refl };
      alike = λ line d. alike (LineAnswer line before) (line_one line before) f (r, after) (None, none line d, written);
      rest = refl;
      fits = answer_fits _ before r after written;
    }
