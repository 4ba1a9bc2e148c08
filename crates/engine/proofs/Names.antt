-- The name question, by the section that the study's list holds. Assumes nothing.
use Rattle.std.proofs.Common.{◌≡◌, ℕ, ◌+◌, ◌-◌, ◌<◌, ◌≤◌, Bool, ltb, List, length, get_or, take, drop, None, Ok, Err, Option, Result, ap, ◌∙◌, arith, get_or-take, le-ltb, lt-ltb}
use Rattle.feeder.specs.declared.section.Figures.{Figures}
use Rattle.feeder.specs.declared.section.Section.{Section}
use Rattle.feeder.specs.Feeder.{blank, figures}
use Rattle.lines.specs.declared.refusal.Refusal.{Refusal}
use Rattle.lines.specs.declared.refusal.Refusal.TheVariants.{NameCut}
use Rattle.engine.specs.declared.study.Study.{Study}
use Rattle.engine.specs.Changes.{first}
use Rattle.engine.specs.Questions.{or_refused, name_of}
use Rattle.engine.specs.Studies.{feeder_of, lent_to}
use Rattle.engine.proofs.Replies.{before_end}

-- the name that a section's figures tell of, in an archive
abbrev pub name_in : List ℕ → Figures → Result (List ℕ) Refusal
name_in archive d = or_refused (first (ltb (length archive) (d.name.at + d.name.len)) NameCut None) (take d.name.len (drop d.name.at archive))

pub name_is : (s : Study) (archive : List ℕ) (k : ℕ) → k < s.count → name_of archive k (feeder_of s) ≡ name_in archive (get_or (lent_to s) k blank).figures
name_is s archive k l =
    let d : Figures = figures (feeder_of s) k in
    ap (λ (o : Option Refusal). or_refused o (take d.name.len (drop d.name.at archive))) (before_end s k (first (ltb (length archive) (d.name.at + d.name.len)) NameCut None) l)
    ∙ ap (λ (c : Section). name_in archive c.figures) (get_or-take s.count (lent_to s) k blank l)

pub name_cut : (archive : List ℕ) (d : Figures) → length archive < d.name.at + d.name.len → name_in archive d ≡ Err NameCut
name_cut archive d l = ap (λ (b : Bool). or_refused (first b NameCut None) (take d.name.len (drop d.name.at archive))) (lt-ltb _ _ l)

pub name_whole : (archive : List ℕ) (d : Figures) → d.name.at + d.name.len ≤ length archive
    → name_in archive d ≡ Ok (take ((d.name.at + d.name.len) - d.name.at) (drop d.name.at archive))
name_whole archive d l =
    let e : d.name.len ≡ (d.name.at + d.name.len) - d.name.at = omega arith in
    ap (λ (b : Bool). or_refused (first b NameCut None) (take d.name.len (drop d.name.at archive))) (le-ltb _ _ l)
    ∙ ap (λ (n : ℕ). Ok (take n (drop d.name.at archive))) e
