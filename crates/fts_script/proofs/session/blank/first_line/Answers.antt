use Rattle.std.proofs.Common.{◌≡◌, ◌+◌, ◌-◌, List, ℕ, [], ◌∷◌, ◌++◌, ◌∙◌, length, take, drop, ap, sym, arith, take-append-drop}
use Rattle.std.proofs.lemmas.List.{length-drop, take_all}
use Rattle.fts_script.specs.session.Text.{lines_of}
use Rattle.fts_script.proofs.LineLemmas.{HasNoEnd-before, HasNoEnd-none, IsWhole-ended, lines_of-append, lines_of-ended, lines_of-unended, take-ended}
use Rattle.fts_script.proofs.session.blank.first_line.Goals as goal

pub returns-in-Some-clause-line : goal.returns-in-Some-clause-line
returns-in-Some-clause-line c =
    let text = c.args.text.now in
    let k = c.in-Some.end in
    let line : List ℕ = take k text in
    let rest : List ℕ = drop (k + 1) text in
    let cut : (line ++ 10 ∷ []) ++ rest ≡ text = ap (λ v. v ++ rest) (sym (take-ended text k c.in-Some.ensures)) ∙ take-append-drop (k + 1) text in
    ap lines_of (sym cut) ∙ lines_of-append (line ++ 10 ∷ []) rest (IsWhole-ended line)
    ∙ ap (λ ls. ls ++ lines_of rest) (lines_of-ended line (HasNoEnd-before text k c.in-Some.ensures))
    ∙ ap (λ v. line ∷ lines_of v) (sym (take_all (length text - (k + 1)) rest (omega (arith, length-drop (k + 1) text))))

pub returns-in-None-clause-line : goal.returns-in-None-clause-line
returns-in-None-clause-line c =
    lines_of-unended c.args.text.now (HasNoEnd-none c.args.text.now c.in-None.ensures) (λ e. omega (arith, ap length e, c.requires.some))
