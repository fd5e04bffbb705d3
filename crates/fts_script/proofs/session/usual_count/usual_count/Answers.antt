use Rattle.std.proofs.Common.{◌≡◌, ◌∙◌, ℕ, List, ◌++◌, ◌-◌, length, take, drop, true, Ok, None, sym, ap, subst, take-append-drop}
use Rattle.std.specs.Cmp.Lexicographic.{pointwise, bytes_decides}
use Rattle.std.specs.Prelude.{nat_eq}
use Rattle.fts_script.specs.command.Commands.{command, Find}
use Rattle.fts_script.proofs.CountLemmas.{before, after, counts}
use Rattle.fts_script.proofs.session.usual_count.usual_count.Goals as goal

-- what begins with a text is that text and what comes after it
begins : (text front rest : List ℕ) → pointwise nat_eq (take (length front) text) front ≡ true → rest ≡ drop (length front) text → text ≡ front ++ rest
begins text front rest h e =
    sym (take-append-drop (length front) text) ∙ ap (λ part. part ++ drop (length front) text) ((bytes_decides _ front).0 h) ∙ ap (λ part. front ++ part) (sym e)

-- what ends with a text is what comes before it and that text
ends : (text end rest : List ℕ) → pointwise nat_eq (drop (length text - length end) text) end ≡ true →
    rest ≡ take (length text - length end) text → text ≡ rest ++ end
ends text end rest h e =
    let n = length text - length end in
    sym (take-append-drop n text) ∙ ap (λ part. take n text ++ part) ((bytes_decides _ end).0 h) ∙ ap (λ part. part ++ end) (sym e)

pub returns-in-Ok : goal.returns-in-Ok
returns-in-Ok c =
    let first = c.in_ok-strip_prefix.ensures.cases in
    let last = c.in_ok-query.ensures.cases in
    let read = c.in-Ok.ensures.cases in
    let query = c.in_ok-query.query.now in
    let line : c.args.line.now ≡ before ++ (query ++ after) =
    begins c.args.line.now before c.in_ok-strip_prefix.field-0.now first.0 first.1
    ∙ ap (λ part. before ++ part) (ends c.in_ok-strip_prefix.field-0.now after query last.0 last.1) in
    subst (λ text. command c.args.line.now ≡ Ok (Find (record { query = text; groups = None; top = None }))) (sym read.0)
    (counts c.args.line.now query c.requires.fits_line line (sym c.if-not-are_plain.ensures) read.1)
