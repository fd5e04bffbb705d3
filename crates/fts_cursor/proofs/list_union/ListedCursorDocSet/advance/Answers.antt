-- One document fewer is left, or none.
use Rattle.std.proofs.Common.{◌≡◌, [], drop, ap, sym, ◌∙◌, arith}
use Rattle.std.proofs.lemmas.List.{drop-drop, drop_all}
use Rattle.fts_cursor.proofs.list_union.ListedCursorDocSet.advance.Goals as goal

pub returns-then-self-len : goal.returns-then-self-len
returns-then-self-len c =
    let s = c.self.inside in
    let none : c.args.self.now ≡ [] = sym c.self.view_is ∙ drop_all s.at s.documents.items (omega (arith, c.len.ensures, c.if-self-len.true)) in
    record { remaining = none ∙ sym (ap (drop 1) none) }

pub returns : goal.returns
returns c =
    let s = c.self.inside in
    record { remaining = sym (drop-drop 1 s.at s.documents.items) ∙ ap (drop 1) c.self.view_is }
