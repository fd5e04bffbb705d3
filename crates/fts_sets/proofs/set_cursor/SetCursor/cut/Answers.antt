-- What remains is that of the set which is left.
use Rattle.std.proofs.Common.{◌≡◌, ℕ, List, length, sym, subst}
use Rattle.std.specs.Prelude.{IfSome}
use Rattle.fts_postings.specs.Sets.{has}
use Rattle.fts_sets.proofs.CursorLemmas.{IsSetCursor-found, cut_left}
use Rattle.fts_sets.proofs.set_cursor.SetCursor.cut.Goals as goal

pub invariant_of-self-2 : goal.invariant_of-self-2
invariant_of-self-2 c =
    let s = c.self.inside in
    let b = c.begin-self-inside in
    let left = cut_left s.set c.meet-met.new.self c.args.self.now (has c.args.other) s.at b.result c.self.view_is c.in_ok-met.ensures b.ensures.same in
    IsSetCursor-found c.meet-met.new.self s.at b.result c.count_common-total.result b.new.window b.ensures
    (subst (λ (xs : List ℕ). IfSome c.count_common-total.result (λ n. n ≡ length xs)) (sym left) c.count_common-total.ensures)

pub returns : goal.returns
returns c =
    let s = c.self.inside in
    let b = c.begin-self-inside in
    cut_left s.set c.meet-met.new.self c.args.self.now (has c.args.other) s.at b.result c.self.view_is c.in_ok-met.ensures b.ensures.same
