-- Each document of the set remains, and the bits tell those of the other.
use Rattle.std.proofs.Common.{◌≡◌, ℕ, List, length, sym, ap, subst, ◌∙◌, arith}
use Rattle.std.specs.List.{filter}
use Rattle.std.specs.Prelude.{IfSome}
use Rattle.fts_postings.specs.Sets.{has}
use Rattle.fts_postings.specs.Windows.{is_set}
use Rattle.fts_sets.proofs.CursorLemmas.{all_remain}
use Rattle.fts_sets.proofs.SetLemmas.{filter-agree}
use Rattle.fts_sets.proofs.set_cursor.SetCursor.count_common.Goals as goal

pub returns : goal.returns
returns c =
    let s = c.self.inside in
    let live = is_set c.in_ok-bits.bits.now in
    let total = rw c.in_ok-total.was at c.self.invariant.total_is in
    let whole = all_remain s.set s.at c.docs.result c.self.invariant.rises c.docs.ensures.past (omega (arith, total, c.if-total-docs.false)) in
    let same = filter-agree (has c.args.other.now) live c.args.self.now c.in_ok-bits.ensures in
    subst (λ (xs : List ℕ). IfSome c.count_set.result (λ n. n ≡ length xs)) (ap (filter live) (whole ∙ c.self.view_is) ∙ sym same) c.count_set.ensures
