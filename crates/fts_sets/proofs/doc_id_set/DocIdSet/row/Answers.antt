-- One test after the other.
use Rattle.std.proofs.Common.{◌≡◌, ◌==◌, ◌&&◌, ◌+◌, ◌*◌, ◌∙◌, ap, get_or, length, nat_le, nat_lt, not, sym, arith, rules}
use Rattle.std.specs.Int.{bit_at}
use Rattle.fts_postings.specs.Sets.{has}
use Rattle.fts_sets.specs.Leaves.{all_have, each_has, one_has}
use Rattle.fts_sets.proofs.RowLemmas.{row_told}
use Rattle.fts_sets.proofs.ToldLemmas.{told_at}
use Rattle.fts_sets.proofs.doc_id_set.DocIdSet.row.Goals as goal

pub returns : goal.returns
returns c k low j inside =
    let s = c.self.inside in
    let d = 64 * (c.args.index + k) + j in
    let from = nat_le c.args.first d in
    let any = each_has s.any.items d in
    let all = all_have s.all.items d in
    let none = not (one_has s.none.items d) in
    let long : length c.begin_each-row.result ≡ 16 = search rules in
    let long-2 : length c.keep_first.new.row ≡ 16 = search rules in
    let long-3 : length c.keep_each.new.row ≡ 16 = search rules in
    c.drop_each.ensures.told k j (omega (arith, long-3, low, c.requires.few)) inside
    ∙ ap (λ xs. (bit_at (get_or c.keep_each.new.row k 0) j == 1) && not (one_has xs d)) c.deref-3.ensures.value
    ∙ ap (λ b. b && none) (c.keep_each.ensures.told k j (omega (arith, long-2, low, c.requires.few)) inside
    ∙ ap (λ xs. (bit_at (get_or c.keep_first.new.row k 0) j == 1) && all_have xs d) c.deref-2.ensures.value)
    ∙ ap (λ b. (b && all) && none) (c.keep_first.ensures.told k j (omega (arith, long, low, c.requires.few)) inside)
    ∙ ap (λ b. ((b && nat_lt d s.docs) && all) && none) (c.begin_each-row.ensures k low j inside ∙ ap (λ xs. from && each_has xs d) c.deref.ensures.value)
    ∙ row_told from any (nat_lt d s.docs) all none
    ∙ ap (λ b. from && b) (sym (told_at s.docs s.all.items s.any.items s.none.items d) ∙ ap (λ xs. has xs d) c.self.view_is)
