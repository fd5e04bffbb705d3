-- The first's documents are those that the set may have.
use Rattle.std.proofs.Common.{List, Bool, length, ap, ◌∙◌, arith}
use Rattle.std.specs.Borrow.{Bor}
use Rattle.std.specs.List.{filter, range_with_len}
use Rattle.fts_postings.specs.Sets.{has}
use Rattle.fts_sets.specs.Leaves.{all_have}
use Rattle.fts_sets.proofs.SetLemmas.{has-passing}
use Rattle.fts_cursor.proofs.SplitLemmas.{first_gone}
use Rattle.fts_cursor.proofs.term_lists.set_in_each.Goals as goal

pub every-set-requires : goal.every-set-requires
every-set-requires c =
    let few = c.requires.few 0 c.index-bits-0.result c.requires.some in
    omega (arith, c.len.ensures, few, ap (λ (b : Bor (List Bool)). length b.now) c.index-bits-0.is)

pub returns : goal.returns
returns c = λ d.
    let leaves = c.in_ok-leaves.leaves.items in
    let set = c.in_ok-with_each.ensures ∙ ap (λ ls. filter (all_have ls) c.every-set.result) c.deref.ensures.value
    ∙ ap (filter (all_have leaves)) (c.every-set.ensures ∙ ap (range_with_len 0) c.len.ensures) in
    ap (λ xs. has xs d) set
    ∙ has-passing (all_have leaves) (length c.index-bits-0.result.now) d (λ past. c.in_ok-leaves.ensures.all d ∙ first_gone c.args.bits.now c.index-bits-0.result d c.index-bits-0.is
    c.requires.some past)
    ∙ c.in_ok-leaves.ensures.all d
