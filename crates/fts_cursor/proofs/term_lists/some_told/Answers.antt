-- What the list and those without bits have, cut by the bits of the others.
use Rattle.std.proofs.Common.{ap, ◌∙◌, arith}
use Rattle.std.specs.List.{filter}
use Rattle.fts_pack.specs.ListRef.{listed}
use Rattle.fts_postings.specs.Bounds.{Bound, most_at}
use Rattle.fts_postings.specs.Conjoined.{common_of}
use Rattle.fts_postings.specs.Sets.{has}
use Rattle.fts_sets.specs.Leaves.{in_each}
use Rattle.fts_sets.proofs.SetLemmas.{filter-agree}
use Rattle.fts_cursor.specs.Standing.{Standing}
use Rattle.fts_cursor.specs.TreeValues.{TreeValue}
use Rattle.fts_cursor.proofs.LeadingLemmas.{conjoined_over, fresh_others, lists_of}
use Rattle.fts_cursor.proofs.SplitLemmas.{FindsAll-cut, all_three}
use Rattle.fts_cursor.proofs.term_lists.some_told.Goals as goal

pub new-requires : goal.new-requires
new-requires c = record { fresh = fresh_others c.in_ok-others.others.items c.args.rest.now c.in_ok-others.ensures }

pub terms-requires : goal.terms-requires
terms-requires c =
    let m = conjoined_over (listed c.args.shortest) c.args.rest.now c.cursor_over-lead.result c.in_ok-others.others.items c.new.result c.cursor_over-lead.ensures
    c.in_ok-others.ensures c.new.ensures.follows c.new.ensures.remaining in
    m.fresh

pub returns : goal.returns
returns c =
    let m = conjoined_over (listed c.args.shortest) c.args.rest.now c.cursor_over-lead.result c.in_ok-others.others.items c.new.result c.cursor_over-lead.ensures
    c.in_ok-others.ensures c.new.ensures.follows c.new.ensures.remaining in
    let is = c.in_ok-tree.ensures in
    all_three c.filtered.result _ _ _ _ (λ (t : TreeValue) remaining rises walked lists split.
    FindsAll-cut (listed c.args.shortest) lists c.args.bits.items (lists_of c.args.rest.now) c.args.opened c.requires.rises split c.new.result t.standing m
    (remaining ∙ ap (λ (s : Standing). filter (has c.in_ok-set.set) s.remaining) is ∙ filter-agree (has c.in_ok-set.set) (in_each c.args.bits.items) (common_of c.new.result)
    (λ d. c.in_ok-set.ensures d ∙ ap (λ bs. in_each bs d) c.deref.ensures.value))
    (omega (arith, walked.continues.more, ap (λ (s : Standing). s.openings) is))
    (λ doc. ap (λ (b : Bound). most_at b doc) (walked.continues.bound ∙ ap (λ (s : Standing). s.bound) is) ∙ omega arith))
    c.filtered.ensures.remaining c.filtered.ensures.rises c.filtered.ensures.walked
