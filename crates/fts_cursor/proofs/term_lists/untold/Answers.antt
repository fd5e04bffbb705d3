-- A conjunction of all.
use Rattle.std.proofs.Common.{ap, ◌∙◌, arith}
use Rattle.std.proofs.lemmas.Result.{IfOk-weaker}
use Rattle.fts_pack.specs.ListRef.{listed}
use Rattle.fts_postings.specs.Bounds.{most_at}
use Rattle.fts_cursor.specs.Standing.{Standing}
use Rattle.fts_cursor.specs.TreeValues.{TreeValue}
use Rattle.fts_cursor.proofs.LeadingLemmas.{conjoined_over, fresh_others, lists_of}
use Rattle.fts_cursor.proofs.SplitLemmas.{FindsAll-conjoined}
use Rattle.fts_cursor.proofs.term_lists.untold.Goals as goal

pub new-requires : goal.new-requires
new-requires c = record { fresh = fresh_others c.in_ok-others.others.items c.args.others.now c.in_ok-others.ensures }

pub terms-requires : goal.terms-requires
terms-requires c =
    let m = conjoined_over (listed c.args.shortest) c.args.others.now c.cursor_over-lead.result c.in_ok-others.others.items c.new.result c.cursor_over-lead.ensures
    c.in_ok-others.ensures c.new.ensures.follows c.new.ensures.remaining in
    m.fresh

pub returns : goal.returns
returns c =
    let m = conjoined_over (listed c.args.shortest) c.args.others.now c.cursor_over-lead.result c.in_ok-others.others.items c.new.result c.cursor_over-lead.ensures
    c.in_ok-others.ensures c.new.ensures.follows c.new.ensures.remaining in
    IfOk-weaker c.terms.result _ _ (λ (t : TreeValue) is. FindsAll-conjoined (listed c.args.shortest) (lists_of c.args.others.now) c.new.result t.standing m
    (ap (λ (s : Standing). s.remaining) is) (omega (arith, ap (λ (s : Standing). s.openings) is))
    (λ doc. ap (λ (s : Standing). most_at s.bound doc) is ∙ omega arith)) c.terms.ensures
