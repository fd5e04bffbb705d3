-- A cursor over the lists of the terms, of which the shortest leads.
use Rattle.std.proofs.Common.{◌∙◌, arith, subst}
use Rattle.std.proofs.lemmas.Result.{IfOk-weaker}
use Rattle.fts_pack.specs.ListRef.{listed}
use Rattle.fts_cursor.specs.Splits.{FindsAll}
use Rattle.fts_cursor.specs.TreeValues.{TreeValue}
use Rattle.fts_cursor.proofs.LeadingLemmas.{lists_of, no_hits}
use Rattle.fts_cursor.proofs.SplitLemmas.{FindsHits-led}
use Rattle.fts_cursor.proofs.terms.of_terms.Goals as goal

pub returns-in_default-clause-remaining : goal.returns-in_default-clause-remaining
returns-in_default-clause-remaining c =
    c.nothing.ensures.remaining ∙ no_hits c.args.segment.now c.args.queries.now c.requires.some (rw c.in_default.is at c.in_ok-lists.ensures)

pub returns-in_default-clause-bound : goal.returns-in_default-clause-bound
returns-in_default-clause-bound c = λ doc. rw c.nothing.ensures.counts.1 (omega arith)

pub of_lists-requires : goal.of_lists-requires
of_lists-requires c = (rw c.in-Some.is at c.in_ok-lists.ensures).rises

pub returns-clause-remaining : goal.returns-clause-remaining
returns-clause-remaining c =
    let lists = c.in-Some.lists in
    IfOk-weaker c.of_lists.result _ _
    (λ (t : TreeValue) h. (FindsHits-led c.args.segment.now c.args.queries.now (listed lists.shortest) (lists_of lists.others.items) t.standing
    (rw c.in-Some.is at c.in_ok-lists.ensures)
    (subst (λ ls. FindsAll (listed lists.shortest) (lists_of ls) t.standing) c.deref.ensures.value h)).hits) c.of_lists.ensures

pub returns-clause-bound : goal.returns-clause-bound
returns-clause-bound c =
    let lists = c.in-Some.lists in
    IfOk-weaker c.of_lists.result _ _
    (λ (t : TreeValue) h. (FindsHits-led c.args.segment.now c.args.queries.now (listed lists.shortest) (lists_of lists.others.items) t.standing
    (rw c.in-Some.is at c.in_ok-lists.ensures)
    (subst (λ ls. FindsAll (listed lists.shortest) (lists_of ls) t.standing) c.deref.ensures.value h)).bound) c.of_lists.ensures

pub returns-clause-opened : goal.returns-clause-opened
returns-clause-opened c =
    let lists = c.in-Some.lists in
    IfOk-weaker c.of_lists.result _ _
    (λ (t : TreeValue) h. (FindsHits-led c.args.segment.now c.args.queries.now (listed lists.shortest) (lists_of lists.others.items) t.standing
    (rw c.in-Some.is at c.in_ok-lists.ensures)
    (subst (λ ls. FindsAll (listed lists.shortest) (lists_of ls) t.standing) c.deref.ensures.value h)).opened) c.of_lists.ensures
