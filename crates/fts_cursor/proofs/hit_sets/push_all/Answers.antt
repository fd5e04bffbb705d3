-- Each document is one of the first.
use Rattle.std.proofs.Common.{ap, subst, sym, ◌∙◌}
use Rattle.std.specs.Prelude.{nat_lt}
use Rattle.fts_model.specs.QueryValues.{every}
use Rattle.fts_postings.specs.Sets.{has}
use Rattle.fts_cursor.specs.Hits.{segment_hits}
use Rattle.fts_cursor.specs.Tests.{HasMore}
use Rattle.fts_sets.specs.declared.leaf.Leaf.TheVariants.{Below}
use Rattle.fts_cursor.proofs.TestsLemmas.{HasMore-one, first_hits}
use Rattle.fts_cursor.proofs.hit_sets.push_all.Goals as goal

pub returns : goal.returns
returns c = λ _.
    let segment = c.args.segment.now in
    let test = has (segment_hits segment every) in
    subst (HasMore test c.args.leaves.now.items) (sym c.in_ok-push.ensures.items)
    (HasMore-one test c.args.leaves.now.items (Below c.docs.result) (λ d. ap (nat_lt d) c.docs.ensures.len ∙ first_hits segment d))
