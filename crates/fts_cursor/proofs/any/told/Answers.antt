-- What some of the bits tell.
use Rattle.std.proofs.Common.{◌^◌, ◌≤◌, ◌∙◌, List, Bool, length, subst, sym, ap}
use Rattle.std.specs.Prelude.{All}
use Rattle.std.specs.Borrow.{Bor}
use Rattle.std.specs.List.{filter}
use Rattle.std.proofs.lemmas.Result.{IfOk-weaker}
use Rattle.fts_pack.specs.Documents.{Rises}
use Rattle.fts_postings.specs.Sets.{has}
use Rattle.fts_postings.proofs.PassingLemmas.{Rises-passing}
use Rattle.fts_sets.specs.Leaves.{in_one, one_has}
use Rattle.fts_cursor.proofs.SplitLemmas.{told_has}
use Rattle.fts_cursor.proofs.any.told.Goals as goal

pub longest-docs-requires : goal.longest-docs-requires
longest-docs-requires c = subst (All (λ (b : Bor (List Bool)). length b.now ≤ 2 ^ 32)) (sym c.deref-2.ensures.value) c.requires

pub returns-clause-has : goal.returns-clause-has
returns-clause-has c =
    let docs = c.longest-docs.result in
    let leaves = c.in_ok-leaves.leaves.items in
    let set = c.new.ensures ∙ c.in_ok-with_any.ensures ∙ ap (filter (one_has leaves)) c.every-set.ensures in
    let long = subst (All (λ (b : Bor (List Bool)). length b.now ≤ docs)) c.deref-2.ensures.value c.longest-docs.ensures.longest in
    IfOk-weaker c.scan.result _ _ (λ t is d. ap (λ xs. has xs d) (is ∙ set) ∙ told_has c.args.bits.items leaves docs long
    (λ x. c.in_ok-leaves.ensures.one x ∙ ap (λ bs. in_one bs x) c.deref.ensures.value) d) c.scan.ensures.remaining

pub returns-clause-rises : goal.returns-clause-rises
returns-clause-rises c =
    let leaves = c.in_ok-leaves.leaves.items in
    let set = c.new.ensures ∙ c.in_ok-with_any.ensures ∙ ap (filter (one_has leaves)) c.every-set.ensures in
    IfOk-weaker c.scan.result _ _ (λ t is. subst (Rises 0) (sym (is ∙ set)) (Rises-passing (one_has leaves) 0 c.longest-docs.result)) c.scan.ensures.remaining
