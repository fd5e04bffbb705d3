use Rattle.std.proofs.Common.{◌≡◌, ◌++◌, ℕ, List, ap, subst, ◌∙◌}
use Rattle.fts_pack.specs.Documents.{gaps}
use Rattle.fts_pack.specs.BlockMeta.{IsAdded}
use Rattle.fts_pack.proofs.DocumentsLemmas.{last_is}
use Rattle.fts_pack.proofs.packed_list.add_skip.Goals as goal

pub returns-clause-ok : goal.returns-clause-ok
returns-clause-ok c =
    let differences = gaps c.args.next c.args.documents.now in
    let same : c.deref.result.now ≡ differences = c.deref.ensures.value ∙ c.in_ok-push_gaps.ensures.ok ∙ ap (λ xs. xs ++ differences) c.clear.ensures.items in
    let P : List ℕ → Type 0 = λ piece. IsAdded piece c.args.words.now.items c.add_block.new.words.items c.in_ok-block.block in
    record {
      block = subst P same c.in_ok-block.ensures.ok;
      last_is = last_is c.args.next c.args.documents.now c.requires.some;
    }
