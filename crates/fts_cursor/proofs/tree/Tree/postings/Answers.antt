-- The cursor goes over the whole list.
use Rattle.std.proofs.Common.{◌≡◌, Some, ap, arith, length, subst, ◌∙◌}
use Rattle.std.specs.List.{flat_map}
use Rattle.std.specs.List.Sorted.{IsStrictlyIncreasing}
use Rattle.std.proofs.lemmas.Result.{IfOk-weaker}
use Rattle.fts_pack.specs.ListRef.{listed}
use Rattle.fts_pack.specs.Documents.{block_count, blocks_of}
use Rattle.fts_pack.specs.SourceLaws.{blocks_joined, length-blocks_of}
use Rattle.fts_postings.proofs.PostingLemmas.{posting_new}
use Rattle.fts_cursor.specs.Standing.{at_most}
use Rattle.fts_cursor.specs.TreeValues.{TreeValue}
use Rattle.fts_cursor.specs.Trees.{tree_value}
use Rattle.fts_cursor.specs.declared.tree.Node.TheVariants.{Postings}
use Rattle.fts_cursor.proofs.AloneLemmas.{AreBlocks-of}
use Rattle.fts_cursor.proofs.tree.Tree.postings.Goals as goal

pub of-requires : goal.of-requires
of-requires c =
    let p = c.new-postings.result in
    let documents = listed c.args.list in
    let is : p.blocks ≡ blocks_of documents = c.new-postings.ensures.blocks ∙ ap blocks_of c.source.ensures.documents in
    let all = posting_new p documents is c.new-postings.ensures.first.0 c.new-postings.ensures.first.1 in
    record {
      first = c.doc.ensures.first;
      rises = c.doc.ensures.rises;
      parts = tt;
      tied = (
        omega (arith, c.new-postings.ensures.counted, c.source.ensures.unopened),
        AreBlocks-of p.blocks documents is (ap (flat_map (λ block. block)) is ∙ blocks_joined documents) (subst IsStrictlyIncreasing all c.doc.ensures.rises),
      );
    }

pub returns-clause-list : goal.returns-clause-list
returns-clause-list c =
    let p = c.new-postings.result in
    let is : p.blocks ≡ blocks_of (listed c.args.list) = c.new-postings.ensures.blocks ∙ ap blocks_of c.source.ensures.documents in
    IfOk-weaker c.of.result (λ (t : TreeValue). t ≡ tree_value (Postings p)) (λ t. t.list ≡ Some (listed c.args.list))
    (λ t made. ap (λ (s : TreeValue). s.list) made ∙ ap (λ bs. Some (flat_map (λ block. block) bs)) is ∙ ap Some (blocks_joined (listed c.args.list))) c.of.ensures

pub returns-clause-remaining : goal.returns-clause-remaining
returns-clause-remaining c =
    let p = c.new-postings.result in
    let is : p.blocks ≡ blocks_of (listed c.args.list) = c.new-postings.ensures.blocks ∙ ap blocks_of c.source.ensures.documents in
    IfOk-weaker c.of.result (λ (t : TreeValue). t ≡ tree_value (Postings p)) (λ t. t.remaining ≡ (listed c.args.list))
    (λ t made. ap (λ (s : TreeValue). s.remaining) made ∙ posting_new p (listed c.args.list) is c.new-postings.ensures.first.0 c.new-postings.ensures.first.1)
    c.of.ensures

pub returns-clause-bound : goal.returns-clause-bound
returns-clause-bound c =
    let p = c.new-postings.result in
    let is : p.blocks ≡ blocks_of (listed c.args.list) = c.new-postings.ensures.blocks ∙ ap blocks_of c.source.ensures.documents in
    IfOk-weaker c.of.result (λ (t : TreeValue). t ≡ tree_value (Postings p)) (λ t. t.bound ≡ at_most (block_count (length (listed c.args.list))))
    (λ t made. ap (λ (s : TreeValue). s.bound) made ∙ ap at_most (ap length is ∙ length-blocks_of (listed c.args.list))) c.of.ensures
