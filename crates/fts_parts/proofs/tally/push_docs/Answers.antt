use Rattle.std.proofs.Common.{◌≡◌, ◌∙◌, ◌+◌, ◌++◌, None, ap, arith, drop, get_or, length, suc}
use Rattle.std.proofs.lemmas.List.{drop_more}
use Rattle.std.specs.Prelude.{slice_index_or}
use Rattle.std.specs.Option.{option_to_list}
use Rattle.fts_parts.proofs.TallyLemmas.{present_at-behind}
use Rattle.fts_parts.proofs.tally.push_docs.Goals as goal

pub push_doc-requires : goal.push_doc-requires
push_doc-requires c =
    let docs = c.args.docs.now in
    let i = c.loop-doc.doc-index in
    let left : length (drop i docs) ≡ suc (length (drop (i + 1) docs)) = ap length (drop_more docs i 0 c.loop-doc-test.true) in
    omega (arith, c.loop-doc.invariant.room, left)

pub loop-doc-preserved : goal.loop-doc-preserved
loop-doc-preserved c =
    let docs = c.args.docs.now in
    let i = c.loop-doc.doc-index in
    let left : length (drop i docs) ≡ suc (length (drop (i + 1) docs)) = ap length (drop_more docs i 0 c.loop-doc-test.true) in
    record {
      pushed = c.push_doc.ensures.items ∙ ap (λ xs. xs ++ option_to_list (slice_index_or c.args.column.now (get_or docs i 0) None)) c.loop-doc.invariant.pushed
          ∙ present_at-behind c.args.numbers.now.items c.args.column.now docs i c.loop-doc-test.true;
      room = omega (arith, c.push_doc.ensures.len, c.push_doc.ensures.capacity, c.loop-doc.invariant.room, left);
    }
