use Rattle.fts_segment.proofs.MovingLemmas.{counted-next, counted-room, numbered-step}
use Rattle.fts_segment.specs.Parts.{renumbered}
use Rattle.fts_segment.proofs.doc_map.renumber.Goals as goal

pub push_number-requires : goal.push_number-requires
push_number-requires c live =
    counted-room c.loop-document.next c.args.first c.loop-document.document c.args.live.now c.get.result c.get.ensures live c.loop-document.invariant.within
    c.requires

pub loop-document-preserved : goal.loop-document-preserved
loop-document-preserved c = rw (c.in_ok-next.ensures.numbers, c.in_ok-next.ensures.next) (record {
  within = counted-next c.loop-document.next c.args.first c.loop-document.document c.args.live.now c.get.result c.get.ensures c.loop-document.invariant.within;
  numbered = numbered-step c.loop-document.numbers.items c.loop-document.next c.args.live.now c.loop-document.document c.get.result
      (renumbered c.args.first c.args.live.now) c.get.ensures c.loop-document.invariant.numbered;
})
