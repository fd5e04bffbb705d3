-- One document more is marked.
use Rattle.std.proofs.Common.{get_or, ◌∙◌, refl, arith}
use Rattle.fts_postings.proofs.MarkingLemmas.{marked_more}
use Rattle.fts_postings.proofs.WindowLemmas.{found}
use Rattle.fts_postings.proofs.window.Window.mark_all.Goals as goal

pub loop-doc-preserved : goal.loop-doc-preserved
loop-doc-preserved c =
    let l = c.loop-doc in
    let docs = c.args.docs.now in
    record {
      from = c.mark.ensures.place.0 ∙ l.invariant.from;
      last = c.mark.ensures.place.1 ∙ l.invariant.last;
      marked = marked_more (found c.args.self.now) (found l.self) (found c.mark.new.self) docs l.doc-index (get_or docs l.doc-index 0) (omega arith) refl
          c.mark.ensures.marked l.invariant.marked;
    }
