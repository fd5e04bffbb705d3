use Rattle.std.proofs.Common.{◌∙◌, ap, map, nat_eq, arith}
use Rattle.std.specs.List.{dedup}
use Rattle.std.proofs.lemmas.List.{take_all}
use Rattle.std.proofs.lemmas.List.Filters.{dedup_is}
use Rattle.fts_segment.specs.declared.term_groups.DocPosition.{DocPosition}
use Rattle.fts_segment.proofs.postings_writer.set_docs.Goals as goal

pub returns : goal.returns
returns c = dedup_is nat_eq c.loop-place.docs.items c.dedup.new.self.items c.dedup.ensures.filtered
    ∙ ap (dedup nat_eq) (c.loop-place.invariant ∙ ap (map (λ (p : DocPosition). p.doc)) (take_all c.loop-place.place-index c.args.places.now (omega arith)))
