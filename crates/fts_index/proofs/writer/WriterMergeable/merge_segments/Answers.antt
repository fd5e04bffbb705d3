-- What is left of the proof of `merge_segments` of a writer.
use Rattle.fts_index.proofs.WriterLemmas.{merge_given, merge_keeps}
use Rattle.fts_index.proofs.writer.WriterMergeable.merge_segments.Goals as goal

pub returns-clause-snapshot : goal.returns-clause-snapshot
returns-clause-snapshot g c = merge_given c.args.ids.now c.args.self.now c.merge.new.self c.merge.result c.merge.ensures.writer c.merge.ensures.refused

pub returns-clause-keeps : goal.returns-clause-keeps
returns-clause-keeps g c = merge_keeps c.args.ids.now c.args.self.now c.merge.new.self c.merge.result c.merge.ensures.writer c.merge.ensures.same
