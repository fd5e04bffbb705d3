use Rattle.std.proofs.Common.{sym, subst}
use Rattle.fts_index.specs.Writers.{WriterValue}
use Rattle.fts_engine_index.specs.declared.uncommitted.Uncommitted.TheVariants.{Nothing}
use Rattle.fts_engine_index.specs.WriterIndexes.{IsReaderOf, IsIndexEngine}
use Rattle.fts_engine_index.proofs.EngineLemmas.{opened}
use Rattle.fts_engine_index.proofs.index_engine.IndexEngineEngineOver.open.Goals as goal

pub invariant_of-result : goal.invariant_of-result
invariant_of-result g c =
    let new = c.in_ok-writer.ensures in
    let same = c.reader_of-reader.ensures.same in
    let reads = subst (λ (w : WriterValue). IsReaderOf w.front.seen c.reader_of-reader.result) same c.reader_of-reader.ensures.reader in
    subst (λ (w : WriterValue). IsIndexEngine w c.reader_of-reader.result Nothing 0 0) (sym same)
    (opened c.in_ok-writer.writer c.reader_of-reader.result reads new.stamp new.segments new.numbers new.rounds.0 new.rounds.1)
