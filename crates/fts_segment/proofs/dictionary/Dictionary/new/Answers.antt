use Rattle.std.proofs.Common.{All, List, subst, sym}
use Rattle.std.specs.List.Sorted.{IsStrictlyIncreasing}
use Rattle.fts_segment.specs.Occurrences.{OccurrenceValue, docs_with, values_in}
use Rattle.fts_segment.specs.Positions.{position_lists_with}
use Rattle.fts_positions.specs.PositionLists.{IsPositionList}
use Rattle.fts_segment.proofs.HoldingLemmas.{docs_with-rise}
use Rattle.fts_segment.proofs.PositionsLemmas.{ArePositionLists-occurrences}
use Rattle.fts_segment.proofs.dictionary.Dictionary.new.Goals as goal

pub dictionary-requires-clause-rise : goal.dictionary-requires-clause-rise
dictionary-requires-clause-rise c q =
    let P : List OccurrenceValue → Type 0 = λ os. IsStrictlyIncreasing (docs_with q os) in
    subst P (sym c.in_ok-log.ensures.logged) (docs_with-rise q c.args.kind 0 (values_in c.args.field c.args.documents.now))

pub dictionary-requires-clause-positions : goal.dictionary-requires-clause-positions
dictionary-requires-clause-positions c q =
    let P : List OccurrenceValue → Type 0 = λ os. All IsPositionList (position_lists_with q os) in
    subst P (sym c.in_ok-log.ensures.logged) (ArePositionLists-occurrences q c.args.kind (values_in c.args.field c.args.documents.now) c.in_ok-log.ensures.few)
