use Rattle.std.proofs.Common.{◌<◌, length, get_or, arith}
use Rattle.std.proofs.lemmas.List.{get_or_default}
use Rattle.std.proofs.lemmas.List.Edits.{map_over_more}
use Rattle.fts_segment.specs.declared.term_log.Occurrence.{Occurrence}
use Rattle.fts_segment.specs.TermLogs.{by_ordinal}
use Rattle.fts_segment.proofs.term_log.put_in_order.Goals as goal

pub loop-occurrence-preserved : goal.loop-occurrence-preserved
loop-occurrence-preserved c =
    let l = c.loop-occurrence in
    let d : Occurrence = record { term = 0; doc = 0; position = 0 } in
    let e = get_or l.log l.occurrence-index d in
    let within : l.occurrence-index < length l.log = omega (arith, c.loop-occurrence-test.true, l.auto.log) in
    map_over_more (by_ordinal c.args.ordinals.now) c.args.log.now l.log l.occurrence-index e (omega (arith, within, l.auto.log)) l.invariant
    (get_or_default l.log l.occurrence-index d e within)
