use Rattle.std.proofs.Common.{◌≡◌, sym, ap, ◌∙◌, Some, Ok, length}
use Rattle.std.proofs.lemmas.Result.{err_from_is_err_and}
use Rattle.fts_base.specs.Results.{result_map}
use Rattle.fts_query.specs.Gathering.{Gathered, gathered_of, gather}
use Rattle.fts_query.specs.Sequences.{part_seen, clause_of}
use Rattle.fts_query.proofs.GatheringLemmas.{nothing_gathered}
use Rattle.fts_query.proofs.SequencesLemmas.{Goes-start, Goes-next, Goes-smaller, Goes-last, Goes-fails, sequence_lone, sequence_fails, sequence_several}
use Rattle.fts_query.proofs.SequencesLemmas.{sequence_stops, meaning_of-first, meaning_of_fails, first_shorter}
use Rattle.fts_query.proofs.QueryValuesLemmas.{value-all}
use Rattle.fts_model.specs.QueryValues.{QueryValue, query_value}
use Rattle.fts_query.proofs.ReadingLemmas.{unit_none, unit_empty, unit_group, unit_star, unit_quote, unit_bare}
use Rattle.fts_query.specs.declared.reader.Level.TheVariants as levels
use Rattle.fts_query.proofs.reader.+reading.Goals as goal

pub unit_at-returns-then-depth-eq0 : goal.unit_at-returns-then-depth-eq0
unit_at-returns-then-depth-eq0 t c = unit_none c.args.schema.now c.args.depth c.args.text c.if-depth-eq0.true

pub unit_at-returns-in-None : goal.unit_at-returns-in-None
unit_at-returns-in-None t c = unit_empty c.args.schema.now c.args.depth c.args.text (sym c.fork.ensures ∙ c.in-None.ensures)

pub unit_at-returns-then-c-eq40 : goal.unit_at-returns-then-c-eq40
unit_at-returns-then-c-eq40 t c =
    let e = unit_group c.args.schema.now c.args.depth c.args.text c.in-Some.c c.in-Some.rest c.if-depth-eq0.false (sym c.fork.ensures ∙ c.in-Some.ensures)
    c.if-c-eq40.true in
    rw e c.group_at.ensures

pub unit_at-returns-then-c-eq42 : goal.unit_at-returns-then-c-eq42
unit_at-returns-then-c-eq42 t c =
    unit_star c.args.schema.now c.args.depth c.args.text c.in-Some.c c.in-Some.rest c.if-depth-eq0.false (sym c.fork.ensures ∙ c.in-Some.ensures)
    c.if-c-eq42.true
    ∙ ap (λ (q : QueryValue). Some (Ok q, c.in-Some.rest)) (sym value-all)

pub unit_at-returns-then-c-eq34 : goal.unit_at-returns-then-c-eq34
unit_at-returns-then-c-eq34 t c =
    let e = unit_quote c.args.schema.now c.args.depth c.args.text c.in-Some.c c.in-Some.rest c.if-depth-eq0.false (sym c.fork.ensures ∙ c.in-Some.ensures)
    c.if-c-eq34.true in
    rw e c.quoted_literal_at.ensures

pub unit_at-returns-else-c-eq34 : goal.unit_at-returns-else-c-eq34
unit_at-returns-else-c-eq34 t c =
    let e = unit_bare c.args.schema.now c.args.depth c.args.text c.in-Some.c c.in-Some.rest c.if-depth-eq0.false (sym c.fork.ensures ∙ c.in-Some.ensures)
    c.if-c-eq40.false c.if-c-eq42.false c.if-c-eq34.false in
    rw e c.bare_at.ensures

pub node_at-loop-next-init : goal.node_at-loop-next-init
node_at-loop-next-init t c =
    let p = clause_of c.args.level (part_seen c.args.first) in
    let start : gathered_of c.push_item.new.clauses ≡ gather nothing_gathered p =
    c.in_ok-push_item.ensures ∙ ap (λ (g : Gathered). gather g p) c.new-clauses.ensures in
    λ n enough. Goes-start c.args.schema.now c.args.depth c.args.level (gathered_of c.push_item.new.clauses) (part_seen c.args.first) c.args.text n start enough

pub node_at-loop-next-preserved : goal.node_at-loop-next-preserved
node_at-loop-next-preserved t c =
    λ n enough. Goes-next c.args.schema.now c.args.depth c.args.level (gathered_of c.loop-next.clauses) (gathered_of c.push_item-in-Some.new.clauses)
    c.loop-next.rest c.in-Some.next c.in_ok-item.left (part_seen c.in_ok-item.item) _ c.in-Some.ensures c.in_ok-item.ensures c.in_ok-push_item-2.ensures
    (c.loop-next.invariant n enough)

pub node_at-loop-next-smaller : goal.node_at-loop-next-smaller
node_at-loop-next-smaller t c = Goes-smaller c.args.schema.now c.args.depth c.args.level c.loop-next.rest c.in-Some.next c.in_ok-item.left
    (part_seen c.in_ok-item.item) c.in-Some.ensures c.in_ok-item.ensures

pub node_at-returns : goal.node_at-returns
node_at-returns t c =
    λ n enough. Goes-last c.args.schema.now c.args.depth c.args.level n (part_seen c.args.first) c.args.text c.loop-next.rest (gathered_of c.loop-next.clauses)
    (result_map query_value c.into_node.result) c.in_default.ensures (c.loop-next.invariant n enough) c.into_node.ensures

pub node_at-returns-in_err-item : goal.node_at-returns-in_err-item
node_at-returns-in_err-item t c =
    let p = err_from_is_err_and c.from_residual-in_err-item.result c.from_residual-in_err-item.ensures.1 in
    rw (p.1, p.2) (λ n enough. Goes-fails c.args.schema.now c.args.depth c.args.level c.in_err-item.field-0.0 n (part_seen c.args.first) c.args.text
    c.loop-next.rest c.in-Some.next (gathered_of c.loop-next.clauses) c.in-Some.ensures c.in_err-item.ensures (c.loop-next.invariant n enough))

pub sequence_at-returns-in_err-first : goal.sequence_at-returns-in_err-first
sequence_at-returns-in_err-first t c =
    let p = err_from_is_err_and c.from_residual.result c.from_residual.ensures.1 in
    rw (p.1, p.2) (sequence_fails c.args.schema.now c.args.depth c.args.level c.in_err-first.field-0.0 c.args.text c.in_err-first.ensures)

pub sequence_at-returns-in-None : goal.sequence_at-returns-in-None
sequence_at-returns-in-None t c = sequence_lone c.args.schema.now c.args.depth c.args.level c.args.text c.in_ok-first.rest (part_seen c.in_ok-first.first)
    c.in_ok-first.ensures c.in-None.ensures

pub sequence_at-returns-in_ok-node-in-Some : goal.sequence_at-returns-in_ok-node-in-Some
sequence_at-returns-in_ok-node-in-Some t c =
    let enough = first_shorter c.args.schema.now c.args.depth c.args.level c.args.text c.in_ok-first.rest (part_seen c.in_ok-first.first)
    c.in_ok-first.ensures in
    sequence_several c.args.schema.now c.args.depth c.args.level c.args.text c.in_ok-first.rest c.in-Some.field-0 c.in_ok-node-in-Some.rest
    (part_seen c.in_ok-first.first) (result_map query_value c.in_ok-node-in-Some.node) c.in_ok-first.ensures c.in-Some.ensures
    (c.in_ok-node-in-Some.ensures (length c.args.text) enough)

pub sequence_at-returns-in_err-node-in-Some : goal.sequence_at-returns-in_err-node-in-Some
sequence_at-returns-in_err-node-in-Some t c =
    let enough = first_shorter c.args.schema.now c.args.depth c.args.level c.args.text c.in_ok-first.rest (part_seen c.in_ok-first.first)
    c.in_ok-first.ensures in
    let p = err_from_is_err_and c.from_residual-in_err-node-in-Some.result c.from_residual-in_err-node-in-Some.ensures.1 in
    rw (p.1, p.2) (sequence_stops c.args.schema.now c.args.depth c.args.level c.in_err-node-in-Some.field-0.0 c.args.text c.in_ok-first.rest
    (part_seen c.in_ok-first.first) c.in_ok-first.ensures (c.in_err-node-in-Some.ensures (length c.args.text) enough))

pub list_at-returns-in_err-first : goal.list_at-returns-in_err-first
list_at-returns-in_err-first t c =
    let p = err_from_is_err_and c.from_residual.result c.from_residual.ensures.1 in
    rw (p.1, p.2) (meaning_of_fails c.args.schema.now c.args.depth c.in_err-first.field-0.0 c.args.text c.in_err-first.ensures)

pub list_at-returns : goal.list_at-returns
list_at-returns t c =
    let first = meaning_of-first c.args.schema.now c.args.depth c.args.text c.in_ok-first.rest (part_seen c.in_ok-first.first) c.in_ok-first.ensures in
    let enough = first_shorter c.args.schema.now c.args.depth levels.List c.args.text c.in_ok-first.rest (part_seen c.in_ok-first.first)
    c.in_ok-first.ensures in
    rw first (c.node_at.ensures (length c.args.text) enough)
