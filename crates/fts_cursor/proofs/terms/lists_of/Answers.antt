-- One list more, of which the shorter leads.
use Rattle.std.proofs.lemmas.List.{map-append}
use Rattle.fts_pack.specs.ListRef.{listed}
use Rattle.fts_cursor.proofs.LeadingLemmas.{led_first, led_next, lists_of, none_in}
use Rattle.fts_cursor.proofs.terms.lists_of.Goals as goal

pub loop-place-init : goal.loop-place-init
loop-place-init c =
    rw c.in_ok-others.ensures.items (led_first c.args.segment.now c.args.queries.now c.index-queries-0.result (listed c.in-Some.shortest) c.requires.some
    c.index-queries-0.is c.in-Some.ensures)

pub returns-in_default-list_of : goal.returns-in_default-list_of
returns-in_default-list_of c = none_in c.args.segment.now c.args.queries.now c.loop-place.place c.index-queries-place.result c.loop-place-test.true
    c.index-queries-place.is c.in_default-list_of.ensures

pub loop-place-preserved : goal.loop-place-preserved
loop-place-preserved c =
    rw (c.in_ok-push.ensures.items, map-append) (led_next c.args.segment.now c.args.queries.now c.loop-place.place c.index-queries-place.result
    (listed c.loop-place.shortest) (listed c.in-Some-list_of.list) (listed c.by_length.result.0) (listed c.by_length.result.1) (lists_of c.loop-place.others.items)
    c.loop-place.invariant c.loop-place-test.true c.index-queries-place.is c.in-Some-list_of.ensures c.by_length.ensures.shorter c.by_length.ensures.longer)
