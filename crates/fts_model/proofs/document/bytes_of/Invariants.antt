use Rattle.std.proofs.Common.{◌≡◌, drop}
use Rattle.serde_json.specs.View.{items_view}
use Rattle.fts_model.specs.Internals.Lists.{bytes_behind}
use Rattle.fts_model.proofs.document.bytes_of.Given as goal

abbrev pub invariant-loop-item : goal.invariant-loop-item
invariant-loop-item l = bytes_behind l.bytes (items_view (drop l.item-index l.items)) ≡ bytes_behind 0 (items_view l.items)
