use Rattle.std.proofs.Common.{◌≡◌, ◌++◌, ℕ, List, Some, drop, option_map}
use Rattle.serde_json.specs.View.{items_view}
use Rattle.fts_model.specs.Documents.{strings_in}
use Rattle.fts_model.proofs.document.texts_of.Given as goal

abbrev pub invariant-loop-item : goal.invariant-loop-item
invariant-loop-item l =
    (ts : List (List ℕ)) → strings_in (items_view l.items) ≡ Some ts →
    option_map (λ rest. l.texts ++ rest) (strings_in (items_view (drop l.item-index l.items))) ≡ Some ts
