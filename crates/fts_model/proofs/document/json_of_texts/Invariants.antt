use Rattle.std.proofs.Common.{◌≡◌, drop, map}
use Rattle.serde_json.specs.Data.{string}
use Rattle.serde_json.specs.View.{items_of}
use Rattle.fts_model.proofs.ItemsLemmas.{items_before}
use Rattle.fts_model.proofs.document.json_of_texts.Given as goal

abbrev pub invariant-loop-number : goal.invariant-loop-number
invariant-loop-number l = items_before l.items.items (items_of (map string (drop l.number l.texts))) ≡ items_of (map string l.texts)
