use Rattle.std.proofs.Common.{◌≡◌, ◌++◌, drop, option_map}
use Rattle.serde_json.specs.View.{items_view}
use Rattle.fts_script.specs.command.Cuts.{texts_in}
use Rattle.fts_script.proofs.command.field_names.texts_of.Given as goal

-- the names so far, and those that are left
abbrev pub invariant-loop-json : goal.invariant-loop-json
invariant-loop-json l = option_map (λ names. l.names.items ++ names) (texts_in (items_view (drop l.json-index l.fn.json))) ≡ texts_in (items_view l.fn.json)
