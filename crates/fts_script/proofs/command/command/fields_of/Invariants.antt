use Rattle.std.proofs.Common.{◌≡◌, ◌++◌, drop, option_map}
use Rattle.serde_json.specs.View.{items_view}
use Rattle.fts_script.specs.command.Commands.{fields_in}
use Rattle.fts_script.proofs.command.command.fields_of.Given as goal

-- the fields so far, and those that are left
abbrev pub invariant-loop-json : goal.invariant-loop-json
invariant-loop-json l = option_map (λ fields. l.fields.items ++ fields) (fields_in (items_view (drop l.json-index l.fn.json)))
    ≡ fields_in (items_view l.fn.json)
