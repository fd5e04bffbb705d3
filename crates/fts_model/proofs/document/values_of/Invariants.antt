use Rattle.std.proofs.Common.{◌≡◌, map, take}
use Rattle.serde_json.specs.View.{members_view}
use Rattle.fts_model.specs.Documents.{value_at, AreValuesOf}
use Rattle.fts_model.proofs.document.values_of.Given as goal

-- the values so far are those of the fields so far, and each is one that its field can have
abbrev pub invariant-loop-field : goal.invariant-loop-field
invariant-loop-field l = record {
  values : l.values ≡ map (value_at (members_view l.members.entries)) (take l.field-index l.fields);
  in_range : AreValuesOf (take l.field-index l.fields) l.values;
}
