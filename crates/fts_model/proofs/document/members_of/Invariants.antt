use Rattle.std.proofs.Common.{◌≡◌, drop}
use Rattle.serde_json.specs.Data.{no_members}
use Rattle.serde_json.specs.View.{members_view}
use Rattle.fts_model.specs.Documents.{with_values}
use Rattle.fts_model.proofs.document.members_of.Given as goal

-- the members that are made, followed by those of the fields that are left, are the whole
abbrev pub invariant-loop-number : goal.invariant-loop-number
invariant-loop-number l =
    with_values (members_view l.members.entries) (drop l.number l.fields) (drop l.number l.values) ≡ with_values no_members l.fields l.values
