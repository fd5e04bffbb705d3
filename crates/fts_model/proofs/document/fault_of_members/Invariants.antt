use Rattle.std.proofs.Common.{◌≡◌}
use Rattle.serde_json.specs.View.{members_view}
use Rattle.fts_model.specs.Documents.{members_fault}
use Rattle.fts_model.proofs.document.fault_of_members.Given as goal

-- the fault of the members is that of those that are left
abbrev pub invariant-loop-name : goal.invariant-loop-name
invariant-loop-name l = members_fault l.schema (members_view l.members.entries) ≡ members_fault l.schema (members_view l.name-iterator)
