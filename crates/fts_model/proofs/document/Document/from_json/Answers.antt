use Rattle.std.proofs.Common.{◌≡◌, ◌∙◌, rules, sym, ap}
use Rattle.serde_json.specs.Data.{object}
use Rattle.serde_json.specs.View.{view, members_view}
use Rattle.fts_model.specs.Documents.{document_of}
use Rattle.fts_model.proofs.ResultsRefused.{one_error, object_with_fault}
use Rattle.fts_model.proofs.document.Document.from_json.Goals as goal

pub invariant_of-result : goal.invariant_of-result
invariant_of-result c = rw c.in_ok-stored.ensures.schema c.in_ok-stored.ensures.document

pub returns-in-Some-fault_of_members-clause-refused : goal.returns-in-Some-fault_of_members-clause-refused
returns-in-Some-fault_of_members-clause-refused c =
    λ fault wanted.
    let members = members_view c.in-Some.members.now.entries in
    let is : view c.args.json.now ≡ object members = search rules in
    let found = object_with_fault c.args.schema.now members c.in-Some-fault_of_members.fault (sym c.in-Some-fault_of_members.is ∙ c.fault_of_members.ensures) in
    one_error (document_of c.args.schema.now (view c.args.json.now)) c.in-Some-fault_of_members.fault fault (ap (document_of c.args.schema.now) is ∙ found)
    wanted
