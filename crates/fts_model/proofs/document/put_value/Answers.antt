use Rattle.std.proofs.Common.{◌≡◌, List, ℕ, ◌∙◌, ap, string_bytes}
use Rattle.serde_json.specs.Data.{put}
use Rattle.serde_json.specs.View.{members_view, view}
use Rattle.serde_json.proofs.Views.{members_view-insert_entry}
use Rattle.fts_model.proofs.document.put_value.Goals as goal

pub returns-in_ok-insert : goal.returns-in_ok-insert
returns-in_ok-insert c =
    let members = members_view c.args.members.now.entries in
    let name_is : string_bytes c.in_ok-name.name ≡ c.args.field.now.name = c.in_ok-name.ensures.ok ∙ c.as_str.ensures in
    rw c.in-Some.is
    (ap members_view c.in_ok-insert.ensures.entries ∙ members_view-insert_entry c.args.members.now.entries c.in_ok-name.name c.in_ok-json_of_value.field-0
    ∙ ap (λ (k : List ℕ). put k (view c.in_ok-json_of_value.field-0) members) name_is
    ∙ ap (λ d. put c.args.field.now.name d members) c.in_ok-json_of_value.ensures)
