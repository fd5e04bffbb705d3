-- An answer as JSON.
use Rattle.std.specs.Prelude.{ℕ, List, [], ◌∷◌, codes, Option, Some, None, option_map}
use Rattle.serde_json.specs.Data.{Data, number, unsigned, array, Items, item, no_items, object, Members}
use Rattle.serde_json.specs.Data.{member, no_members}
use Rattle.fts_model.specs.declared.value.Number.{Number}
use Rattle.fts_model.specs.declared.value.Number.TheVariants.{U64, I64}
use Rattle.fts_model.specs.declared.value.FieldValue.TheVariants as values
use Rattle.fts_model.specs.declared.value.GroupValue.{GroupValue}
use Rattle.fts_model.specs.declared.value.GroupValue.TheVariants as group_values
use Rattle.fts_model.specs.declared.answer.Hit.{Hit}
use Rattle.fts_model.specs.Documents.{data_of, json_of}
use Rattle.fts_model.specs.Answers.{AnswerValue}

-- a number as JSON
abbrev pub number_data : Number → Data
number_data n = data_of (values.Number n)

-- the value of a group as JSON
abbrev pub value_data : GroupValue → Data
value_data (group_values.U64 n) = number_data (U64 n)
value_data (group_values.I64 n) = number_data (I64 n)
value_data (group_values.Keyword text) = data_of (values.Text text)

-- a value and how many hits have it, as JSON
abbrev pub group_data : GroupValue × ℕ → Data
group_data group = array (item (value_data group.0) (item (number (unsigned group.1)) no_items))

abbrev pub groups_data : List (GroupValue × ℕ) → Items
groups_data [] = no_items
groups_data (group ∷ groups) = item (group_data group) (groups_data groups)

-- a hit of a top list as JSON
abbrev pub hit_data : Hit → Data
hit_data hit =
    object (member (codes "doc") (json_of hit.document) (member (codes "stamp") (number (unsigned hit.stamp))
    (member (codes "value") (number_data hit.value) no_members)))

abbrev pub hits_data : List Hit → Items
hits_data [] = no_items
hits_data (hit ∷ hits) = item (hit_data hit) (hits_data hits)

-- a list in front of members, if it is asked for
abbrev pub list_member : List ℕ → Option Items → Members → Members
list_member name None ms = ms
list_member name (Some items) ms = member name (array items) ms

-- an answer as JSON
abbrev pub answer_data : AnswerValue → Data
answer_data a =
    object (member (codes "count") (number (unsigned a.count))
    (list_member (codes "groups") (option_map groups_data a.groups)
    (list_member (codes "top") (option_map hits_data a.top) no_members)))
