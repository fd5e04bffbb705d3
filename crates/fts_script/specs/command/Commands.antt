-- The command that a line of a script is, by the JSON tree that it reads as.
use Rattle.std.specs.Prelude.{ℕ, nat_lt, Bool, true, false, List, [], ◌∷◌, length, codes, Option}
use Rattle.std.specs.Prelude.{Some, None, Result, Err, if◌then◌else◌, option_map, option_and_then}
use Rattle.std.specs.List.{list_all, list_any}
use Rattle.std.specs.Option.{ok_or}
use Rattle.std.specs.Str.{is_utf8, bytes_eq}
use Rattle.serde_json.specs.Data.{Data, object, Items, no_items, item, Members, no_members, member}
use Rattle.serde_json.specs.Find.{get, as_str, as_bool, as_number, as_u64, as_array}
use Rattle.serde_json.specs.Read.{read}
use Rattle.fts_model.specs.declared.schema.Kind.{Kind}
use Rattle.fts_model.specs.declared.schema.Kind.TheVariants as kinds
use Rattle.fts_model.specs.declared.schema.Field.{Field}
use Rattle.fts_model.specs.Documents.{member_names}
use Rattle.fts_model.specs.declared.query.Order.{Order}
use Rattle.fts_model.specs.declared.query.Order.TheVariants as orders
use Rattle.fts_base.specs.declared.refusal.Refusal.{Refusal}
use Rattle.fts_base.specs.declared.refusal.Refusal.TheVariants.{LineTooLong, BadJson, BadCommand}
use Rattle.fts_base.specs.Results.{result_and_then}

-- the most bytes of a line that is read
abbrev pub longest : ℕ
longest = 4194304

-- what a search asks for: a query, groups by a field, and a top list of this many hits by a field in an order
pub record Search : Type 0 where
  pub query : List ℕ
  pub groups : Option (List ℕ)
  pub top : Option (List ℕ × ℕ × Order)

pub data Command : Type 0 where
  Schema : List Field → Command
  Add : Data → Command
  Delete : List ℕ → Data → Command
  DeleteAll : Command
  Commit : Command
  Rollback : Command
  Merge : Command
  Find : Search → Command

-- whether each of these members has one of the names
abbrev pub are_named : List (List ℕ) → Members → Bool
are_named names ms = list_all (λ name. list_any (bytes_eq name) names) (member_names ms)

-- whether an object has no other members than those of these names; what isn't an object has no member
abbrev pub has_only : List (List ℕ) → Data → Bool
has_only names (object ms) = are_named names ms
has_only names d = true

-- the text at a name
abbrev pub text_at : List ℕ → Data → Option (List ℕ)
text_at name d = option_and_then as_str (get name d)

-- the kind of this name
abbrev pub kind_named : List ℕ → Option Kind
kind_named name =
    if bytes_eq name (codes "text") then Some kinds.Text
    else if bytes_eq name (codes "keyword") then Some kinds.Keyword
    else if bytes_eq name (codes "u64") then Some kinds.U64
    else if bytes_eq name (codes "i64") then Some kinds.I64
    else None

-- a flag: false if it isn't there
abbrev pub flag_or_false : Option Data → Option Bool
flag_or_false None = Some false
flag_or_false (Some d) = as_bool d

-- a field of its parts, if each is there and there is nothing else
abbrev pub field_of_parts : Bool → Option (List ℕ) → Option Kind → Option Bool → Option Field
field_of_parts false name kind default = None
field_of_parts true None kind default = None
field_of_parts true (Some name) None default = None
field_of_parts true (Some name) (Some kind) None = None
field_of_parts true (Some name) (Some kind) (Some default) =
    Some (record { name = name; kind = kind; default = default })

-- the field that an object is: `name`, `kind` and, if wanted, `default`
abbrev pub field_in : Data → Option Field
field_in d = field_of_parts (has_only (codes "name" ∷ codes "kind" ∷ codes "default" ∷ []) d)
    (text_at (codes "name") d) (option_and_then kind_named (text_at (codes "kind") d))
    (flag_or_false (get (codes "default") d))

-- the fields that objects are, if each is one
abbrev pub fields_in : Items → Option (List Field)
fields_in no_items = Some []
fields_in (item d ds) = option_and_then (λ field. option_map (λ fields. field ∷ fields) (fields_in ds)) (field_in d)

-- the one member of an object that has just one, by its name
abbrev pub only_member : Data → Option (List ℕ × Data)
only_member (object (member name value no_members)) = Some (name, value)
only_member d = None

-- the value of an optional member: nothing if the member isn't there, and no value if it has the wrong form
abbrev pub if_there : {X : Type 0} → (Data → Option X) → Option Data → Option (Option X)
if_there f None = Some None
if_there f (Some d) = option_map Some (f d)

-- a whole number that fits 64 bits
abbrev pub whole_number : Data → Option ℕ
whole_number d = option_and_then as_u64 (as_number d)

-- the order of this name
abbrev pub order_named : List ℕ → Option Order
order_named name =
    if bytes_eq name (codes "rising") then Some orders.Rising
    else if bytes_eq name (codes "falling") then Some orders.Falling
    else None

-- a top list of its parts, if each is there
abbrev pub top_of_parts : Option (List ℕ) → Option ℕ → Option Order → Option (List ℕ × ℕ × Order)
top_of_parts None k order = None
top_of_parts (Some by) None order = None
top_of_parts (Some by) (Some k) None = None
top_of_parts (Some by) (Some k) (Some order) = Some (by, k, order)

-- the top list that an object asks for: `by`, `k` and `order`, and nothing else
abbrev pub top_in : Data → Option (List ℕ × ℕ × Order)
top_in d =
    if has_only (codes "by" ∷ codes "k" ∷ codes "order" ∷ []) d
    then top_of_parts (text_at (codes "by") d) (option_and_then whole_number (get (codes "k") d))
    (option_and_then order_named (text_at (codes "order") d))
    else None

-- a search of its parts, if each is there
abbrev pub search_of_parts : Option (List ℕ) → Option (Option (List ℕ)) → Option (Option (List ℕ × ℕ × Order)) →
    Option Search
search_of_parts None groups top = None
search_of_parts (Some query) None top = None
search_of_parts (Some query) (Some groups) None = None
search_of_parts (Some query) (Some groups) (Some top) = Some (record { query = query; groups = groups; top = top })

-- the search that an object asks for: `query` and, if wanted, `groups` and `top`, and nothing else
abbrev pub search_in : Data → Option Search
search_in d =
    if has_only (codes "query" ∷ codes "groups" ∷ codes "top" ∷ []) d
    then search_of_parts (text_at (codes "query") d) (if_there as_str (get (codes "groups") d))
    (if_there top_in (get (codes "top") d))
    else None

-- a schema of the fields that are listed
abbrev pub schema_in : Data → Option Command
schema_in d = option_map Schema (option_and_then fields_in (as_array d))

-- a command that asks for `true`
abbrev pub command_if : Command → Option Bool → Option Command
command_if command (Some true) = Some command
command_if command (Some false) = None
command_if command None = None

-- a field's name and a value: the one member of an object
abbrev pub delete_in : Data → Option Command
delete_in d = option_map (λ m. Delete m.0 m.1) (only_member d)

-- the command of a name, if its member's value has the form that it asks for
abbrev pub command_named : List ℕ → Data → Option Command
command_named name value =
    if bytes_eq name (codes "schema") then schema_in value
    else if bytes_eq name (codes "add") then Some (Add value)
    else if bytes_eq name (codes "delete") then delete_in value
    else if bytes_eq name (codes "delete_all") then command_if DeleteAll (as_bool value)
    else if bytes_eq name (codes "commit") then command_if Commit (as_bool value)
    else if bytes_eq name (codes "rollback") then command_if Rollback (as_bool value)
    else if bytes_eq name (codes "merge") then command_if Merge (as_bool value)
    else if bytes_eq name (codes "search") then option_map Find (search_in value)
    else None

-- the command that a JSON value is
abbrev pub command_in : Data → Option Command
command_in d = option_and_then (λ m. command_named m.0 m.1) (only_member d)

-- the JSON value that a line is, if it is UTF-8 and JSON
unfoldable pub json_in : List ℕ → Option Data
json_in line = if is_utf8 line then read line else None

-- the command that a line is, or why it is none
abbrev pub command : List ℕ → Result Command Refusal
command line =
    if nat_lt longest (length line) then Err LineTooLong
    else result_and_then (λ value. ok_or (command_in value) BadCommand) (ok_or (json_in line) BadJson)
