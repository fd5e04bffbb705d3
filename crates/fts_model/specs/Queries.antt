-- The documents that a query matches, and the requests about them.
use Rattle.std.specs.Prelude.{◌≡◌, ℕ, ◌+◌, ◌==◌, ℤ, pos, ◌+ℤ◌, ◌&&◌, ◌||◌, not, nat_lt, nat_le, int_lt, Bool, true}
use Rattle.std.specs.Prelude.{false, List, [], ◌∷◌, Option, Some, None, Result, Ok, Err, if◌then◌else◌, All, Contains}
use Rattle.std.specs.Ordering.{nat_cmp, is_lt, is_le}
use Rattle.std.specs.Cmp.Lexicographic.{slice_cmp}
use Rattle.std.specs.List.{list_any, list_all, filter}
use Rattle.std.specs.Option.{option_map_or}
use Rattle.std.specs.Str.{bytes_eq}
use Rattle.std.specs.declared.ops.Bound.{Bound}
use Rattle.std.specs.declared.ops.Bound.TheVariants.{Included, Excluded, Unbounded}
use Rattle.fts_text.specs.Tokens.{tokens, tokens_of_texts}
use Rattle.fts_base.specs.declared.refusal.Refusal.{Refusal}
use Rattle.fts_base.specs.declared.refusal.Refusal.TheVariants.{UnknownField, NotANumberField, BadLimit}
use Rattle.fts_model.specs.declared.schema.Kind.{Kind}
use Rattle.fts_model.specs.declared.schema.Kind.TheVariants as kinds
use Rattle.fts_model.specs.declared.schema.Field.{Field}
use Rattle.fts_model.specs.declared.value.Number.{Number}
use Rattle.fts_model.specs.declared.value.Number.TheVariants.{U64, I64}
use Rattle.fts_model.specs.declared.value.FieldValue.{FieldValue}
use Rattle.fts_model.specs.declared.value.FieldValue.TheVariants as values
use Rattle.fts_model.specs.declared.operation.Stamped.{Stamped}
use Rattle.fts_model.specs.declared.query.Order.{Order}
use Rattle.fts_model.specs.declared.query.Top.{Top}
use Rattle.fts_model.specs.declared.query.Request.{Request}
use Rattle.fts_base.specs.Results.{result_and_then, result_map}
use Rattle.fts_model.specs.Schemas.{field_named, holds_numbers, is_ordered}
use Rattle.fts_model.specs.Documents.{DocumentValue, value_in_field, is_term_of}
use Rattle.fts_model.specs.Operations.{has, kind_at, term_fits}
use Rattle.fts_model.specs.QueryValues.{QueryValue, every, nothing, term, phrase, range, boolean, QueryValues}
use Rattle.fts_model.specs.QueryValues.{no_queries, queries}

-- A phrase occurs among tokens at some whole number, possibly below 0: each member of its pattern is a token whose
-- position is that number plus the member's offset.
abbrev pub PhraseIn : List (ℕ × List ℕ) → List (ℕ × List ℕ) → Type 0
PhraseIn ts pattern =
    (shift : ℤ) ×
    All (λ m. (position : ℕ) × (pos position ≡ shift +ℤ pos m.0) × Contains ts (position, m.1)) pattern

-- if one member of a pattern is a certain token, another member is a token as far after it as their offsets differ
abbrev pub stands_with : List (ℕ × List ℕ) → ℕ × List ℕ → ℕ × List ℕ → ℕ × List ℕ → Bool
stands_with ts member token other = list_any (λ t. (t.0 + member.0 == token.0 + other.0) && bytes_eq t.1 other.1) ts

-- a token is the first member of a pattern, and the others are at their offsets from it
abbrev pub leads : List (ℕ × List ℕ) → ℕ × List ℕ → List (ℕ × List ℕ) → ℕ × List ℕ → Bool
leads ts first others token = bytes_eq token.1 first.1 && list_all (stands_with ts first token) others

-- whether a phrase occurs among tokens: some token is the first member of its pattern, and the others are at their
-- offsets. By the law `phrase_stands_at_its_offsets` this decides `PhraseIn`.
abbrev pub phrase_in : List (ℕ × List ℕ) → List (ℕ × List ℕ) → Bool
phrase_in ts [] = true
phrase_in ts (first ∷ others) = list_any (leads ts first others) ts

-- a value contains a phrase
abbrev pub value_has_phrase : List (ℕ × List ℕ) → FieldValue → Bool
value_has_phrase pattern (values.Text text) = phrase_in (tokens text) pattern
value_has_phrase pattern (values.Texts texts) = phrase_in (tokens_of_texts 0 texts) pattern
value_has_phrase pattern (values.Number n) = false

-- a number is less than another of its kind (`number_lt`), or not greater (`number_le`)
abbrev pub number_lt : Number → Number → Bool
number_lt (U64 n) (U64 m) = nat_lt n m
number_lt (I64 n) (I64 m) = int_lt n m
number_lt a b = false

abbrev pub number_le : Number → Number → Bool
number_le (U64 n) (U64 m) = nat_le n m
number_le (I64 n) (I64 m) = not (int_lt m n)
number_le a b = false

-- a text is before another by their bytes, a prefix before what it begins (`text_lt`), or not after it (`text_le`)
abbrev pub text_lt : List ℕ → List ℕ → Bool
text_lt a b = is_lt (slice_cmp nat_cmp a b)

abbrev pub text_le : List ℕ → List ℕ → Bool
text_le a b = is_le (slice_cmp nat_cmp a b)

-- a value is before another of its kind, by number or by bytes (`value_lt`), or not after it (`value_le`)
abbrev pub value_lt : FieldValue → FieldValue → Bool
value_lt (values.Text a) (values.Text b) = text_lt a b
value_lt (values.Number n) (values.Number m) = number_lt n m
value_lt a b = false

abbrev pub value_le : FieldValue → FieldValue → Bool
value_le (values.Text a) (values.Text b) = text_le a b
value_le (values.Number n) (values.Number m) = number_le n m
value_le a b = false

-- a lower and an upper bound admit a value
abbrev pub admits_from : Bound FieldValue → FieldValue → Bool
admits_from (Included bound) value = value_le bound value
admits_from (Excluded bound) value = value_lt bound value
admits_from Unbounded value = true

abbrev pub admits_to : Bound FieldValue → FieldValue → Bool
admits_to (Included bound) value = value_le value bound
admits_to (Excluded bound) value = value_lt value bound
admits_to Unbounded value = true

-- whether a list has a member
abbrev pub is_nonempty : {X : Type 0} → List X → Bool
is_nonempty [] = false
is_nonempty (x ∷ xs) = true

-- whether a list of queries has a member
abbrev pub are_some : QueryValues → Bool
are_some no_queries = false
are_some (queries q qs) = true

-- a query matches a document, by recursion on the query
abbrev mutual
  pub matches : List Field → DocumentValue → QueryValue → Bool
  matches schema document every = true
  matches schema document nothing = false
  matches schema document (term t) = has schema document t
  matches schema document (phrase field pattern) =
      option_map_or (value_has_phrase pattern) (value_in_field document field) false
  matches schema document (range field lower upper) =
      option_map_or (λ v. admits_from lower v && admits_to upper v) (value_in_field document field) false
  matches schema document (boolean must must_not should) =
      all_match schema document must && not (any_matches schema document must_not)
      && (are_some must || any_matches schema document should)

  pub all_match : List Field → DocumentValue → QueryValues → Bool
  all_match schema document no_queries = true
  all_match schema document (queries q qs) = matches schema document q && all_match schema document qs

  pub any_matches : List Field → DocumentValue → QueryValues → Bool
  any_matches schema document no_queries = false
  any_matches schema document (queries q qs) = matches schema document q || any_matches schema document qs

-- the documents, with their stamps, that a query matches
abbrev pub hits : List Field → QueryValue → List (Stamped DocumentValue) → List (Stamped DocumentValue)
hits schema query documents = filter (λ d. matches schema d.value query) documents

-- whether fields of this kind hold phrases
abbrev pub holds_phrases : Kind → Bool
holds_phrases kinds.Text = true
holds_phrases kinds.Keyword = false
holds_phrases kinds.U64 = false
holds_phrases kinds.I64 = false

-- whether a bound is possible for a field of this kind
abbrev pub is_bound_of : Kind → Bound FieldValue → Bool
is_bound_of kind (Included bound) = is_term_of kind bound
is_bound_of kind (Excluded bound) = is_term_of kind bound
is_bound_of kind Unbounded = true

-- whether a range fits fields of this kind
abbrev pub is_range_of : Bound FieldValue → Bound FieldValue → Kind → Bool
is_range_of lower upper kind = is_ordered kind && is_bound_of kind lower && is_bound_of kind upper

-- whether a query fits a schema, or every query of a list does. A term's value is of its field's kind. A phrase is of a
-- text field and not empty. A range is of a field whose values have an order, and so are its bounds.
abbrev mutual
  pub query_fits : List Field → QueryValue → Bool
  query_fits schema every = true
  query_fits schema nothing = true
  query_fits schema (term t) = term_fits schema t
  query_fits schema (phrase field pattern) =
      option_map_or holds_phrases (kind_at schema field) false && is_nonempty pattern
  query_fits schema (range field lower upper) = option_map_or (is_range_of lower upper) (kind_at schema field) false
  query_fits schema (boolean must must_not should) =
      all_fit schema must && all_fit schema must_not && all_fit schema should

  pub all_fit : List Field → QueryValues → Bool
  all_fit schema no_queries = true
  all_fit schema (queries q qs) = query_fits schema q && all_fit schema qs

-- whether the field of this number holds numbers
abbrev pub is_number_field : List Field → ℕ → Bool
is_number_field schema field = option_map_or holds_numbers (kind_at schema field) false

-- a field exists and its values have an order
abbrev pub is_ordered_field : List Field → ℕ → Bool
is_ordered_field schema field = option_map_or is_ordered (kind_at schema field) false

-- whether a top list may have at most this many members
abbrev pub is_limit : ℕ → Bool
is_limit k = nat_le 1 k && nat_le k 10000

-- whether a request fits a schema: its groups are by a field whose values have an order, its top list is by a number
-- field, and its limit is within 1 to 10,000
abbrev pub request_fits : List Field → Request → Bool
request_fits schema request =
    option_map_or (is_ordered_field schema) request.groups true
    && option_map_or (λ top. is_number_field schema top.by && is_limit top.k) request.top true

-- the number of the field of this name, if the field passes a test
abbrev pub field_of : (ℕ → Bool) → List Field → List ℕ → Result ℕ Refusal
field_of is_one schema name =
    option_map_or (λ field. if is_one field then Ok field else Err NotANumberField)
    (field_named name schema) (Err UnknownField)

-- the number of the number field of this name
abbrev pub number_field_named : List Field → List ℕ → Result ℕ Refusal
number_field_named schema name = field_of (is_number_field schema) schema name

-- the number of the field of this name whose values have an order
abbrev pub ordered_field_named : List Field → List ℕ → Result ℕ Refusal
ordered_field_named schema name = field_of (is_ordered_field schema) schema name

-- the field of the requested groups, if there are any
abbrev pub groups_of : List Field → Option (List ℕ) → Result (Option ℕ) Refusal
groups_of schema None = Ok None
groups_of schema (Some name) = result_map Some (ordered_field_named schema name)

-- the requested top list, if there is one
abbrev pub top_of : List Field → Option (List ℕ × ℕ × Order) → Result (Option Top) Refusal
top_of schema None = Ok None
top_of schema (Some (name, k, order)) =
    result_and_then
    (λ field. if is_limit k then Ok (Some (record { by = field; k = k; order = order })) else Err BadLimit)
    (number_field_named schema name)

-- the request for groups and a top list by the names of fields, or the first refusal
abbrev pub request_of : List Field → Option (List ℕ) → Option (List ℕ × ℕ × Order) → Result Request Refusal
request_of schema groups top =
    result_and_then (λ field. result_map (λ list. record { groups = field; top = list }) (top_of schema top))
    (groups_of schema groups)
