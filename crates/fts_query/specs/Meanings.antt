-- The meaning of the parts of a query under a schema.
use Rattle.std.specs.Prelude.{ℕ, ◌+◌, ◌-◌, ◌*◌, ◌^◌, ◌==◌, ◌&&◌, nat_lt, nat_le, Bool, false, List, [], ◌∷◌, map, drop}
use Rattle.std.specs.Prelude.{Option, Some, None, Result, Ok, Err, if◌then◌else◌, option_map, pos, neg_ℤ}
use Rattle.std.specs.List.{list_all}
use Rattle.std.specs.Option.{option_map_or}
use Rattle.std.specs.declared.ops.Bound.{Bound}
use Rattle.std.specs.declared.ops.Bound.TheVariants.{Included, Excluded, Unbounded}
use Rattle.fts_text.specs.Tokens.{tokens}
use Rattle.fts_model.specs.declared.schema.Kind.{Kind}
use Rattle.fts_model.specs.declared.schema.Kind.TheVariants as kinds
use Rattle.fts_model.specs.declared.schema.Field.{Field}
use Rattle.fts_model.specs.declared.value.Number.{Number}
use Rattle.fts_model.specs.declared.value.Number.TheVariants as numbers
use Rattle.fts_model.specs.declared.value.FieldValue.{FieldValue}
use Rattle.fts_model.specs.declared.value.FieldValue.TheVariants as values
use Rattle.fts_base.specs.Results.{result_and_then, result_map}
use Rattle.fts_model.specs.Schemas.{field_named, is_ordered}
use Rattle.fts_model.specs.Operations.{kind_at}
use Rattle.fts_query.specs.declared.error.QueryError.{QueryError}
use Rattle.fts_query.specs.declared.error.QueryError.TheVariants.{UnknownField, BadNumber, RangeOnText, NoDefaultField}
use Rattle.fts_query.specs.declared.error.QueryError.TheVariants.{AllNegative}
use Rattle.fts_query.specs.declared.clauses.Occur.{Occur}
use Rattle.fts_query.specs.declared.clauses.Occur.TheVariants.{Must, MustNot, Should}
use Rattle.fts_query.specs.declared.clauses.Modifier.{Modifier}
use Rattle.fts_query.specs.declared.clauses.Modifier.TheVariants.{Plain, Plus, Minus}
use Rattle.fts_query.specs.Characters.{minus, digit_0, digit_9}
use Rattle.fts_model.specs.QueryValues.{QueryValue, nothing, term, phrase, range, boolean, query_list}

-- the meaning of a part of a text: a query, or the first error in it
abbrev pub Meaning : Type 0
Meaning = Result QueryValue QueryError

-- a clause of a Boolean node: its role in the node, and its meaning
abbrev pub Clause : Type 0
Clause = Occur × Meaning

-- the clauses' queries, each with its role in the node, or the first error
abbrev pub members : List Clause → Result (List (Occur × QueryValue)) QueryError
members [] = Ok []
members (c ∷ cs) = result_and_then (λ q. result_map (λ qs. (c.0, q) ∷ qs) (members cs)) c.1

abbrev pub musts : List (Occur × QueryValue) → List QueryValue
musts [] = []
musts ((Must, q) ∷ cs) = q ∷ musts cs
musts ((MustNot, q) ∷ cs) = musts cs
musts ((Should, q) ∷ cs) = musts cs

abbrev pub must_nots : List (Occur × QueryValue) → List QueryValue
must_nots [] = []
must_nots ((Must, q) ∷ cs) = must_nots cs
must_nots ((MustNot, q) ∷ cs) = q ∷ must_nots cs
must_nots ((Should, q) ∷ cs) = must_nots cs

abbrev pub shoulds : List (Occur × QueryValue) → List QueryValue
shoulds [] = []
shoulds ((Must, q) ∷ cs) = shoulds cs
shoulds ((MustNot, q) ∷ cs) = shoulds cs
shoulds ((Should, q) ∷ cs) = q ∷ shoulds cs

-- a Boolean query of musts, must-nots and shoulds; must-nots alone are an error
abbrev pub boolean_of : List QueryValue → List QueryValue → List QueryValue → Meaning
boolean_of [] ns [] = Err AllNegative
boolean_of [] ns (q ∷ ss) = Ok (boolean (query_list []) (query_list ns) (query_list (q ∷ ss)))
boolean_of (q ∷ ms) ns ss = Ok (boolean (query_list (q ∷ ms)) (query_list ns) (query_list ss))

-- a Boolean node of clauses; its own error comes after those of its clauses
unfoldable pub node : List Clause → Meaning
node cs = result_and_then (λ qs. boolean_of (musts qs) (must_nots qs) (shoulds qs)) (members cs)

-- a unit with its modifier
abbrev pub Factor : Type 0
Factor = Modifier × Meaning

abbrev pub occur_in_conjunction : Modifier → Occur
occur_in_conjunction Plain = Must
occur_in_conjunction Plus = Must
occur_in_conjunction Minus = MustNot

abbrev pub occur_alone : Modifier → Occur
occur_alone Plain = Should
occur_alone Plus = Must
occur_alone Minus = MustNot

-- a conjunction of factors: the node of their clauses
abbrev pub conjunction : List Factor → Meaning
conjunction fs = node (map (λ f. (occur_in_conjunction f.0, f.1)) fs)

-- a disjunction of conjunctions: a node with a should for each
abbrev pub disjunction : List (List Factor) → Meaning
disjunction fss = node (map (λ fs. (Should, conjunction fs)) fss)

-- the clause of a disjunction in its list: a single factor has the role of its modifier, and any longer disjunction is
-- a should
unfoldable pub disjunction_clause : List (List Factor) → Clause
disjunction_clause [] = (Should, disjunction [])
disjunction_clause ([] ∷ []) = (Should, conjunction [])
disjunction_clause ((f ∷ []) ∷ []) = (occur_alone f.0, f.1)
disjunction_clause ((f ∷ g ∷ fs) ∷ []) = (Should, conjunction (f ∷ g ∷ fs))
disjunction_clause (c ∷ d ∷ cs) = (Should, disjunction (c ∷ d ∷ cs))

-- a list of disjunctions: the node of their clauses
unfoldable pub list_meaning : List (List (List Factor)) → Meaning
list_meaning disjunctions = node (map disjunction_clause disjunctions)

abbrev pub is_digit : ℕ → Bool
is_digit b = nat_le digit_0 b && nat_le b digit_9

-- the number of digits that follow others
abbrev pub decimal_after : ℕ → List ℕ → ℕ
decimal_after n [] = n
decimal_after n (b ∷ bs) = decimal_after (n * 10 + (b - digit_0)) bs

abbrev pub decimal : List ℕ → ℕ
decimal digits = decimal_after 0 digits

-- whether a text is one or more digits
abbrev pub are_digits : List ℕ → Bool
are_digits [] = false
are_digits (b ∷ bs) = list_all is_digit (b ∷ bs)

-- the number of a text of digits, if it is below a limit
unfoldable pub number_below : ℕ → List ℕ → Option ℕ
number_below limit text = if are_digits text && nat_lt (decimal text) limit then Some (decimal text) else None

abbrev pub begins_minus : List ℕ → Bool
begins_minus [] = false
begins_minus (b ∷ bs) = b == minus

-- the number of a text in a field of this kind
abbrev pub number_in : Kind → List ℕ → Option Number
number_in kinds.Text text = None
number_in kinds.Keyword text = None
number_in kinds.U64 text = option_map numbers.U64 (number_below (2 ^ 64) text)
number_in kinds.I64 text =
    if begins_minus text then option_map (λ n. numbers.I64 (neg_ℤ (pos n))) (number_below (2 ^ 63 + 1) (drop 1 text))
    else option_map (λ n. numbers.I64 (pos n)) (number_below (2 ^ 63) text)

-- the value of a text in a number field
abbrev pub number_value : Kind → List ℕ → Result FieldValue QueryError
number_value kind text = option_map_or (λ n. Ok (values.Number n)) (number_in kind text) (Err BadNumber)

-- the value of a text in a field whose values have an order: a keyword as it is written, or a number
abbrev pub value_in : Kind → List ℕ → Result FieldValue QueryError
value_in kinds.Text text = Err RangeOnText
value_in kinds.Keyword text = Ok (values.Text text)
value_in kinds.U64 text = number_value kinds.U64 text
value_in kinds.I64 text = number_value kinds.I64 text

-- the query for the documents with a value in a field
abbrev pub with_value : ℕ → FieldValue → QueryValue
with_value field value = term (record { field = field; value = value })

-- the query for the documents with tokens in a field: no document for no token, a term for one, and for several a
-- phrase of their distances from the first
abbrev pub with_tokens : ℕ → List (ℕ × List ℕ) → QueryValue
with_tokens field [] = nothing
with_tokens field (t ∷ []) = with_value field (values.Text t.1)
with_tokens field (t ∷ u ∷ ts) = phrase field (map (λ x. (x.0 - t.0, x.1)) (t ∷ u ∷ ts))

-- the meaning of a word or a quoted text in a field of this kind
abbrev pub literal_in : ℕ → Kind → List ℕ → Meaning
literal_in field kinds.Text text = Ok (with_tokens field (tokens text))
literal_in field kinds.Keyword text = Ok (with_value field (values.Text text))
literal_in field kinds.U64 text = result_map (with_value field) (value_in kinds.U64 text)
literal_in field kinds.I64 text = result_map (with_value field) (value_in kinds.I64 text)

-- the clauses of a literal in the default fields, in order: a should in each; the first field has this number
abbrev pub default_clauses : ℕ → List Field → List ℕ → List Clause
default_clauses i [] text = []
default_clauses i (field ∷ fields) text =
    if field.default then (Should, literal_in i field.kind text) ∷ default_clauses (i + 1) fields text
    else default_clauses (i + 1) fields text

-- the node of the default fields, or an error if there is none
abbrev pub some_default : List Clause → Meaning
some_default [] = Err NoDefaultField
some_default (c ∷ cs) = node (c ∷ cs)

-- the meaning of a literal without a field
unfoldable pub literal_anywhere : List Field → List ℕ → Meaning
literal_anywhere schema text = some_default (default_clauses 0 schema text)

-- a bound in a field whose values have an order
abbrev pub bound_in : Kind → Bound (List ℕ) → Result (Bound FieldValue) QueryError
bound_in kind (Included text) = result_map Included (value_in kind text)
bound_in kind (Excluded text) = result_map Excluded (value_in kind text)
bound_in kind Unbounded = Ok Unbounded

-- the query for the documents with a value of a field within bounds, or the first error in the bounds
abbrev pub within : ℕ → Result (Bound FieldValue) QueryError → Result (Bound FieldValue) QueryError → Meaning
within field lower upper = result_and_then (λ low. result_map (range field low) upper) lower

-- what follows a field and a colon: a literal, or bounds
pub data Value : Type 0 where
  literal : List ℕ → Value
  between : Bound (List ℕ) → Bound (List ℕ) → Value

-- the meaning of what follows a field, for the field of this number and kind
abbrev pub meaning_in : ℕ → Kind → Value → Meaning
meaning_in field kind (literal text) = literal_in field kind text
meaning_in field kind (between lower upper) =
    if is_ordered kind then within field (bound_in kind lower) (bound_in kind upper) else Err RangeOnText

abbrev pub meaning_at : List Field → Value → ℕ → Meaning
meaning_at schema value field =
    option_map_or (λ kind. meaning_in field kind value) (kind_at schema field) (Err UnknownField)

-- the meaning of a field, by its name, with what follows it
unfoldable pub field_meaning : List Field → List ℕ → Value → Meaning
field_meaning schema name value = option_map_or (meaning_at schema value) (field_named name schema) (Err UnknownField)
