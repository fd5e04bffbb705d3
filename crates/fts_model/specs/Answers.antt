-- The answer to a query and a request.
use Rattle.std.specs.Prelude.{◌≡◌, ◌↔◌, ℕ, ◌+◌, ◌<◌, nat_lt, min, Bool, true, false, List, [], ◌∷◌, length, take, fold}
use Rattle.std.specs.Prelude.{Option, Some, None, if◌then◌else◌, option_map, option_and_then, count_by, All, AllPairs}
use Rattle.std.specs.Prelude.{Contains}
use Rattle.std.specs.Ordering.{nat_cmp, int_cmp, match_ordering, is_eq}
use Rattle.std.specs.Cmp.Lexicographic.{slice_cmp}
use Rattle.std.specs.List.{filter_map}
use Rattle.std.specs.Option.{option_map_or}
use Rattle.std.specs.declared.cmp.Ordering.{Ordering}
use Rattle.std.specs.declared.cmp.Ordering.TheVariants.{Less, Greater}
use Rattle.fts_model.specs.declared.schema.Field.{Field}
use Rattle.fts_model.specs.declared.value.Number.{Number}
use Rattle.fts_model.specs.declared.value.Number.TheVariants.{U64, I64}
use Rattle.fts_model.specs.declared.value.FieldValue.{FieldValue}
use Rattle.fts_model.specs.declared.value.FieldValue.TheVariants as values
use Rattle.fts_model.specs.declared.value.GroupValue.{GroupValue}
use Rattle.fts_model.specs.declared.value.GroupValue.TheVariants as group_values
use Rattle.fts_model.specs.declared.operation.Stamped.{Stamped}
use Rattle.fts_model.specs.declared.query.Order.{Order}
use Rattle.fts_model.specs.declared.query.Order.TheVariants.{Rising, Falling}
use Rattle.fts_model.specs.declared.query.Request.{Request}
use Rattle.fts_model.specs.declared.answer.Hit.{Hit}
use Rattle.fts_model.specs.Documents.{DocumentValue, value_in_field}
use Rattle.fts_model.specs.QueryValues.{QueryValue}
use Rattle.fts_model.specs.Queries.{hits}

-- an answer: the number of hits, the groups if they were asked for, and the top list if it was
pub record AnswerValue : Type 0 where
  pub count : ℕ
  pub groups : Option (List (GroupValue × ℕ))
  pub top : Option (List Hit)

-- the number of a value, if it is one
abbrev pub number_in_value : FieldValue → Option Number
number_in_value (values.Text text) = None
number_in_value (values.Texts texts) = None
number_in_value (values.Number n) = Some n

-- the number that a document has in a field, if it has one
abbrev pub number_in_field : DocumentValue → ℕ → Option Number
number_in_field document field = option_and_then number_in_value (value_in_field document field)

-- the order of numbers; those of a `u64` and of an `i64` field, which never meet, are ordered by kind
abbrev pub number_cmp : Number → Number → Ordering
number_cmp (U64 n) (U64 m) = nat_cmp n m
number_cmp (U64 n) (I64 m) = Less
number_cmp (I64 n) (U64 m) = Greater
number_cmp (I64 n) (I64 m) = int_cmp n m

-- the value by which a hit is counted in a group, from its value in the field, if it is a keyword or a number
abbrev pub group_of : FieldValue → Option GroupValue
group_of (values.Text text) = Some (group_values.Keyword text)
group_of (values.Texts texts) = None
group_of (values.Number (U64 n)) = Some (group_values.U64 n)
group_of (values.Number (I64 n)) = Some (group_values.I64 n)

-- the value by which a document is counted in a group of a field, if it has one
abbrev pub group_in : DocumentValue → ℕ → Option GroupValue
group_in document field = option_and_then group_of (value_in_field document field)

-- the order of group values: numbers by their values, keywords by their bytes; those of fields of different kinds,
-- which never meet, are ordered by kind
abbrev pub group_cmp : GroupValue → GroupValue → Ordering
group_cmp (group_values.U64 n) (group_values.U64 m) = nat_cmp n m
group_cmp (group_values.U64 n) (group_values.I64 m) = Less
group_cmp (group_values.U64 n) (group_values.Keyword text) = Less
group_cmp (group_values.I64 n) (group_values.U64 m) = Greater
group_cmp (group_values.I64 n) (group_values.I64 m) = int_cmp n m
group_cmp (group_values.I64 n) (group_values.Keyword text) = Less
group_cmp (group_values.Keyword text) (group_values.U64 m) = Greater
group_cmp (group_values.Keyword text) (group_values.I64 m) = Greater
group_cmp (group_values.Keyword text) (group_values.Keyword other) = slice_cmp nat_cmp text other

-- the values that the hits have in a field
abbrev pub groups_in : ℕ → List (Stamped DocumentValue) → List GroupValue
groups_in field hits = filter_map (λ hit. group_in hit.value field) hits

-- counts by value, in the order of the values, with one more for this value
abbrev pub count_one : {V : Type 0} → (V → V → Ordering) → List (V × ℕ) → V → List (V × ℕ)
count_one cmp [] v = (v, 1) ∷ []
count_one cmp (group ∷ groups) v =
    match_ordering (cmp v group.0)
    ((v, 1) ∷ group ∷ groups)
    ((group.0, group.1 + 1) ∷ groups)
    (group ∷ count_one cmp groups v)

-- each value that a hit has in a field, rising, with the number of hits that have it
abbrev pub groups : ℕ → List (Stamped DocumentValue) → List (GroupValue × ℕ)
groups field hits = fold (count_one group_cmp) [] (groups_in field hits)

-- whether a document has this value in a field
abbrev pub is_in_group : ℕ → GroupValue → DocumentValue → Bool
is_in_group field v document = option_map_or (λ w. is_eq (group_cmp v w)) (group_in document field) false

-- the number of hits that have this value in a field
abbrev pub hits_with : ℕ → GroupValue → List (Stamped DocumentValue) → ℕ
hits_with field v hits = count_by (λ hit. is_in_group field v hit.value) hits

-- a list is the groups of hits: its values rise, and it has a value exactly if some hit has it, with the number of
-- those hits
pub record IsGroups (field : ℕ) (hits : List (Stamped DocumentValue)) (list : List (GroupValue × ℕ)) : Type 0 where
  pub rising : AllPairs (λ a b. group_cmp a.0 b.0 ≡ Less) list
  pub counted : (v : GroupValue) (count : ℕ) →
      Contains list (v, count) ↔ ((count ≡ hits_with field v hits) × (0 < count))

-- a hit with its number in a field, if it has one
abbrev pub hit_in : ℕ → Stamped DocumentValue → Option Hit
hit_in field hit =
    option_map (λ n. record { stamp = hit.stamp; value = n; document = hit.value })
    (number_in_field hit.value field)

-- the hits that have a number in a field
abbrev pub hits_in : ℕ → List (Stamped DocumentValue) → List Hit
hits_in field hits = filter_map (hit_in field) hits

-- the order of two numbers in a top list
abbrev pub cmp_by : Order → Number → Number → Ordering
cmp_by Rising n m = number_cmp n m
cmp_by Falling n m = number_cmp m n

-- one hit comes before another in a top list: by their numbers, and if these are equal by the smaller stamp
abbrev pub comes_before : Order → Hit → Hit → Bool
comes_before order a b = match_ordering (cmp_by order a.value b.value) true (nat_lt a.stamp b.stamp) false

-- a list is the top list of hits: at most `k` hits that have a number in the field, each before the next, and all
-- before those left out
pub record IsTop (k : ℕ) (order : Order) (field : ℕ) (hits : List (Stamped DocumentValue))
    (list : List Hit) : Type 0 where
  pub long : length list ≡ min k (length (hits_in field hits))
  pub members : All (Contains (hits_in field hits)) list
  pub ordered : AllPairs (λ a b. comes_before order a b ≡ true) list
  pub first : (other : Hit) → Contains (hits_in field hits) other → ¬ Contains list other
      → All (λ member. comes_before order member other ≡ true) list

-- an ordered list of hits with one more, inserted before the first that it comes before
abbrev pub put_hit : Order → List Hit → Hit → List Hit
put_hit order [] hit = hit ∷ []
put_hit order (other ∷ others) hit =
    if comes_before order hit other then hit ∷ other ∷ others else other ∷ put_hit order others hit

-- the hits that have a number in a field, in the order of a top list
abbrev pub sorted_hits : Order → ℕ → List (Stamped DocumentValue) → List Hit
sorted_hits order field hits = fold (put_hit order) [] (hits_in field hits)

-- the top list: the first `k` hits in the order of their values and stamps
abbrev pub top : ℕ → Order → ℕ → List (Stamped DocumentValue) → List Hit
top k order field hits = take k (sorted_hits order field hits)

-- the answer for these hits: the count, and the groups and the top list if they are asked for
abbrev pub answer_of : Request → List (Stamped DocumentValue) → AnswerValue
answer_of request hits = record {
  count = length hits;
  groups = option_map (λ field. groups field hits) request.groups;
  top = option_map (λ t. top t.k t.order t.by hits) request.top;
}

-- the answer to a query and a request over documents
abbrev pub answer : List Field → QueryValue → Request → List (Stamped DocumentValue) → AnswerValue
answer schema query request documents = answer_of request (hits schema query documents)
