-- The query of a text fits the schema.
use Rattle.std.proofs.Common.{◌≡◌, ℕ, ◌+◌, ◌^◌, Bool, true, false, List, [], ◌∷◌, length, get_or, drop, map, Option, Some, None, Result, Ok, Err, refl, sym, ap}
use Rattle.std.proofs.Common.{subst, ◌∙◌, inl, inr, pos, neg_ℤ, slice_get, option_map}
use Rattle.std.specs.Option.{option_map_or}
use Rattle.std.specs.declared.ops.Bound.{Bound}
use Rattle.std.specs.declared.ops.Bound.TheVariants.{Included, Excluded, Unbounded}
use Rattle.std.proofs.lemmas.Bool.{cases_Bool, cases_lt}
use Rattle.std.proofs.lemmas.List.{drop_more, drop_all}
use Rattle.std.proofs.lemmas.Option.{slice_get-get_or}
use Rattle.std.specs.Cmp.Derive.{both_true}
use Rattle.std.proofs.Common.{if◌then◌else◌}
use Rattle.fts_text.specs.Tokens.{tokens}
use Rattle.fts_model.specs.declared.schema.Kind.{Kind}
use Rattle.fts_model.specs.declared.schema.Field.{Field}
use Rattle.fts_model.specs.declared.value.FieldValue.{FieldValue}
use Rattle.fts_base.specs.Results.{result_and_then, result_map}
use Rattle.fts_model.specs.Schemas.{field_named, is_ordered}
use Rattle.fts_model.specs.Documents.{is_term_of}
use Rattle.fts_model.specs.Operations.{kind_at}
use Rattle.fts_model.specs.Queries.{query_fits, all_fit, holds_phrases, is_range_of, is_bound_of}
use Rattle.fts_query.specs.declared.error.QueryError.{QueryError}
use Rattle.fts_query.specs.declared.error.QueryError.TheVariants.{BadNumber, UnknownField}
use Rattle.fts_query.specs.declared.clauses.Occur.{Occur}
use Rattle.fts_query.specs.declared.clauses.Occur.TheVariants.{Must, MustNot, Should}
use Rattle.fts_model.specs.QueryValues.{QueryValue, query_list}
use Rattle.fts_query.specs.Meanings.{Meaning, Factor, Clause, members, musts, must_nots, shoulds, boolean_of, node, conjunction, disjunction}
use Rattle.fts_query.specs.Meanings.{disjunction_clause, list_meaning, occur_in_conjunction, number_below, value_in, begins_minus, with_value, with_tokens}
use Rattle.fts_query.specs.Meanings.{literal_in, default_clauses, some_default, literal_anywhere, bound_in, within, Value, literal, between, meaning_in}
use Rattle.fts_query.specs.Meanings.{meaning_at, field_meaning}
use Rattle.fts_query.specs.Grammar.{IsUnit, IsFactor, IsConjunction, IsDisjunction, IsList, IsQuery}
use Rattle.fts_model.specs.declared.schema.Kind.TheVariants as kinds
use Rattle.fts_model.specs.declared.value.Number.TheVariants as numbers
use Rattle.fts_model.specs.declared.value.FieldValue.TheVariants as values
use Rattle.fts_query.specs.Grammar

-- a field by its number among the fields from that number
slice_get-drop : {X : Type 0} (xs ys : List X) (i : ℕ) (y : X) → drop i xs ≡ y ∷ ys → (slice_get xs i ≡ Some y) × (drop (i + 1) xs ≡ ys)
slice_get-drop {X = X} xs ys i y e =
    elim (cases_lt i (length xs)) [
      | inl l ↦
          let a : ◌≡◌ {A = List X} (get_or xs i y ∷ drop (i + 1) xs) (y ∷ ys) = sym (drop_more xs i y l) ∙ e in
          let b : get_or xs i y ≡ y = cc in
          let d : drop (i + 1) xs ≡ ys = cc in
          (slice_get-get_or xs i y l ∙ ap (λ (z : X). Some z) b, d)
      | inr l ↦ absurd (let a = drop_all i xs l in cc)
    ]

module _ (schema : List Field) where
  -- a query fits
  abbrev fits : QueryValue → Type 0
  fits q = query_fits schema q ≡ true

  -- queries fit
  abbrev fit : List QueryValue → Type 0
  fit qs = all_fit schema (query_list qs) ≡ true

  -- a meaning fits, if it is no error
  abbrev pub MeaningFits : Meaning → Type 0
  MeaningFits (Ok q) = fits q
  MeaningFits (Err e) = Unit {0}

  -- clauses fit
  abbrev ClausesFit : List Clause → Type 0
  ClausesFit [] = Unit {0}
  ClausesFit (c ∷ cs) = MeaningFits c.1 × ClausesFit cs

  -- factors fit
  abbrev FactorsFit : List Factor → Type 0
  FactorsFit [] = Unit {0}
  FactorsFit (f ∷ fs) = MeaningFits f.1 × FactorsFit fs

  -- the factors of conjunctions fit
  abbrev DisjunctionFits : List (List Factor) → Type 0
  DisjunctionFits [] = Unit {0}
  DisjunctionFits (c ∷ cs) = FactorsFit c × DisjunctionFits cs

  -- the factors of disjunctions fit
  abbrev ListFits : List (List (List Factor)) → Type 0
  ListFits [] = Unit {0}
  ListFits (c ∷ cs) = DisjunctionFits c × ListFits cs

  -- the queries of the members fit
  abbrev MembersFit : Result (List (Occur × QueryValue)) QueryError → Type 0
  MembersFit (Err e) = Unit {0}
  MembersFit (Ok qs) = fit (musts qs) × fit (must_nots qs) × fit (shoulds qs)

  -- members with one more fit
  cons_fits : (occur : Occur) (m : Meaning) (r : Result (List (Occur × QueryValue)) QueryError) → MeaningFits m → MembersFit r →
      MembersFit (result_and_then (λ q. result_map (λ qs. (occur, q) ∷ qs) r) m)
  cons_fits occur (Err e) r a b = tt
  cons_fits occur (Ok q) (Err e) a b = tt
  cons_fits Must (Ok q) (Ok qs) a b = (both_true a b.0, b.1, b.2)
  cons_fits MustNot (Ok q) (Ok qs) a b = (b.0, both_true a b.1, b.2)
  cons_fits Should (Ok q) (Ok qs) a b = (b.0, b.1, both_true a b.2)

  -- the members of fitting clauses fit
  members_fit : (cs : List Clause) → ClausesFit cs → MembersFit (members cs)
  members_fit [] h = (refl, refl, refl)
  members_fit (c ∷ cs) h = cons_fits c.0 c.1 (members cs) h.0 (members_fit cs h.1)

  -- the node of fitting members fits
  boolean_fits : (ms ns ss : List QueryValue) → fit ms → fit ns → fit ss → MeaningFits (boolean_of ms ns ss)
  boolean_fits [] ns [] a b c = tt
  boolean_fits [] ns (q ∷ ss) a b c = both_true (both_true a b) c
  boolean_fits (q ∷ ms) ns ss a b c = both_true (both_true a b) c

  -- the node of members, or their error, fits
  joined_fits : (r : Result (List (Occur × QueryValue)) QueryError) → MembersFit r →
      MeaningFits (result_and_then (λ qs. boolean_of (musts qs) (must_nots qs) (shoulds qs)) r)
  joined_fits (Err e) h = tt
  joined_fits (Ok qs) h = boolean_fits (musts qs) (must_nots qs) (shoulds qs) h.0 h.1 h.2

  -- the node of fitting clauses fits
  node_fits : (cs : List Clause) → ClausesFit cs → MeaningFits (node cs)
  unfolding node
  node_fits cs h = joined_fits (members cs) (members_fit cs h)

  -- the clauses of a conjunction fit
  factor_clauses_fit : (fs : List Factor) → FactorsFit fs → ClausesFit (map (λ f. (occur_in_conjunction f.0, f.1)) fs)
  factor_clauses_fit [] h = tt
  factor_clauses_fit (f ∷ fs) h = (h.0, factor_clauses_fit fs h.1)

  -- a conjunction fits
  conjunction_fits : (fs : List Factor) → FactorsFit fs → MeaningFits (conjunction fs)
  conjunction_fits fs h = node_fits _ (factor_clauses_fit fs h)

  -- the clauses of a disjunction fit
  alternatives_fit : (cs : List (List Factor)) → DisjunctionFits cs → ClausesFit (map (λ fs. (Should, conjunction fs)) cs)
  alternatives_fit [] h = tt
  alternatives_fit (c ∷ cs) h = (conjunction_fits c h.0, alternatives_fit cs h.1)

  -- a disjunction fits
  disjunction_fits : (cs : List (List Factor)) → DisjunctionFits cs → MeaningFits (disjunction cs)
  disjunction_fits cs h = node_fits _ (alternatives_fit cs h)

  -- the clause of a disjunction in its list fits
  disjunction_clause_fits : (cs : List (List Factor)) → DisjunctionFits cs → MeaningFits (disjunction_clause cs).1
  unfolding disjunction_clause
  disjunction_clause_fits [] h = disjunction_fits [] h
  disjunction_clause_fits ([] ∷ []) h = conjunction_fits [] h.0
  disjunction_clause_fits ((f ∷ []) ∷ []) h = h.0.0
  disjunction_clause_fits ((f ∷ g ∷ fs) ∷ []) h = conjunction_fits (f ∷ g ∷ fs) h.0
  disjunction_clause_fits (c ∷ d ∷ cs) h = disjunction_fits (c ∷ d ∷ cs) h

  -- the clauses of a list fit
  disjunction_clauses_fit : (cs : List (List (List Factor))) → ListFits cs → ClausesFit (map disjunction_clause cs)
  disjunction_clauses_fit [] h = tt
  disjunction_clauses_fit (c ∷ cs) h = (disjunction_clause_fits c h.0, disjunction_clauses_fit cs h.1)

  -- a list fits
  list_meaning_fits : (cs : List (List (List Factor))) → ListFits cs → MeaningFits (list_meaning cs)
  unfolding list_meaning
  list_meaning_fits cs h = node_fits _ (disjunction_clauses_fit cs h)

  -- a value that can be in a field of a kind
  abbrev ValueFits : Kind → Result FieldValue QueryError → Type 0
  ValueFits kind (Ok v) = is_term_of kind v ≡ true
  ValueFits kind (Err e) = Unit {0}

  -- a `u64` value fits
  unsigned_fits : (o : Option ℕ) → ValueFits kinds.U64 (option_map_or (λ n. Ok (values.Number n)) (option_map numbers.U64 o) (Err BadNumber))
  unsigned_fits None = tt
  unsigned_fits (Some n) = refl

  -- a value fits a field of its kind
  field_fits : (field : ℕ) (kind : Kind) → kind_at schema field ≡ Some kind → (r : Result FieldValue QueryError) → ValueFits kind r →
      MeaningFits (result_map (with_value field) r)
  field_fits field kind e (Err f) h = tt
  field_fits field kind e (Ok v) h = ap (λ (o : Option Kind). option_map_or (λ k. is_term_of k v) o false) e ∙ h

  -- an `i64` value fits
  signed_fits : (b : Bool) (o p : Option ℕ) →
      ValueFits kinds.I64 (option_map_or (λ n. Ok (values.Number n)) (if b then option_map (λ n. numbers.I64 (neg_ℤ (pos n))) o else
      option_map (λ n. numbers.I64 (pos n)) p) (Err BadNumber))
  signed_fits true None p = tt
  signed_fits true (Some n) p = refl
  signed_fits false o None = tt
  signed_fits false o (Some n) = refl

  -- the value of a text in a field fits
  value_fits : (kind : Kind) (text : List ℕ) → ValueFits kind (value_in kind text)
  value_fits kinds.Text text = tt
  value_fits kinds.Keyword text = refl
  value_fits kinds.U64 text = unsigned_fits (number_below (2 ^ 64) text)
  value_fits kinds.I64 text = signed_fits (begins_minus text) (number_below (2 ^ 63 + 1) (drop 1 text)) (number_below (2 ^ 63) text)

  -- the tokens of a text in a field of the schema fit
  tokens_fit : (field : ℕ) (ts : List (ℕ × List ℕ)) → kind_at schema field ≡ Some kinds.Text → fits (with_tokens field ts)
  tokens_fit field [] e = refl
  tokens_fit field (t ∷ []) e = ap (λ (o : Option Kind). option_map_or (λ k. is_term_of k (values.Text t.1)) o false) e
  tokens_fit field (t ∷ u ∷ ts) e = both_true (ap (λ (o : Option Kind). option_map_or holds_phrases o false) e) refl

  -- a literal fits a field
  literal_fits : (field : ℕ) (kind : Kind) (text : List ℕ) → kind_at schema field ≡ Some kind → MeaningFits (literal_in field kind text)
  literal_fits field kinds.Text text e = tokens_fit field (tokens text) e
  literal_fits field kinds.Keyword text e = ap (λ (o : Option Kind). option_map_or (λ k. is_term_of k (values.Text text)) o false) e
  literal_fits field kinds.U64 text e = field_fits field kinds.U64 e (value_in kinds.U64 text) (value_fits kinds.U64 text)
  literal_fits field kinds.I64 text e = field_fits field kinds.I64 e (value_in kinds.I64 text) (value_fits kinds.I64 text)

  -- the clauses of the default fields fit
  defaults_fit : (i : ℕ) (fields : List Field) (text : List ℕ) → drop i schema ≡ fields → ClausesFit (default_clauses i fields text)
  defaults_fit i [] text e = tt
  defaults_fit i (field ∷ fields) text e =
      let s = slice_get-drop schema fields i field e in
      let k : kind_at schema i ≡ Some field.kind = ap (option_map (λ (f : Field). f.kind)) s.0 in
      let more = defaults_fit (i + 1) fields text s.1 in
      elim (cases_Bool field.default) [
        | inl d ↦ rw d (literal_fits i field.kind text k, more)
        | inr d ↦ rw d more
      ]

  -- the node of default fields fits
  some_default_fits : (cs : List Clause) → ClausesFit cs → MeaningFits (some_default cs)
  some_default_fits [] h = tt
  some_default_fits (c ∷ cs) h = node_fits (c ∷ cs) h

  -- a literal without a field fits
  anywhere_fits : (text : List ℕ) → MeaningFits (literal_anywhere schema text)
  unfolding literal_anywhere
  anywhere_fits text = some_default_fits (default_clauses 0 schema text) (defaults_fit 0 schema text refl)

  -- a bound that fits a kind
  BoundFits : Kind → Result (Bound FieldValue) QueryError → Type 0
  BoundFits kind (Ok b) = is_bound_of kind b ≡ true
  BoundFits kind (Err e) = Unit {0}

  -- an included bound fits
  included_fits : (kind : Kind) (r : Result FieldValue QueryError) → ValueFits kind r → BoundFits kind (result_map Included r)
  unfolding BoundFits
  included_fits kind (Ok v) h = h
  included_fits kind (Err e) h = tt

  -- an excluded bound fits
  excluded_fits : (kind : Kind) (r : Result FieldValue QueryError) → ValueFits kind r → BoundFits kind (result_map Excluded r)
  unfolding BoundFits
  excluded_fits kind (Ok v) h = h
  excluded_fits kind (Err e) h = tt

  -- a bound fits
  bound_fits : (kind : Kind) (b : Bound (List ℕ)) → BoundFits kind (bound_in kind b)
  unfolding BoundFits
  bound_fits kind (Included text) = included_fits kind (value_in kind text) (value_fits kind text)
  bound_fits kind (Excluded text) = excluded_fits kind (value_in kind text) (value_fits kind text)
  bound_fits kind Unbounded = refl

  -- two bounds fit
  bounds_fit : (field : ℕ) (kind : Kind) → kind_at schema field ≡ Some kind → is_ordered kind ≡ true → (low high : Result (Bound FieldValue) QueryError) →
      BoundFits kind low → BoundFits kind high
      → MeaningFits (within field low high)
  unfolding BoundFits
  bounds_fit field kind e n (Err f) high a b = tt
  bounds_fit field kind e n (Ok l) (Err f) a b = tt
  bounds_fit field kind e n (Ok l) (Ok h) a b = ap (λ (o : Option Kind). option_map_or (is_range_of l h) o false) e ∙ both_true (both_true n a) b

  -- what follows a field fits it
  meaning_fits : (field : ℕ) (kind : Kind) (v : Value) → kind_at schema field ≡ Some kind → MeaningFits (meaning_in field kind v)
  meaning_fits field kind (literal text) e = literal_fits field kind text e
  meaning_fits field kind (between lower upper) e =
      elim (cases_Bool (is_ordered kind)) [
        | inl n ↦ rw n (bounds_fit field kind e n (bound_in kind lower) (bound_in kind upper) (bound_fits kind lower) (bound_fits kind upper))
        | inr n ↦ rw n tt
      ]

  -- what follows a field by its number fits
  at_fits : (v : Value) (field : ℕ) (o : Option Kind) → kind_at schema field ≡ o →
      MeaningFits (option_map_or (λ kind. meaning_in field kind v) o (Err UnknownField))
  at_fits v field None e = tt
  at_fits v field (Some kind) e = meaning_fits field kind v e

  -- what follows a field by its name fits
  named_fits : (v : Value) (o : Option ℕ) → MeaningFits (option_map_or (meaning_at schema v) o (Err UnknownField))
  named_fits v None = tt
  named_fits v (Some field) = at_fits v field (kind_at schema field) refl

  -- a field with what follows it fits
  field_meaning_fits : (name : List ℕ) (v : Value) → MeaningFits (field_meaning schema name v)
  unfolding field_meaning
  field_meaning_fits name v = named_fits v (field_named name schema)

  mutual
    -- a unit fits
    unit_fits : {s : List ℕ} {m : Meaning} → IsUnit schema s m → MeaningFits m
    unit_fits (Grammar.group v s w cs a l b) = list_meaning_fits cs (list_fits l)
    unit_fits Grammar.all = refl
    unit_fits (Grammar.bare {w = w} b) = anywhere_fits _
    unit_fits (Grammar.quoted text) = anywhere_fits _
    unit_fits (Grammar.field w s {v = v} b i) = field_meaning_fits _ v

    -- a factor fits
    factor_fits : {s : List ℕ} {f : Factor} → IsFactor schema s f → MeaningFits f.1
    factor_fits (Grammar.factor v s a u) = unit_fits u

    -- the factors of a conjunction fit
    factors_fit : {s : List ℕ} {fs : List Factor} → IsConjunction schema s fs → FactorsFit fs
    factors_fit (Grammar.one f) = (factor_fits f, tt)
    factors_fit (Grammar.both s w t f o c) = (factor_fits f, factors_fit c)

    -- the factors of a disjunction fit
    conjunctions_fit : {s : List ℕ} {cs : List (List Factor)} → IsDisjunction schema s cs → DisjunctionFits cs
    conjunctions_fit (Grammar.conjunction c) = (factors_fit c, tt)
    conjunctions_fit (Grammar.either s w t c o l) = (factors_fit c, conjunctions_fit l)

    -- the factors of a list fit
    list_fits : {s : List ℕ} {cs : List (List (List Factor))} → IsList schema s cs → ListFits cs
    list_fits (Grammar.single c) = (conjunctions_fit c, tt)
    list_fits (Grammar.several s w t c a l) = (conjunctions_fit c, list_fits l)

  -- a query fits
  pub query_meaning_fits : {s : List ℕ} {m : Meaning} → IsQuery schema s m → MeaningFits m
  query_meaning_fits q = subst MeaningFits (sym q.means) (list_meaning_fits q.disjunctions (list_fits q.list))
