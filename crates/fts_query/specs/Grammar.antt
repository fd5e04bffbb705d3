-- The texts that are queries of a schema, each with its meaning. A text is a list of characters.
use Rattle.std.specs.Prelude.{◌≡◌, ℕ, ◌<◌, Bool, true, false, not, ◌&&◌, ◌||◌, ◌==◌, List, [], ◌∷◌, ◌++◌, length, codes}
use Rattle.std.specs.Prelude.{Option, Some, None, Ok, if◌then◌else◌}
use Rattle.std.specs.List.{list_all, list_any}
use Rattle.std.specs.Str.{encode_utf8_all}
use Rattle.std.specs.declared.ops.Bound.{Bound}
use Rattle.std.specs.declared.ops.Bound.TheVariants.{Included, Excluded, Unbounded}
use Rattle.fts_model.specs.declared.schema.Field.{Field}
use Rattle.fts_model.specs.Schemas.{is_reserved}
use Rattle.fts_query.specs.declared.clauses.Modifier.{Modifier}
use Rattle.fts_query.specs.declared.clauses.Modifier.TheVariants.{Plain, Plus, Minus}
use Rattle.fts_model.specs.QueryValues.{every}
use Rattle.fts_query.specs.Characters.{tab, line_feed, carriage_return, space, quote, open_parenthesis}
use Rattle.fts_query.specs.Characters.{close_parenthesis, star, plus, minus, colon, less_than, equals, greater_than}
use Rattle.fts_query.specs.Characters.{open_bracket, backslash, close_bracket, open_brace, close_brace}
use Rattle.fts_query.specs.Meanings.{Meaning, Factor, Value, literal, between, list_meaning, literal_anywhere}
use Rattle.fts_query.specs.Meanings.{field_meaning}

-- a space, a tab, a CR or an LF
abbrev pub is_space : ℕ → Bool
is_space c = c == space || c == tab || c == carriage_return || c == line_feed

-- one of `( ) " : [ ] { } < > ^ ~ * \`
abbrev pub is_special : ℕ → Bool
is_special c = list_any (λ s. s == c) (codes "()\":[]{}<>^~*\\")

unfoldable pub is_word_char : ℕ → Bool
is_word_char c = not (is_space c || is_special c)

-- a text of only white space, possibly empty
abbrev pub IsBlank : List ℕ → Type 0
IsBlank w = list_all is_space w ≡ true

-- a nonempty text of only white space
abbrev pub IsSpace : List ℕ → Type 0
IsSpace w = (0 < length w) × IsBlank w

abbrev pub IsWord : List ℕ → Type 0
IsWord w = (0 < length w) × (list_all is_word_char w ≡ true)

-- whether a word doesn't begin with `+` or `-` and isn't `AND`, `OR` or `NOT`
unfoldable pub is_bare : List ℕ → Bool
is_bare [] = false
is_bare (c ∷ w) = not (c == plus || c == minus) && not (is_reserved (c ∷ w))

abbrev pub IsBare : List ℕ → Type 0
IsBare w = (list_all is_word_char w ≡ true) × (is_bare w ≡ true)

-- a character between quotes: `"` and `\` are written after a `\`
abbrev pub piece : ℕ → List ℕ
piece c = if c == quote || c == backslash then backslash ∷ c ∷ [] else c ∷ []

-- a text between quotes, with the closing quote
abbrev pub quoted_text : List ℕ → List ℕ
quoted_text [] = quote ∷ []
quoted_text (c ∷ cs) = piece c ++ quoted_text cs

-- a word with white space on both sides
abbrev pub IsOperator : List ℕ → List ℕ → Type 0
IsOperator name w = (u v : List ℕ) × (w ≡ u ++ (name ++ v)) × IsSpace u × IsSpace v

-- a bound of a range: a word, or `*` for none
pub data IsBound : List ℕ → Option (List ℕ) → Type 0 where
  none : IsBound (star ∷ []) None
  at : {w : List ℕ} → IsWord w → IsBound w (Some (encode_utf8_all w))

abbrev pub bound : Bool → Option (List ℕ) → Bound (List ℕ)
bound included None = Unbounded
bound true (Some w) = Included w
bound false (Some w) = Excluded w

-- an opening bracket: `[` includes its bound, `{` excludes it; and likewise a closing one, `]` or `}`
pub data Opens : ℕ → Bool → Type 0 where
  included : Opens open_bracket true
  excluded : Opens open_brace false

pub data Closes : ℕ → Bool → Type 0 where
  included : Closes close_bracket true
  excluded : Closes close_brace false

abbrev pub begins_equals : List ℕ → Bool
begins_equals [] = false
begins_equals (c ∷ w) = c == equals

-- what follows a field and a colon
pub data IsValue : List ℕ → Value → Type 0 where
  word : {w : List ℕ} → IsWord w → IsValue w (literal (encode_utf8_all w))
  quoted : (unquoted : List ℕ) → IsValue (quote ∷ quoted_text unquoted) (literal (encode_utf8_all unquoted))
  range : (u s w t v : List ℕ) {b e : ℕ} {i j : Bool} {low high : Option (List ℕ)} → Opens b i → IsBlank u
      → IsBound s low → IsOperator (codes "TO") w → IsBound t high → IsBlank v → Closes e j
      → IsValue (b ∷ (u ++ (s ++ (w ++ (t ++ (v ++ e ∷ [])))))) (between (bound i low) (bound j high))
  at_least : {w : List ℕ} → IsWord w
      → IsValue (greater_than ∷ equals ∷ w) (between (Included (encode_utf8_all w)) Unbounded)
  at_most : {w : List ℕ} → IsWord w
      → IsValue (less_than ∷ equals ∷ w) (between Unbounded (Included (encode_utf8_all w)))
  greater : {w : List ℕ} → IsWord w → begins_equals w ≡ false
      → IsValue (greater_than ∷ w) (between (Excluded (encode_utf8_all w)) Unbounded)
  less : {w : List ℕ} → IsWord w → begins_equals w ≡ false
      → IsValue (less_than ∷ w) (between Unbounded (Excluded (encode_utf8_all w)))

-- a modifier: nothing, `+`, `-`, or `NOT` and white space
pub data IsModifier : List ℕ → Modifier → Type 0 where
  plain : IsModifier [] Plain
  required : IsModifier (plus ∷ []) Plus
  prohibited : IsModifier (minus ∷ []) Minus
  negated : {w : List ℕ} → IsSpace w → IsModifier (codes "NOT" ++ w) Minus

mutual
  -- a unit: a list in parentheses, `*`, a literal, or a field with what follows it
  pub data IsUnit (schema : List Field) : List ℕ → Meaning → Type 0 where
    group : (v s w : List ℕ) (disjunctions : List (List (List Factor)))
        → IsBlank v → IsList schema s disjunctions → IsBlank w
        → IsUnit schema (open_parenthesis ∷ (v ++ (s ++ (w ++ close_parenthesis ∷ [])))) (list_meaning disjunctions)
    all : IsUnit schema (star ∷ []) (Ok every)
    bare : {w : List ℕ} → IsBare w → IsUnit schema w (literal_anywhere schema (encode_utf8_all w))
    quoted : (unquoted : List ℕ)
        → IsUnit schema (quote ∷ quoted_text unquoted) (literal_anywhere schema (encode_utf8_all unquoted))
    field : (w s : List ℕ) {v : Value} → IsBare w → IsValue s v
        → IsUnit schema (w ++ (colon ∷ s)) (field_meaning schema (encode_utf8_all w) v)

  -- a factor: a modifier, then a unit
  pub data IsFactor (schema : List Field) : List ℕ → Factor → Type 0 where
    factor : (v s : List ℕ) {modifier : Modifier} {m : Meaning} → IsModifier v modifier → IsUnit schema s m
        → IsFactor schema (v ++ s) (modifier, m)

  -- a conjunction: factors separated by `AND`
  pub data IsConjunction (schema : List Field) : List ℕ → List Factor → Type 0 where
    one : {s : List ℕ} {f : Factor} → IsFactor schema s f → IsConjunction schema s (f ∷ [])
    both : (s w t : List ℕ) {f : Factor} {fs : List Factor} → IsFactor schema s f → IsOperator (codes "AND") w
        → IsConjunction schema t fs → IsConjunction schema (s ++ (w ++ t)) (f ∷ fs)

  -- a disjunction: conjunctions separated by `OR`
  pub data IsDisjunction (schema : List Field) : List ℕ → List (List Factor) → Type 0 where
    conjunction : {s : List ℕ} {c : List Factor} → IsConjunction schema s c → IsDisjunction schema s (c ∷ [])
    either : (s w t : List ℕ) {c : List Factor} {cs : List (List Factor)}
        → IsConjunction schema s c → IsOperator (codes "OR") w → IsDisjunction schema t cs
        → IsDisjunction schema (s ++ (w ++ t)) (c ∷ cs)

  -- a list: disjunctions separated by white space
  pub data IsList (schema : List Field) : List ℕ → List (List (List Factor)) → Type 0 where
    single : {s : List ℕ} {c : List (List Factor)} → IsDisjunction schema s c → IsList schema s (c ∷ [])
    several : (s w t : List ℕ) {c : List (List Factor)} {cs : List (List (List Factor))}
        → IsDisjunction schema s c → IsSpace w → IsList schema t cs → IsList schema (s ++ (w ++ t)) (c ∷ cs)

-- a query: a list with white space around it
pub record IsQuery (schema : List Field) (text : List ℕ) (m : Meaning) : Type 0 where
  pub before : List ℕ
  pub inner : List ℕ
  pub after : List ℕ
  pub disjunctions : List (List (List Factor))
  pub parts : text ≡ before ++ (inner ++ after)
  pub blank_before : IsBlank before
  pub list : IsList schema inner disjunctions
  pub blank_after : IsBlank after
  pub means : m ≡ list_meaning disjunctions
