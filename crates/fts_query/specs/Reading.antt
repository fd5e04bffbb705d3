-- Reading from left to right: a part at the front of a text, and the rest after it.
--
-- The code computes exactly these functions, and the proofs tie them to the grammar. No public contract of this crate
-- names them.
use Rattle.std.specs.Prelude.{ℕ, zero, suc, Bool, true, false, not, ◌&&◌, ◌||◌, ◌==◌, List, [], ◌∷◌, length, drop}
use Rattle.std.specs.Prelude.{take_while, codes, Option, Some, None, option_and_then, Ok, if◌then◌else◌}
use Rattle.std.specs.List.{prefix_len}
use Rattle.std.specs.Str.{encode_utf8_all, bytes_eq}
use Rattle.std.specs.declared.ops.Bound.TheVariants.{Unbounded}
use Rattle.std.specs.declared.ops.Bound.{Bound}
use Rattle.fts_model.specs.declared.schema.Field.{Field}
use Rattle.fts_model.specs.Schemas.{is_reserved}
use Rattle.fts_query.specs.declared.clauses.Modifier.{Modifier}
use Rattle.fts_query.specs.declared.clauses.Modifier.TheVariants.{Plain, Plus, Minus}
use Rattle.fts_query.specs.declared.input.Class.{Class}
use Rattle.fts_query.specs.declared.input.Class.TheVariants as classes
use Rattle.fts_model.specs.QueryValues.{every}
use Rattle.fts_query.specs.Characters.{quote, open_parenthesis, close_parenthesis, star, plus, minus, colon, less_than}
use Rattle.fts_query.specs.Characters.{equals, greater_than, open_bracket, backslash, close_bracket, open_brace}
use Rattle.fts_query.specs.Characters.{close_brace}
use Rattle.fts_query.specs.Meanings.{Meaning, Factor, Value, literal, between, list_meaning, literal_anywhere}
use Rattle.fts_query.specs.Meanings.{field_meaning}
use Rattle.fts_query.specs.Grammar.{is_space, is_word_char, bound}

-- a part that was read, and the rest after it
abbrev pub Read : Type 0 → Type 0
Read A = A × List ℕ

abbrev pub Parser : Type 0 → Type 0
Parser A = List ℕ → Option (Read A)

-- the rest after the longest prefix of characters that pass a test
unfoldable pub skip_while : (ℕ → Bool) → List ℕ → List ℕ
skip_while test s = drop (prefix_len test s) s

-- whether a character is of a class
abbrev pub is_of : Class → ℕ → Bool
is_of classes.Space c = is_space c
is_of classes.Word c = is_word_char c

-- the bytes of the word at the front
abbrev pub word : List ℕ → List ℕ
word s = encode_utf8_all (take_while is_word_char s)

abbrev pub begins_space : List ℕ → Bool
begins_space [] = false
begins_space (c ∷ s) = is_space c

abbrev pub closes : List ℕ → Bool
closes [] = true
closes (c ∷ s) = c == close_parenthesis

-- the rest after a separator, if there is one
unfoldable pub space_at : List ℕ → Option (List ℕ)
space_at s = if begins_space s && not (closes (skip_while is_space s)) then Some (skip_while is_space s) else None

unfoldable pub operator_at : List ℕ → List ℕ → Option (List ℕ)
operator_at name s =
    if begins_space s
    && (bytes_eq (word (skip_while is_space s)) name
    && begins_space (skip_while is_word_char (skip_while is_space s)))
    then Some (skip_while is_space (skip_while is_word_char (skip_while is_space s)))
    else None

abbrev pub onto : {A : Type 0} → A → Option (List A × List ℕ) → Option (List A × List ℕ)
onto x None = None
onto x (Some y) = Some (x ∷ y.0, y.1)

-- the items after a separator, or no more items if there is none
abbrev pub follow : {A : Type 0} → Option (List ℕ) → List ℕ → Parser (List A) → Option (List A × List ℕ)
follow None rest next = Some ([], rest)
follow (Some t) rest next = next t

-- at most n items with separators
unfoldable pub seq_by : {A : Type 0} → ℕ → (List ℕ → Option (List ℕ)) → Parser A → Parser (List A)
seq_by {A} zero sep item s = None
seq_by {A} (suc n) sep item s =
    option_and_then (λ (x : Read A). onto x.0 (follow (sep x.1) x.1 (λ t. seq_by n sep item t))) (item s)

-- the rest of a negation, after the word `NOT`: white space
abbrev pub negation_of : Parser Modifier
negation_of t = if begins_space t then Some (Minus, skip_while is_space t) else None

unfoldable pub modifier_of : Parser Modifier
modifier_of [] = None
modifier_of (c ∷ s) =
    if c == plus then Some (Plus, s)
    else (if c == minus then Some (Minus, s)
    else (if bytes_eq (word (c ∷ s)) (codes "NOT") then negation_of (skip_while is_word_char (c ∷ s))
    else Some (Plain, c ∷ s)))

-- a factor: a modifier, then a unit
unfoldable pub factor_of : Parser Meaning → Parser Factor
factor_of unit s =
    option_and_then
    (λ (m : Read Modifier). option_and_then (λ (u : Read Meaning). Some ((m.0, u.0), u.1)) (unit m.1))
    (modifier_of s)

unfoldable pub conjunction_of : Parser Meaning → Parser (List Factor)
conjunction_of unit s = seq_by (suc (length s)) (operator_at (codes "AND")) (factor_of unit) s

unfoldable pub disjunction_of : Parser Meaning → Parser (List (List Factor))
disjunction_of unit s = seq_by (suc (length s)) (operator_at (codes "OR")) (conjunction_of unit) s

unfoldable pub list_of : Parser Meaning → Parser (List (List (List Factor)))
list_of unit s = seq_by (suc (length s)) space_at (disjunction_of unit) s

-- a part that was read, replaced by its image
abbrev pub over : {A B : Type 0} → (A → B) → Option (A × List ℕ) → Option (B × List ℕ)
over h None = None
over h (Some x) = Some (h x.0, x.1)

-- the meaning of a list
unfoldable pub meaning_of : Parser Meaning → Parser Meaning
meaning_of unit s = over list_meaning (list_of unit s)

-- the closing parenthesis of a list
abbrev pub close : Meaning → Parser Meaning
close m [] = None
close m (c ∷ s) = if c == close_parenthesis then Some (m, s) else None

-- a list in parentheses, after the opening one
unfoldable pub group_of : Parser Meaning → Parser Meaning
group_of unit s =
    option_and_then (λ (x : Read Meaning). close x.0 (skip_while is_space x.1))
    (meaning_of unit (skip_while is_space s))

abbrev pub char_onto : ℕ → Option (List ℕ × List ℕ) → Option (List ℕ × List ℕ)
char_onto c None = None
char_onto c (Some x) = Some (c ∷ x.0, x.1)

-- a quoted text, after its opening quote or an escape: the text of the pieces up to the closing quote
unfoldable pub unquoted : Bool → List ℕ → Option (List ℕ × List ℕ)
unquoted escaped [] = None
unquoted false (c ∷ s) =
    if c == quote then Some ([], s)
    else (if c == backslash then unquoted true s
    else char_onto c (unquoted false s))
unquoted true (c ∷ s) = if c == quote || c == backslash then char_onto c (unquoted false s) else None

-- a text that was read, in bytes
abbrev pub in_bytes : Option (List ℕ × List ℕ) → Option (List ℕ × List ℕ)
in_bytes None = None
in_bytes (Some x) = Some (encode_utf8_all x.0, x.1)

unfoldable pub quoted_of : Parser (List ℕ)
quoted_of s = in_bytes (unquoted false s)

-- a nonempty word
unfoldable pub word_of : Parser (List ℕ)
word_of [] = None
word_of (c ∷ s) = if is_word_char c then Some (word (c ∷ s), skip_while is_word_char (c ∷ s)) else None

unfoldable pub bound_of : Parser (Option (List ℕ))
bound_of [] = None
bound_of (c ∷ s) =
    if c == star then Some (None, s)
    else option_and_then (λ (x : Read (List ℕ)). Some (Some x.0, x.1)) (word_of (c ∷ s))

-- the end of a range, after the upper bound
unfoldable pub range_end : Bound (List ℕ) → Option (List ℕ) → Parser Value
range_end low high [] = None
range_end low high (c ∷ s) =
    if c == close_bracket then Some (between low (bound true high), s)
    else (if c == close_brace then Some (between low (bound false high), s) else None)

unfoldable pub range_of : Bool → Parser Value
range_of i s =
    option_and_then (λ (x : Read (Option (List ℕ))).
    option_and_then (λ (t : List ℕ).
    option_and_then (λ (y : Read (Option (List ℕ))). range_end (bound i x.0) y.0 (skip_while is_space y.1))
    (bound_of t))
    (operator_at (codes "TO") x.1))
    (bound_of (skip_while is_space s))

-- the word of a comparison, after its mark, and whether `=` is between them
unfoldable pub compared_of : Parser (Bool × List ℕ)
compared_of [] = None
compared_of (c ∷ s) =
    if c == equals then option_and_then (λ (x : Read (List ℕ)). Some ((true, x.0), x.1)) (word_of s)
    else option_and_then (λ (x : Read (List ℕ)). Some ((false, x.0), x.1)) (word_of (c ∷ s))

unfoldable pub above_of : Parser Value
above_of s =
    option_and_then (λ (x : Read (Bool × List ℕ)). Some (between (bound x.0.0 (Some x.0.1)) Unbounded, x.1))
    (compared_of s)

unfoldable pub below_of : Parser Value
below_of s =
    option_and_then (λ (x : Read (Bool × List ℕ)). Some (between Unbounded (bound x.0.0 (Some x.0.1)), x.1))
    (compared_of s)

unfoldable pub quoted_value_of : Parser Value
quoted_value_of s = option_and_then (λ (x : Read (List ℕ)). Some (literal x.0, x.1)) (quoted_of s)

unfoldable pub plain_of : Parser Value
plain_of s = option_and_then (λ (x : Read (List ℕ)). Some (literal x.0, x.1)) (word_of s)

-- what follows a field and a colon
unfoldable pub value_of : Parser Value
value_of [] = None
value_of (c ∷ s) =
    if c == quote then quoted_value_of s
    else (if c == open_bracket then range_of true s
    else (if c == open_brace then range_of false s
    else (if c == greater_than then above_of s
    else (if c == less_than then below_of s
    else plain_of (c ∷ s)))))

-- what follows a bare word
unfoldable pub after_bare : List Field → List ℕ → Parser Meaning
after_bare schema w [] = Some (literal_anywhere schema w, [])
after_bare schema w (c ∷ s) =
    if c == colon then option_and_then (λ (v : Read Value). Some (field_meaning schema w v.0, v.1)) (value_of s)
    else Some (literal_anywhere schema w, c ∷ s)

-- whether no bare word begins with a character
abbrev pub begins_modifier : ℕ → Bool
begins_modifier c = c == plus || c == minus

unfoldable pub bare_of : List Field → Parser Meaning
bare_of schema [] = None
bare_of schema (c ∷ s) =
    if is_word_char c && not (begins_modifier c) && not (is_reserved (word (c ∷ s)))
    then after_bare schema (word (c ∷ s)) (skip_while is_word_char (c ∷ s))
    else None

-- a quoted text as a literal, after the opening quote
unfoldable pub quoted_literal_of : List Field → Parser Meaning
quoted_literal_of schema s =
    option_and_then (λ (x : Read (List ℕ)). Some (literal_anywhere schema x.0, x.1)) (quoted_of s)

-- a unit, whose inner units are read by `unit`
unfoldable pub unit_by : List Field → Parser Meaning → Parser Meaning
unit_by schema unit [] = None
unit_by schema unit (c ∷ s) =
    if c == open_parenthesis then group_of unit s
    else (if c == star then Some (Ok every, s)
    else (if c == quote then quoted_literal_of schema s
    else bare_of schema (c ∷ s)))

-- a unit of at most d nestings
unfoldable pub unit_of : List Field → ℕ → Parser Meaning
unit_of schema zero s = None
unit_of schema (suc d) s = unit_by schema (unit_of schema d) s

abbrev pub ended : Meaning → List ℕ → Option Meaning
ended m [] = Some m
ended m (c ∷ s) = None

-- a whole text
unfoldable pub query_of : List Field → ℕ → List ℕ → Option Meaning
query_of schema d s =
    option_and_then (λ (x : Read Meaning). ended x.0 (skip_while is_space x.1))
    (meaning_of (unit_of schema d) (skip_while is_space s))
