-- A text in the grammar is read from the front.
use Rattle.std.proofs.Common.{◌≡◌, ℕ, zero, suc, ◌<◌, ◌≤◌, Bool, true, false, not, ◌||◌, List, [], ◌∷◌, ◌++◌, length, codes, Option, Some, None, Ok, refl, sym}
use Rattle.std.proofs.Common.{ap, subst, ◌∙◌, append_assoc, length-append, arith, inl, inr}
use Rattle.std.specs.Prelude.{◌==◌, take_while}
use Rattle.std.specs.List.{list_all}
use Rattle.std.specs.Str.{encode_utf8_all, bytes_eq}
use Rattle.std.specs.declared.ops.Bound.{Bound}
use Rattle.std.specs.declared.ops.Bound.TheVariants.{Unbounded}
use Rattle.std.proofs.lemmas.Bool.{and_parts, eqb-true, or_left, or_right, not-true, or_parts, cases_Bool}
use Rattle.std.proofs.lemmas.List.{append-nil}
use lib.Utf8.{encode}
use Rattle.fts_model.specs.declared.schema.Field.{Field}
use Rattle.fts_model.specs.Schemas.{is_reserved}
use Rattle.fts_query.specs.declared.clauses.Modifier.{Modifier}
use Rattle.fts_query.specs.declared.clauses.Modifier.TheVariants.{Plain, Minus}
use Rattle.fts_model.specs.QueryValues.{every}
use Rattle.fts_query.specs.Meanings.{Meaning, Factor, Value, literal, between, list_meaning, literal_anywhere, field_meaning}
use Rattle.fts_query.specs.Grammar.{is_space, is_word_char, is_bare, IsWord, IsBound, bound, IsValue, Opens, Closes, begins_equals, IsBlank, IsSpace, IsBare}
use Rattle.fts_query.specs.Grammar.{IsOperator, IsModifier, IsUnit, IsFactor, IsConjunction, IsDisjunction, IsList, IsQuery, quoted_text}
use Rattle.fts_query.specs.Reading.{Parser, word, begins_space, closes, space_at, operator_at, seq_by, modifier_of, factor_of, conjunction_of, disjunction_of}
use Rattle.fts_query.specs.Reading.{list_of, meaning_of, quoted_of, word_of, bound_of, range_end, range_of, compared_of, above_of, below_of, quoted_value_of}
use Rattle.fts_query.specs.Reading.{plain_of, value_of, after_bare, begins_modifier, bare_of, quoted_literal_of, group_of, unit_by, unit_of, query_of}
use Rattle.fts_query.specs.Reading.{skip_while}
use Rattle.fts_query.proofs.ReadingLemmas.{take_while_more, bytes_eq-encoded, plain_and, plain_or, plain_not, is_reserved-encoded, stops, opens, word_stops}
use Rattle.fts_query.proofs.ReadingLemmas.{word-append, word_at, WordEnds, skip_while-append, skip_while_opens, unquoted_is_read, no_word_char}
use Rattle.fts_query.specs.Grammar

-- the beginning of a factor, and of a unit
record Begins (b : List ℕ) : Type 0 where
  open_ : opens b ≡ true
  no_and : bytes_eq (word b) (codes "AND") ≡ false
  no_or : bytes_eq (word b) (codes "OR") ≡ false

record BeginsUnit (b : List ℕ) : Type 0 where
  begins : Begins b
  no_not : bytes_eq (word b) (codes "NOT") ≡ false
  head : ℕ
  tail : List ℕ
  is : b ≡ head ∷ tail
  no_plus : (head == 43) ≡ false
  no_minus : (head == 45) ≡ false

-- a character of a word can begin a factor
word_opens : (c : ℕ) → is_word_char c ≡ true → (is_space c || c == 41) ≡ false
word_opens c h =
    elim (cases_Bool (is_space c || c == 41)) [
      | inl e ↦ absurd (let k = no_word_char c e in cc)
      | inr e ↦ e
    ]

-- the bytes of a word that is not reserved are no reserved name
not_reserved : (w : List ℕ) → is_reserved w ≡ false → (bytes_eq (encode_utf8_all w) (codes "AND") ≡ false) × (bytes_eq (encode_utf8_all w) (codes "OR") ≡ false)
    × (bytes_eq (encode_utf8_all w) (codes "NOT") ≡ false)
not_reserved w h =
    let k = or_parts (bytes_eq w (codes "AND") || bytes_eq w (codes "OR")) (bytes_eq w (codes "NOT")) h in
    let j = or_parts (bytes_eq w (codes "AND")) (bytes_eq w (codes "OR")) k.0 in
    (bytes_eq-encoded w (codes "AND") plain_and ∙ j.0, bytes_eq-encoded w (codes "OR") plain_or ∙ j.1, bytes_eq-encoded w (codes "NOT") plain_not ∙ k.1)

-- a bare word begins a unit
bare_begins : (w r : List ℕ) → IsBare w → WordEnds r → BeginsUnit (w ++ r)
unfolding is_bare
bare_begins [] r h e = absurd (let k = h.1 in cc)
bare_begins (c ∷ w) r h e =
    let p = and_parts (is_word_char c) (list_all is_word_char w) h.0 in
    let is-word : take_while is_word_char ((c ∷ w) ++ r) ≡ c ∷ w = (word_at (c ∷ w) r h.0 e).0 in
    let q = and_parts (not (c == 43 || c == 45)) (not (is_reserved (c ∷ w))) h.1 in
    let s = or_parts (c == 43) (c == 45) (not-true _ q.0) in
    let k = not_reserved (c ∷ w) (not-true _ q.1) in
    record {
      begins = record {
        open_ = let g : (is_space c || c == 41) ≡ false = word_opens c p.0 in ap not g;
        no_and = ap (λ (x : List ℕ). bytes_eq (encode_utf8_all x) (codes "AND")) is-word ∙ k.0;
        no_or = ap (λ (x : List ℕ). bytes_eq (encode_utf8_all x) (codes "OR")) is-word ∙ k.1;
      };
      no_not = ap (λ (x : List ℕ). bytes_eq (encode_utf8_all x) (codes "NOT")) is-word ∙ k.2;
      head = c;
      tail = w ++ r;
      is = refl;
      no_plus = s.0;
      no_minus = s.1;
    }

-- a field and a value, before the rest
two : (w s r : List ℕ) → (w ++ (58 ∷ s)) ++ r ≡ w ++ (58 ∷ (s ++ r))
two w s r = append_assoc w (58 ∷ s) r

-- a unit begins as the grammar says
unit_begins : {schema : List Field} {x : List ℕ} {m : Meaning} → IsUnit schema x m → (r : List ℕ) → stops r ≡ true → BeginsUnit (x ++ r)
unfolding is_word_char skip_while
unit_begins (Grammar.group v s w cs a l b) r h =
    record {
      begins = record { open_ = refl; no_and = refl; no_or = refl };
      no_not = refl;
      head = 40;
      tail = (v ++ (s ++ (w ++ 41 ∷ []))) ++ r;
      is =
          refl;
      no_plus = refl;
      no_minus = refl;
    }
unit_begins Grammar.all r h =
    record { begins = record { open_ = refl; no_and = refl; no_or = refl }; no_not = refl; head = 42; tail = r; is = refl; no_plus = refl; no_minus = refl }
unit_begins (Grammar.bare {w = w} b) r h = bare_begins w r b (word_stops r h)
unit_begins (Grammar.field w s b v) r h = rw (two w s r) (bare_begins w (58 ∷ (s ++ r)) b (refl, refl))
unit_begins (Grammar.quoted text) r h =
    record {
      begins = record { open_ = refl; no_and = refl; no_or = refl };
      no_not = refl;
      head = 34;
      tail = quoted_text text ++ r;
      is = refl;
      no_plus =
          refl;
      no_minus = refl;
    }

-- a word that begins with another character is another word
word_other : (c : ℕ) (s name : List ℕ) → is_word_char c ≡ true → bytes_eq (encode_utf8_all (c ∷ take_while is_word_char s)) name ≡ false →
    bytes_eq (word (c ∷ s)) name ≡ false
word_other c s name h e = ap (λ (x : List ℕ). bytes_eq (encode_utf8_all x) name) (take_while_more is_word_char c s h) ∙ e

-- a factor begins as the grammar says
factor_begins : {schema : List Field} {x : List ℕ} {f : Factor} → IsFactor schema x f → (r : List ℕ) → stops r ≡ true → Begins (x ++ r)
unfolding is_word_char encode
factor_begins (Grammar.factor v s Grammar.IsModifier.plain u) r h = (unit_begins u r h).begins
factor_begins (Grammar.factor v s Grammar.IsModifier.required u) r h =
    record { open_ = refl; no_and = word_other 43 (s ++ r) (codes "AND") refl refl; no_or = word_other 43 (s ++ r) (codes "OR") refl refl }
factor_begins (Grammar.factor v s Grammar.IsModifier.prohibited u) r h =
    record { open_ = refl; no_and = word_other 45 (s ++ r) (codes "AND") refl refl; no_or = word_other 45 (s ++ r) (codes "OR") refl refl }
factor_begins (Grammar.factor v s (Grammar.IsModifier.negated {w = w} a) u) r h =
    let t : List ℕ = 79 ∷ 84 ∷ ((w ++ s) ++ r) in
    record { open_ = refl; no_and = word_other 78 t (codes "AND") refl refl; no_or = word_other 78 t (codes "OR") refl refl }

-- a word may stop at white space
space_stops : (w t : List ℕ) → IsSpace w → stops (w ++ t) ≡ true
space_stops [] t h = absurd (let k = h.0 in omega arith)
space_stops (c ∷ w) t h = or_left (is_space c) (c == 41) (and_parts (is_space c) (list_all is_space w) h.1).0

-- white space begins with white space
space_begins : (w t : List ℕ) → IsSpace w → begins_space (w ++ t) ≡ true
space_begins [] t h = absurd (let k = h.0 in omega arith)
space_begins (c ∷ w) t h = (and_parts (is_space c) (list_all is_space w) h.1).0

-- three parts, before the rest
three : (a b c d : List ℕ) → (a ++ (b ++ c)) ++ d ≡ a ++ (b ++ (c ++ d))
three a b c d = simp append_assoc

-- a word may stop at an operator
operator_stops : (name w t : List ℕ) → IsOperator name w → stops (w ++ t) ≡ true
operator_stops name w t o = rw (o.2, three o.0 name o.1 t) (space_stops o.0 (name ++ (o.1 ++ t)) o.3)

-- a conjunction begins with a factor
conjunction_begins : {schema : List Field} {x : List ℕ} {f : List Factor} → IsConjunction schema x f → (r : List ℕ) → stops r ≡ true → Begins (x ++ r)
conjunction_begins (Grammar.one f) r h = factor_begins f r h
conjunction_begins (Grammar.both s w t f o c) r h = rw (three s w t r) (factor_begins f (w ++ (t ++ r)) (operator_stops (codes "AND") w (t ++ r) o))

-- a disjunction begins with a factor
disjunction_begins : {schema : List Field} {x : List ℕ} {f : List (List Factor)} → IsDisjunction schema x f → (r : List ℕ) → stops r ≡ true → Begins (x ++ r)
disjunction_begins (Grammar.conjunction f) r h = conjunction_begins f r h
disjunction_begins (Grammar.either s w t f o c) r h = rw (three s w t r) (conjunction_begins f (w ++ (t ++ r)) (operator_stops (codes "OR") w (t ++ r) o))

-- a list begins with a factor
list_begins : {schema : List Field} {x : List ℕ} {f : List (List (List Factor))} → IsList schema x f → (r : List ℕ) → stops r ≡ true → Begins (x ++ r)
list_begins (Grammar.single f) r h = disjunction_begins f r h
list_begins (Grammar.several s w t f o c) r h = rw (three s w t r) (disjunction_begins f (w ++ (t ++ r)) (space_stops w (t ++ r) o))

-- white space is skipped up to a text that may follow it
skip_to : (w b : List ℕ) → IsBlank w → opens b ≡ true → skip_while is_space (w ++ b) ≡ b
skip_to w b h o = skip_while-append w b h ∙ skip_while_opens b o

-- a text that can begin a factor closes no list
opens_closes : (b : List ℕ) → opens b ≡ true → closes b ≡ false
opens_closes [] h = absurd cc
opens_closes (c ∷ b) h = (or_parts (is_space c) (c == 41) (not-true _ h)).1

-- white space between disjunctions is read
space_is_read : (w b : List ℕ) → IsSpace w → opens b ≡ true → space_at (w ++ b) ≡ Some b
unfolding space_at
space_is_read w b h o =
    let s = skip_to w b h.1 o in
    let a = space_begins w b h in
    let k = opens_closes b o in
    rw (a, s, k) refl

-- a name that can separate factors
record IsName (name : List ℕ) : Type 0 where
  word : list_all is_word_char name ≡ true
  itself : bytes_eq (encode_utf8_all name) name ≡ true
  opens_ : (t : List ℕ) → opens (name ++ t) ≡ true

-- `AND` can separate factors
and_name : IsName (codes "AND")
unfolding is_word_char encode
and_name = record { word = refl; itself = refl; opens_ = λ t. refl }

-- `OR` can separate factors
or_name : IsName (codes "OR")
unfolding is_word_char encode
or_name = record { word = refl; itself = refl; opens_ = λ t. refl }

-- an operator is read
operator_is_read : (name : List ℕ) → IsName name → (w b : List ℕ) → IsOperator name w → opens b ≡ true → operator_at name (w ++ b) ≡ Some b
unfolding operator_at
operator_is_read name n w b o h =
    let u = o.0 in
    let v = o.1 in
    let e : w ++ b ≡ u ++ (name ++ (v ++ b)) = ap (λ (x : List ℕ). x ++ b) o.2 ∙ three u name v b in
    let a : begins_space (u ++ (name ++ (v ++ b))) ≡ true = space_begins u (name ++ (v ++ b)) o.3 in
    let s : skip_while is_space (u ++ (name ++ (v ++ b))) ≡ name ++ (v ++ b) = skip_to u (name ++ (v ++ b)) o.3.1 (n.opens_ (v ++ b)) in
    let r = word-append name (v ++ b) n.word (space_stops v b o.4) in
    let i : bytes_eq (encode_utf8_all name) name ≡ true = n.itself in
    let c : begins_space (v ++ b) ≡ true = space_begins v b o.4 in
    let t : skip_while is_space (v ++ b) ≡ b = skip_to v b o.4.1 h in
    let r0 = r.0 in
    let r1 = r.1 in
    rw (e, a, s, r0, r1, i, c, t) refl

-- no operator is read at another word
operator_none : (name s : List ℕ) → bytes_eq (word (skip_while is_space s)) name ≡ false → operator_at name s ≡ None
unfolding operator_at
operator_none name s h =
    elim (cases_Bool (begins_space s)) [
      | inl e ↦ rw (e, h) refl
      | inr e ↦ rw e refl
    ]

-- a list ends at the front of a text
record Ends (r : List ℕ) : Type 0 where
  stop : stops r ≡ true
  closed : closes (skip_while is_space r) ≡ true

-- a text that closes a list begins with no word
closed_word : (s : List ℕ) → closes s ≡ true → take_while is_word_char s ≡ []
unfolding is_word_char
closed_word [] h = refl
closed_word (c ∷ s) h = let k : c ≡ 41 = eqb-true c 41 h in rw k refl

-- no `AND` is read if a list ends
ends_and : (r : List ℕ) → Ends r → operator_at (codes "AND") r ≡ None
ends_and r e = operator_none (codes "AND") r (ap (λ (x : List ℕ). bytes_eq (encode_utf8_all x) (codes "AND")) (closed_word (skip_while is_space r) e.closed))

-- no `OR` is read if a list ends
ends_or : (r : List ℕ) → Ends r → operator_at (codes "OR") r ≡ None
ends_or r e = operator_none (codes "OR") r (ap (λ (x : List ℕ). bytes_eq (encode_utf8_all x) (codes "OR")) (closed_word (skip_while is_space r) e.closed))

-- no separator is read if a list ends
ends_space : (r : List ℕ) → Ends r → space_at r ≡ None
unfolding space_at
ends_space r e =
    let k = e.closed in
    elim (cases_Bool (begins_space r)) [
      | inl b ↦ rw (b, k) refl
      | inr b ↦ rw b refl
    ]

-- no `AND` is read at an `OR` operator
or_no_and : (w b : List ℕ) → IsOperator (codes "OR") w → operator_at (codes "AND") (w ++ b) ≡ None
unfolding encode
or_no_and w b o =
    let u = o.0 in
    let v = o.1 in
    let e : w ++ b ≡ u ++ ((codes "OR") ++ (v ++ b)) = ap (λ (x : List ℕ). x ++ b) o.2 ∙ three u (codes "OR") v b in
    let s : skip_while is_space (u ++ ((codes "OR") ++ (v ++ b))) ≡ (codes "OR") ++ (v ++ b) = skip_to u ((codes "OR") ++ (v ++ b)) o.3.1 refl in
    let r : take_while is_word_char ((codes "OR") ++ (v ++ b)) ≡ (codes "OR") = (word-append (codes "OR") (v ++ b) or_name.word (space_stops v b o.4)).0 in
    operator_none (codes "AND") (w ++ b) (ap (λ (x : List ℕ). bytes_eq (word (skip_while is_space x)) (codes "AND")) e
    ∙ ap (λ (x : List ℕ). bytes_eq (word x) (codes "AND")) s ∙ ap (λ (x : List ℕ). bytes_eq (encode_utf8_all x) (codes "AND")) r)

-- no `AND` is read at white space and a factor
space_no_and : (w b : List ℕ) → IsSpace w → Begins b → operator_at (codes "AND") (w ++ b) ≡ None
space_no_and w b h g = operator_none (codes "AND") (w ++ b) (ap (λ (x : List ℕ). bytes_eq (word x) (codes "AND")) (skip_to w b h.1 g.open_) ∙ g.no_and)

-- no `OR` is read at white space and a factor
space_no_or : (w b : List ℕ) → IsSpace w → Begins b → operator_at (codes "OR") (w ++ b) ≡ None
space_no_or w b h g = operator_none (codes "OR") (w ++ b) (ap (λ (x : List ℕ). bytes_eq (word x) (codes "OR")) (skip_to w b h.1 g.open_) ∙ g.no_or)

module _ {A : Type 0} (sep : List ℕ → Option (List ℕ)) (item : Parser A) where
  -- one item is read as a sequence
  last : (n : ℕ) (s r : List ℕ) (a : A) → 0 < n → item s ≡ Some (a, r) → sep r ≡ None → seq_by n sep item s ≡ Some (a ∷ [], r)
  unfolding seq_by
  last zero s r a l e h = absurd (omega arith)
  last (suc n) s r a l e h = rw (e, h) refl

  -- an item and a sequence are read as one
  more : (n : ℕ) (s t q r : List ℕ) (a : A) (xs : List A) → item s ≡ Some (a, q) → sep q ≡ Some t → seq_by n sep item t ≡ Some (xs, r) →
      seq_by (suc n) sep item s ≡ Some (a ∷ xs, r)
  unfolding seq_by
  more n s t q r a xs e h k = rw (e, h, k) refl

  -- an item, a separator and a sequence are read as one
  more_at : (n : ℕ) (s w t r : List ℕ) (a : A) (xs : List A) → length (s ++ (w ++ t)) ≤ n → 0 < length w →
      item (s ++ (w ++ (t ++ r))) ≡ Some (a, w ++ (t ++ r)) → sep (w ++ (t ++ r)) ≡ Some (t ++ r)
      → ((k : ℕ) → length t ≤ k → seq_by k sep item (t ++ r) ≡ Some (xs, r)) → seq_by n sep item ((s ++ (w ++ t)) ++ r) ≡ Some (a ∷ xs, r)
  more_at zero s w t r a xs l p e h k = absurd (omega (arith, simp length-append at l))
  more_at (suc n) s w t r a xs l p e h k =
      let lt : length t ≤ n = omega (arith, simp length-append at l) in
      rw (three s w t r) (more n (s ++ (w ++ (t ++ r))) (t ++ r) (w ++ (t ++ r)) r a xs e h (k n lt))

-- an operator isn't empty
operator_long : (name w : List ℕ) → IsOperator name w → 0 < length w
operator_long name w o = let h = o.3.0 in rw o.2 (omega (arith, length-append o.0 (name ++ o.1)))

-- the front is no longer than the whole
front_short : (d : ℕ) (s w t : List ℕ) → length (s ++ (w ++ t)) ≤ d → length s ≤ d
front_short d s w t l = omega (arith, simp length-append at l)

-- the back is no longer than the whole
back_short : (d : ℕ) (s w t : List ℕ) → length (s ++ (w ++ t)) ≤ d → length t ≤ d
back_short d s w t l = omega (arith, simp length-append at l)

-- a text is no longer than it and more
enough : (s r : List ℕ) → length s ≤ suc (length (s ++ r))
enough s r = omega (arith, length-append s r)

-- `NOT` is a word
not_word : list_all is_word_char (codes "NOT") ≡ true
unfolding is_word_char
not_word = refl

-- no modifier is read before a unit
plain_is_read : (t : List ℕ) → BeginsUnit t → modifier_of t ≡ Some (Plain, t)
unfolding modifier_of
plain_is_read t b =
    let c = b.head in
    let u = b.tail in
    let h : t ≡ c ∷ u = b.is in
    let k1 : (c == 43) ≡ false = b.no_plus in
    let k2 : (c == 45) ≡ false = b.no_minus in
    let k3 : bytes_eq (word (c ∷ u)) (codes "NOT") ≡ false = ap (λ (x : List ℕ). bytes_eq (word x) (codes "NOT")) (sym h) ∙ b.no_not in
    rw (h, k1, k2, k3) refl

-- `NOT` and white space are read
negated_is_read : (w t : List ℕ) → IsSpace w → opens t ≡ true → modifier_of ((codes "NOT" ++ w) ++ t) ≡ Some (Minus, t)
unfolding modifier_of encode
negated_is_read w t h o =
    let q = w ++ t in
    let a = word-append (codes "NOT") q not_word (space_stops w t h) in
    let a0 : take_while is_word_char (codes "NOT" ++ q) ≡ codes "NOT" = a.0 in
    let a1 : skip_while is_word_char (codes "NOT" ++ q) ≡ q = a.1 in
    let b : begins_space q ≡ true = space_begins w t h in
    let k : skip_while is_space q ≡ t = skip_to w t h.1 o in
    rw (a0, a1, b, k) refl

-- a modifier is read
modifier_is_read : {v : List ℕ} {m : Modifier} → IsModifier v m → (t : List ℕ) → BeginsUnit t → modifier_of (v ++ t) ≡ Some (m, t)
unfolding modifier_of
modifier_is_read Grammar.IsModifier.plain t b = plain_is_read t b
modifier_is_read Grammar.IsModifier.required t b = refl
modifier_is_read Grammar.IsModifier.prohibited t b = refl
modifier_is_read (Grammar.IsModifier.negated {w = w} h) t b = negated_is_read w t h b.begins.open_

-- a modifier and a unit are read as a factor
factor_whole : (unit : Parser Meaning) (v s r : List ℕ) (modifier : Modifier) (m : Meaning) → modifier_of (v ++ (s ++ r)) ≡ Some (modifier, s ++ r) →
    unit (s ++ r) ≡ Some (m, r) → factor_of unit ((v ++ s) ++ r) ≡ Some ((modifier, m), r)
unfolding factor_of
factor_whole unit v s r modifier m e h = rw (append_assoc v s r, e, h) refl

-- a bare word isn't empty
bare_long : (w : List ℕ) → IsBare w → length w ≤ 0 → ⊥
unfolding is_bare
bare_long [] b n = absurd (let k = b.1 in cc)
bare_long (c ∷ w) b n = omega arith

-- no colon is at the front if a word may stop there
no_colon : (c : ℕ) → (is_space c || c == 41) ≡ true → (c == 58) ≡ false
no_colon c h =
    elim (cases_Bool (c == 58)) [
      | inl e ↦ absurd (let k : c ≡ 58 = eqb-true c 58 e in let j : (is_space 58 || 58 == 41) ≡ true = rw k at h in cc)
      | inr e ↦ e
    ]

-- a character outside words differs from one of a word
word_not : (c k : ℕ) → is_word_char c ≡ true → is_word_char k ≡ false → (c == k) ≡ false
word_not c k h n =
    elim (cases_Bool (c == k)) [
      | inl e ↦ absurd (let q : c ≡ k = eqb-true c k e in let j : is_word_char k ≡ true = rw q at h in cc)
      | inr e ↦ e
    ]

-- the marks outside words
record AreMarks : Type 0 where
  star : is_word_char 42 ≡ false
  group : is_word_char 40 ≡ false
  quote : is_word_char 34 ≡ false
  include : is_word_char 91 ≡ false
  exclude : is_word_char 123 ≡ false
  above : is_word_char 62 ≡ false
  below : is_word_char 60 ≡ false

-- no mark is a character of a word
marks : AreMarks
unfolding is_word_char
marks = record { star = refl; group = refl; quote = refl; include = refl; exclude = refl; above = refl; below = refl }

-- a unit that begins with a bare word
bare_step : (schema : List Field) (d c : ℕ) (t w r : List ℕ) → is_word_char c ≡ true → begins_modifier c ≡ false → take_while is_word_char (c ∷ t) ≡ w →
    skip_while is_word_char (c ∷ t) ≡ r → is_reserved (encode_utf8_all w) ≡ false → unit_of schema (suc d) (c ∷ t) ≡ after_bare schema (encode_utf8_all w) r
unfolding unit_of unit_by bare_of
bare_step schema d c t w r a g e f b =
    let k1 = word_not c 40 a marks.group in
    let k2 = word_not c 42 a marks.star in
    let k3 = word_not c 34 a marks.quote in
    rw (e, f, k1, k2, k3, a, g, b) refl

-- a bare word is read before what follows it
bare_then : (schema : List Field) (d : ℕ) (w r : List ℕ) → IsBare w → WordEnds r → unit_of schema (suc d) (w ++ r) ≡ after_bare schema (encode_utf8_all w) r
unfolding is_bare
bare_then schema d [] r b h = absurd (let k = b.1 in cc)
bare_then schema d (c ∷ w) r b h =
    let t : is_word_char c ≡ true = (and_parts (is_word_char c) (list_all is_word_char w) b.0).0 in
    let a = word_at (c ∷ w) r b.0 h in
    let a0 : take_while is_word_char (c ∷ (w ++ r)) ≡ c ∷ w = a.0 in
    let a1 : skip_while is_word_char (c ∷ (w ++ r)) ≡ r = a.1 in
    let q = and_parts (not (c == 43 || c == 45)) (not (is_reserved (c ∷ w))) b.1 in
    let s : begins_modifier c ≡ false = not-true _ q.0 in
    let k : is_reserved (encode_utf8_all (c ∷ w)) ≡ false = is_reserved-encoded (c ∷ w) ∙ not-true _ q.1 in
    bare_step schema d c (w ++ r) (c ∷ w) r t s a0 a1 k

-- a bare word that stops is a literal
after_stops : (schema : List Field) (w r : List ℕ) → stops r ≡ true → after_bare schema w r ≡ Some (literal_anywhere schema w, r)
unfolding after_bare
after_stops schema w [] h = refl
after_stops schema w (c ∷ r) h = let k = no_colon c h in rw k refl

-- a bare word is read
bare_is_read : (schema : List Field) (d : ℕ) (w r : List ℕ) → IsBare w → stops r ≡ true →
    unit_of schema (suc d) (w ++ r) ≡ Some (literal_anywhere schema (encode_utf8_all w), r)
bare_is_read schema d w r b h = bare_then schema d w r b (word_stops r h) ∙ after_stops schema (encode_utf8_all w) r h

-- a nonempty word is read
word_is_read : (w r : List ℕ) → IsWord w → WordEnds r → word_of (w ++ r) ≡ Some (encode_utf8_all w, r)
unfolding word_of
word_is_read [] r h e = absurd (let k = h.0 in omega arith)
word_is_read (c ∷ w) r h e =
    let t : is_word_char c ≡ true = (and_parts (is_word_char c) (list_all is_word_char w) h.1).0 in
    let a = word_at (c ∷ w) r h.1 e in
    let a0 : take_while is_word_char (c ∷ (w ++ r)) ≡ c ∷ w = a.0 in
    let a1 : skip_while is_word_char (c ∷ (w ++ r)) ≡ r = a.1 in
    rw (a0, a1, t) refl

-- a bound is read
bound_is_read : {s : List ℕ} {b : Option (List ℕ)} → IsBound s b → (r : List ℕ) → WordEnds r → bound_of (s ++ r) ≡ Some (b, r)
unfolding bound_of
bound_is_read Grammar.IsBound.none r h = refl
bound_is_read (Grammar.IsBound.at {w = []} w) r h = absurd (let k = w.0 in omega arith)
bound_is_read (Grammar.IsBound.at {w = c ∷ s} w) r h =
    let k : (c == 42) ≡ false = word_not c 42 (and_parts (is_word_char c) (list_all is_word_char s) w.1).0 marks.star in
    let e : word_of (c ∷ (s ++ r)) ≡ Some (encode_utf8_all (c ∷ s), r) = word_is_read (c ∷ s) r w h in
    rw (k, e) refl

-- a bound can follow white space
bound_opens : {s : List ℕ} {b : Option (List ℕ)} → IsBound s b → (t : List ℕ) → opens (s ++ t) ≡ true
bound_opens Grammar.IsBound.none t = refl
bound_opens (Grammar.IsBound.at {w = []} w) t = absurd (let k = w.0 in omega arith)
bound_opens (Grammar.IsBound.at {w = c ∷ s} w) t = let g : (is_space c || c == 41) ≡ false =
    word_opens c (and_parts (is_word_char c) (list_all is_word_char s) w.1).0 in ap not g

-- `TO` can separate bounds
to_name : IsName (codes "TO")
unfolding is_word_char encode
to_name = record { word = refl; itself = refl; opens_ = λ t. refl }

-- a bracket ends a word and is not white space
closer_ends : {e : ℕ} {j : Bool} → Closes e j → (r : List ℕ) → WordEnds (e ∷ r) × (skip_while is_space (e ∷ r) ≡ e ∷ r)
unfolding is_word_char skip_while
closer_ends Grammar.Closes.included r = ((refl, refl), refl)
closer_ends Grammar.Closes.excluded r = ((refl, refl), refl)

-- the end of a range is read
range_end_is_read : {e : ℕ} {j : Bool} → Closes e j → (low : Bound (List ℕ)) (high : Option (List ℕ)) (r : List ℕ) →
    range_end low high (e ∷ r) ≡ Some (between low (bound j high), r)
unfolding range_end
range_end_is_read Grammar.Closes.included low high r = refl
range_end_is_read Grammar.Closes.excluded low high r = refl

-- white space, or nothing before the end of a word, ends a word
blank_then : (v r : List ℕ) → IsBlank v → WordEnds r → WordEnds (v ++ r)
blank_then [] r h e = e
blank_then (c ∷ v) r h e = word_stops (c ∷ (v ++ r)) (or_left (is_space c) (c == 41) (and_parts (is_space c) (list_all is_space v) h).0)

-- a range is read
range_is_read : (u s w t v : List ℕ) (e : ℕ) (i j : Bool) (low high : Option (List ℕ)) (r : List ℕ) → IsBlank u → IsBound s low → IsOperator (codes "TO") w →
    IsBound t high → IsBlank v → Closes e j
    → range_of i ((u ++ (s ++ (w ++ (t ++ (v ++ e ∷ []))))) ++ r) ≡ Some (between (bound i low) (bound j high), r)
unfolding range_of
range_is_read u s w t v e i j low high r bu bs o bt bv c =
    let z = v ++ (e ∷ r) in
    let q = w ++ (t ++ z) in
    let whole : (u ++ (s ++ (w ++ (t ++ (v ++ e ∷ []))))) ++ r ≡ u ++ (s ++ q) = simp append_assoc in
    let k : skip_while is_space (u ++ (s ++ q)) ≡ s ++ q = skip_to u (s ++ q) bu (bound_opens bs q) in
    let b1 : bound_of (s ++ q) ≡ Some (low, q) = bound_is_read bs q (word_stops q (operator_stops (codes "TO") w (t ++ z) o)) in
    let p : operator_at (codes "TO") q ≡ Some (t ++ z) = operator_is_read (codes "TO") to_name w (t ++ z) o (bound_opens bt z) in
    let n = closer_ends c r in
    let b2 : bound_of (t ++ z) ≡ Some (high, z) = bound_is_read bt z (blank_then v (e ∷ r) bv n.0) in
    let f : skip_while is_space z ≡ e ∷ r = skip_while-append v (e ∷ r) bv ∙ n.1 in
    let g = range_end_is_read c (bound i low) high r in
    rw (whole, k, b1, p, b2, f, g) refl

-- a comparison with `=` is read
compared_equal : (w r : List ℕ) → IsWord w → WordEnds r → compared_of (61 ∷ (w ++ r)) ≡ Some ((true, encode_utf8_all w), r)
unfolding compared_of
compared_equal w r h e = let k = word_is_read w r h e in rw k refl

-- a comparison without `=` is read
compared_other : (w r : List ℕ) → IsWord w → begins_equals w ≡ false → WordEnds r → compared_of (w ++ r) ≡ Some ((false, encode_utf8_all w), r)
unfolding compared_of
compared_other [] r h n e = absurd (let k = h.0 in omega arith)
compared_other (c ∷ w) r h n e =
    let j : (c == 61) ≡ false = n in
    let k : word_of (c ∷ (w ++ r)) ≡ Some (encode_utf8_all (c ∷ w), r) = word_is_read (c ∷ w) r h e in
    rw (j, k) refl

-- a comparison by `>` is read
above_is_read : (i : Bool) (w s r : List ℕ) → compared_of s ≡ Some ((i, w), r) → above_of s ≡ Some (between (bound i (Some w)) Unbounded, r)
unfolding above_of
above_is_read i w s r e = rw e refl

-- a comparison by `<` is read
below_is_read : (i : Bool) (w s r : List ℕ) → compared_of s ≡ Some ((i, w), r) → below_of s ≡ Some (between Unbounded (bound i (Some w)), r)
unfolding below_of
below_is_read i w s r e = rw e refl

-- a word after a field is read
value_word : (w r : List ℕ) → IsWord w → WordEnds r → value_of (w ++ r) ≡ Some (literal (encode_utf8_all w), r)
unfolding value_of plain_of
value_word [] r h e = absurd (let k = h.0 in omega arith)
value_word (c ∷ w) r h e =
    let t : is_word_char c ≡ true = (and_parts (is_word_char c) (list_all is_word_char w) h.1).0 in
    let k1 = word_not c 34 t marks.quote in
    let k2 = word_not c 91 t marks.include in
    let k3 = word_not c 123 t marks.exclude in
    let k4 = word_not c 62 t marks.above in
    let k5 = word_not c 60 t marks.below in
    let k : word_of (c ∷ (w ++ r)) ≡ Some (encode_utf8_all (c ∷ w), r) = word_is_read (c ∷ w) r h e in
    rw (k1, k2, k3, k4, k5, k) refl

-- a quoted text is read, in bytes
quoted_is_read : (t r : List ℕ) → quoted_of (quoted_text t ++ r) ≡ Some (encode_utf8_all t, r)
unfolding quoted_of
quoted_is_read t r = let e = unquoted_is_read t r in rw e refl

-- what follows a field and a colon is read
value_is_read : {s : List ℕ} {v : Value} → IsValue s v → (r : List ℕ) → stops r ≡ true → value_of (s ++ r) ≡ Some (v, r)
unfolding value_of quoted_value_of
value_is_read (Grammar.IsValue.word {w = w} h) r e = value_word w r h (word_stops r e)
value_is_read (Grammar.IsValue.quoted text) r e = let k = quoted_is_read text r in rw k refl
value_is_read (Grammar.IsValue.range u s w t v Grammar.Opens.included bu bs o bt bv c) r e = range_is_read u s w t v _ true _ _ _ r bu bs o bt bv c
value_is_read (Grammar.IsValue.range u s w t v Grammar.Opens.excluded bu bs o bt bv c) r e = range_is_read u s w t v _ false _ _ _ r bu bs o bt bv c
value_is_read (Grammar.IsValue.at_least {w = w} h) r e = above_is_read true (encode_utf8_all w) (61 ∷ (w ++ r)) r (compared_equal w r h (word_stops r e))
value_is_read (Grammar.IsValue.at_most {w = w} h) r e = below_is_read true (encode_utf8_all w) (61 ∷ (w ++ r)) r (compared_equal w r h (word_stops r e))
value_is_read (Grammar.IsValue.greater {w = w} h n) r e = above_is_read false (encode_utf8_all w) (w ++ r) r (compared_other w r h n (word_stops r e))
value_is_read (Grammar.IsValue.less {w = w} h n) r e = below_is_read false (encode_utf8_all w) (w ++ r) r (compared_other w r h n (word_stops r e))

-- a colon ends a word
colon_ends : (s : List ℕ) → WordEnds (58 ∷ s)
unfolding is_word_char skip_while
colon_ends s = (refl, refl)

-- a value after a field is read
field_then : (schema : List Field) (w s r : List ℕ) (v : Value) → value_of s ≡ Some (v, r) → after_bare schema w (58 ∷ s) ≡ Some (field_meaning schema w v, r)
unfolding after_bare
field_then schema w s r v e = rw e refl

-- a field is read
field_is_read : (schema : List Field) (d : ℕ) (w s r : List ℕ) (v : Value) → IsBare w → IsValue s v → stops r ≡ true →
    unit_of schema (suc d) ((w ++ (58 ∷ s)) ++ r) ≡ Some (field_meaning schema (encode_utf8_all w) v, r)
field_is_read schema d w s r v b i h =
    rw (two w s r) (bare_then schema d w (58 ∷ (s ++ r)) b (colon_ends (s ++ r)) ∙ field_then schema (encode_utf8_all w) (s ++ r) r v (value_is_read i r h))

-- white space before a `)` is skipped
close_skip : (w r : List ℕ) → IsBlank w → skip_while is_space (w ++ (41 ∷ r)) ≡ 41 ∷ r
unfolding skip_while
close_skip w r b = skip_while-append w (41 ∷ r) b

-- a group is read
group_is_read : (schema : List Field) (d : ℕ) (v s w r : List ℕ) (cs : List (List (List Factor))) → IsBlank v → IsBlank w → Begins (s ++ (w ++ (41 ∷ r))) →
    meaning_of (unit_of schema d) (s ++ (w ++ (41 ∷ r))) ≡ Some (list_meaning cs, w ++ (41 ∷ r))
    → unit_of schema (suc d) ((40 ∷ (v ++ (s ++ (w ++ 41 ∷ [])))) ++ r) ≡ Some (list_meaning cs, r)
unfolding unit_of unit_by group_of
group_is_read schema d v s w r cs a b g e =
    let t : (v ++ (s ++ (w ++ 41 ∷ []))) ++ r ≡ v ++ (s ++ (w ++ (41 ∷ r))) = simp append_assoc in
    let k : skip_while is_space (v ++ (s ++ (w ++ (41 ∷ r)))) ≡ s ++ (w ++ (41 ∷ r)) = skip_to v (s ++ (w ++ (41 ∷ r))) a g.open_ in
    let j : skip_while is_space (w ++ (41 ∷ r)) ≡ 41 ∷ r = close_skip w r b in
    rw (t, k, e, j) refl

-- a sequence of factors is a conjunction
conjunction_whole : (unit : Parser Meaning) (s : List ℕ) (y : Option (List Factor × List ℕ)) →
    seq_by (suc (length s)) (operator_at (codes "AND")) (factor_of unit) s ≡ y → conjunction_of unit s ≡ y
unfolding conjunction_of
conjunction_whole unit s y e = e

-- a sequence of conjunctions is a disjunction
disjunction_whole : (unit : Parser Meaning) (s : List ℕ) (y : Option (List (List Factor) × List ℕ)) →
    seq_by (suc (length s)) (operator_at (codes "OR")) (conjunction_of unit) s ≡ y → disjunction_of unit s ≡ y
unfolding disjunction_of
disjunction_whole unit s y e = e

-- a sequence of disjunctions is a list
meaning_whole : (unit : Parser Meaning) (s r : List ℕ) (cs : List (List (List Factor))) → seq_by (suc (length s)) space_at (disjunction_of unit) s
    ≡ Some (cs, r) → meaning_of unit s ≡ Some (list_meaning cs, r)
unfolding meaning_of list_of
meaning_whole unit s r cs e = rw e refl

-- a `*` is read
star_is_read : (schema : List Field) (d : ℕ) (r : List ℕ) → unit_of schema (suc d) (42 ∷ r) ≡ Some (Ok every, r)
unfolding unit_of unit_by
star_is_read schema d r = refl

-- a quoted text is read as a unit
quote_is_read : (schema : List Field) (d : ℕ) (t r : List ℕ) → unit_of schema (suc d) ((34 ∷ quoted_text t) ++ r)
    ≡ Some (literal_anywhere schema (encode_utf8_all t), r)
unfolding unit_of unit_by quoted_literal_of
quote_is_read schema d t r = let e = quoted_is_read t r in rw e refl

-- a `)` is not white space
skip_close : (r : List ℕ) → skip_while is_space (41 ∷ r) ≡ 41 ∷ r
unfolding skip_while
skip_close r = refl

-- a list is shorter than its group
group_short : (d : ℕ) (v s w : List ℕ) → length (40 ∷ (v ++ (s ++ (w ++ 41 ∷ [])))) ≤ suc d → length s ≤ d
group_short d v s w n = omega (arith, simp length-append at n)

-- a blank and a closing parenthesis end a list
blank_ends : (w r : List ℕ) → IsBlank w → closes r ≡ true → skip_while is_space r ≡ r → Ends (w ++ r)
blank_ends [] [] b c k = record { stop = refl; closed = rw k refl }
blank_ends [] (e ∷ r) b c k = record { stop = or_right (is_space e) (e == 41) c; closed = rw k c }
blank_ends (e ∷ w) r b c k =
    record {
      stop = or_left (is_space e) (e == 41) (and_parts (is_space e) (list_all is_space w) b).0;
      closed = rw (skip_while-append (e ∷ w) r b, k) c;
    }

-- the beginning of a factor isn't empty
long : (s : List ℕ) → Begins (s ++ []) → 0 < length s
long [] b = absurd (let k = b.open_ in cc)
long (c ∷ s) b = omega arith

mutual
  -- a unit is read
  unit_is_read : {schema : List Field} {x : List ℕ} {m : Meaning} → IsUnit schema x m → (d : ℕ) → (r : List ℕ) → stops r ≡ true → length x ≤ d →
      unit_of schema d (x ++ r) ≡ Some (m, r)
  unit_is_read (Grammar.group v s w cs a l b) zero r h n = absurd (omega arith)
  unit_is_read {schema = schema} (Grammar.group v s w cs a l b) (suc d) r h n =
      let e : Ends (w ++ (41 ∷ r)) = blank_ends w (41 ∷ r) b refl (skip_close r) in
      let short : length s ≤ d = group_short d v s w n in
      let q = w ++ (41 ∷ r) in
      group_is_read schema d v s w r cs a b (list_begins l q e.stop)
      (meaning_whole (unit_of schema d) (s ++ q) q cs (list_is_read l d (suc (length (s ++ q))) q e short (enough s q)))
  unit_is_read Grammar.all zero r h n = absurd (omega arith)
  unit_is_read {schema = schema} Grammar.all (suc d) r h n = star_is_read schema d r
  unit_is_read (Grammar.bare {w = w} b) zero r h n = absurd (bare_long w b n)
  unit_is_read {schema = schema} (Grammar.bare {w = w} b) (suc d) r h n = bare_is_read schema d w r b h
  unit_is_read (Grammar.field w s b v) zero r h n = absurd (omega (arith, simp length-append at n))
  unit_is_read {schema = schema} (Grammar.field w s {v = v} b i) (suc d) r h n = field_is_read schema d w s r v b i h
  unit_is_read (Grammar.quoted t) zero r h n = absurd (omega arith)
  unit_is_read {schema = schema} (Grammar.quoted t) (suc d) r h n = quote_is_read schema d t r

  -- a factor is read
  factor_is_read : {schema : List Field} {x : List ℕ} {f : Factor} → IsFactor schema x f → (d : ℕ) → (r : List ℕ) → stops r ≡ true → length x ≤ d →
      factor_of (unit_of schema d) (x ++ r) ≡ Some (f, r)
  factor_is_read {schema = schema} (Grammar.factor v s {modifier = modifier} {m = m} a u) d r h n =
      factor_whole (unit_of schema d) v s r modifier m (modifier_is_read a (s ++ r) (unit_begins u r h))
      (unit_is_read u d r h (omega (arith, length-append v s)))

  -- a conjunction is read
  conjunction_is_read : {schema : List Field} {x : List ℕ} {fs : List Factor} → IsConjunction schema x fs → (d : ℕ) → (k : ℕ) (r : List ℕ) → stops r ≡ true →
      operator_at (codes "AND") r ≡ None → length x ≤ d → length x ≤ k
      → seq_by k (operator_at (codes "AND")) (factor_of (unit_of schema d)) (x ++ r) ≡ Some (fs, r)
  conjunction_is_read {schema = schema} (Grammar.one {s = s} {f = f} i) d k r h e n l =
      last (operator_at (codes "AND")) (factor_of (unit_of schema d)) k (s ++ r) r f (let p = long s (factor_begins i [] refl) in omega arith)
      (factor_is_read i d r h n) e
  conjunction_is_read {schema = schema} (Grammar.both s w t {f = f} {fs = fs} i o c) d k r h e n l =
      more_at (operator_at (codes "AND")) (factor_of (unit_of schema d)) k s w t r f fs l (operator_long (codes "AND") w o)
      (factor_is_read i d (w ++ (t ++ r)) (operator_stops (codes "AND") w (t ++ r) o) (front_short d s w t n))
      (operator_is_read (codes "AND") and_name w (t ++ r) o (conjunction_begins c r h).open_)
      (λ j lt. conjunction_is_read c d j r h e (back_short d s w t n) lt)

  -- a disjunction is read
  disjunction_is_read : {schema : List Field} {x : List ℕ} {fs : List (List Factor)} → IsDisjunction schema x fs → (d : ℕ) → (k : ℕ) (r : List ℕ) →
      stops r ≡ true → operator_at (codes "AND") r ≡ None → operator_at (codes "OR") r ≡ None → length x ≤ d → length x ≤ k
      → seq_by k (operator_at (codes "OR")) (conjunction_of (unit_of schema d)) (x ++ r) ≡ Some (fs, r)
  disjunction_is_read {schema = schema} (Grammar.conjunction {s = s} {c = c} i) d k r h e1 e2 n l =
      last (operator_at (codes "OR")) (conjunction_of (unit_of schema d)) k (s ++ r) r c (let p = long s (conjunction_begins i [] refl) in omega arith)
      (conjunction_whole (unit_of schema d) (s ++ r) _ (conjunction_is_read i d (suc (length (s ++ r))) r h e1 n (enough s r))) e2
  disjunction_is_read {schema = schema} (Grammar.either s w t {c = c} {cs = cs} i o l) d k r h e1 e2 n lt =
      let q = w ++ (t ++ r) in
      let short = front_short d s w t n in
      more_at (operator_at (codes "OR")) (conjunction_of (unit_of schema d)) k s w t r c cs lt (operator_long (codes "OR") w o)
      (conjunction_whole (unit_of schema d) (s ++ q) _ (conjunction_is_read i d (suc (length (s ++ q))) q (operator_stops (codes "OR") w (t ++ r) o)
      (or_no_and w (t ++ r) o) short (enough s q)))
      (operator_is_read (codes "OR") or_name w (t ++ r) o (disjunction_begins l r h).open_)
      (λ j lj. disjunction_is_read l d j r h e1 e2 (back_short d s w t n) lj)

  -- a list is read
  list_is_read : {schema : List Field} {x : List ℕ} {cs : List (List (List Factor))} → IsList schema x cs → (d : ℕ) → (k : ℕ) (r : List ℕ) → Ends r →
      length x ≤ d → length x ≤ k
      → seq_by k space_at (disjunction_of (unit_of schema d)) (x ++ r) ≡ Some (cs, r)
  list_is_read {schema = schema} (Grammar.single {s = s} {c = c} i) d k r e n l =
      last space_at (disjunction_of (unit_of schema d)) k (s ++ r) r c (let p = long s (disjunction_begins i [] refl) in omega arith)
      (disjunction_whole (unit_of schema d) (s ++ r) _ (disjunction_is_read i d (suc (length (s ++ r))) r e.stop (ends_and r e) (ends_or r e) n (enough s r)))
      (ends_space r e)
  list_is_read {schema = schema} (Grammar.several s w t {c = c} {cs = cs} i a l) d k r e n lt =
      let q = w ++ (t ++ r) in
      let short = front_short d s w t n in
      let g : Begins (t ++ r) = list_begins l r e.stop in
      more_at space_at (disjunction_of (unit_of schema d)) k s w t r c cs lt a.0
      (disjunction_whole (unit_of schema d) (s ++ q) _ (disjunction_is_read i d (suc (length (s ++ q))) q (space_stops w (t ++ r) a)
      (space_no_and w (t ++ r) a g) (space_no_or w (t ++ r) a g) short (enough s q)))
      (space_is_read w (t ++ r) a g.open_)
      (λ j lj. list_is_read l d j r e (back_short d s w t n) lj)

-- the middle is no longer than the whole
back_short_mid : (d : ℕ) (s w t : List ℕ) → length (s ++ (w ++ t)) ≤ d → length w ≤ d
back_short_mid d s w t l = omega (arith, simp length-append at l)

-- a text that begins as a list does is not blank
blank_skip : (s : List ℕ) → IsBlank s → skip_while is_space s ≡ []
unfolding skip_while
blank_skip s h = ap (skip_while is_space) (sym (append-nil s)) ∙ skip_while-append s [] h

-- a text that can begin a factor still can with more after it
opens_append : (s t : List ℕ) → opens s ≡ true → opens (s ++ t) ≡ true
opens_append [] t h = absurd cc
opens_append (c ∷ s) t h = h

-- a list can begin a factor
list_opens : {schema : List Field} {x : List ℕ} {cs : List (List (List Factor))} → IsList schema x cs → opens x ≡ true
list_opens {x = x} l = let b = (list_begins l [] refl).open_ in subst (λ (s : List ℕ). opens s ≡ true) (append-nil x) b

-- white space before a query is skipped
query_skip : {schema : List Field} {s : List ℕ} {m : Meaning} (q : IsQuery schema s m) → skip_while is_space s ≡ q.inner ++ q.after
query_skip q = ap (skip_while is_space) q.parts ∙ skip_to q.before (q.inner ++ q.after) q.blank_before (opens_append q.inner q.after (list_opens q.list))

-- a query isn't blank
pub no_query_is_blank : {schema : List Field} {s : List ℕ} {m : Meaning} → IsQuery schema s m → IsBlank s → ⊥
no_query_is_blank {s = s} q b =
    let e : q.inner ++ q.after ≡ [] = sym (query_skip q) ∙ blank_skip s b in
    let h : opens (q.inner ++ q.after) ≡ true = opens_append q.inner q.after (list_opens q.list) in
    let k : opens [] ≡ true = subst (λ (x : List ℕ). opens x ≡ true) e h in
    absurd cc

-- a query is read, if it has at most d characters
pub query_is_read : {schema : List Field} {s : List ℕ} {m : Meaning} (d : ℕ) → IsQuery schema s m → length s ≤ d → query_of schema d s ≡ Some m
unfolding query_of skip_while
query_is_read {schema = schema} {s = s} {m = m} d q n =
    let x = q.inner in
    let w = q.after in
    let e : skip_while is_space s ≡ x ++ w = query_skip q in
    let g : Ends w = subst (λ (t : List ℕ). Ends t) (append-nil w) (blank_ends w [] q.blank_after refl refl) in
    let len : length s ≡ length (q.before ++ (x ++ w)) = ap length q.parts in
    let short : length x ≤ d = back_short_mid d q.before x w (omega arith) in
    let l : meaning_of (unit_of schema d) (x ++ w) ≡ Some (list_meaning q.disjunctions, w) =
    meaning_whole (unit_of schema d) (x ++ w) w q.disjunctions (list_is_read q.list d (suc (length (x ++ w))) w g short (enough x w)) in
    let k : skip_while is_space w ≡ [] = blank_skip w q.blank_after in
    let h : Some (list_meaning q.disjunctions) ≡ Some m = ap (λ (t : Meaning). Some t) (sym q.means) in
    rw (e, l, k) h
