-- A range over a column is one over the documents.
use Rattle.std.proofs.Common.{◌≡◌, ℕ, ◌+◌, ◌-◌, ◌^◌, ◌<◌, ◌≤◌, ℤ, pos, negsuc, All, Bool, true, false, not, ◌&&◌, nat_le, nat_lt, int_lt, Option}
use Rattle.std.proofs.Common.{Some, None, IfSome, unwrap_or, option_map, List, [], length, get_or, map, refl, sym, ap, ap₂, subst, ◌∙◌, inl, inr, arith}
use Rattle.std.specs.List.{slice_get}
use Rattle.std.specs.Option.{option_map_or, option_and_then}
use Rattle.std.specs.declared.ops.Bound.{Bound}
use Rattle.std.specs.declared.ops.Bound.TheVariants.{Included, Excluded, Unbounded}
use Rattle.std.proofs.lemmas.Bool.{and_parts, cases_lt, false≢true, le-leb, lt-leb, lt-ltb, le-ltb, ltb-true}
use Rattle.std.proofs.lemmas.List.{get_or-map, get_or_past, length-map}
use Rattle.std.proofs.lemmas.Option.{get_or_from_slice_get, slice_get-map, slice_get_within, unwrap_or-slice_get}
use Rattle.std.proofs.Math.Bool.{and-false}
use Rattle.fts_model.specs.declared.operation.Stamped.{Stamped}
use Rattle.fts_model.specs.declared.schema.Field.{Field}
use Rattle.fts_model.specs.declared.schema.Kind.{Kind}
use Rattle.fts_model.specs.declared.schema.Kind.TheVariants as kinds
use Rattle.fts_model.specs.declared.value.FieldValue.{FieldValue}
use Rattle.fts_model.specs.declared.value.FieldValue.TheVariants as values
use Rattle.fts_model.specs.declared.value.Number.TheVariants as numbers
use Rattle.fts_model.specs.Documents.{DocumentValue, IsDocument, fits, fits_i64, is_of_kind, is_term_of, value_in_field}
use Rattle.fts_model.specs.Operations.{kind_at}
use Rattle.fts_model.specs.Schemas.{holds_numbers, is_ordered}
use Rattle.fts_model.specs.Queries.{admits_from, admits_to, is_bound_of, is_number_field, is_range_of, value_le, value_lt}
use Rattle.fts_pack.specs.bits.Signed.{u64_of}
use Rattle.fts_segment.specs.Numbers.{Fits64}
use Rattle.fts_pack.specs.column.Column.{is_within}
use Rattle.fts_segment.specs.FieldIndexes.{NumbersFit}
use Rattle.fts_segment.specs.Occurrences.{values_in}
use Rattle.fts_segment.specs.Segments.{SegmentValue, column, number_in, number_of, numbers_where}
use Rattle.fts_cursor.specs.Ranges.{IsGreatestOf, IsLeastOf, IsWhole, IsWholeBound, key_from, key_of, key_to}
use Rattle.fts_sets.specs.Leaves.{has_within}
use Rattle.fts_postings.specs.Windows.{passing}
use Rattle.fts_cursor.proofs.FitLemmas.{AreOfKind, are_of_kind, of_kind_at}
use Rattle.fts_cursor.proofs.HitsLemmas.{numbers_are, passing_are, test_at}

-- the order of numbers with a sign is that of their places
lt_same : (a b c d : ℕ) → (a < b → c < d) → (b ≤ a → d ≤ c) → nat_lt a b ≡ nat_lt c d
lt_same a b c d lt ge = elim (cases_lt a b) [
  | inl h ↦ lt-ltb a b h ∙ sym (lt-ltb c d (lt h))
  | inr h ↦ le-ltb a b h ∙ sym (le-ltb c d (ge h))
]

pub int_order : (x y : ℤ) → fits_i64 x ≡ true → fits_i64 y ≡ true → int_lt x y ≡ nat_lt (u64_of x) (u64_of y)
int_order (pos a) (pos b) p q = lt_same a b (a + 2 ^ 63) (b + 2 ^ 63) (λ h. omega (arith, h)) (λ h. omega (arith, h))
int_order (pos a) (negsuc b) p q = sym (le-ltb (a + 2 ^ 63) (2 ^ 63 - 1 - b) (omega arith))
int_order (negsuc a) (pos b) p q = sym (lt-ltb (2 ^ 63 - 1 - a) (b + 2 ^ 63) (omega arith))
int_order (negsuc a) (negsuc b) p q =
    lt_same b a (2 ^ 63 - 1 - a) (2 ^ 63 - 1 - b) (λ h. omega (arith, h, ltb-true a (2 ^ 63) p)) (λ h. omega (arith, h))

not_lt : (a b : ℕ) → not (nat_lt a b) ≡ nat_le b a
not_lt a b = elim (cases_lt a b) [
  | inl h ↦ ap not (lt-ltb a b h) ∙ sym (lt-leb b a h)
  | inr h ↦ ap not (le-ltb a b h) ∙ sym (le-leb b a h)
]

pub int_order_le : (x y : ℤ) → fits_i64 x ≡ true → fits_i64 y ≡ true → not (int_lt y x) ≡ nat_le (u64_of x) (u64_of y)
int_order_le x y p q = ap not (int_order y x q p) ∙ not_lt (u64_of y) (u64_of x)

-- how a value of a bound stands to one that a column keeps as this number
record IsPlaced (b v : FieldValue) (x : ℕ) : Type 0 where
  le : value_le b v ≡ nat_le (key_of b) x
  lt : value_lt b v ≡ nat_lt (key_of b) x
  ge : value_le v b ≡ nat_le x (key_of b)
  gt : value_lt v b ≡ nat_lt x (key_of b)

placed_u64 : (b : FieldValue) (n : ℕ) → is_term_of kinds.U64 b ≡ true → IsPlaced b (values.Number (numbers.U64 n)) n
placed_u64 (values.Number (numbers.U64 b)) n ok = record { le = refl; lt = refl; ge = refl; gt = refl }
placed_u64 (values.Number (numbers.I64 b)) n ok = absurd (false≢true ok)
placed_u64 (values.Text t) n ok = absurd (false≢true ok)
placed_u64 (values.Texts ts) n ok = absurd (false≢true ok)

placed_i64 : (b : FieldValue) (z : ℤ) → is_term_of kinds.I64 b ≡ true → IsWhole b → fits_i64 z ≡ true → IsPlaced b (values.Number (numbers.I64 z)) (u64_of z)
placed_i64 (values.Number (numbers.I64 b)) z ok whole fits =
    record { le = int_order_le b z whole fits; lt = int_order b z whole fits; ge = int_order_le z b fits whole; gt = int_order z b fits whole }
placed_i64 (values.Number (numbers.U64 b)) z ok whole fits = absurd (false≢true ok)
placed_i64 (values.Text t) z ok whole fits = absurd (false≢true ok)
placed_i64 (values.Texts ts) z ok whole fits = absurd (false≢true ok)

-- bounds of a kind admit a number of that kind by its place
by_u64 : (bound : Bound FieldValue) (n : ℕ) → is_bound_of kinds.U64 bound ≡ true → (admits_from bound (values.Number (numbers.U64 n)) ≡ key_from bound n)
    × (admits_to bound (values.Number (numbers.U64 n)) ≡ key_to bound n)
by_u64 (Included b) n ok = let h = placed_u64 b n ok in (h.le, h.ge)
by_u64 (Excluded b) n ok = let h = placed_u64 b n ok in (h.lt, h.gt)
by_u64 Unbounded n ok = (refl, refl)

by_i64 : (bound : Bound FieldValue) (z : ℤ) → is_bound_of kinds.I64 bound ≡ true → IsWholeBound bound → fits_i64 z ≡ true →
    (admits_from bound (values.Number (numbers.I64 z)) ≡ key_from bound (u64_of z))
    × (admits_to bound (values.Number (numbers.I64 z)) ≡ key_to bound (u64_of z))
by_i64 (Included b) z ok whole fits = let h = placed_i64 b z ok whole fits in (h.le, h.ge)
by_i64 (Excluded b) z ok whole fits = let h = placed_i64 b z ok whole fits in (h.lt, h.gt)
by_i64 Unbounded z ok whole fits = (refl, refl)

-- bounds admit a value, and a number that a column keeps
abbrev pub admits : Bound FieldValue → Bound FieldValue → FieldValue → Bool
admits lower upper v = admits_from lower v && admits_to upper v

abbrev pub key_admits : Bound FieldValue → Bound FieldValue → ℕ → Bool
key_admits lower upper x = key_from lower x && key_to upper x

-- what bounds say of a value of the kind is what they say of its number
pub admits_by_key : (kind : Kind) (lower upper : Bound FieldValue) (v : FieldValue) → is_bound_of kind lower ≡ true → is_bound_of kind upper ≡ true →
    holds_numbers kind ≡ true → IsWholeBound lower → IsWholeBound upper → Fits64 kind v → is_of_kind kind v ≡ true →
    admits lower upper v ≡ option_map_or (key_admits lower upper) (number_in kind v) false
admits_by_key kinds.U64 lower upper (values.Number (numbers.U64 n)) low high holds whole below fits is =
    ap₂ (λ a b. a && b) (by_u64 lower n low).0 (by_u64 upper n high).1
admits_by_key kinds.U64 lower upper (values.Number (numbers.I64 z)) low high holds whole below fits is = absurd (false≢true is)
admits_by_key kinds.U64 lower upper (values.Text t) low high holds whole below fits is = absurd (false≢true is)
admits_by_key kinds.U64 lower upper (values.Texts ts) low high holds whole below fits is = absurd (false≢true is)
admits_by_key kinds.I64 lower upper (values.Number (numbers.I64 z)) low high holds whole below fits is =
    ap₂ (λ a b. a && b) (by_i64 lower z low whole fits).0 (by_i64 upper z high below fits).1
admits_by_key kinds.I64 lower upper (values.Number (numbers.U64 n)) low high holds whole below fits is = absurd (false≢true is)
admits_by_key kinds.I64 lower upper (values.Text t) low high holds whole below fits is = absurd (false≢true is)
admits_by_key kinds.I64 lower upper (values.Texts ts) low high holds whole below fits is = absurd (false≢true is)
admits_by_key kinds.Text lower upper v low high holds whole below fits is = absurd (false≢true holds)
admits_by_key kinds.Keyword lower upper v low high holds whole below fits is = absurd (false≢true holds)

-- the value of a document, and the number of its column
abbrev Hit : Bound FieldValue → Bound FieldValue → ℕ → Stamped DocumentValue → Bool
Hit lower upper field e = option_map_or (admits lower upper) (value_in_field e.value field) false

abbrev number_at : List Field → ℕ → Stamped DocumentValue → Option ℕ
number_at schema field e = option_and_then (λ kind. number_of kind (value_in_field e.value field)) (kind_at schema field)

module _ (schema : List Field) (field : ℕ) (kind : Kind) (lower upper : Bound FieldValue) (is : kind_at schema field ≡ Some kind)
    (low : is_bound_of kind lower ≡ true) (high : is_bound_of kind upper ≡ true) (holds : holds_numbers kind ≡ true) (whole : IsWholeBound lower)
    (below : IsWholeBound upper) where
  by_value : (o : Option FieldValue) → IfSome o (Fits64 kind) → IfSome o (λ v. is_of_kind kind v ≡ true) →
      option_map_or (admits lower upper) o false ≡ option_map_or (key_admits lower upper) (number_of kind o) false
  by_value None fits is = refl
  by_value (Some v) fits is = admits_by_key kind lower upper v low high holds whole below fits is

  by_document : (s : Option (Stamped DocumentValue)) → ((e : Stamped DocumentValue) → s ≡ Some e → IfSome (value_in_field e.value field) (Fits64 kind)) →
      ((e : Stamped DocumentValue) → s ≡ Some e → IfSome (value_in_field e.value field) (λ v. is_of_kind kind v ≡ true)) →
      option_map_or (Hit lower upper field) s false ≡ option_map_or (key_admits lower upper) (unwrap_or (option_map (number_at schema field) s) None) false
  by_document None fit are = refl
  by_document (Some e) fit are =
      by_value (value_in_field e.value field) (fit e refl) (are e refl)
      ∙ sym (ap (λ k. option_map_or (key_admits lower upper) (option_and_then (λ kind. number_of kind (value_in_field e.value field)) k) false) is)

  -- whether a document is a hit is what the column says of it
  pub hit_by_key : (documents : List (Stamped DocumentValue)) → NumbersFit kind field documents → AreOfKind kind field documents → (d : ℕ) →
      test_at (Hit lower upper field) documents d ≡ option_map_or (key_admits lower upper) (get_or (map (number_at schema field) documents) d None) false
  hit_by_key documents fit are d =
      let fits : (e : Stamped DocumentValue) → slice_get documents d ≡ Some e → IfSome (value_in_field e.value field) (Fits64 kind) = λ e at.
      let inside = slice_get_within documents d e at in
      let value : get_or (values_in field documents) d None ≡ value_in_field e.value field =
      get_or-map (λ (x : Stamped DocumentValue). value_in_field x.value field) documents d e None inside
      ∙ ap (λ x. value_in_field x.value field) (get_or_from_slice_get documents d e e at) in
      subst (λ (o : Option FieldValue). IfSome o (Fits64 kind)) value
      (fit d None (omega (arith, inside, length-map documents (λ x. value_in_field x.value field)))) in
      by_document (slice_get documents d) fits (of_kind_at kind field documents are d)
      ∙ ap (λ o. option_map_or (key_admits lower upper) o false) (ap (λ o. unwrap_or o None) (sym (slice_get-map (number_at schema field) documents d))
      ∙ unwrap_or-slice_get (map (number_at schema field) documents) d None)

-- the numbers of 64 bits within bounds
pub within_key : (lower upper : Bound FieldValue) (low high : ℕ) (o : Option ℕ) → IsLeastOf lower (Some low) → IsGreatestOf upper (Some high) →
    IfSome o (λ x. x < 2 ^ 64) → is_within low high o ≡ option_map_or (key_admits lower upper) o false
within_key lower upper low high None least greatest small = refl
within_key lower upper low high (Some x) least greatest small = ap₂ (λ a b. a && b) (least x small) (greatest x small)

pub none_from : (lower upper : Bound FieldValue) (o : Option ℕ) → IsLeastOf lower None → IfSome o (λ x. x < 2 ^ 64) →
    option_map_or (key_admits lower upper) o false ≡ false
none_from lower upper None least small = refl
none_from lower upper (Some x) least small = ap (λ b. b && key_to upper x) (sym (least x small))

pub none_to : (lower upper : Bound FieldValue) (o : Option ℕ) → IsGreatestOf upper None → IfSome o (λ x. x < 2 ^ 64) →
    option_map_or (key_admits lower upper) o false ≡ false
none_to lower upper None greatest small = refl
none_to lower upper (Some x) greatest small = ap (λ b. key_from lower x && b) (sym (greatest x small)) ∙ and-false (key_from lower x)

-- each number of a column has 64 bits, where the greatest has
within_range : (o : Option ℕ) (x : ℕ) (range : ℕ × ℕ) → o ≡ Some x → IfSome o (λ y. (range.0 ≤ y) × (y ≤ range.1)) → x ≤ range.1
within_range None x range is h = absurd (let e : None ≡ Some x = is in cc)
within_range (Some y) x range is h = let same : y ≡ x = cc in omega (arith, h.1, same)

there : (column : List (Option ℕ)) (d x : ℕ) → get_or column d None ≡ Some x → d < length column
there column d x is = elim (cases_lt d (length column)) [
  | inl inside ↦ inside
  | inr past ↦ absurd (let e : None ≡ Some x = sym (get_or_past column d None past) ∙ is in cc)
]

pub small_of : (o : Option ℕ) → ((x : ℕ) → o ≡ Some x → x < 2 ^ 64) → IfSome o (λ x. x < 2 ^ 64)
small_of None h = tt
small_of (Some x) h = h x refl

pub small_at : (column : List (Option ℕ)) → ((d x : ℕ) → get_or column d None ≡ Some x → x < 2 ^ 64) → (d : ℕ) → IfSome (get_or column d None) (λ x. x < 2 ^ 64)
small_at column small d = small_of (get_or column d None) (small d)

-- the kind of a field that fits
pub kind_of : (o : Option Kind) (f : Kind → Bool) → option_map_or f o false ≡ true → (kind : Kind) × (o ≡ Some kind) × (f kind ≡ true)
kind_of None f h = absurd (false≢true h)
kind_of (Some kind) f h = (kind, refl, h)

-- what a range over documents is to their column
pub record Bounded (segment : SegmentValue) (field : ℕ) (lower upper : Bound FieldValue) : Type 0 where
  pub documents : All (λ d. IsDocument d.value) segment.documents
  pub fitting : All (λ d. fits segment.schema d.value ≡ true) segment.documents
  pub fits : option_map_or (is_range_of lower upper) (kind_at segment.schema field) false ≡ true
  pub numbers : is_number_field segment.schema field ≡ true
  pub whole : IsWholeBound lower
  pub below : IsWholeBound upper
  pub fit : (kind : Kind) → kind_at segment.schema field ≡ Some kind → NumbersFit kind field segment.documents
  pub small : (d x : ℕ) → get_or (column segment field) d None ≡ Some x → x < 2 ^ 64

module _ (segment : SegmentValue) (field : ℕ) (lower upper : Bound FieldValue) (h : Bounded segment field lower upper) where
  key_hit : (d : ℕ) → test_at (Hit lower upper field) segment.documents d ≡ option_map_or (key_admits lower upper) (get_or (column segment field) d None) false
  key_hit d =
      let kind = kind_of (kind_at segment.schema field) (is_range_of lower upper) h.fits in
      let front = and_parts (is_ordered kind.0 && is_bound_of kind.0 lower) (is_bound_of kind.0 upper) kind.2 in
      let both = and_parts (is_ordered kind.0) (is_bound_of kind.0 lower) front.0 in
      let numbers : holds_numbers kind.0 ≡ true = ap (λ o. option_map_or holds_numbers o false) (sym kind.1) ∙ h.numbers in
      hit_by_key segment.schema field kind.0 lower upper kind.1 both.1 front.1 numbers h.whole h.below segment.documents (h.fit kind.0 kind.1)
      (are_of_kind segment field kind.0 h.documents h.fitting kind.1) d

  pub within_hits : (low high : ℕ) → IsLeastOf lower (Some low) → IsGreatestOf upper (Some high) →
      passing (has_within low high (column segment field)) 0 (length segment.documents) ≡ numbers_where (Hit lower upper field) 0 segment.documents
  within_hits low high least greatest =
      passing_are (Hit lower upper field) segment.documents (has_within low high (column segment field))
      (λ d inside. within_key lower upper low high (get_or (column segment field) d None) least greatest (small_at (column segment field) h.small d)
      ∙ sym (key_hit d))

  pub no_least : IsLeastOf lower None → [] ≡ numbers_where (Hit lower upper field) 0 segment.documents
  no_least none =
      numbers_are (Hit lower upper field) segment.documents [] tt
      (λ d. sym (key_hit d ∙ none_from lower upper (get_or (column segment field) d None) none (small_at (column segment field) h.small d)))

  pub no_greatest : IsGreatestOf upper None → [] ≡ numbers_where (Hit lower upper field) 0 segment.documents
  no_greatest none =
      numbers_are (Hit lower upper field) segment.documents [] tt
      (λ d. sym (key_hit d ∙ none_to lower upper (get_or (column segment field) d None) none (small_at (column segment field) h.small d)))
