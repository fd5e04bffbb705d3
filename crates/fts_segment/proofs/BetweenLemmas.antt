-- The lists of a column's numbers, cut at two of them.
use Rattle.std.proofs.Common.{◌≡◌, ◌+◌, ◌-◌, ◌<◌, ◌≤◌, ℕ, zero, suc, Bool, true, false, cond, List, [], ◌∷◌, Option, Some, None, length, get_or, min, take}
use Rattle.std.proofs.Common.{drop, map, refl, sym, ap, subst, ◌∙◌, arith, All, Contains, option_map, inl, inr}
use Rattle.std.specs.List.{range_with_len}
use Rattle.std.specs.Prelude.{slice_get}
use Rattle.std.proofs.lemmas.List.{ext_get_or, get_or-take, get_or-drop, get_or-map, get_or_default, length-map, length-take, length-drop}
use Rattle.std.proofs.lemmas.List.FromFn.{get_or-map-range_with_len, get_or-range_with_len, length-map-range_with_len, length-range_with_len}
use Rattle.std.proofs.lemmas.Option.{slice_get_within, slice_get-get_or, slice_get-map, get_or_from_slice_get}
use Rattle.std.proofs.lemmas.Slice.Eq.{bytes_eq-Decides}
use Rattle.std.proofs.lemmas.Bool.{cases_Bool, cases_lt, cases_order, false≢true}
use Rattle.std.proofs.lemmas.List.Kept.{AllPairs-from_increasing}
use Rattle.std.specs.List.Sorted.{IsStrictlyIncreasing}
use Rattle.std.proofs.lemmas.Bool.Decides.{nat_tests}
use Rattle.fts_model.specs.declared.schema.Kind.TheVariants as kinds
use Rattle.fts_model.specs.declared.value.FieldValue.{FieldValue}
use Rattle.fts_model.specs.declared.value.FieldValue.TheVariants as values
use Rattle.fts_segment.specs.Between.{AreBetween, AreKeyed, IsCut}
use Rattle.fts_segment.specs.declared.dictionary.Dictionary.{Dictionary}
use Rattle.fts_segment.specs.FieldIndexes.{AreTerms}
use Rattle.fts_segment.specs.Keywords.{before, keyword_of, ordinals_of, texts_of}
use Rattle.fts_segment.specs.Numbers.{IsNumberIndex, is_number}
use Rattle.fts_segment.specs.Occurrences.{holds}
use Rattle.fts_segment.specs.Segments.{numbers_where}
use Rattle.fts_segment.proofs.FieldLemmas.{text_found, is_number-is}
use Rattle.fts_segment.proofs.HoldingLemmas.{numbers_where-cons, numbers_where-holds, numbers_where-map, numbers_where-same}
use Rattle.fts_segment.proofs.KeywordIndexLemmas.{number_of_text, terms_are_texts, text_among}
use Rattle.fts_segment.proofs.OrdinalLemmas.{holds_text, lists_count}

-- the number of an element that passes a test is among those of all
numbers_where-has : {X : Type 0} (p : X → Bool) (n : ℕ) (xs : List X) (k : ℕ) (x : X) → slice_get xs k ≡ Some x → p x ≡ true →
    Contains (numbers_where p n xs) (n + k)
numbers_where-has p n [] k x at is = cc
numbers_where-has {X} p n (y ∷ xs) zero x at is =
    let same : y ≡ x = cc in
    let e : numbers_where p n (y ∷ xs) ≡ n ∷ numbers_where p (n + 1) xs =
    numbers_where-cons p n y xs ∙ ap (λ b. cond b (n ∷ numbers_where p (n + 1) xs) (numbers_where p (n + 1) xs)) (ap p same ∙ is) in
    subst (λ ns. Contains ns (n + zero)) (sym e) (0, omega arith, omega arith)
numbers_where-has {X} p n (y ∷ xs) (suc k) x at is = by (p y) refl (numbers_where-has p (n + 1) xs k x at is)
  where
    next : n + 1 + k ≡ n + suc k
    next = omega arith

    at_next : (i : ℕ) → get_or (numbers_where p (n + 1) xs) i (n + 1 + k) ≡ n + 1 + k → get_or (numbers_where p (n + 1) xs) i (n + suc k) ≡ n + suc k
    at_next i at = subst (λ m. get_or (numbers_where p (n + 1) xs) i m ≡ m) next at

    by : (b : Bool) → p y ≡ b → Contains (numbers_where p (n + 1) xs) (n + 1 + k) → Contains (numbers_where p n (y ∷ xs)) (n + suc k)
    by true is (i, less, at) =
        let e : numbers_where p n (y ∷ xs) ≡ n ∷ numbers_where p (n + 1) xs =
        numbers_where-cons p n y xs ∙ ap (λ b. cond b (n ∷ numbers_where p (n + 1) xs) (numbers_where p (n + 1) xs)) is in
        subst (λ ns. Contains ns (n + suc k)) (sym e) (suc i, omega (arith, less), omega (arith, at_next i at))
    by false is (i, less, at) =
        let e : numbers_where p n (y ∷ xs) ≡ numbers_where p (n + 1) xs =
        numbers_where-cons p n y xs ∙ ap (λ b. cond b (n ∷ numbers_where p (n + 1) xs) (numbers_where p (n + 1) xs)) is in
        subst (λ ns. Contains ns (n + suc k)) (sym e) (i, less, at_next i at)

pub numbers_where-at : {X : Type 0} (p : X → Bool) (xs : List X) (k : ℕ) (x : X) → slice_get xs k ≡ Some x → p x ≡ true → Contains (numbers_where p 0 xs) k
numbers_where-at p xs k x at is = let start : 0 + k ≡ k = omega arith in subst (Contains (numbers_where p 0 xs)) start (numbers_where-has p 0 xs k x at is)

-- the lists from one index to another have the documents with a number within bounds
pub AreBetween-cut : (column : List (Option ℕ)) (lists : List (List ℕ)) (key : ℕ → ℕ) (low high start end : ℕ) → AreKeyed column lists key → start ≤ end →
    end ≤ length lists →
    ((k : ℕ) → k < start → key k < low) → ((k : ℕ) → start ≤ k → k < end → (low ≤ key k) × (key k ≤ high)) →
    ((k : ℕ) → end ≤ k → k < length lists → high < key k) → AreBetween column low high (take (end - start) (drop start lists))
AreBetween-cut column lists key low high start end keyed order inside lower middle upper =
    let part = take (end - start) (drop start lists) in
    let size : length part ≡ end - start = omega (arith, length-take (end - start) (drop start lists), length-drop start lists) in
    let at : (k : ℕ) → k < end - start → get_or part k [] ≡ get_or lists (start + k) [] = λ k less. get_or-take (end - start) (drop start lists) k [] less
    ∙ get_or-drop start lists k [] in
    record {
      sound = λ k doc less there.
          let here : k < end - start = omega (arith, less, size) in
          let bounds = middle (start + k) (omega arith) (omega (arith, here)) in
          (key (start + k), keyed.sound (start + k) doc (omega (arith, here, inside)) (subst (λ xs. Contains xs doc) (at k here) there), bounds.0, bounds.1);
      whole = λ doc x is from to.
          let found = keyed.whole doc x is in
          let up : start ≤ found.0 = elim (cases_lt found.0 start) [ inl less ↦ absurd (omega (arith, lower found.0 less, found.2, from)) | inr more ↦ more ] in
          let down : found.0 < end =
          elim (cases_lt found.0 end) [ inl less ↦ less | inr more ↦ absurd (omega (arith, upper found.0 more found.1, found.2, to)) ] in
          let k = found.0 - start in
          let e : start + k ≡ found.0 = omega (arith, up) in
          (k, omega (arith, size, up, down), subst (λ xs. Contains xs doc) (sym (at k (omega (arith, up, down)) ∙ ap (λ i. get_or lists i []) e)) found.3);
    }

pub its_number : (x : ℕ) → is_number x (Some x) ≡ true
its_number x = grind (arith, nat_tests)

column_at : (column : List (Option ℕ)) (doc x : ℕ) → Contains (numbers_where (is_number x) 0 column) doc → slice_get column doc ≡ Some (Some x)
column_at column doc x there =
    let held = numbers_where-holds (is_number x) 0 column doc there in
    let number : doc ≡ held.0 = omega (arith, held.1) in
    ap (slice_get column) number ∙ held.3 ∙ ap Some (is_number-is x held.2 held.4)

pub numbers_count : (column : List (Option ℕ)) (numbers : List ℕ) (lists : List (List ℕ)) → IsNumberIndex column numbers lists → length lists ≡ length numbers
numbers_count column numbers lists index = ap length index.listed ∙ length-map numbers (λ x. numbers_where (is_number x) 0 column)

-- the lists of a number index have the documents of its numbers
pub AreKeyed-numbers : (column : List (Option ℕ)) (numbers : List ℕ) (lists : List (List ℕ)) → IsNumberIndex column numbers lists →
    AreKeyed column lists (λ k. get_or numbers k 0)
AreKeyed-numbers column numbers lists index =
    let list_of : ℕ → List ℕ = λ x. numbers_where (is_number x) 0 column in
    let count : length lists ≡ length numbers = numbers_count column numbers lists index in
    let at : (k : ℕ) → k < length numbers → get_or lists k [] ≡ list_of (get_or numbers k 0) = λ k less. ap (λ ls. get_or ls k []) index.listed
    ∙ get_or-map list_of numbers k 0 [] less in
    record {
      sound = λ k doc less there. column_at column doc (get_or numbers k 0) (subst (λ xs. Contains xs doc) (at k (omega (arith, less, count))) there);
      whole = λ doc x is.
          let within : doc < length column = slice_get_within column doc (Some x) is in
          let there : Contains column (Some x) = (doc, within, get_or_from_slice_get column doc (Some x) (Some x) is) in
          let found = index.whole x there in
          let key : get_or numbers found.0 0 ≡ x = get_or_default numbers found.0 0 x found.1 ∙ found.2 in (
            found.0,
            omega (arith, found.1, count),
            key,
            subst (λ xs. Contains xs doc) (sym (at found.0 found.1 ∙ ap list_of key))
                (numbers_where-at (is_number x) column doc (Some x) is (its_number x)),
          );
    }

-- the text of an ordinal's value is the name at the ordinal
ordinal_text : (texts : List (List ℕ)) (v : Option FieldValue) (x : ℕ) → option_map (before texts) (keyword_of kinds.Keyword v) ≡ Some x →
    (text : List ℕ) × (v ≡ Some (values.Text text)) × (before texts text ≡ x)
ordinal_text texts None x is = cc
ordinal_text texts (Some (values.Text t)) x is = (t, refl, let e : Some (before texts t) ≡ Some x = is in cc)
ordinal_text texts (Some (values.Number n)) x is = cc
ordinal_text texts (Some (values.Texts ts)) x is = cc

text_held : (t : List ℕ) → holds kinds.Keyword (values.Text t) (Some (values.Text t)) ≡ true
text_held t = (bytes_eq-Decides t t).1 refl

-- the lists of a dictionary of keywords are those of the ordinals
module _ (vs : List (Option FieldValue)) (dictionary : Dictionary) (terms : AreTerms kinds.Keyword vs dictionary) where
  abbrev ordinal : Option FieldValue → Option ℕ
  ordinal v = option_map (before (texts_of kinds.Keyword vs)) (keyword_of kinds.Keyword v)

  texts_are : dictionary.names ≡ texts_of kinds.Keyword vs
  texts_are = terms_are_texts vs dictionary terms

  place_is : (text : List ℕ) (k : ℕ) → slice_get dictionary.names k ≡ Some text → before (texts_of kinds.Keyword vs) text ≡ k
  place_is text k named = ap (λ ts. before ts text) (sym texts_are) ∙ sym (number_of_text dictionary.names k text terms.dictionary_is.ascends named)

  -- the name at the ordinal of a value is its text
  named_at : (doc x : ℕ) (v : Option FieldValue) → slice_get vs doc ≡ Some v → ordinal v ≡ Some x →
      (text : List ℕ) × (v ≡ Some (values.Text text)) × (slice_get dictionary.names x ≡ Some text)
  named_at doc x v at is =
      let names = dictionary.names in
      let text = ordinal_text (texts_of kinds.Keyword vs) v x is in
      let value = Some (values.Text text.0) in
      let here : slice_get vs doc ≡ Some value = at ∙ ap Some text.1 in
      let there : Contains vs value = (doc, slice_get_within vs doc value here, get_or_from_slice_get vs doc value value here) in
      let among : Contains names text.0 = subst (λ ts. Contains ts text.0) (sym texts_are) (text_among vs text.0 there) in
      let named : slice_get names among.0 ≡ Some text.0 = slice_get-get_or names among.0 text.0 among.1 ∙ ap Some among.2 in
      let place : among.0 ≡ x = sym (place_is text.0 among.0 named) ∙ text.2 in
      (text.0, text.1, subst (λ k. slice_get names k ≡ Some text.0) place named)

  has_ordinal : (k : ℕ) (text : List ℕ) → slice_get dictionary.names k ≡ Some text →
      All (λ v. holds kinds.Keyword (values.Text text) v ≡ is_number k (ordinal v)) vs
  has_ordinal k text named doc d less =
      let v = get_or vs doc d in
      let has : Option FieldValue → Bool = holds kinds.Keyword (values.Text text) in
      elim (cases_Bool (has v)) [
        | inl known ↦ known
            ∙ sym (ap (λ w. is_number k (ordinal w)) (holds_text text v known) ∙ ap (λ n. is_number k (Some n)) (place_is text k named) ∙ its_number k)
        | inr unknown ↦ elim (cases_Bool (is_number k (ordinal v))) [
          | inl same ↦
              let other = named_at doc k v (slice_get-get_or vs doc d less) (is_number-is k (ordinal v) same) in
              let is : Some other.0 ≡ Some text = sym other.2 ∙ named in
              let text_is : other.0 ≡ text = cc in
              absurd (false≢true (sym unknown ∙ ap has other.1 ∙ ap (λ t. has (Some (values.Text t))) text_is ∙ text_held text))
          | inr other ↦ unknown ∙ sym other
        ]
      ]

  list_at : (k : ℕ) → k < length dictionary.lists →
      (get_or dictionary.lists k [] ≡ numbers_where (is_number k) 0 (ordinals_of kinds.Keyword vs)) × (get_or dictionary.lists k [] ≡ [] → ⊥)
  list_at k less =
      let text = get_or dictionary.names k [] in
      let named : slice_get dictionary.names k ≡ Some text = slice_get-get_or dictionary.names k [] (omega (arith, less, lists_count vs dictionary terms)) in
      let found = text_found text k terms named in (
        found.0
            ∙ numbers_where-same (holds kinds.Keyword (values.Text text)) (λ v. is_number k (ordinal v)) 0 vs (has_ordinal k text named)
            ∙ numbers_where-map (λ v. is_number k (ordinal v)) (is_number k) ordinal (λ v. refl) 0 vs,
        found.1,
      )

  pub IsNumberIndex-keywords : IsNumberIndex (ordinals_of kinds.Keyword vs) (range_with_len 0 (length dictionary.lists)) dictionary.lists
  IsNumberIndex-keywords =
      let column = ordinals_of kinds.Keyword vs in
      let lists = dictionary.lists in
      let count = length lists in
      let places = range_with_len 0 count in
      let size : length places ≡ count = length-range_with_len 0 count in
      let list_of : ℕ → List ℕ = λ x. numbers_where (is_number x) 0 column in
      record {
        rises = λ k less.
            omega (arith, get_or-range_with_len 0 count k 0 (omega (arith, less, size)), get_or-range_with_len 0 count (k + 1) 0 (omega (arith, less, size)));
        listed = ext_get_or [] lists (map list_of places) (sym (length-map-range_with_len list_of 0 count))
            (λ k less. (list_at k less).0 ∙ sym (get_or-map-range_with_len list_of 0 count k k [] less (omega arith)));
        occur = λ k d less.
            let inside : k < count = omega (arith, less, size) in
            let list = list_at k inside in
            let doc = get_or (list_of k) 0 0 in
            let at = column_at column doc k (first_member (list_of k) (λ none. list.1 (list.0 ∙ none))) in
            let there : Contains column (Some k) = (doc, slice_get_within column doc (Some k) at, get_or_from_slice_get column doc (Some k) (Some k) at) in
            let place : k ≡ get_or places k d = omega (arith, get_or-range_with_len 0 count k d inside) in
            subst (λ x. Contains column (Some x)) place there;
        whole = λ x there.
            let is : slice_get column there.0 ≡ Some (Some x) = slice_get-get_or column there.0 (Some x) there.1 ∙ ap Some there.2 in
            let value = mapped (slice_get vs there.0) refl (sym (slice_get-map ordinal vs there.0) ∙ is) in
            let named = named_at there.0 x value.0 value.1 value.2 in
            let inside : x < count = omega (arith, slice_get_within dictionary.names x named.0 named.2, lists_count vs dictionary terms) in
            (x, omega (arith, inside, size), omega (arith, get_or-range_with_len 0 count x x inside));
      }
    where
      mapped : {X Y : Type 0} {f : X → Y} {y : Y} (o : Option X) {p : Option X} → p ≡ o → option_map f o ≡ Some y → (x : X) × (p ≡ Some x) × (f x ≡ y)
      mapped None is h = cc
      mapped {X} {Y} {f} {y} (Some x) is h = (x, is, let e : Some (f x) ≡ Some y = h in cc)

      first_member : (xs : List ℕ) → (xs ≡ [] → ⊥) → Contains xs (get_or xs 0 0)
      first_member [] some = absurd (some refl)
      first_member (x ∷ xs) some = (0, omega arith, refl)

  pub AreKeyed-keywords : AreKeyed (ordinals_of kinds.Keyword vs) dictionary.lists (λ k. k)
  AreKeyed-keywords =
      let column = ordinals_of kinds.Keyword vs in
      let count = length dictionary.lists in
      let places = range_with_len 0 count in
      let keyed = AreKeyed-numbers column places dictionary.lists IsNumberIndex-keywords in
      let at : (k : ℕ) → k < count → get_or places k 0 ≡ k = λ k less. omega (arith, get_or-range_with_len 0 count k 0 less) in
      record {
        sound = λ k doc less there. subst (λ n. slice_get column doc ≡ Some (Some n)) (at k less) (keyed.sound k doc less there);
        whole = λ doc x is. let found = keyed.whole doc x is in (found.0, found.1, sym (at found.0 found.1) ∙ found.2, found.3);
      }

pub rising : (xs : List ℕ) → IsStrictlyIncreasing xs → (i j : ℕ) → i ≤ j → j < length xs → get_or xs i 0 ≤ get_or xs j 0
rising xs up i j le within = elim (cases_order i j) [
  | inl same ↦ omega (arith, ap (λ k. get_or xs k 0) same)
  | inr (inl lower) ↦ omega (arith, AllPairs-from_increasing xs up i j 0 lower within)
  | inr (inr higher) ↦ absurd (omega arith)
]

-- a number at an index cuts the rising numbers there
pub IsCut-found : (xs : List ℕ) (x i : ℕ) → IsStrictlyIncreasing xs → i < length xs → get_or xs i 0 ≡ x → IsCut xs x i
IsCut-found xs x i up within is = record {
  within = omega arith;
  before = λ k less. omega (arith, AllPairs-from_increasing xs up k i 0 less within, is);
  behind = λ k more inside. omega (arith, rising xs up i k more inside, is);
}

-- the lists of a number index between two cuts have the documents within bounds
pub between_numbers : (column : List (Option ℕ)) (numbers : List ℕ) (lists : List (List ℕ)) (low high start from end : ℕ) → IsNumberIndex column numbers lists →
    IsCut numbers low from → IsCut numbers (high + 1) end → start ≡ min from end → AreBetween column low high (take (end - start) (drop start lists))
between_numbers column numbers lists low high start from end index lower upper is =
    let count : length lists ≡ length numbers = numbers_count column numbers lists index in
    AreBetween-cut column lists (λ k. get_or numbers k 0) low high start end (AreKeyed-numbers column numbers lists index) (omega (arith, is))
    (omega (arith, upper.within, count))
    (λ k less. lower.before k (omega (arith, less, is)))
    (λ k more less. (lower.behind k (omega (arith, more, less, is)) (omega (arith, less, upper.within)), omega (arith, upper.before k less)))
    (λ k more less. omega (arith, upper.behind k more (omega (arith, less, count))))

-- the indexes of lists are cut at a bound
pub IsCut-places : (count bound place : ℕ) → place ≡ min bound count → IsCut (range_with_len 0 count) bound place
IsCut-places count bound place is =
    let size : length (range_with_len 0 count) ≡ count = length-range_with_len 0 count in
    record {
      within = omega (arith, is, size);
      before = λ k less. omega (arith, is, less, get_or-range_with_len 0 count k 0 (omega (arith, is, less)));
      behind = λ k more less. omega (arith, is, more, less, size, get_or-range_with_len 0 count k 0 (omega (arith, less, size)));
    }
