-- Packed lists of positions.
use Rattle.std.proofs.Common.{◌≡◌, ◌+◌, ◌-◌, ◌*◌, ◌/◌, ◌%◌, ◌^◌, ◌<◌, ◌≤◌, ℕ, suc, zero, List, [], ◌∷◌, ◌++◌, map, length, get_or, take, drop, sum, refl, sym}
use Rattle.std.proofs.Common.{ap, ap₂, subst, ◌∙◌, arith, All, length-append, length-drop}
use Rattle.std.specs.Prelude.{slice_range}
use Rattle.std.proofs.lemmas.List.{drop_more, drop-drop, drop-take, take-append-le, drop-append-le, take_all, length-take-le, nil_from_length, take-take}
use Rattle.std.proofs.lemmas.List.Elements.{All-append, All-cons, All-nil, All-head, All-tail}
use Rattle.std.proofs.lemmas.List.Sums.{sum_by-append, sum_by-take-le, sum_by_more}
use Rattle.fts_pack.specs.Documents.{block_at, block_count, documents_at, gaps}
use Rattle.fts_pack.specs.SourceLaws.{length-block_at}
use Rattle.fts_pack.proofs.DocumentsLemmas.{documents_at-gaps, length-documents_at, length-gaps}
use Rattle.fts_pack.proofs.SumLemmas.{sum-take-add, sum-cons}
use Rattle.fts_positions.specs.PositionLists.{IsPositionList, position_lists_at, AreLogged, ArePacked}
use Rattle.fts_positions.specs.PositionListBounds.{AreBoundsOf}

slice_range-more : (gs : List ℕ) (at end : ℕ) → at < end → end ≤ length gs → slice_range gs at end ≡ get_or gs at 0 ∷ slice_range gs (at + 1) end
slice_range-more gs at end lower within =
    let left : end - at ≡ suc (end - (at + 1)) = omega arith in
    ap₂ (λ n (xs : List ℕ). take n xs) left (drop_more gs at 0 (omega arith))

-- the next of the positions that are left
pub next_left : (gs : List ℕ) (at end next : ℕ) → at < end → end ≤ length gs →
    documents_at next (slice_range gs at end) ≡ (next + get_or gs at 0) ∷ documents_at (next + get_or gs at 0 + 1) (slice_range gs (at + 1) end)
next_left gs at end next lower within =
    let g = get_or gs at 0 in
    ap (documents_at next) (slice_range-more gs at end lower within)
    ∙ ap (λ n. (next + g) ∷ documents_at n (slice_range gs (at + 1) end)) (let one : suc (next + g) ≡ next + g + 1 = omega arith in one)

pub length-position_lists_at : (counts gs : List ℕ) → length (position_lists_at counts gs) ≡ length counts
length-position_lists_at [] gs = refl
length-position_lists_at (n ∷ ns) gs = ap suc (length-position_lists_at ns (drop n gs))

-- the list at an index
pub position_list_at : (counts gs : List ℕ) (k : ℕ) → k < length counts →
    get_or (position_lists_at counts gs) k [] ≡ documents_at 0 (take (get_or counts k 0) (drop (sum (take k counts)) gs))
position_list_at [] gs k within = absurd (omega arith)
position_list_at (n ∷ ns) gs zero within = refl
position_list_at (n ∷ ns) gs (suc k) within =
    position_list_at ns (drop n gs) k (omega arith)
    ∙ ap (λ xs. documents_at 0 (take (get_or ns k 0) xs)) (drop-drop (sum (take k ns)) n gs ∙ ap (λ m. drop m gs) (sym (sum-cons n (take k ns))))

-- lists appended to others
pub position_lists_at-append : (counts more gs others : List ℕ) → sum counts ≡ length gs → position_lists_at (counts ++ more) (gs ++ others)
    ≡ position_lists_at counts gs ++ position_lists_at more others
position_lists_at-append [] more gs others whole =
    let none : gs ≡ [] = nil_from_length gs (omega (arith, whole)) in ap (λ xs. position_lists_at more (xs ++ others)) none
position_lists_at-append (n ∷ ns) more gs others whole =
    let all : n + sum ns ≡ length gs = sym (sum-cons n ns) ∙ whole in
    let rest : sum ns ≡ length (drop n gs) = omega (arith, length-drop n gs) in
    ap₂ (λ xs ys. documents_at 0 xs ∷ position_lists_at (ns ++ more) ys) (take-append-le n gs others (omega arith)) (drop-append-le n gs others (omega arith))
    ∙ ap (λ rs. documents_at 0 (take n gs) ∷ rs) (position_lists_at-append ns more (drop n gs) others rest)

-- a single list
position_list_alone : (list : List ℕ) → IsPositionList list → position_lists_at (length list ∷ []) (gaps 0 list) ≡ list ∷ []
position_list_alone list is =
    ap (λ r. r ∷ []) (ap (documents_at 0) (take_all (length list) (gaps 0 list) (omega (arith, length-gaps 0 list))) ∙ documents_at-gaps 0 list is.rises)

pub position_lists_at-push : (counts gs list : List ℕ) → sum counts ≡ length gs → IsPositionList list →
    position_lists_at (counts ++ length list ∷ []) (gs ++ gaps 0 list) ≡ position_lists_at counts gs ++ list ∷ []
position_lists_at-push counts gs list whole is =
    position_lists_at-append counts (length list ∷ []) gs (gaps 0 list) whole ∙ ap (λ rs. position_lists_at counts gs ++ rs) (position_list_alone list is)

-- the lists of two logs are those of the logs, appended
pub AreLogged-append : (counts more gs others : List ℕ) → AreLogged counts gs → sum more ≡ length others → length (gs ++ others) < 2 ^ 64 →
    All (λ list. All (λ p. p < 2 ^ 32) list) (position_lists_at more others) →
    AreLogged (counts ++ more) (gs ++ others)
AreLogged-append counts more gs others h whole few fit =
    let Fit : List ℕ → Type 0 = λ list. All (λ p. p < 2 ^ 32) list in
    let All_fit : List (List ℕ) → Type 0 = All Fit in
    record {
      whole = omega (arith, sum_by-append (λ (x : ℕ). x) counts more, h.whole, whole, length-append gs others);
      few = few;
      fit = subst All_fit (sym (position_lists_at-append counts more gs others h.whole))
          (All-append Fit (position_lists_at counts gs) (position_lists_at more others) h.fit fit);
    }

pub AreLogged-push : (counts gs list : List ℕ) → AreLogged counts gs → IsPositionList list → All (λ p. p < 2 ^ 32) list → length (gs ++ gaps 0 list) < 2 ^ 64 →
    AreLogged (counts ++ length list ∷ []) (gs ++ gaps 0 list)
AreLogged-push counts gs list h is fit few =
    let Fit : List ℕ → Type 0 = λ list. All (λ p. p < 2 ^ 32) list in
    let All_fit : List (List ℕ) → Type 0 = All Fit in
    let alone : sum (length list ∷ []) ≡ length (gaps 0 list) = omega (arith, sum-cons (length list) [], length-gaps 0 list) in
    AreLogged-append counts (length list ∷ []) gs (gaps 0 list) h alone few
    (subst All_fit (sym (position_list_alone list is)) (All-cons Fit list [] fit (All-nil Fit)))

-- logged lists are packed, with the start of each 128th
pub ArePacked-logged : (counts starts gs : List ℕ) → AreLogged counts gs → length starts ≡ block_count (length counts) →
    ((block : ℕ) → block < length starts → get_or starts block 0 ≡ sum (take (block * 128) counts)) → ArePacked counts starts gs
ArePacked-logged counts starts gs h many are = record {
  whole = h.whole;
  few = h.few;
  many = many;
  starts_are = are;
  fit = h.fit;
}

-- the lists from an index on
drop-position_lists_at : (k : ℕ) (counts gs : List ℕ) → drop k (position_lists_at counts gs) ≡ position_lists_at (drop k counts) (drop (sum (take k counts)) gs)
drop-position_lists_at zero counts gs = refl
drop-position_lists_at (suc k) [] gs = refl
drop-position_lists_at (suc k) (n ∷ ns) gs =
    drop-position_lists_at k ns (drop n gs)
    ∙ ap (position_lists_at (drop k ns)) (drop-drop (sum (take k ns)) n gs ∙ ap (λ m. drop m gs) (sym (sum-cons n (take k ns))))

-- the first lists
take-position_lists_at : (k : ℕ) (counts gs : List ℕ) → take k (position_lists_at counts gs) ≡ position_lists_at (take k counts) (take (sum (take k counts)) gs)
take-position_lists_at zero counts gs = refl
take-position_lists_at (suc k) [] gs = refl
take-position_lists_at (suc k) (n ∷ ns) gs =
    let more = sum (take k ns) in
    let first : take n (take (n + more) gs) ≡ take n gs = take-take n (n + more) gs (omega arith) in
    ap₂ (λ xs rs. documents_at 0 xs ∷ rs) (sym first) (take-position_lists_at k ns (drop n gs) ∙ ap (position_lists_at (take k ns)) (sym (drop-take n more gs)))
    ∙ ap (λ m. documents_at 0 (take n (take m gs)) ∷ position_lists_at (take k ns) (drop n (take m gs))) (sym (sum-cons n (take k ns)))

-- the lists between two indexes
pub range-position_lists_at : (start end first many : ℕ) (counts gs : List ℕ) → first ≡ sum (take start counts) → many ≡ sum (slice_range counts start end) →
    position_lists_at (slice_range counts start end) (slice_range gs first (first + many)) ≡ slice_range (position_lists_at counts gs) start end
range-position_lists_at start end first many counts gs is many_is =
    let some = slice_range counts start end in
    let left : first + many - first ≡ sum some = omega (arith, many_is) in
    ap₂ (λ n m. position_lists_at some (take n (drop m gs))) left is
    ∙ sym (ap (take (end - start)) (drop-position_lists_at start counts gs) ∙ take-position_lists_at (end - start) (drop start counts)
    (drop (sum (take start counts)) gs))

-- a list is at each index
pub position_list_within : (counts gs : List ℕ) (value : List (List ℕ)) (number : ℕ) → position_lists_at counts gs ≡ value → number < length value →
    number < length counts
position_list_within counts gs value number view within = omega (arith, within, ap length view, length-position_lists_at counts gs)

-- the positions of a list that was found
pub found_position_list : (counts starts gs : List ℕ) (number start end : ℕ) → ArePacked counts starts gs → number < length counts →
    start ≡ sum (take number counts) → end ≡ start + get_or counts number 0 →
    get_or (position_lists_at counts gs) number [] ≡ documents_at 0 (slice_range gs start end)
found_position_list counts starts gs number start end h within start_is end_is =
    let some : get_or counts number 0 ≡ end - start = omega (arith, end_is) in
    position_list_at counts gs number within ∙ ap₂ (λ n m. documents_at 0 (take n (drop m gs))) some (sym start_is)

-- the lengths of the lists are the counts
pub lengths_are : (counts gs : List ℕ) → sum counts ≡ length gs → map length (position_lists_at counts gs) ≡ counts
lengths_are [] gs whole = refl
lengths_are (n ∷ ns) gs whole =
    let all : n + sum ns ≡ length gs = sym (sum-cons n ns) ∙ whole in
    let rest : sum ns ≡ length (drop n gs) = omega (arith, length-drop n gs) in
    ap₂ (λ m ms. m ∷ ms) (length-documents_at 0 (take n gs) ∙ length-take-le n gs (omega (arith, all))) (lengths_are ns (drop n gs) rest)

-- an unpacked block: the start of its lists, and their counts
pub record IsUnpacked (counts starts : List ℕ) (block many : ℕ) (out : List ℕ) : Type 0 where
  pub near : block < length starts
  pub few : many ≤ 128
  pub long : length (take many out) ≡ many
  pub sum_fits : get_or starts block 0 + sum (take many out) < 2 ^ 64
  pub within : (index : ℕ) → index ≤ 128 → block * 128 + index ≤ length counts → index ≤ many
  pub sums_are : (index : ℕ) → index ≤ many → get_or starts block 0 + sum (take index (take many out)) ≡ sum (take (block * 128 + index) counts)

pub unpacked : (counts starts gs : List ℕ) (block many : ℕ) (out : List ℕ) → ArePacked counts starts gs → block < block_count (length counts) →
    many ≡ length (block_at counts block) → take many out ≡ block_at counts block →
    IsUnpacked counts starts block many out
unpacked counts starts gs block many out h inside many_is out_is =
    let near : block < length starts = omega (arith, h.many) in
    let count = length-block_at counts block in
    let start : get_or starts block 0 ≡ sum (take (block * 128) counts) = h.starts_are block near in
    let back = drop (block * 128) counts in
    let sums : (index : ℕ) → index ≤ many → get_or starts block 0 + sum (take index (take many out)) ≡ sum (take (block * 128 + index) counts) = λ index le.
    let same : take index (take many out) ≡ take index back = ap (take index) out_is ∙ take-take index 128 back (omega (arith, many_is, count)) in
    ap₂ (λ m (xs : List ℕ). m + sum xs) start same ∙ sym (sum-take-add (block * 128) index counts) in
    let long : length (take many out) ≡ many = ap length out_is ∙ sym many_is in
    record {
      near = near;
      few = omega (arith, many_is, count);
      long = long;
      sum_fits =
          let all : take many (take many out) ≡ take many out = take_all many (take many out) (omega (arith, long)) in
          omega (arith, ap sum all, sums many (omega arith), sum_by-take-le (λ (x : ℕ). x) counts (block * 128 + many), h.whole, h.few);
      within = λ index le there. omega (arith, many_is, count);
      sums_are = sums;
    }

-- the running totals of its counts are the bounds of its lists
pub bounds_are : (counts starts gs : List ℕ) (lists : List (List ℕ)) (block many : ℕ) (out bounds : List ℕ) → ArePacked counts starts gs →
    position_lists_at counts gs ≡ lists → IsUnpacked counts starts block many out →
    ((index : ℕ) → index ≤ length (take many out) → get_or bounds index 0 ≡ get_or starts block 0 + sum (take index (take many out))) →
    AreBoundsOf lists block bounds
bounds_are counts starts gs lists block many out bounds h view u are = λ index le there.
    let there : block * 128 + index ≤ length counts = omega (arith, there, ap length view, length-position_lists_at counts gs) in
    let near : index ≤ many = u.within index le there in
    are index (omega (arith, u.long)) ∙ u.sums_are index near
    ∙ ap (λ ns. sum (take (block * 128 + index) ns)) (sym (lengths_are counts gs h.whole) ∙ ap (map length) view)

-- a list is between its bounds
pub record LiesBetween (counts gs : List ℕ) (number start end : ℕ) : Type 0 where
  pub within : end ≤ length gs
  pub is : get_or (position_lists_at counts gs) number [] ≡ documents_at 0 (slice_range gs start end)
  pub fit : All (λ p. p < 2 ^ 32) (documents_at 0 (slice_range gs start end))

pub lies_between : (counts starts gs : List ℕ) (lists : List (List ℕ)) (number : ℕ) (bounds : List ℕ) → ArePacked counts starts gs →
    position_lists_at counts gs ≡ lists → number < length lists → AreBoundsOf lists (number / 128) bounds →
    LiesBetween counts gs number (get_or bounds (number % 128) 0) (get_or bounds (number % 128 + 1) 0)
lies_between counts starts gs lists number bounds h view inside are =
    let block = number / 128 in
    let index = number % 128 in
    let number_is : block * 128 + index ≡ number = omega arith in
    let next_is : block * 128 + (index + 1) ≡ number + 1 = omega arith in
    let within = position_list_within counts gs lists number view inside in
    let lengths : map length lists ≡ counts = ap (map length) (sym view) ∙ lengths_are counts gs h.whole in
    let start_is : get_or bounds index 0 ≡ sum (take number counts) = are index (omega arith) (omega arith) ∙ ap₂ (λ n ns. sum (take n ns)) number_is lengths in
    let end_is : get_or bounds (index + 1) 0 ≡ sum (take (number + 1) counts) =
    are (index + 1) (omega arith) (omega arith) ∙ ap₂ (λ n ns. sum (take n ns)) next_is lengths in
    let more : sum (take (number + 1) counts) ≡ sum (take number counts) + get_or counts number 0 = sum_by_more (λ (x : ℕ). x) counts number 0 within in
    let is = found_position_list counts starts gs number (get_or bounds index 0) (get_or bounds (index + 1) 0) h within start_is
    (omega (arith, start_is, end_is, more)) in
    let Fit : List ℕ → Type 0 = All (λ p. p < 2 ^ 32) in
    record {
      within = omega (arith, end_is, sum_by-take-le (λ (x : ℕ). x) counts (number + 1), h.whole);
      is = is;
      fit = subst Fit is (h.fit number [] (omega (arith, within, length-position_lists_at counts gs)));
    }

-- the next gap of the positions that are left
pub record ComesNext (gs : List ℕ) (at end next gap : ℕ) : Type 0 where
  pub is : documents_at next (slice_range gs at end) ≡ (next + gap) ∷ documents_at (next + gap + 1) (slice_range gs (at + 1) end)
  pub fits : next + gap < 2 ^ 32
  pub rest_fit : All (λ p. p < 2 ^ 32) (documents_at (next + gap + 1) (slice_range gs (at + 1) end))

pub comes_next : (gs : List ℕ) (at end next gap : ℕ) → at < end → end ≤ length gs → gap ≡ get_or gs at 0 →
    All (λ p. p < 2 ^ 32) (documents_at next (slice_range gs at end)) → ComesNext gs at end next gap
comes_next gs at end next gap lower within gap_is fit =
    let rest = documents_at (next + gap + 1) (slice_range gs (at + 1) end) in
    let is : documents_at next (slice_range gs at end) ≡ (next + gap) ∷ rest = rw gap_is (next_left gs at end next lower within) in
    let P : ℕ → Type 0 = λ p. p < 2 ^ 32 in
    let all : All P ((next + gap) ∷ rest) = subst (All P) is fit in
    record { is = is; fits = All-head P (next + gap) rest all; rest_fit = All-tail P (next + gap) rest all }
