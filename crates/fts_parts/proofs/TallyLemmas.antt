-- Numbers that are counted.
use Rattle.std.proofs.Common.{◌≡◌, ℕ, zero, suc, ◌+◌, ◌-◌, ◌^◌, ◌<◌, ◌≤◌, ◌==◌, nat_lt, ◌%◌, true, false, cond, ⊎_elim, List, [], ◌∷◌, ◌++◌, length, take, set}
use Rattle.std.proofs.Common.{replicate, Option, Some, None, refl, sym, ap, ap₂, subst, inl, inr, zero-add, mod-eq_of_lt, ◌∙◌, arith, append_assoc}
use Rattle.std.proofs.Common.{length-append, IfSome, get_or}
use Rattle.std.specs.Ordering.{nat_cmp, match_ordering}
use Rattle.std.specs.declared.cmp.Ordering.TheVariants.{Less, Equal, Greater}
use Rattle.std.proofs.lemmas.Bool.{ltb-false, lt-ltb, cases_Bool, cases_eq, cases_lt, eq-eqb, ne_eqb}
use Rattle.std.proofs.lemmas.List.Elements.{filter_map-append}
use Rattle.std.specs.List.{cons_option, filter_map}
use Rattle.std.specs.Option.{option_to_list}
use Rattle.std.specs.Prelude.{slice_index_or}
use Rattle.fts_scan.proofs.Counts.{nat_order, hits_counted-fold}
use Rattle.fts_scan.proofs.SortedCounts.{count_one-behind}
use Rattle.std.proofs.lemmas.List.Sums.{fold_push, sum_by-cons}
use Rattle.std.proofs.lemmas.List.{append-nil, ext_get_or, get_or-set_other, get_or-set_same, get_or_past, length-set, take_more}
use Rattle.std.proofs.lemmas.Cmp.{nat_cmp_total, tied_itself}
use Rattle.fts_model.specs.Answers.{count_one}
use Rattle.fts_scan.specs.Scans.{hits_counted}
use Rattle.fts_pack.specs.column.Counts.{AreWithin, having, is_value}
use Rattle.fts_pack.proofs.CountsLemmas.{mod-add}
use Rattle.fts_parts.specs.Tallies.{counts_from, counts_of, present_at, AreCounts}

-- numbers that omega finds equal
one : 0 + 1 ≡ 1
one = refl

plus_none : (n : ℕ) → n ≡ n + 0
plus_none n = omega arith

next : (n i : ℕ) → n + 1 + i ≡ n + suc i
next n i = omega arith

-- nothing comes of counts of 0
counts_from-none : (start count : ℕ) → counts_from start (replicate count 0) ≡ []
counts_from-none start zero = refl
counts_from-none start (suc count) = counts_from-none (start + 1) count

-- a lower number compares so
pub below : (x y : ℕ) → x < y → nat_cmp x y ≡ Less
below x y h = ap (λ b. cond b Less (cond (x == y) Equal Greater)) (lt-ltb x y h)

-- and one that is the same
pub itself : (x : ℕ) → nat_cmp x x ≡ Equal
itself x = tied_itself nat_cmp_total x

-- a number below all groups is counted in front of them
count_one-front : (x start : ℕ) (counts : List ℕ) → x < start →
    count_one nat_cmp (counts_from start counts) x ≡ (x, 1) ∷ counts_from start counts
count_one-front x start [] h = refl
count_one-front x start (count ∷ counts) h =
    let rest = counts_from (start + 1) counts in
    elim (nat_lt 0 count) as (λ b. count_one nat_cmp (cond b ((start, count) ∷ rest) rest) x ≡ (x, 1) ∷ cond b ((start, count) ∷ rest) rest) [
      | true ↦ ap (λ o. match_ordering o ((x, 1) ∷ (start, count) ∷ rest) ((start, count + 1) ∷ rest) ((start, count) ∷ count_one nat_cmp rest x))
          (below x start h)
      | false ↦ count_one-front x (start + 1) counts (omega (arith, h))
    ]

-- the first number is counted once more
first_more : (start count : ℕ) (counts : List ℕ) → counts_from start ((count + 1) ∷ counts) ≡ count_one nat_cmp (counts_from start (count ∷ counts)) start
first_more start count counts =
    let rest = counts_from (start + 1) counts in
    let n = start in
    let some : nat_lt 0 (count + 1) ≡ true = lt-ltb 0 (count + 1) (omega arith) in
    ap (λ b. cond b ((n, count + 1) ∷ rest) rest) some
    ∙ ⊎_elim
    (λ (yes : nat_lt 0 count ≡ true).
    sym (ap (λ b. count_one nat_cmp (cond b ((n, count) ∷ rest) rest) n) yes
    ∙ ap (λ o. match_ordering o ((n, 1) ∷ (n, count) ∷ rest) ((n, count + 1) ∷ rest) ((n, count) ∷ count_one nat_cmp rest n)) (itself start)))
    (λ (no : nat_lt 0 count ≡ false).
    let none : count ≡ 0 = omega (arith, ltb-false 0 count no) in
    ap (λ c. (n, c + 1) ∷ rest) none
    ∙ ap (λ c. (n, c) ∷ rest) one
    ∙ sym (ap (λ b. count_one nat_cmp (cond b ((n, count) ∷ rest) rest) n) no ∙ count_one-front start (start + 1) counts (omega arith)))
    (cases_Bool (nat_lt 0 count))

-- a number at its place is counted once more
counts_from-set : (start : ℕ) (counts : List ℕ) (i : ℕ) → i < length counts →
    counts_from start (set counts i (get_or counts i 0 + 1)) ≡ count_one nat_cmp (counts_from start counts) (start + i)
counts_from-set start [] i h = absurd (omega (arith, h))
counts_from-set start (count ∷ counts) zero h = first_more start count counts ∙ ap (λ x. count_one nat_cmp (counts_from start (count ∷ counts)) x)
    (plus_none start)
counts_from-set start (count ∷ counts) (suc i) h =
    let rest = counts_from (start + 1) counts in
    let n = (start + suc i) in
    let later = counts_from-set (start + 1) counts i (omega (arith, h)) ∙ ap (λ x. count_one nat_cmp rest x) (next start i) in
    elim (nat_lt 0 count) as (λ b. cond b ((start, count) ∷ counts_from (start + 1) (set counts i (get_or counts i 0 + 1)))
    (counts_from (start + 1) (set counts i (get_or counts i 0 + 1)))
    ≡ count_one nat_cmp (cond b ((start, count) ∷ rest) rest) n) [
      | true ↦ ap (λ gs. (start, count) ∷ gs) later ∙ sym (count_one-behind nat_order n start count rest (below start n (omega arith)))
      | false ↦ later
    ]

-- the counts of numbers with one more
counts_of-push : (numbers : List ℕ) (x : ℕ) → counts_of (numbers ++ x ∷ []) ≡ count_one nat_cmp (counts_of numbers) x
counts_of-push numbers x = fold_push (count_one nat_cmp) [] numbers x

-- no count is over all together
count_within : (start : ℕ) (counts : List ℕ) (i : ℕ) → get_or counts i 0 ≤ hits_counted (counts_from start counts)
count_within start [] i = omega arith
count_within start (count ∷ counts) zero =
    elim (nat_lt 0 count) as
    (λ b. nat_lt 0 count ≡ b → count ≤ hits_counted (cond b ((start, count) ∷ counts_from (start + 1) counts) (counts_from (start + 1) counts)))
    [ true ↦ λ h. omega arith | false ↦ λ h. omega (arith, ltb-false 0 count h) ] refl
count_within start (count ∷ counts) (suc i) =
    elim (nat_lt 0 count) as (λ b. get_or counts i 0 ≤ hits_counted (cond b ((start, count) ∷ counts_from (start + 1) counts) (counts_from (start + 1) counts)))
    [ true ↦ omega (arith, count_within (start + 1) counts i) | false ↦ count_within (start + 1) counts i ]

-- no count is over the numbers that were counted
counted_within : (numbers : List ℕ) (least : ℕ) (counts : List ℕ) → AreCounts numbers least counts → length numbers < 2 ^ 64 → (i : ℕ) →
    get_or counts i 0 ≤ length numbers
counted_within numbers least counts is few i =
    let total = ap hits_counted (is few) ∙ hits_counted-fold nat_order [] numbers in
    omega (arith, count_within least counts i, total)

-- one more number is counted at its place
AreCounts-one : (numbers : List ℕ) (least : ℕ) (counts : List ℕ) (x : ℕ) → least ≤ x → x < least + length counts → AreCounts numbers least counts →
    AreCounts (numbers ++ x ∷ []) least (set counts (x - least) ((get_or counts (x - least) 0 + 1) % 2 ^ 64))
AreCounts-one numbers least counts x low high is few =
    let i = x - least in
    let fewer : length numbers + 1 < 2 ^ 64 = omega (arith, few, length-append numbers (x ∷ [])) in
    let same = is (omega (arith, fewer)) in
    let fits : (get_or counts i 0 + 1) % 2 ^ 64 ≡ get_or counts i 0 + 1 =
    mod-eq_of_lt (omega (arith, counted_within numbers least counts is (omega (arith, fewer)) i, fewer)) in
    let place : least + i ≡ x = omega (arith, low) in
    ap (λ c. counts_from least (set counts i c)) fits
    ∙ counts_from-set least counts i (omega (arith, low, high))
    ∙ ap (λ y. count_one nat_cmp (counts_from least counts) y) place
    ∙ ap (λ gs. count_one nat_cmp gs x) same
    ∙ sym (counts_of-push numbers x)

-- no number was counted where each count is 0
pub AreCounts-none : (least count : ℕ) → AreCounts [] least (replicate count 0)
AreCounts-none least count few = counts_from-none least count

-- what may be there, alone
one_kept : {Y : Type 0} (o : Option Y) → cons_option o [] ≡ option_to_list o
one_kept None = refl
one_kept (Some x) = refl

-- what the first elements are mapped to, with one more of them
pub kept-more : {Y : Type 0} (h : ℕ → Option Y) (docs : List ℕ) (i : ℕ) → i < length docs →
    filter_map h (take (i + 1) docs) ≡ filter_map h (take i docs) ++ option_to_list (h (get_or docs i 0))
kept-more h docs i lt =
    ap (filter_map h) (take_more docs i 0 lt) ∙ filter_map-append h (take i docs) (get_or docs i 0 ∷ [])
    ∙ ap (λ xs. filter_map h (take i docs) ++ xs) (one_kept (h (get_or docs i 0)))

-- a number of a column is one of those that it has places for
within_at : (column : List (Option ℕ)) (least count doc x : ℕ) → AreWithin column least count → slice_index_or column doc None ≡ Some x →
    (least ≤ x) × (x < least + count)
within_at column least count doc x within is =
    let P : Option ℕ → Type 0 = λ v. IfSome v (λ x. (least ≤ x) × (x < least + count)) in
    ⊎_elim (λ (inside : doc < length column). subst P is (within doc None inside))
    (λ (past : length column ≤ doc). let none : None ≡ Some x = sym (get_or_past column doc None past) ∙ is in absurd (let contra : None ≡ Some x = none in cc))
    (cases_lt doc (length column))

-- one document more has a value, or has not
having-cons : (column : List (Option ℕ)) (doc : ℕ) (docs : List ℕ) (x : ℕ) (v : Option ℕ) → slice_index_or column doc None ≡ v →
    having column (doc ∷ docs) x ≡ cond (is_value x v) 1 0 + having column docs x
having-cons column doc docs x v is =
    sum_by-cons (λ d. cond (is_value x (slice_index_or column d None)) 1 0) doc docs ∙ ap (λ o. cond (is_value x o) 1 0 + having column docs x) is

-- each place tells of documents as after the first of them and then the others
counted_first : (column : List (Option ℕ)) (doc : ℕ) (docs : List ℕ) (least x : ℕ) (counts : List ℕ) → slice_index_or column doc None ≡ Some x → least ≤ x →
    x < least + length counts → (place : ℕ) →
    (get_or counts place 0 + having column (doc ∷ docs) (least + place)) % 2 ^ 64
    ≡ (get_or (set counts (x - least) ((get_or counts (x - least) 0 + 1) % 2 ^ 64)) place 0 + having column docs (least + place)) % 2 ^ 64
counted_first column doc docs least x counts is low high place =
    let i = x - least in
    let more = (get_or counts i 0 + 1) % 2 ^ 64 in
    let rest = having column docs (least + place) in
    let first = having-cons column doc docs (least + place) (Some x) is in
    elim (cases_eq place i) [
      | inl here ↦ (
          let one_more : having column (doc ∷ docs) (least + place) ≡ 1 + rest =
          first ∙ ap (λ b. cond b 1 0 + rest) (eq-eqb x (least + place) (omega (arith, here, low))) in
          let total : get_or counts place 0 + having column (doc ∷ docs) (least + place) ≡ get_or counts i 0 + 1 + rest =
          omega (arith, one_more, ap (λ k. get_or counts k 0) here) in
          let now : get_or (set counts i more) place 0 ≡ more =
          ap (λ k. get_or (set counts i more) k 0) here ∙ get_or-set_same counts i more 0 (omega (arith, low, high)) in
          ap (λ n. n % 2 ^ 64) total ∙ sym (mod-add (get_or counts i 0 + 1) rest (2 ^ 64)) ∙ ap (λ n. (n + rest) % 2 ^ 64) (sym now))
      | inr other ↦ (
          let same : having column (doc ∷ docs) (least + place) ≡ rest =
          first ∙ ap (λ b. cond b 1 0 + rest) (ne_eqb x (least + place) (λ e. other (omega (arith, e)))) ∙ zero-add rest in
          ap₂ (λ a n. (a + n) % 2 ^ 64) (sym (get_or-set_other counts i place more 0 other)) same)
    ]

-- where each place has counted the documents whose number it tells, the numbers of all of them are counted
pub AreCounts-docs : (column : List (Option ℕ)) (docs numbers : List ℕ) (least : ℕ) (counts after : List ℕ) → AreWithin column least (length counts) →
    length after ≡ length counts →
    ((place : ℕ) → place < length counts → get_or after place 0 ≡ (get_or counts place 0 + having column docs (least + place)) % 2 ^ 64) →
    AreCounts numbers least counts → AreCounts (numbers ++ present_at column docs) least after
AreCounts-docs column [] numbers least counts after within long each is =
    let same = λ (few : length numbers < 2 ^ 64). ext_get_or 0 after counts long (λ place lt. each place (omega (arith, lt, long)) ∙ ap (λ n. n % 2 ^ 64)
    (sym (plus_none (get_or counts place 0)))
    ∙ mod-eq_of_lt (omega (arith, counted_within numbers least counts is few place, few))) in
    let counted : AreCounts numbers least after = λ few. ap (counts_from least) (same few) ∙ is few in
    subst (λ xs. AreCounts xs least after) (sym (append-nil numbers)) counted
AreCounts-docs column (doc ∷ docs) numbers least counts after within long each is =
    elim (slice_index_or column doc None) as (λ v. slice_index_or column doc None ≡ v → AreCounts (numbers ++ cons_option v (present_at column docs)) least
    after) [
      | None ↦ λ none. AreCounts-docs column docs numbers least counts after within long
          (λ place lt. each place lt ∙ ap (λ n. (get_or counts place 0 + n) % 2 ^ 64) (having-cons column doc docs (least + place) None none
          ∙ zero-add (having column docs (least + place)))) is
      | Some x ↦ λ some.
          let at = within_at column least (length counts) doc x within some in
          let more = set counts (x - least) ((get_or counts (x - least) 0 + 1) % 2 ^ 64) in
          let size : length more ≡ length counts = length-set counts (x - least) ((get_or counts (x - least) 0 + 1) % 2 ^ 64) in
          subst (λ xs. AreCounts xs least after) (append_assoc numbers (x ∷ []) (present_at column docs))
          (AreCounts-docs column docs (numbers ++ x ∷ []) least more after (subst (AreWithin column least) (sym size) within) (long ∙ sym size)
          (λ place lt. each place (omega (arith, lt, size)) ∙ counted_first column doc docs least x counts some at.0 at.1 place)
          (AreCounts-one numbers least counts x at.0 at.1 is))
    ] refl

-- more documents are put behind those before
pub present_at-behind : (numbers : List ℕ) (column : List (Option ℕ)) (docs : List ℕ) (i : ℕ) → i < length docs →
    (numbers ++ present_at column (take i docs)) ++ option_to_list (slice_index_or column (get_or docs i 0) None) ≡ numbers
    ++ present_at column (take (i + 1) docs)
present_at-behind numbers column docs i h =
    append_assoc numbers (present_at column (take i docs)) (option_to_list (slice_index_or column (get_or docs i 0) None))
    ∙ ap (λ xs. numbers ++ xs) (sym (kept-more (λ doc. slice_index_or column doc None) docs i h))
