-- A disjunction: the documents of its window, and what remains of its parts after it.
use Rattle.std.proofs.Common.{◌≡◌, ℕ, zero, suc, ◌+◌, ◌-◌, ◌<◌, ◌≤◌, All, Bool, true, false, cond, ◌||◌, ◌&&◌, ◌==◌, nat_le, Option, Some, None, List, [], ◌∷◌}
use Rattle.std.proofs.Common.{◌++◌, length, get_or, set, take, drop, refl, sym, ap, ap₂, subst, ◌∙◌, inl, inr, arith}
use Rattle.std.specs.List.{AllZip, filter, slice_get}
use Rattle.std.specs.List.Sorted.{IsStrictlyIncreasing}
use Rattle.std.proofs.lemmas.Bool.{cases_Bool, cases_lt, le-leb, lt-leb, false≢true}
use Rattle.std.proofs.lemmas.List.{drop-append-le, length-append, take-append-drop, take-append-le, take_more, take_all, map-append}
use Rattle.std.proofs.lemmas.List.Elements.{All-drop, filter-append}
use Rattle.std.proofs.lemmas.List.Folds.{list_any-append}
use Rattle.std.proofs.lemmas.Option.{slice_get_within}
use Rattle.std.proofs.Math.Bool.{and-false, or-false, or_assoc}
use Rattle.fts_pack.specs.Documents.{Rises}
use Rattle.fts_postings.specs.Takes.{Takes}
use Rattle.fts_postings.specs.Remaining.{at_least}
use Rattle.fts_postings.specs.Windows.{is_found, passing}
use Rattle.fts_postings.specs.Sets.{IsLeast, has, in_some, union, with_all, with_one}
use Rattle.fts_cursor.specs.TreeValues.{Left, TreeContinues, TreeValue, beside, remains, together}
use Rattle.fts_cursor.specs.Trees.{AreBeyond, IsBuffered, IsNow, gathered}
use Rattle.fts_sets.specs.Rows.{AreMarked, found}
use Rattle.fts_sets.proofs.MarkLemmas.{found_behind, found_rises}
use Rattle.fts_cursor.specs.declared.tree.buffered_union.BufferedUnion.{BufferedUnion}
use Rattle.fts_cursor.specs.declared.tree.Node.TheVariants.{Or}
use Rattle.fts_postings.specs.declared.window.Window.{Window}
use Rattle.fts_postings.proofs.RemainingLemmas.{at_least_all, first-at_least, increasing-from_Rises, nothing_first}
use Rattle.fts_postings.proofs.SetLemmas.{Rises-lower, above_is_other, below_is_other, has-at_least, has-before_first, has-below, has-first, has-none}
use Rattle.fts_postings.proofs.SetLemmas.{is_itself}
use Rattle.fts_postings.proofs.MarkingLemmas.{at_least_behind, at_least_each, at_least_kept}
use Rattle.fts_cursor.proofs.PartsLemmas.{TreeContinues-beside, TreeContinues-same, TreeContinues-together, UpTo, UpTo-next, UpTo-none, union-left}
use Rattle.fts_postings.proofs.UnionLemmas.{Rises-union, at_least-with_all, by_order, first_of, has-union, has-with_one, in_some-append, leaves, union_first}
use Rattle.fts_postings.proofs.UnionLemmas.{with_one-front}
use Rattle.fts_cursor.proofs.TreeLemmas.{IsNow-first, drop_first, from_union, parts_from, stays_from_first}
use Rattle.fts_pack.proofs.DocumentsLemmas.{Rises-from_increasing}

-- rising lists that have the same are the same
same_from : (next : ℕ) (xs ys : List ℕ) → Rises next xs → Rises next ys → ((d : ℕ) → next ≤ d → has xs d ≡ has ys d) → xs ≡ ys
same_from next [] [] up down h = refl
same_from next [] (y ∷ ys) up down h = absurd (false≢true (h y down.0 ∙ ap (λ b. b || has ys y) (is_itself y)))
same_from next (x ∷ xs) [] up down h = absurd (false≢true (sym (h x up.0) ∙ ap (λ b. b || has xs x) (is_itself x)))
same_from next (x ∷ xs) (y ∷ ys) up down h = by_order (x ∷ xs ≡ y ∷ ys) x y
    (λ lt. absurd (false≢true (sym (has-below y (y ∷ ys) x (omega arith, down.1) lt) ∙ sym (h x up.0) ∙ ap (λ b. b || has xs x) (is_itself x))))
    (λ eq.
    let later : Rises (suc x) ys = subst (λ z. Rises (suc z) ys) (sym eq) down.1 in
    let rest : xs ≡ ys = same_from (suc x) xs ys up.1 later (λ d high.
    ap (λ b. b || has xs d) (sym (above_is_other x d (omega (arith, high)))) ∙ h d (omega (arith, high, up.0))
    ∙ ap (λ b. b || has ys d) (above_is_other y d (omega (arith, high, eq)))) in
    ap₂ (λ z zs. z ∷ zs) eq rest)
    (λ gt. absurd (false≢true (sym (has-below x (x ∷ xs) y (omega arith, up.1) gt) ∙ h y down.0 ∙ ap (λ b. b || has ys y) (is_itself y))))

-- nothing below the target is left
has-at_least_low : (target : ℕ) (xs : List ℕ) (d : ℕ) → d < target → has (at_least target xs) d ≡ false
has-at_least_low target [] d low = refl
has-at_least_low target (x ∷ xs) d low = elim (cases_lt x target) [
  | inl out ↦ ap (λ b. has (cond b (x ∷ at_least target xs) (at_least target xs)) d) (lt-leb target x out) ∙ has-at_least_low target xs d low
  | inr stay ↦
      ap (λ b. has (cond b (x ∷ at_least target xs) (at_least target xs)) d) (le-leb target x stay)
      ∙ ap₂ (λ a b. a || b) (below_is_other x d (omega (arith, low, stay))) (has-at_least_low target xs d low)
]

found_first : (w : Window) (doc : ℕ) → Some doc ≡ slice_get (found w) 0 → doc ≤ w.last
found_first w doc first = elim (cases_lt w.last doc) [
  | inl past ↦ absurd (false≢true (sym (found_behind w doc past) ∙ has-first (found w) doc first))
  | inr within ↦ within
]

-- how far the documents of a part were marked
pub record IsMarking (initial now : List ℕ) (old new : Window) : Type 0 where
  pub place : (new.from ≡ old.from) × (new.last ≡ old.last)
  pub up : now ≡ at_least old.from now
  pub left : at_least (old.last + 1) now ≡ at_least (old.last + 1) initial
  pub same : (d : ℕ) → (has (found new) d || has now d) ≡ (has (found old) d || has initial d)

-- how far those of several were
pub record MarkedUpTo (initial now : List TreeValue) (old new : Window) (index : ℕ) : Type 0 where
  pub up_to : UpTo (Left (old.last + 1)) initial now index
  pub place : (new.from ≡ old.from) × (new.last ≡ old.last)
  pub marked : AreMarked (in_some (remains (take index initial))) old new

or_shift : (a b c : Bool) → ((a || b) || c) ≡ (b || (a || c))
or_shift true true c = refl
or_shift true false c = refl
or_shift false b c = refl

either : (a l i p : Bool) → ((a || (l && i)) || (l && p)) ≡ (a || (l && (i || p)))
either true l i p = refl
either false true i p = refl
either false false i p = refl

at_least_passed : (target doc : ℕ) (xs : List ℕ) → Some doc ≡ slice_get xs 0 → doc < target → at_least target (drop 1 xs) ≡ at_least target xs
at_least_passed target doc [] first low = refl
at_least_passed target doc (x ∷ xs) first low =
    let same : doc ≡ x = cc in
    sym (leaves target x xs (omega (arith, same, low)))

has_split : (doc d : ℕ) (xs : List ℕ) → Some doc ≡ slice_get xs 0 → has xs d ≡ ((doc == d) || has (drop 1 xs) d)
has_split doc d [] first = absurd (let e : Some doc ≡ None = first in cc)
has_split doc d (x ∷ xs) first =
    let same : doc ≡ x = cc in
    ap (λ y. (y == d) || has xs d) (sym same)

rises_rest : (doc : ℕ) (xs : List ℕ) → IsStrictlyIncreasing xs → Some doc ≡ slice_get xs 0 → Rises (suc doc) (drop 1 xs)
rises_rest doc [] rises first = tt
rises_rest doc (x ∷ xs) rises first =
    let same : doc ≡ x = cc in
    subst (λ y. Rises (suc y) xs) (sym same) (Rises-from_increasing (x ∷ xs) rises).1

pub IsMarking-none : (documents : List ℕ) (w : Window) → documents ≡ at_least w.from documents → IsMarking documents documents w w
IsMarking-none documents w up = record { place = (refl, refl); up = up; left = refl; same = λ d. refl }

module _ (initial now : List ℕ) (old new : Window) (h : IsMarking initial now old new) (rises : IsStrictlyIncreasing now) where
  pub marking_low : (doc : ℕ) → Some doc ≡ slice_get now 0 → new.from ≤ doc
  marking_low doc first =
      omega (arith, first-at_least old.from now doc (first ∙ ap (λ xs. slice_get xs 0) h.up), h.place.0)

  -- one document more
  pub IsMarking-next : (doc : ℕ) → Some doc ≡ slice_get now 0 → doc ≤ new.last → (later : List ℕ) (w : Window) → later ≡ drop 1 now →
      (w.from ≡ new.from) × (w.last ≡ new.last) → found w ≡ with_one doc (found new) → IsMarking initial later old w
  IsMarking-next doc first within later w is place marked = record {
    place = (place.0 ∙ h.place.0, place.1 ∙ h.place.1);
    up =
        let rest = rises_rest doc now rises first in
        let low = marking_low doc first in
        is ∙ sym (ap (at_least old.from) is ∙ at_least_all old.from (suc doc) (drop 1 now) rest (omega (arith, low, h.place.0)));
    left = ap (at_least (old.last + 1)) is ∙ at_least_passed (old.last + 1) doc now first (omega (arith, within, h.place.1)) ∙ h.left;
    same = λ d.
        ap₂ (λ xs ys. has xs d || has ys d) marked is
        ∙ ap (λ b. b || has (drop 1 now) d) (has-with_one doc (found new) d)
        ∙ or_shift (doc == d) (has (found new) d) (has (drop 1 now) d)
        ∙ ap (λ b. has (found new) d || b) (sym (has_split doc d now first))
        ∙ h.same d;
  }

  pub marking_up : now ≡ at_least new.from now
  marking_up = subst (λ n. now ≡ at_least n now) (sym h.place.0) h.up

  -- a stretch more
  pub IsMarking-stretch : (count : ℕ) (later : List ℕ) (w : Window) → later ≡ drop count now → (w.from ≡ new.from) × (w.last ≡ new.last) →
      All (λ d. d ≤ new.last) (take count now)
      → ((d : ℕ) → has (found w) d ≡ (has (found new) d || has (take count now) d)) → IsMarking initial later old w
  IsMarking-stretch count later w is place places marked =
      let low : All (λ d. old.from ≤ d) now = subst (λ xs. All (λ d. old.from ≤ d) xs) (sym h.up) (at_least_each old.from now) in
      let below : All (λ d. d < old.last + 1) (take count now) = λ k d inside. omega (arith, places k d inside, h.place.1) in
      record {
        place = (place.0 ∙ h.place.0, place.1 ∙ h.place.1);
        up = is ∙ sym (ap (at_least old.from) is ∙ at_least_kept old.from (drop count now) (All-drop (λ d. old.from ≤ d) count now low));
        left = ap (at_least (old.last + 1)) is ∙ at_least_behind (old.last + 1) count now below ∙ h.left;
        same = λ d.
            ap₂ (λ b ys. b || has ys d) (marked d) is
            ∙ or_assoc (has (found new) d) (has (take count now) d) (has (drop count now) d)
            ∙ ap (λ b. has (found new) d || b) (sym (list_any-append (λ x. x == d) (take count now) (drop count now)) ∙ ap (λ xs. has xs d)
            (take-append-drop count now))
            ∙ h.same d;
      }

  pub marking_past : (doc : ℕ) → Some doc ≡ slice_get now 0 → new.last < doc → now ≡ at_least (old.last + 1) now
  marking_past doc first past = stays_from_first (old.last + 1) doc now rises first (omega (arith, past, h.place.1))

  -- what remains lies behind the window
  module _ (end : now ≡ at_least (old.last + 1) now) where
    pub marking_left : now ≡ at_least (old.last + 1) initial
    marking_left = end ∙ h.left

    pub marking_done : AreMarked (has initial) old new
    marking_done d = elim (cases_lt old.last d) [
      | inl past ↦
          found_behind new d (omega (arith, past, h.place.1))
          ∙ sym (ap₂ (λ a b. a || (b && has initial d)) (found_behind old d past) (lt-leb d old.last past))
      | inr within ↦
          let none : has now d ≡ false = ap (λ xs. has xs d) end ∙ has-at_least_low (old.last + 1) now d (omega (arith, within)) in
          sym (or-false (has (found new) d)) ∙ ap (λ b. has (found new) d || b) (sym none) ∙ h.same d
          ∙ sym (ap (λ b. has (found old) d || (b && has initial d)) (le-leb d old.last within))
    ]

pub marking_ended : (now : List ℕ) (target : ℕ) → None ≡ slice_get now 0 → now ≡ at_least target now
marking_ended now target none =
    let empty = nothing_first now none in
    empty ∙ sym (ap (at_least target) empty)

pub MarkedUpTo-none : (parts : List TreeValue) (w : Window) → MarkedUpTo parts parts w w 0
MarkedUpTo-none parts w = record {
  up_to = UpTo-none (Left (w.last + 1)) parts;
  place = (refl, refl);
  marked = λ d. sym (ap (λ b. has (found w) d || b) (and-false (nat_le d w.last)) ∙ or-false (has (found w) d));
}

module _ (initial now : List TreeValue) (old new : Window) (index : ℕ) (h : MarkedUpTo initial now old new index) where
  pub MarkedUpTo-next : (d₀ q : TreeValue) (w : Window) → index < length now → Left (new.last + 1) (get_or now index d₀) q →
      (w.from ≡ new.from) × (w.last ≡ new.last) → AreMarked (has (get_or now index d₀).remaining) new w → MarkedUpTo initial (set now index q) old w (index + 1)
  MarkedUpTo-next d₀ q w inside left place marked =
      let p = get_or now index d₀ in
      let same : p ≡ get_or initial index d₀ = h.up_to.rest index d₀ (omega arith) in
      let moved : Left (old.last + 1) p q = subst (λ n. Left (n + 1) p q) h.place.1 left in
      let there : index < length initial = omega (arith, inside, h.up_to.size) in
      let more : remains (take (index + 1) initial) ≡ remains (take index initial) ++ p.remaining ∷ [] =
      ap remains (take_more initial index d₀ there) ∙ map-append (λ s. s.remaining) (take index initial) (get_or initial index d₀ ∷ [])
      ∙ ap (λ (s : TreeValue). remains (take index initial) ++ s.remaining ∷ []) (sym same) in
      record {
        up_to = UpTo-next (Left (old.last + 1)) initial now index h.up_to d₀ q inside moved;
        place = (place.0 ∙ h.place.0, place.1 ∙ h.place.1);
        marked = λ d.
            marked d
            ∙ ap₂ (λ a n. a || (nat_le d n && has p.remaining d)) (h.marked d) h.place.1
            ∙ either (has (found old) d) (nat_le d old.last) (in_some (remains (take index initial)) d) (has p.remaining d)
            ∙ ap (λ b. has (found old) d || (nat_le d old.last && b))
            (sym (ap (λ lists. in_some lists d) more ∙ in_some-append (remains (take index initial)) p.remaining d));
      }

  pub MarkedUpTo-all : length now ≤ index → AreMarked (in_some (remains initial)) old new
  MarkedUpTo-all all = subst (λ ps. AreMarked (in_some (remains ps)) old new) (take_all index initial (omega (arith, all, h.up_to.size))) h.marked

-- the window's first is the first of all
gathered_least : (doc : ℕ) (w : Window) (lists : List (List ℕ)) → IsBuffered (Some doc) w lists → IsLeast (Some doc) (found w ∷ lists)
gathered_least doc w lists h = (
  ap (λ b. b || in_some lists doc) (has-first (found w) doc h.first),
  λ d low. ap₂ (λ a b. a || b) (has-before_first (found w) doc d (increasing-from_Rises 0 (found w) (found_rises w)) h.first low)
      (h.beyond d (omega (arith, low, found_first w doc h.first))),
)

module _ (b : BufferedUnion) (remaining : List ℕ) (is : gathered b ≡ remaining) where
  abbrev lists : List (List ℕ)
  lists = remains b.parts.items

  rises_all : IsStrictlyIncreasing (gathered b)
  rises_all = increasing-from_Rises 0 (gathered b) (Rises-union (found b.window ∷ lists))

  pub IsNow-some : (doc : ℕ) → IsBuffered (Some doc) b.window lists → IsNow (Some doc) (Or b) remaining
  IsNow-some doc h = IsNow-first (Some doc) (Or b) remaining (union_first (Some doc) (found b.window ∷ lists) (gathered_least doc b.window lists h)) rises_all h
      tt is

  pub IsNow-none : None ≡ slice_get (found b.window) 0 → IsLeast None lists → IsNow None (Or b) remaining
  IsNow-none none h =
      let nowhere : IsLeast None (found b.window ∷ lists) = λ d. ap₂ (λ x y. x || y) (has-none (found b.window) d none) (h d) in
      let buffered : IsBuffered None b.window lists = record { first = none; beyond = λ d within. h d } in
      IsNow-first None (Or b) remaining (union_first None (found b.window ∷ lists) nowhere) rises_all buffered tt is

-- a target up to the window's end is one for its documents alone
narrowed : (target : ℕ) (w : Window) (lists : List (List ℕ)) → target ≤ w.last + 1 → AreBeyond w lists →
    union (at_least target (found w) ∷ lists) ≡ at_least target (union (found w ∷ lists))
narrowed target w lists le beyond =
    let stay = from_union target (union lists) lists (λ d low. has-union lists d ∙ beyond d (omega (arith, low, le))) in
    ap (with_all (at_least target (found w))) stay ∙ sym (at_least-with_all target (found w) (union lists))

-- a search within the window
pub gathered_within : (target doc : ℕ) (old new : Window) (lists : List (List ℕ)) → AreBeyond old lists → found new ≡ at_least target (found old) →
    new.last ≡ old.last → Some doc ≡ slice_get (found new) 0 → union (found new ∷ lists) ≡ at_least target (union (found old ∷ lists))
gathered_within target doc old new lists beyond is last first =
    let up = first-at_least target (found old) doc (first ∙ ap (λ xs. slice_get xs 0) is) in
    let within = found_first new doc first in
    ap (λ xs. union (xs ∷ lists)) is ∙ narrowed target old lists (omega (arith, up, within, last)) beyond

-- the step over the window's first
pub gathered_next : (doc : ℕ) (old new : Window) (lists : List (List ℕ)) → IsBuffered (Some doc) old lists → found new ≡ drop 1 (found old) →
    at_least 0 (union (found new ∷ lists)) ≡ drop 1 (union (found old ∷ lists))
gathered_next doc old new lists h is =
    let within = found_first old doc h.first in
    at_least_all 0 0 (union (found new ∷ lists)) (Rises-union (found new ∷ lists)) (omega arith)
    ∙ ap (λ xs. union (xs ∷ lists)) (is ∙ drop_first doc (found old) (increasing-from_Rises 0 (found old) (found_rises old)) h.first)
    ∙ narrowed (doc + 1) old lists (omega (arith, within)) h.beyond
    ∙ sym (drop_first doc (union (found old ∷ lists)) (increasing-from_Rises 0 (union (found old ∷ lists)) (Rises-union (found old ∷ lists)))
    (union_first (Some doc) (found old ∷ lists) (gathered_least doc old lists h)))

-- a list that begins behind another lies behind it in both
Rises-beyond : (next : ℕ) (xs : List ℕ) → Rises 0 xs → ((d : ℕ) → d < next → has xs d ≡ false) → Rises next xs
Rises-beyond next [] h lack = tt
Rises-beyond next (x ∷ xs) h lack = (
  elim (cases_lt x next) [
    | inl low ↦ absurd (false≢true (sym (lack x low) ∙ ap (λ b. b || has xs x) (is_itself x)))
    | inr high ↦ high
  ],
  h.1,
)

abbrev AreUpTo : ℕ → List ℕ → Type 0
AreUpTo last [] = Unit {0}
AreUpTo last (x ∷ xs) = (x ≤ last) × AreUpTo last xs

put_behind : (n last : ℕ) (xs ys : List ℕ) → Rises n xs → AreUpTo last xs → Rises (suc last) ys → n ≤ suc last →
    (with_all xs ys ≡ xs ++ ys) × Rises n (xs ++ ys)
put_behind n last [] ys up within behind low = (refl, Rises-lower (suc last) n ys low behind)
put_behind n last (x ∷ xs) ys up within behind low =
    let more = put_behind (suc x) last xs ys up.1 within.1 behind (omega (arith, within.0)) in
    (ap (with_one x) more.0 ∙ with_one-front x (xs ++ ys) more.1, (up.0, more.1))

passing-up_to : (p : ℕ → Bool) (a n last : ℕ) → a + n ≤ suc last → AreUpTo last (passing p a n)
passing-up_to p a zero last h = tt
passing-up_to p a (suc n) last h =
    let more = passing p (a + 1) n in
    let rest = passing-up_to p (a + 1) n last (omega (arith, h)) in
    elim (cases_Bool (p a)) [
      | inl kept ↦ subst (λ b. AreUpTo last (cond b (a ∷ more) more)) (sym kept) (omega (arith, h), rest)
      | inr other ↦ subst (λ b. AreUpTo last (cond b (a ∷ more) more)) (sym other) rest
    ]

found_up_to : (w : Window) → AreUpTo w.last (found w)
found_up_to w = elim (cases_lt w.last w.from) [
  | inl over ↦ let none : suc w.last - w.from ≡ 0 = omega (arith, over) in
      subst (λ n. AreUpTo w.last (passing (is_found w.base w.words) w.from n)) (sym none) tt
  | inr stands ↦ passing-up_to (is_found w.base w.words) w.from (suc w.last - w.from) w.last (omega (arith, stands))
]

-- the window's documents come first, and then those of the parts
apart : (w : Window) (lists : List (List ℕ)) → AreBeyond w lists → union (found w ∷ lists) ≡ found w ++ union lists
apart w lists beyond =
    let behind = Rises-beyond (suc w.last) (union lists) (Rises-union lists) (λ d low. has-union lists d ∙ beyond d (omega (arith, low))) in
    (put_behind 0 w.last (found w) (union lists) (found_rises w) (found_up_to w) behind (omega arith)).0

-- those of the window are some, and with those of the parts all
pub gathered_count : (doc : ℕ) (next : Option ℕ) (w : Window) (lists : List (List ℕ)) (later : List ℕ) (count : ℕ) → next ≡ Some doc → IsBuffered next w lists →
    count ≡ length (found w) → later ≡ at_least 0 (union lists)
    → (0 < count) × (count + length later ≡ length (union (found w ∷ lists)))
gathered_count doc next w lists later count is h counted left =
    let some : 0 < length (found w) = slice_get_within (found w) 0 doc (sym h.first ∙ is) in
    let all : length (union (found w ∷ lists)) ≡ length (found w) + length (union lists) =
    ap length (apart w lists h.beyond) ∙ length-append (found w) (union lists) in
    let behind : length later ≡ length (union lists) = ap length (left ∙ at_least_all 0 0 (union lists) (Rises-union lists) (omega arith)) in
    (omega (arith, some, counted), omega (arith, all, behind, counted))

-- among these, as many pass as in the window and in the parts together
pub gathered_passing : (p : ℕ → Bool) (doc : ℕ) (next : Option ℕ) (w : Window) (lists : List (List ℕ)) (later : List ℕ) (count : ℕ) → next ≡ Some doc →
    IsBuffered next w lists → count ≡ length (filter p (found w)) → later ≡ at_least 0 (union lists)
    → (length later < length (union (found w ∷ lists))) × (count + length (filter p later) ≡ length (filter p (union (found w ∷ lists))))
gathered_passing p doc next w lists later count is h counted left =
    let whole = gathered_count doc next w lists later (length (found w)) is h refl left in
    let behind : later ≡ union lists = left ∙ at_least_all 0 0 (union lists) (Rises-union lists) (omega arith) in
    let all : filter p (union (found w ∷ lists)) ≡ filter p (found w) ++ filter p (union lists) =
    ap (filter p) (apart w lists h.beyond) ∙ filter-append p (found w) (union lists) in (
      omega (arith, whole.0, whole.1),
      omega (
        arith,
        counted,
        ap (λ xs. length (filter p xs)) behind,
        ap length all,
        length-append (filter p (found w))
            (filter p (union lists)),
      ),
    )

some_first : (xs ys : List ℕ) → slice_get xs 0 ≡ slice_get ys 0 → 0 < length xs → 0 < length ys
some_first [] ys is some = absurd (omega (arith, some))
some_first (x ∷ xs) ys is some = slice_get_within ys 0 x (sym is)

-- what is taken of the window is taken of all
pub gathered_takes : (doc : Option ℕ) (old new : Window) (lists : List (List ℕ)) (written : List ℕ) (count : ℕ) →
    doc ≡ slice_get (union (found old ∷ lists)) 0 → IsBuffered doc old lists → new.last ≡ old.last → Takes (found old) (found new) written count →
    Takes (union (found old ∷ lists)) (union (found new ∷ lists)) written count
gathered_takes doc old new lists written count first h last s =
    let before = apart old lists h.beyond in
    let after = apart new lists (λ d within. h.beyond d (omega (arith, within, last))) in
    record {
      some = λ some. s.some (some_first (union (found old ∷ lists)) (found old) (sym first ∙ h.first) some);
      few = s.few;
      within = omega (arith, ap length before, length-append (found old) (union lists), s.within);
      taken = s.taken ∙ sym (ap (take count) before ∙ take-append-le count (found old) (union lists) s.within);
      left_is = after ∙ ap (λ xs. xs ++ union lists) s.left_is ∙ sym (ap (drop count) before ∙ drop-append-le count (found old) (union lists) s.within);
    }

-- nothing lies before the first
pub gathered_all : (b : BufferedUnion) → at_least 0 (gathered b) ≡ gathered b
gathered_all b = at_least_all 0 0 (gathered b) (Rises-union (found b.window ∷ remains b.parts.items)) (omega arith)

-- where the window has none from the target on, the parts have all
pub gathered_from : (target : ℕ) (old new : Window) (lists : List (List ℕ)) → found new ≡ at_least target (found old) → found new ≡ [] →
    at_least target (union lists) ≡ at_least target (union (found old ∷ lists))
gathered_from target old new lists is none =
    ap (λ xs. with_all xs (at_least target (union lists))) (sym none ∙ is) ∙ sym (at_least-with_all target (found old) (union lists))

-- a window is filled from the first document of all parts
module _ (parts : List TreeValue) (least : ℕ) (h : IsLeast (Some least) (remains parts)) where
  pub fill_ahead : (k : ℕ) (e : TreeValue) → k < length parts → (get_or parts k e).remaining ≡ at_least least (get_or parts k e).remaining
  fill_ahead = parts_from parts least (sym (union_first (Some least) (remains parts) h))

  module _ (after : List TreeValue) (old new : Window) (reaches : least ≤ old.last) (nothing : found old ≡ []) (last : new.last ≡ old.last)
      (each : AllZip (Left (old.last + 1)) parts after) (marked : AreMarked (in_some (remains parts)) old new) where
    lies : (d : ℕ) → has (found new) d ≡ (nat_le d old.last && in_some (remains parts) d)
    lies d = marked d ∙ ap (λ xs. has xs d || (nat_le d old.last && in_some (remains parts) d)) nothing

    after_low : (d : ℕ) → d ≤ old.last → in_some (remains after) d ≡ false
    after_low d within =
        sym (has-union (remains after) d) ∙ ap (λ xs. has xs d) (union-left (old.last + 1) parts after each)
        ∙ has-at_least_low (old.last + 1) (union (remains parts)) d (omega (arith, within))

    after_high : (d : ℕ) → old.last < d → in_some (remains after) d ≡ has (union (remains parts)) d
    after_high d past =
        sym (has-union (remains after) d) ∙ ap (λ xs. has xs d) (union-left (old.last + 1) parts after each)
        ∙ has-at_least (old.last + 1) (union (remains parts)) d (omega (arith, past))

    pub filled : union (found new ∷ remains after) ≡ union (remains parts)
    filled = same_from 0 (union (found new ∷ remains after)) (union (remains parts)) (Rises-union (found new ∷ remains after)) (Rises-union (remains parts))
        (λ d high. has-union (found new ∷ remains after) d ∙ elim (cases_lt old.last d) [
          | inl past ↦ ap₂ (λ a b. a || b) (lies d ∙ ap (λ b. b && in_some (remains parts) d) (lt-leb d old.last past)) (after_high d past)
          | inr within ↦
              ap₂ (λ a b. a || b) (lies d ∙ ap (λ b. b && in_some (remains parts) d) (le-leb d old.last within)) (after_low d within)
              ∙ or-false (in_some (remains parts) d) ∙ sym (has-union (remains parts) d)
        ])

    pub filled_buffered : IsBuffered (Some least) new (remains after)
    filled_buffered = record {
      first = first_of (found new) least (found_rises new)
          (lies least ∙ ap₂ (λ a b. a && b) (le-leb least old.last reaches) h.0)
          (λ d low. lies d ∙ ap (λ b. nat_le d old.last && b) (h.1 d low) ∙ and-false (nat_le d old.last));
      beyond = λ d within. after_low d (omega (arith, within, last));
    }

-- parts that were moved one after the other
pub TreeContinues-parts : (target : ℕ) (parts after : List TreeValue) (before remaining : List ℕ) → AllZip (Left target) parts after →
    TreeContinues (beside (together parts) (together []) before) (beside (together after) (together []) remaining)
TreeContinues-parts target parts after before remaining each =
    TreeContinues-beside (together parts) (together []) (together after) (together []) before remaining
    (TreeContinues-together (Left target) (λ p q h. h.continues) parts after each) (TreeContinues-same (together []))
