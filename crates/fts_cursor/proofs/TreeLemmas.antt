-- A tree of cursors and its parts.
use Rattle.std.proofs.Common.{◌≡◌, ◌≢◌, ℕ, zero, suc, ◌+◌, ◌<◌, ◌≤◌, Bool, true, false, not, cond, ◌||◌, ◌==◌, Option, Some, None, List, [], ◌∷◌, length}
use Rattle.std.proofs.Common.{get_or, set, take, ◌++◌, drop, refl, sym, ap, subst, ◌∙◌, inl, inr, arith, add-one}
use Rattle.std.specs.List.{AllZip, filter, slice_get}
use Rattle.std.specs.List.Sorted.{IsStrictlyIncreasing}
use Rattle.std.proofs.lemmas.Bool.{cases_lt, le-leb, lt-leb, false≢true}
use Rattle.fts_pack.specs.Documents.{Rises}
use Rattle.fts_postings.specs.Bounds.{most_at}
use Rattle.fts_postings.specs.Remaining.{at_least}
use Rattle.fts_postings.specs.Sets.{IsLeast, common, has, in_all, in_some, lacks, union, without}
use Rattle.fts_cursor.specs.Standing.{Standing, Walked}
use Rattle.fts_cursor.specs.TreeValues.{Left, Narrowed, TreeContinues, TreeValue, all_most, all_openings, beside, remains, together}
use Rattle.fts_postings.specs.Conjoined.{IsAhead}
use Rattle.std.proofs.lemmas.List.Kept.{IsStrictlyIncreasing-filter}
use Rattle.fts_cursor.specs.Trees.{IsNow, IsSettledAt, IsTiedNode, Met, PartsStand, StandsAt, differ, kept, meet, tree_value}
use Rattle.fts_cursor.specs.declared.tree.exclusion.Exclusion.{Exclusion}
use Rattle.fts_cursor.specs.declared.tree.filtered_tree.FilteredTree.{FilteredTree}
use Rattle.fts_cursor.specs.declared.tree.intersection.Intersection.{Intersection}
use Rattle.fts_cursor.specs.declared.tree.Node.{Node}
use Rattle.fts_cursor.specs.declared.tree.Node.TheVariants.{And, Filtered}
use Rattle.fts_postings.proofs.RemainingLemmas.{increasing-from_Rises, fewer-at_least, first-at_least, at_least_all, nothing_first}
use Rattle.fts_postings.proofs.SetLemmas.{FirstPasses-first, filter-past, Rises-from_first, filter-ahead, filter-first, filter-none, filter-same, has-at_least}
use Rattle.fts_postings.proofs.SetLemmas.{has-before_first, has-first, has-none, is_itself}
use Rattle.fts_cursor.proofs.PartsLemmas.{TreeContinues-beside, TreeContinues-together, TreeContinues-trans, LeftUpTo, UpTo-next, in_all-narrowed, remains-more}
use Rattle.fts_postings.proofs.UnionLemmas.{Rises-union, has-union}
use Rattle.fts_pack.proofs.DocumentsLemmas.{Rises-from_increasing}

-- a node whose parts were brought together
pub IsNow-met : (doc : Option ℕ) (node : Node) (before remaining : List ℕ) (test : ℕ → Bool) (lead : List ℕ) → Met doc before test lead →
    (tree_value node).remaining ≡ filter test lead → PartsStand doc node → IsTiedNode node → before ≡ remaining → IsNow doc node remaining
IsNow-met doc node before remaining test lead h is parts tied same =
    let all = is ∙ h.is in
    record {
      is = all ∙ same;
      stands = record {
        first = h.first ∙ ap (λ xs. slice_get xs 0) (sym all);
        rises = subst IsStrictlyIncreasing (sym all) h.rises;
        parts = parts;
        tied =
            tied;
      };
    }

-- a node whose first document is known
pub IsNow-first : (doc : Option ℕ) (node : Node) (remaining : List ℕ) → doc ≡ slice_get (tree_value node).remaining 0 →
    IsStrictlyIncreasing (tree_value node).remaining → PartsStand doc node → IsTiedNode node → (tree_value node).remaining ≡ remaining →
    IsNow doc node remaining
IsNow-first doc node remaining first rises parts tied is = record { is = is; stands = record { first = first; rises = rises; parts = parts; tied = tied } }

-- a tree that was brought to the first of its documents that are of a set
pub filtered_stands : (doc : Option ℕ) (filtered : FilteredTree) → IsSettledAt doc (has filtered.set) filtered.tree.value → StandsAt doc (Filtered filtered)
filtered_stands doc filtered h = record {
  first = h.first ∙ filter-first (has filtered.set) filtered.tree.value.remaining h.passes;
  rises = IsStrictlyIncreasing-filter (has filtered.set) filtered.tree.value.remaining h.rises;
  parts = h.passes;
  tied = h.left;
}

pub filtered_now : (doc : Option ℕ) (filtered : FilteredTree) (remaining : List ℕ) → IsSettledAt doc (has filtered.set) filtered.tree.value →
    kept filtered ≡ remaining → IsNow doc (Filtered filtered) remaining
filtered_now doc filtered remaining h is = record { is = is; stands = filtered_stands doc filtered h }

-- what leads stands at a document, and the test is as it was from there on
module _ (before now : List ℕ) (old test : ℕ → Bool) (doc : ℕ) (h : filter old now ≡ before) (rises : IsStrictlyIncreasing now)
    (first : Some doc ≡ slice_get now 0) (same : (d : ℕ) → doc ≤ d → test d ≡ old d) where
  up : Rises doc now
  up = Rises-from_first now doc rises first

  pub brought : filter test now ≡ before
  brought = filter-same doc test old now up same ∙ h

  rising : IsStrictlyIncreasing before
  rising = subst IsStrictlyIncreasing brought (IsStrictlyIncreasing-filter test now rises)

  pub Met-here : test doc ≡ true → Met (Some doc) before test now
  Met-here passes =
      let at = FirstPasses-first test now doc first passes in
      record { is = brought; first = first ∙ filter-first test now at ∙ ap (λ xs. slice_get xs 0) brought; passes = at; rises = rising }

  pub Met-none : ((d : ℕ) → doc ≤ d → test d ≡ false) → Met None before test now
  Met-none none =
      let empty : before ≡ [] = sym brought ∙ filter-none doc test now up none in
      record { is = brought; first = ap (λ xs. slice_get xs 0) (sym empty); passes = tt; rises = rising }

  pub sought : (target : ℕ) (next : List ℕ) → ((d : ℕ) → doc ≤ d → d < target → test d ≡ false) → next ≡ at_least target now → filter test next ≡ before
  sought target next lack is = ap (filter test) is ∙ filter-ahead doc target test now up lack ∙ brought

  pub passed : (next : List ℕ) → test doc ≡ false → next ≡ drop 1 now → filter test next ≡ before
  passed next fails is = ap (filter test) is ∙ filter-past test now doc first fails ∙ brought

-- what leads is at its end
pub Met-end : (before now : List ℕ) (test : ℕ → Bool) → filter test now ≡ before → None ≡ slice_get now 0 → Met None before test now
Met-end before now test h none =
    let empty : before ≡ [] = sym h ∙ ap (filter test) (nothing_first now none) in
    record {
      is = h;
      first = ap (λ xs. slice_get xs 0) (sym empty);
      passes = tt;
      rises = subst IsStrictlyIncreasing (sym empty)
          (λ k inside. absurd (omega (arith, inside)));
    }

-- what was sought doesn't have the document, where it stands elsewhere
pub not_first : (xs ys : List ℕ) (doc : ℕ) (found : Option ℕ) → found ≡ slice_get xs 0 → found ≢ Some doc → xs ≡ at_least doc ys → IsStrictlyIncreasing xs →
    has xs doc ≡ false
not_first xs ys doc None is other left rises = has-none xs doc is
not_first xs ys doc (Some first) is other left rises =
    let le = first-at_least doc ys first (is ∙ ap (λ zs. slice_get zs 0) left) in
    let apart : first ≢ doc = λ e. other (ap (λ d. Some d) e) in
    has-before_first xs first doc rises is (omega (arith, le, apart))

-- nothing lies before the first
pub stays_from_first : (target doc : ℕ) (xs : List ℕ) → IsStrictlyIncreasing xs → Some doc ≡ slice_get xs 0 → target ≤ doc → xs ≡ at_least target xs
stays_from_first target doc xs rises first le = sym (at_least_all target doc xs (Rises-from_first xs doc rises first) le)

left_false : (a b : Bool) → (a || b) ≡ false → a ≡ false
left_false true b h = h
left_false false b h = refl

right_false : (a b : Bool) → (a || b) ≡ false → b ≡ false
right_false true b h = absurd (false≢true (sym h))
right_false false b h = h

pub Left-seek : (target : ℕ) (p q : TreeValue) → q.remaining ≡ at_least target p.remaining → TreeContinues p q → Left target p q
Left-seek target p q is continues = record { remaining = is; continues = continues }

pub drop_first : (doc : ℕ) (xs : List ℕ) → IsStrictlyIncreasing xs → Some doc ≡ slice_get xs 0 → drop 1 xs ≡ at_least (doc + 1) xs
drop_first doc [] rises is = refl
drop_first doc (x ∷ xs) rises is =
    let same : doc ≡ x = cc in
    let up = (Rises-from_increasing (x ∷ xs) rises).1 in
    sym (ap (λ b. cond b (x ∷ at_least (doc + 1) xs) (at_least (doc + 1) xs)) (lt-leb (doc + 1) x (omega (arith, same))) ∙ at_least_all (doc + 1) (suc x) xs up
    (omega (arith, same)))

pub LeftUpTo-next : (target : ℕ) (initial now : List TreeValue) (least later : Option ℕ) (index : ℕ) → LeftUpTo target initial now least index →
    (d₀ q : TreeValue) → index < length now → Left target (get_or now index d₀) q → IsLeast later (remains (take index now) ++ q.remaining ∷ []) →
    LeftUpTo target initial (set now index q) later (index + 1)
LeftUpTo-next target initial now least later index h d₀ q inside left is = record {
  up_to = UpTo-next (Left target) initial now index h.up_to d₀ q inside left;
  least_is = subst (IsLeast later) (sym (remains-more now index q inside)) is;
}

-- parts of which the union begins at the document begin there or later
pub from_union : (doc : ℕ) (xs : List ℕ) (lists : List (List ℕ)) → ((d : ℕ) → d < doc → has xs d ≡ false) → xs ≡ at_least doc xs
from_union doc [] lists h = refl
from_union doc (x ∷ xs) lists h =
    let up : doc ≤ x = elim (cases_lt x doc) [
      | inl low ↦ absurd (false≢true (sym (h x low) ∙ ap (λ b. b || has xs x) (is_itself x)))
      | inr high ↦ high
    ] in
    sym (ap (λ b. cond b (x ∷ at_least doc xs) (at_least doc xs)) (le-leb doc x up)
    ∙ ap (λ ys. x ∷ ys) (sym (from_union doc xs lists (λ d low. right_false (x == d) (has xs d) (h d low)))))

lacks_each : (parts : List TreeValue) (d : ℕ) → in_some (remains parts) d ≡ false → (k : ℕ) (e : TreeValue) → k < length parts →
    has (get_or parts k e).remaining d ≡ false
lacks_each [] d h k e inside = absurd (omega arith)
lacks_each (p ∷ ps) d h zero e inside = left_false (has p.remaining d) (in_some (remains ps) d) h
lacks_each (p ∷ ps) d h (suc k) e inside = lacks_each ps d (right_false (has p.remaining d) (in_some (remains ps) d) h) k e (omega (arith, inside))

pub parts_from : (parts : List TreeValue) (doc : ℕ) → slice_get (union (remains parts)) 0 ≡ Some doc → (k : ℕ) (e : TreeValue) → k < length parts →
    (get_or parts k e).remaining ≡ at_least doc (get_or parts k e).remaining
parts_from parts doc first k e inside =
    let rises = increasing-from_Rises 0 (union (remains parts)) (Rises-union (remains parts)) in
    from_union doc (get_or parts k e).remaining (remains parts)
    (λ d low. lacks_each parts d (sym (has-union (remains parts) d) ∙ has-before_first (union (remains parts)) doc d rises (sym first) low) k e inside)

openings-suc : (parts : List TreeValue) (index : ℕ) (d : TreeValue) → index < length parts →
    all_openings (take (suc index) parts) ≡ all_openings (take index parts) + (get_or parts index d).openings
openings-suc [] index d inside = absurd (omega arith)
openings-suc (p ∷ ps) zero d inside = omega arith
openings-suc (p ∷ ps) (suc index) d inside = omega (arith, openings-suc ps index d (omega (arith, inside)))

pub all_openings-more : (parts : List TreeValue) (index : ℕ) (d : TreeValue) → index < length parts →
    all_openings (take (index + 1) parts) ≡ all_openings (take index parts) + (get_or parts index d).openings
all_openings-more parts index d inside = ap (λ n. all_openings (take n parts)) (add-one index) ∙ openings-suc parts index d inside

-- a turn of an intersection: what leads stands at a document, which the others were sought for
module _ (old now : Intersection) (lead : TreeValue) (others after : List TreeValue) (doc : ℕ) (same : meet now ≡ meet old) (lead_is : lead ≡ now.lead.value)
    (others_are : others ≡ now.others.items) (rises : IsStrictlyIncreasing lead.remaining) (first : Some doc ≡ slice_get lead.remaining 0)
    (each : AllZip (Narrowed doc) others after) where
  abbrev documents : List ℕ
  documents = now.lead.value.remaining

  rises_now : IsStrictlyIncreasing documents
  rises_now = subst (λ (s : TreeValue). IsStrictlyIncreasing s.remaining) lead_is rises

  first_now : Some doc ≡ slice_get documents 0
  first_now = first ∙ ap (λ s. slice_get s.remaining 0) lead_is

  agree : (d : ℕ) → doc ≤ d → in_all (remains after) d ≡ in_all (remains now.others.items) d
  agree d high = in_all-narrowed doc others after each d high ∙ ap (λ ps. in_all (remains ps) d) others_are

  pub intersection-here : (next : ℕ) → IsAhead doc (remains after) (Some next) → next ≡ doc → Met (Some doc) (meet old) (in_all (remains after)) documents
  intersection-here next ahead is = Met-here (meet old) documents (in_all (remains now.others.items)) (in_all (remains after)) doc same rises_now first_now
      agree (ahead.1 is)

  pub intersection-none : IsAhead doc (remains after) None → Met None (meet old) (in_all (remains after)) documents
  intersection-none none = Met-none (meet old) documents (in_all (remains now.others.items)) (in_all (remains after)) doc same rises_now first_now agree none

  pub intersection-continues : TreeContinues (tree_value (And old)) (tree_value (And now)) → (s : TreeValue) (remaining : List ℕ) →
      TreeContinues now.lead.value s → TreeContinues (tree_value (And old)) (beside s (together after) remaining)
  intersection-continues continues s remaining moved =
      let rest = TreeContinues-together (Narrowed doc) (λ p q h. h.continues) others after each in
      TreeContinues-trans (tree_value (And old)) (tree_value (And now)) (beside s (together after) remaining) continues
      (TreeContinues-beside now.lead.value (together now.others.items) s (together after) (meet now) remaining moved
      (subst (λ ps. TreeContinues (together ps) (together after)) others_are rest))

  module _ (next : ℕ) (moved : TreeValue) (ahead : IsAhead doc (remains after) (Some next)) (is : moved.remaining ≡ at_least next documents) where
    pub intersection-sought : common moved.remaining (remains after) ≡ meet old
    intersection-sought = sought (meet old) documents (in_all (remains now.others.items)) (in_all (remains after)) doc same rises_now first_now agree next
        moved.remaining ahead.2 is

    pub intersection-fewer : next ≢ doc → length moved.remaining < length documents
    intersection-fewer other = rw is (fewer-at_least next documents doc first_now (omega (arith, ahead.0, other)))

-- a turn of an exclusion: what is kept stands at a document, which the other was sought for
module _ (old now : Exclusion) (kept dropped after : TreeValue) (doc : ℕ) (same : differ now ≡ differ old) (kept_is : kept ≡ now.kept.value)
    (dropped_is : dropped ≡ now.dropped.value) (rises : IsStrictlyIncreasing kept.remaining) (first : Some doc ≡ slice_get kept.remaining 0)
    (left : after.remaining ≡ at_least doc dropped.remaining) where
  abbrev members : List ℕ
  members = now.kept.value.remaining

  rises_kept : IsStrictlyIncreasing members
  rises_kept = subst (λ (s : TreeValue). IsStrictlyIncreasing s.remaining) kept_is rises

  first_kept : Some doc ≡ slice_get members 0
  first_kept = first ∙ ap (λ s. slice_get s.remaining 0) kept_is

  differ_alike : (d : ℕ) → doc ≤ d → lacks after.remaining d ≡ lacks now.dropped.value.remaining d
  differ_alike d high = ap not (ap (λ xs. has xs d) left ∙ has-at_least doc dropped.remaining d high) ∙ ap (λ s. lacks s.remaining d) dropped_is

  pub exclusion-here : (found : Option ℕ) → found ≡ slice_get after.remaining 0 → found ≢ Some doc → IsStrictlyIncreasing after.remaining →
      Met (Some doc) (differ old) (lacks after.remaining) members
  exclusion-here found is other up = Met-here (differ old) members (lacks now.dropped.value.remaining) (lacks after.remaining) doc same rises_kept first_kept
      differ_alike (ap not (not_first after.remaining dropped.remaining doc found is other left up))

  pub exclusion-passed : (next : TreeValue) → Some doc ≡ slice_get after.remaining 0 → next.remaining ≡ drop 1 members →
      without next.remaining after.remaining ≡ differ old
  exclusion-passed next there is = passed (differ old) members (lacks now.dropped.value.remaining) (lacks after.remaining) doc same rises_kept first_kept
      differ_alike next.remaining (ap not (has-first after.remaining doc there)) is

most-suc : (parts : List TreeValue) (index : ℕ) (d : TreeValue) → index < length parts →
    all_most (take (suc index) parts) ≡ all_most (take index parts) + most_at (get_or parts index d).bound None
most-suc [] index d inside = absurd (omega arith)
most-suc (p ∷ ps) zero d inside = omega arith
most-suc (p ∷ ps) (suc index) d inside = omega (arith, most-suc ps index d (omega (arith, inside)))

pub all_most-more : (parts : List TreeValue) (index : ℕ) (d : TreeValue) → index < length parts →
    all_most (take (index + 1) parts) ≡ all_most (take index parts) + most_at (get_or parts index d).bound None
all_most-more parts index d inside = ap (λ n. all_most (take n parts)) (add-one index) ∙ most-suc parts index d inside

pub Walked-trans : (s t u : Standing) → Walked s t → Walked t u → Walked s u
Walked-trans s t u h k = record {
  continues = record {
    bound = k.continues.bound ∙ h.continues.bound;
    list = k.continues.list ∙ h.continues.list;
    more = omega (arith, h.continues.more, k.continues.more);
  };
  whole = λ w. k.whole (h.whole w);
}
