-- A cursor over one list alone: what is left of the list, and its blocks up to there.
use Rattle.std.proofs.Common.{◌≡◌, ◌&&◌, ℕ, suc, ◌+◌, ◌-◌, ◌*◌, ◌<◌, ◌≤◌, nat_le, Bool, true, cond, Option, Some, List, [], ◌∷◌, ◌++◌, length, min, drop, get_or, refl}
use Rattle.std.proofs.Common.{sym, ap, subst, ◌∙◌, inl, inr, arith}
use Rattle.std.specs.List.{filter, flat_map, slice_get}
use Rattle.std.specs.List.Sorted.{IsStrictlyIncreasing}
use Rattle.std.proofs.lemmas.Bool.{and_parts, and_right, cases_Bool, cases_lt, false≢true, le-leb, lt-leb}
use Rattle.std.proofs.lemmas.List.{length-append, length-drop}
use Rattle.fts_pack.specs.Documents.{Rises, block_count, blocks_of}
use Rattle.fts_pack.specs.SourceLaws.{length-blocks_of}
use Rattle.fts_pack.proofs.DocumentsLemmas.{Rises-from_increasing}
use Rattle.fts_postings.specs.Bounds.{reached}
use Rattle.fts_postings.specs.Posting.{Follows, Posting, blocks_reached, here, members_of, remaining_of}
use Rattle.fts_postings.specs.Remaining.{at_least}
use Rattle.fts_postings.proofs.PostingLemmas.{members-split, place_in_list, stands_within}
use Rattle.fts_postings.proofs.RemainingLemmas.{at_least_all}
use Rattle.fts_postings.proofs.SetLemmas.{filter-at_least, filter-first, has-first}
use Rattle.fts_postings.specs.Sets.{FirstPasses, has}
use Rattle.fts_sets.proofs.SetLemmas.{filter-and, filter-every, has-filter}
use Rattle.fts_cursor.specs.Standing.{OpensOnce, at_most, blocks_to, left_at}
use Rattle.fts_cursor.specs.Terms.{AreBlocks, IsAlone}
use Rattle.fts_cursor.specs.TreeValues.{LeavesList, TreeContinues, TreeValue, above}
use Rattle.fts_cursor.specs.Trees.{IsTiedNode, PartsStand, Stands, tree_value, value_of}
use Rattle.fts_cursor.specs.declared.tree.Node.{Node}
use Rattle.fts_cursor.specs.declared.tree.Node.TheVariants.{Scan, Listed, Postings, Terms, Filtered, Phrase, And, Or, Without}
use Rattle.fts_cursor.specs.declared.tree.Source.{Source}
use Rattle.fts_cursor.specs.declared.tree.Source.TheVariants as sources

-- a list from one of its members on
left_front : (next : ℕ) (front : List ℕ) (r : ℕ) (rest : List ℕ) → Rises next (front ++ r ∷ rest) →
    (next ≤ r) × (at_least r (front ++ r ∷ rest) ≡ r ∷ rest)
left_front next [] r rest h = (h.0, at_least_all r r (r ∷ rest) (omega arith, h.1) (omega arith))
left_front next (f ∷ front) r rest h =
    let below = at_least r (front ++ r ∷ rest) in
    let later = left_front (suc f) front r rest h.1 in
    (omega (arith, h.0, later.0), ap (λ b. cond b (f ∷ below) below) (lt-leb r f later.0) ∙ later.1)

left_split : (front rest : List ℕ) → Rises 0 (front ++ rest) → rest ≡ left_at (front ++ rest) (slice_get rest 0)
left_split front [] h = refl
left_split front (r ∷ rest) h = sym (left_front 0 front r rest h).1

-- what remains is what is left of the list at the first document
pub alone_left : (p : Posting) → IsStrictlyIncreasing (members_of p) → remaining_of p ≡ left_at (members_of p) (slice_get (remaining_of p) 0)
alone_left p rises =
    let split = members-split p in
    left_split split.0 (remaining_of p) (subst (Rises 0) split.1 (Rises-from_increasing (members_of p) rises))
    ∙ ap (λ xs. left_at xs (slice_get (remaining_of p) 0)) (sym split.1)

-- the members before one, and that one
reached_front : (next : ℕ) (front : List ℕ) (r : ℕ) (rest : List ℕ) → Rises next (front ++ r ∷ rest) →
    (next ≤ r) × (length front + 1 ≤ reached (front ++ r ∷ rest) (Some r))
reached_front next [] r rest h =
    let below = filter (λ d. nat_le d r) rest in
    (h.0, omega (arith, ap (λ b. length (cond b (r ∷ below) below)) (le-leb r r (omega arith))))
reached_front next (f ∷ front) r rest h =
    let below = filter (λ d. nat_le d r) (front ++ r ∷ rest) in
    let later = reached_front (suc f) front r rest h.1 in
    (omega (arith, h.0, later.0), omega (arith, ap (λ b. length (cond b (f ∷ below) below)) (le-leb f r (omega (arith, later.0))), later.1))

blocks_split : (front rest : List ℕ) (block : ℕ) → Rises 0 (front ++ rest) → length rest ≤ length (front ++ rest) - block * 128 →
    min (suc block) (block_count (length (front ++ rest))) ≤ blocks_to (front ++ rest) (slice_get rest 0)
blocks_split front [] block h few = omega arith
blocks_split front (r ∷ rest) block h few = omega (arith, few, (reached_front 0 front r rest h).1, length-append front (r ∷ rest))

-- what remains lies from the block on in which the cursor is
remaining_few : (p : Posting) (documents : List ℕ) → p.blocks ≡ blocks_of documents → length (remaining_of p) ≤ length documents - p.block * 128
remaining_few p documents is =
    let rest = flat_map (λ block. block) (drop (suc p.block) p.blocks) in
    let size = length-append (drop p.at (here p)) rest in
    elim (cases_lt 0 (length (remaining_of p))) [
      | inl some ↦
          let inside : p.block < block_count (length documents) = omega (arith, stands_within p some, ap length is, length-blocks_of documents) in
          let place = place_in_list documents p.block 0 inside (omega arith)
          ∙ ap (λ bs. get_or bs p.block [] ++ flat_map (λ block. block) (drop (suc p.block) bs)) (sym is) in
          omega (arith, size, ap length place, length-append (here p) rest, length-drop (p.block * 128 + 0) documents, length-drop p.at (here p))
      | inr none ↦ omega (arith, none)
    ]

-- the blocks that were reached are no more than those up to the first document
pub alone_reached : (p : Posting) → AreBlocks p.blocks → blocks_reached p ≤ blocks_to (members_of p) (slice_get (remaining_of p) 0)
alone_reached p h =
    let split = members-split p in
    let few = remaining_few p (members_of p) h.cut in
    let all : length p.blocks ≡ block_count (length (members_of p)) = ap length h.cut ∙ length-blocks_of (members_of p) in
    let parts = blocks_split split.0 (remaining_of p) p.block (subst (Rises 0) split.1 (Rises-from_increasing (members_of p) h.rises))
    (subst (λ xs. length (remaining_of p) ≤ length xs - p.block * 128) split.1 few) in
    omega (
      arith,
      all,
      subst (λ xs. min (suc p.block) (block_count (length xs)) ≤ blocks_to xs (slice_get (remaining_of p) 0)) (sym split.1) parts,
    )

-- the blocks of a list that rises
pub AreBlocks-of : (blocks : List (List ℕ)) (documents : List ℕ) → blocks ≡ blocks_of documents → flat_map (λ block. block) blocks ≡ documents →
    IsStrictlyIncreasing documents → AreBlocks blocks
AreBlocks-of blocks documents is joined rises = record { cut = is ∙ ap blocks_of (sym joined); rises = subst IsStrictlyIncreasing (sym joined) rises }

-- what remains of a cursor over a list alone
node_left : (doc : Option ℕ) (node : Node) → PartsStand doc node → IsTiedNode node → LeavesList (tree_value node)
node_left doc (Scan s opened) parts tied documents is = absurd (cc)
node_left doc (Listed s opened) parts tied documents is = absurd (cc)
node_left doc (Postings p) parts tied documents is =
    let same : members_of p ≡ documents = cc in (
      λ d. true,
      alone_left p tied.1.rises ∙ ap (λ xs. left_at xs (slice_get (remaining_of p) 0)) same
          ∙ sym (filter-every (left_at documents (slice_get (remaining_of p) 0))),
    )
node_left doc (Terms c opened) parts tied documents is = absurd (cc)
node_left doc (Phrase s) parts tied documents is = absurd (cc)
node_left doc (And meeting) parts tied documents is = absurd (cc)
node_left doc (Or buffered) parts tied documents is = absurd (cc)
node_left doc (Without differing) parts tied documents is = absurd (cc)
node_left doc (Filtered f) parts tied documents is =
    let test = has f.set in
    let left = tied documents is in (
      λ d. left.0 d && test d,
      ap (filter test) left.1 ∙ filter-and test left.0 (left_at documents (slice_get f.tree.value.remaining 0))
          ∙ ap (λ first. filter (λ d. left.0 d && test d) (left_at documents first)) (filter-first test f.tree.value.remaining parts),
    )

pub source_left : (doc : Option ℕ) (source : Source) → Stands doc source → LeavesList (value_of source)
source_left doc sources.Nothing stands documents is = (λ d. true, refl)
source_left doc (sources.Cursor node) stands documents is = node_left doc node.value stands.parts stands.tied documents is

-- what a filter begins with passes
filter_begins : (p : ℕ → Bool) (xs : List ℕ) (x : ℕ) → slice_get (filter p xs) 0 ≡ Some x → p x ≡ true
filter_begins p [] x is = absurd (cc)
filter_begins p (y ∷ ys) x is = elim (cases_Bool (p y)) [
  | inl passes ↦
      let same : Some y ≡ Some x = sym (ap (λ b. slice_get (cond b (y ∷ filter p ys) (filter p ys)) 0) passes) ∙ is in
      let at : y ≡ x = cc in
      ap p (sym at) ∙ passes
  | inr fails ↦ filter_begins p ys x (sym (ap (λ b. slice_get (cond b (y ∷ filter p ys) (filter p ys)) 0) fails) ∙ is)
]

first_passes : (p : ℕ → Bool) (xs : List ℕ) → slice_get (filter p xs) 0 ≡ slice_get xs 0 → FirstPasses p xs
first_passes p [] same = tt
first_passes p (x ∷ xs) same = filter_begins p (x ∷ xs) x same

-- what passes another test too and begins with the first of all is at that one
begins_there : (p test : ℕ → Bool) (all some : List ℕ) → some ≡ filter p all → slice_get (filter test some) 0 ≡ slice_get all 0 →
    slice_get some 0 ≡ slice_get all 0
begins_there p test [] some is at = ap (λ xs. slice_get xs 0) is
begins_there p test (x ∷ all) some is at = elim (cases_Bool (p x)) [
  | inl passes ↦ ap (λ xs. slice_get xs 0) is ∙ ap (λ b. slice_get (cond b (x ∷ filter p all) (filter p all)) 0) passes
  | inr fails ↦ absurd (false≢true (
      sym (and_right (has (x ∷ all) x) (p x) fails)
      ∙ sym (has-filter p (x ∷ all) x)
      ∙ ap (λ xs. has xs x) (sym is)
      ∙ (and_parts (has some x) (test x) (sym (has-filter test some x) ∙ has-first (filter test some) x (sym at))).0
      ))
]

-- where the list's first document from the target on passes, nothing more is passed
pub once_kept : (target : ℕ) (test : ℕ → Bool) (old sought new : TreeValue) → FirstPasses test old.remaining →
    LeavesList old → OpensOnce target old.standing sought.standing → sought.remaining ≡ at_least target old.remaining →
    filter test new.remaining ≡ filter test sought.remaining → (FirstPasses test sought.remaining → new ≡ sought) →
    OpensOnce target (above old (filter test old.remaining)).standing (above new (filter test new.remaining)).standing
once_kept target test old sought new settled left once is same still documents list at =
    let first : slice_get old.remaining 0 ≡ slice_get (filter test old.remaining) 0 = filter-first test old.remaining settled in
    let of_list = left documents list in
    let whole = left_at documents (slice_get old.remaining 0) in
    let found : sought.remaining ≡ filter of_list.0 (at_least target whole) = is ∙ ap (at_least target) of_list.1
    ∙ sym (filter-at_least target of_list.0 whole) in
    let begins : slice_get (filter test sought.remaining) 0 ≡ slice_get (at_least target whole) 0 =
    ap (λ xs. slice_get xs 0) (sym same) ∙ at ∙ ap (λ doc. slice_get (at_least target (left_at documents doc)) 0) (sym first) in
    let there = begins_there of_list.0 test (at_least target whole) sought.remaining found begins in
    subst (λ (s : TreeValue). s.openings ≤ suc old.openings) (sym (still (first_passes test sought.remaining (begins ∙ sym there)))) (once documents list there)

-- a cursor over one list alone still goes over that list later on
pub alone-follows : (p q : Posting) → Follows p q → IsAlone p → IsAlone q
alone-follows p q h tied = (omega (arith, h.counted, tied.0), subst AreBlocks (sym h.blocks) tied.1)

pub alone-continues : (p q : Posting) → Follows p q → TreeContinues (tree_value (Postings p)) (tree_value (Postings q))
alone-continues p q h = record {
  continues = record {
    bound = ap (λ bs. at_most (length bs)) h.blocks;
    list = ap (λ bs. Some (flat_map (λ block. block) bs)) h.blocks;
    more = omega (arith, h.more, h.counted);
  };
  height = refl;
}
