-- The numbers of segments and ids that commits and merges use, and that they are refused only for memory.
use Rattle.std.proofs.Common.{◌≡◌, ◌+◌, ◌*◌, ◌^◌, ◌<◌, ◌≤◌, ◌≢◌, ◌↔◌, ◌==◌, ◌||◌, ◌⊎◌, inl, inr, ℕ, zero, suc, Bool, true, false, cond, not, Option, None, Some, Err}
use Rattle.std.proofs.Common.{List, [], ◌∷◌, ◌++◌, Result, Ok, IfErr, IsOkUnless, length, get_or, map, filter, sum_by, nat_lt, refl, sym, ap, subst, ◌∙◌, arith}
use Rattle.std.specs.List.{AllByRecursion, flat_map}
use Rattle.std.proofs.lemmas.Bool.Decides.{nat_tests}
use Rattle.std.proofs.lemmas.List.{length-append, length-map}
use Rattle.std.proofs.lemmas.List.Sorted.{length_permutation}
use Rattle.std.proofs.lemmas.List.Sums.{length-filter, count_by-le-length}
use Rattle.fts_base.specs.declared.refusal.Refusal.{Refusal}
use Rattle.fts_base.specs.declared.refusal.Refusal.TheVariants.{Memory, TooLarge, StampsUsedUp, OtherSchema, SegmentFull, UnknownSegment, SegmentTwice}
use Rattle.fts_base.specs.Results.{first_of, ok_unless}
use Rattle.fts_model.specs.declared.cut.Cut.{Cut}
use Rattle.fts_model.specs.declared.operation.Op.{Op}
use Rattle.fts_model.specs.declared.operation.Stamped.{Stamped}
use Rattle.fts_model.specs.declared.schema.Field.{Field}
use Rattle.fts_model.specs.Documents.{DocumentValue}
use Rattle.fts_model.specs.Operations.{added, op_fits}
use Rattle.fts_segment.specs.Segments.{BuilderValue}
use Rattle.fts_snapshots.specs.Commits.{struck, fresh_from, all_after, committed, misfit, new_segments, numbers_fault}
use Rattle.fts_snapshots.specs.Cuts.{put_into, dealt_from, groups_of, place_of}
use Rattle.fts_snapshots.specs.Entries.{EntryValue, live_in, live_count, has_live, content}
use Rattle.fts_snapshots.specs.LateMerges.{after_merge, ended}
use Rattle.fts_snapshots.specs.MergedSegments.{ids_of, merged_of}
use Rattle.fts_snapshots.specs.Merges.{is_among, is_there, entry_at, entries_at, without, fault_behind, names_fault, size_fault}
use Rattle.fts_snapshots.specs.Snapshots.{SnapshotValue, IsSnapshot, after_commit, commit_fault, content_of, merge_fault, segments_and_numbers}
use Rattle.fts_snapshots.proofs.LateBeginLemmas.{length-live_in, ids_named}
use Rattle.fts_snapshots.proofs.EntryLemmas.{length-added}
use Rattle.fts_snapshots.proofs.MergeLemmas.{AreDifferent, names_given}
use Rattle.fts_snapshots.proofs.OrderLemmas.{Rises, rises_from_pairs, permutation_in_order}
use Rattle.fts_snapshots.proofs.SourceLemmas.{first_none}

-- if there is no fault, a refusal is for memory
pub memory_alone : (fault : Option Refusal) (e : Refusal) → fault ≡ None → (e ≡ Memory) ⊎ (fault ≡ Some e) → e ≡ Memory
memory_alone fault e none (inl h) = h
memory_alone fault e none (inr h) = let bad : None ≡ Some e = sym none ∙ h in cc

-- the refusal of a call that gives nothing
pub refused_by : {X : Type 0} (fault : Option Refusal) (wanted : X) (e : Refusal) → (e ≡ Memory) ⊎ (ok_unless fault wanted ≡ Err e) →
    (e ≡ Memory) ⊎ (fault ≡ Some e)
refused_by fault wanted e (inl h) = inl h
refused_by None wanted e (inr h) = cc
refused_by (Some f) wanted e (inr h) = inr cc

-- one more operation that fits
pub misfit-push : (schema : List Field) (ops : List (Stamped Op)) (op : Stamped Op) → misfit schema ops ≡ None → op_fits schema op.value ≡ true →
    misfit schema (ops ++ op ∷ []) ≡ None
misfit-push schema [] op h fit = ap (λ b. cond b None (Some (OtherSchema op.stamp))) fit
misfit-push schema (o ∷ ops) op h fit =
    elim (op_fits schema o.value) as (λ b. cond b (misfit schema ops) (Some (OtherSchema o.stamp)) ≡ None → cond b (misfit schema (ops ++ op ∷ []))
    (Some (OtherSchema o.stamp)) ≡ None)
    [ true ↦ λ k. misfit-push schema ops op k fit | false ↦ λ k. k ] h

none_chosen : {X : Type 0} (b : Bool) (o : Option X) (x : X) → cond b o (Some x) ≡ None → (b ≡ true) × (o ≡ None)
none_chosen true o x h = (refl, h)
none_chosen false o x h = cc

-- if operations fit, each does
pub fits_there : (schema : List Field) (ops : List (Stamped Op)) (i : ℕ) (op : Stamped Op) → misfit schema ops ≡ None → i < length ops → op ≡ get_or ops i op →
    op_fits schema op.value ≡ true
fits_there schema [] i op h l e = absurd (omega (arith, l))
fits_there schema (o ∷ ops) zero op h l e = ap (λ (p : Stamped Op). op_fits schema p.value) e ∙ (none_chosen _ _ (OtherSchema o.stamp) h).0
fits_there schema (o ∷ ops) (suc i) op h l e = fits_there schema ops i op (none_chosen _ _ (OtherSchema o.stamp) h).1 (omega (arith, l)) e

-- a builder that isn't full takes a document, or memory runs out
pub never_full : {X : Type 0} (r : Result X Refusal) (b : BuilderValue) →
    ((r ≡ Err SegmentFull) ↔ ((b.merging ≡ false) × (65536 ≤ length b.segment.documents))) → length b.segment.documents < 65536 →
    IfErr r (λ e. e ≢ SegmentFull → e ≡ Memory) → IsOkUnless r Memory
never_full (Ok x) b full few other = tt
never_full (Err e) b full few other = other (λ same. omega (arith, few, (full.0 (ap Err same)).1))

length-put_into : {X : Type 0} (k : ℕ) (x : X) (gs : List (List X)) → length (put_into k x gs) ≤ length gs + 1
length-put_into k x [] = omega arith
length-put_into zero x (g ∷ gs) = omega arith
length-put_into (suc k) x (g ∷ gs) = omega (arith, length-put_into k x gs)

length-dealt_from : {X : Type 0} (place : ℕ → ℕ) (j : ℕ) (gs : List (List X)) (xs : List X) → length (dealt_from place j gs xs) ≤ length gs + length xs
length-dealt_from place j gs [] = omega arith
length-dealt_from place j gs (x ∷ xs) = omega (arith, length-dealt_from place (j + 1) (put_into (place j) x gs) xs, length-put_into (place j) x gs)

-- a commit makes at most as many segments as it has operations
pub new_segments-le : (cut : Cut) (ops : List (Stamped Op)) → new_segments cut ops ≤ length ops
new_segments-le cut ops = omega (arith, length-dealt_from (place_of cut) 0 [] (added ops), length-added ops)

length-fresh_from : (schema : List Field) (ops : List (Stamped Op)) (id : ℕ) (gs : List (List (Stamped DocumentValue))) →
    length (fresh_from schema ops id gs) ≡ length gs
length-fresh_from schema ops id [] = refl
length-fresh_from schema ops id (g ∷ gs) = omega (arith, length-fresh_from schema ops (id + 1) gs)

length-committed : (cut : Cut) (schema : List Field) (ops : List (Stamped Op)) (id : ℕ) (es : List EntryValue) →
    length (committed cut schema ops id es) ≤ length es + new_segments cut ops
length-committed cut schema ops id es =
    let new = fresh_from schema ops id (groups_of cut (added ops)) in
    omega (
      arith,
      length-filter has_live (all_after cut schema ops id es),
      count_by-le-length has_live (all_after cut schema ops id es),
      length-append (map (struck ops) es) new,
      length-map es (struck ops),
      length-fresh_from schema ops id (groups_of cut (added ops)),
    )

-- a commit uses at most two for each operation: a segment and its number
pub commit_counted : (cut : Cut) (ops : List (Stamped Op)) (s : SnapshotValue) →
    segments_and_numbers (after_commit cut ops s) ≤ segments_and_numbers s + 2 * length ops
commit_counted cut ops s = omega (arith, length-committed cut s.schema ops s.next_id s.entries, new_segments-le cut ops)

-- operations have no fault if enough numbers are left for their segments
pub no_commit_fault : (cut : Cut) (ops : List (Stamped Op)) (s : SnapshotValue) → s.next_id + length ops ≤ 2 ^ 62 → commit_fault cut ops s ≡ None
no_commit_fault cut ops s room =
    let few = new_segments-le cut ops in
    let below : s.next_id + new_segments cut ops ≤ 2 ^ 62 = omega (arith, few, room) in
    let left : nat_lt (2 ^ 62) (s.next_id + new_segments cut ops) ≡ false = grind (arith, nat_tests) in
    ap (λ b. cond b (Some StampsUsedUp) None) left

-- the segments with other numbers than this one
abbrev pub but : ℕ → List EntryValue → List EntryValue
but id es = filter (λ e. not (e.id == id)) es

but-le : (id : ℕ) (es : List EntryValue) → length (but id es) ≤ length es
but-le id [] = omega arith
but-le id (e ∷ es) = elim (e.id == id) as (λ b. length (cond (not b) (e ∷ but id es) (but id es)) ≤ length (e ∷ es))
    [ true ↦ omega (arith, but-le id es) | false ↦ omega (arith, but-le id es) ]

but-lt : (id : ℕ) (es : List EntryValue) → is_there es id ≡ true → length (but id es) + 1 ≤ length es
but-lt id [] h = cc
but-lt id (e ∷ es) h =
    elim (e.id == id) as (λ b. (b || is_there es id) ≡ true → length (cond (not b) (e ∷ but id es) (but id es)) + 1 ≤ length (e ∷ es))
    [ true ↦ λ _. omega (arith, but-le id es) | false ↦ λ k. omega (arith, but-lt id es k) ] h

still_there : (id other : ℕ) (es : List EntryValue) → id ≢ other → is_there es other ≡ true → is_there (but id es) other ≡ true
still_there id other [] n h = h
still_there id other (e ∷ es) n h =
    elim (e.id == id) as (λ b. (e.id == id) ≡ b → ((e.id == other) || is_there es other) ≡ true → is_there (cond (not b) (e ∷ but id es) (but id es)) other
    ≡ true) [
      | true ↦ λ same k.
          let differs : (e.id == other) ≡ false = grind (arith, nat_tests) in
          still_there id other es n (subst (λ b. (b || is_there es other) ≡ true) differs k)
      | false ↦ λ same k.
          elim (e.id == other) as (λ c. (c || is_there es other) ≡ true → (c || is_there (but id es) other) ≡ true)
          [ true ↦ λ _. refl | false ↦ λ m. still_there id other es n m ] k
    ] refl h

all_still_there : (id : ℕ) (ids : List ℕ) (es : List EntryValue) → AllByRecursion (λ other. id ≢ other) ids →
    AllByRecursion (λ other. is_there es other ≡ true) ids →
    AllByRecursion (λ other. is_there (but id es) other ≡ true) ids
all_still_there id [] es d t = tt
all_still_there id (other ∷ ids) es d t = (still_there id other es d.0 t.0, all_still_there id ids es d.1 t.1)

pub without-more : (id : ℕ) (ids : List ℕ) (es : List EntryValue) → without es (id ∷ ids) ≡ without (but id es) ids
without-more id ids [] = refl
without-more id ids (e ∷ es) =
    elim (e.id == id) as (λ b. cond (not (b || is_among ids e.id)) (e ∷ without es (id ∷ ids)) (without es (id ∷ ids))
    ≡ without (cond (not b) (e ∷ but id es) (but id es)) ids) [
      | true ↦ without-more id ids es
      | false ↦ ap (λ fs. cond (not (is_among ids e.id)) (e ∷ fs) fs) (without-more id ids es)
    ]

none_without : (es : List EntryValue) → length (without es []) ≤ length es
none_without [] = omega arith
none_without (e ∷ es) = omega (arith, none_without es)

-- without some of its different segments, a list is that much shorter
length-without : (ids : List ℕ) (es : List EntryValue) → AllByRecursion (λ id. is_there es id ≡ true) ids → AreDifferent ids →
    length (without es ids) + length ids ≤ length es
length-without [] es t d = omega (arith, none_without es)
length-without (id ∷ ids) es t d =
    omega (arith, ap length (without-more id ids es), length-without ids (but id es) (all_still_there id ids es d.0 t.1) d.1, but-lt id es t.0)

-- a merge without a fault leaves fewer segments, by the number of its sources less one
pub fewer_without : (ids : List ℕ) (s : SnapshotValue) → merge_fault ids s ≡ None →
    length (without s.entries (merged_of (entries_at s.entries ids)).ids) + length ids ≤ length s.entries
fewer_without ids s fine =
    let large = size_fault (sum_by live_count (entries_at s.entries ids)) in
    let given = (names_given s.entries ids (first_none (names_fault s.entries ids) (first_of large (numbers_fault (s.next_id + 1))) fine).0).1 in
    omega (arith, length-without ids s.entries given.there given.different, ap (λ ns. length (without s.entries ns)) (ids_named s.entries ids given.there))

-- a merge of at least two segments uses no more than it frees, and a merge of one uses one more
pub merge_counted : (more : ℕ) (ids : List ℕ) (s : SnapshotValue) → merge_fault ids s ≡ None → 2 ≤ length ids + more →
    segments_and_numbers (after_merge ids s) ≤ segments_and_numbers s + more
merge_counted more ids s fine enough =
    let m = merged_of (entries_at s.entries ids) in
    let one = ended s.next_id m s.entries ∷ [] in
    omega (
      arith,
      fewer_without ids s fine,
      enough,
      length-filter has_live one,
      count_by-le-length has_live one,
      length-append (without s.entries m.ids)
          (filter has_live one),
    )

abbrev id_of : EntryValue → ℕ
id_of e = e.id

abbrev AllAreThere : List EntryValue → List EntryValue → Type 0
AllAreThere all es = AllByRecursion (λ (e : EntryValue). is_there all e.id ≡ true) es

more_are_there : (e : EntryValue) (all es : List EntryValue) → AllAreThere all es → AllAreThere (e ∷ all) es
more_are_there e all [] a = tt
more_are_there e all (f ∷ es) a =
    (elim (e.id == f.id) as (λ b. (b || is_there all f.id) ≡ true) [ true ↦ refl | false ↦ a.0 ], more_are_there e all es a.1)

itself : (n : ℕ) → (n == n) ≡ true
itself n = grind (arith, nat_tests)

all_are_there : (es : List EntryValue) → AllAreThere es es
all_are_there [] = tt
all_are_there (e ∷ es) = (ap (λ b. b || is_there es e.id) (itself e.id), more_are_there e es es (all_are_there es))

not_among_more : (before : List ℕ) (id other : ℕ) → is_among before other ≡ false → id < other → is_among (before ++ id ∷ []) other ≡ false
not_among_more [] id other h l = let differs : (other == id) ≡ false = grind (arith, nat_tests) in ap (λ b. b || false) differs
not_among_more (b ∷ before) id other h l =
    elim (other == b) as (λ c. (c || is_among before other) ≡ false → (c || is_among (before ++ id ∷ []) other) ≡ false)
    [ true ↦ λ k. cc | false ↦ λ k. not_among_more before id other k l ] h

none_among_more : (before : List ℕ) (id : ℕ) (es : List EntryValue) → AllByRecursion (λ (e : EntryValue). is_among before e.id ≡ false) es →
    AllByRecursion (λ (e : EntryValue). id < e.id) es →
    AllByRecursion (λ (e : EntryValue). is_among (before ++ id ∷ []) e.id ≡ false) es
none_among_more before id [] a l = tt
none_among_more before id (e ∷ es) a l = (not_among_more before id e.id a.0 l.0, none_among_more before id es a.1 l.1)

no_fault_behind : (all : List EntryValue) (before : List ℕ) (es : List EntryValue) → AllAreThere all es →
    AllByRecursion (λ (e : EntryValue). is_among before e.id ≡ false) es → Rises id_of es →
    fault_behind all before (map id_of es) ≡ None
no_fault_behind all before [] t n r = refl
no_fault_behind all before (e ∷ es) t n r =
    let rest = fault_behind all (before ++ e.id ∷ []) (map id_of es) in
    ap (λ b. cond b (cond (is_among before e.id) (Some (SegmentTwice e.id)) rest) (Some (UnknownSegment e.id))) t.0
    ∙ ap (λ b. cond b (Some (SegmentTwice e.id)) rest) n.0
    ∙ no_fault_behind all (before ++ e.id ∷ []) es t.1 (none_among_more before e.id es n.1 r.0) r.1

not_among_none : (es : List EntryValue) → AllByRecursion (λ (e : EntryValue). is_among [] e.id ≡ false) es
not_among_none [] = tt
not_among_none (e ∷ es) = (refl, not_among_none es)

no_names_fault : (es : List EntryValue) → 0 < length es → Rises id_of es → names_fault es (map id_of es) ≡ None
no_names_fault [] l r = absurd (omega (arith, l))
no_names_fault (e ∷ es) l r = no_fault_behind (e ∷ es) [] (e ∷ es) (all_are_there (e ∷ es)) (not_among_none (e ∷ es)) r

entries_above : (e : EntryValue) (es fs : List EntryValue) → AllByRecursion (λ (f : EntryValue). e.id < f.id) fs →
    entries_at (e ∷ es) (map id_of fs) ≡ entries_at es (map id_of fs)
entries_above e es [] a = refl
entries_above e es (f ∷ fs) a =
    let above : e.id < f.id = a.0 in
    let differs : (e.id == f.id) ≡ false = grind (arith, nat_tests) in
    ap (λ b. cond b (e ∷ []) (entry_at es f.id) ++ entries_at (e ∷ es) (map id_of fs)) differs ∙ ap (λ gs. entry_at es f.id ++ gs) (entries_above e es fs a.1)

-- the segments of all numbers are all segments
entries_at-all : (es : List EntryValue) → Rises id_of es → entries_at es (map id_of es) ≡ es
entries_at-all [] r = refl
entries_at-all (e ∷ es) r =
    ap (λ b. cond b (e ∷ []) (entry_at es e.id) ++ entries_at (e ∷ es) (map id_of es)) (itself e.id)
    ∙ ap (λ fs. e ∷ fs) (entries_above e es es r.0 ∙ entries_at-all es r.1)

-- a merge of all segments has no fault, if they have few live documents together and a number is left
pub no_fault_in_all : (s : SnapshotValue) → IsSnapshot s → 0 < length s.entries → sum_by live_count s.entries ≤ 1048576 → s.next_id + 1 ≤ 2 ^ 62 →
    merge_fault (ids_of s.entries) s ≡ None
no_fault_in_all s i some few room =
    let rising = rises_from_pairs id_of s.entries i.ids in
    let sum = sum_by live_count s.entries in
    let small : nat_lt 1048576 sum ≡ false = grind (arith, nat_tests) in
    let left : nat_lt (2 ^ 62) (s.next_id + 1) ≡ false = grind (arith, nat_tests) in
    ap (λ f. first_of f (first_of (size_fault (sum_by live_count (entries_at s.entries (ids_of s.entries)))) (numbers_fault (s.next_id + 1))))
    (no_names_fault s.entries some rising)
    ∙ ap (λ es. first_of (size_fault (sum_by live_count es)) (numbers_fault (s.next_id + 1))) (entries_at-all s.entries rising)
    ∙ ap (λ b. first_of (cond b (Some TooLarge) None) (numbers_fault (s.next_id + 1))) small
    ∙ ap (λ b. cond b (Some StampsUsedUp) None) left

-- the segments' live documents are the content
pub live_documents : (s : SnapshotValue) → IsSnapshot s → sum_by live_count s.entries ≡ length (content_of s)
live_documents s i =
    sym (length-live_in s.entries i.each)
    ∙ sym (length_permutation (flat_map live_in s.entries) (content s.entries) (permutation_in_order (flat_map live_in s.entries)))

-- a list that is not reported as empty has a member
pub nonempty : (es : List EntryValue) (b : Bool) → b ≡ (length es == 0) → b ≡ false → 0 < length es
nonempty es b e f = let g : (length es == 0) ≡ false = sym e ∙ f in grind (arith, nat_tests)
