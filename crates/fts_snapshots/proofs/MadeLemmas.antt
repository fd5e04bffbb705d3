-- Segments that were made for candidates go on to be what their merges make, while other candidates are merged.
use Rattle.std.proofs.Common.{◌≡◌, ◌≢◌, ◌<◌, ◌≤◌, ◌+◌, ◌==◌, ◌||◌, inl, inr, ⊎_elim, ℕ, zero, suc, Bool, true, false, not, cond, Some, None, Result, Ok, Err}
use Rattle.std.proofs.Common.{List, [], ◌∷◌, ◌++◌, length, get_or, nat_lt, drop, map, filter, sum_by, All, AllPairs, Contains, refl, sym, ap, subst, ◌∙◌, arith}
use Rattle.std.specs.Prelude.{IfOk, is_none}
use Rattle.std.specs.List.{AllByRecursion, AllZip, flat_map}
use Rattle.std.proofs.lemmas.Bool.{cases_lt}
use Rattle.std.proofs.lemmas.Bool.Decides.{nat_tests}
use Rattle.std.proofs.lemmas.List.{append-nil, at_drop_all, at_drop_more, length-map, map-append}
use Rattle.std.proofs.lemmas.List.Elements.{All-from_recursion, recursion_from_All}
use Rattle.std.proofs.lemmas.List.Kept.{AllPairs-cons}
use Rattle.std.proofs.lemmas.Result.{IfOk-weaker}
use Rattle.fts_base.specs.declared.refusal.Refusal.{Refusal}
use Rattle.fts_base.specs.declared.refusal.Refusal.TheVariants.{UnknownSegment, SegmentTwice}
use Rattle.fts_base.specs.Results.{ok_unless}
use Rattle.fts_model.proofs.Lists.{pairs_behind, pairs_front, pairs_none, Contains-first, Contains-behind}
use Rattle.fts_merge.specs.Levels.{candidates_by}
use Rattle.fts_merge.specs.declared.merge_policy.MergePolicy.{MergePolicy}
use Rattle.fts_merge.proofs.AloneLemmas.{candidates_by-once, candidates_by-within}
use Rattle.fts_snapshots.specs.Candidates.{MergesAllBut, after_candidate, due}
use Rattle.fts_snapshots.specs.Changes.{Merges}
use Rattle.fts_snapshots.specs.Entries.{EntryValue, has_live, live_count}
use Rattle.fts_snapshots.specs.Infos.{candidate_ids_by, id_at, size_of}
use Rattle.fts_snapshots.specs.LateMerges.{after_end, after_merge, ended}
use Rattle.fts_snapshots.specs.MadeMerges.{AreApart, AreMadeFor, IsMadeFor, IsTaskFor, Makes}
use Rattle.fts_snapshots.specs.MergedSegments.{MergedSegmentValue, merged_of}
use Rattle.fts_snapshots.specs.Merges.{entries_at, entry_at, fault_behind, is_among, is_there, names_fault, size_fault, without}
use Rattle.fts_snapshots.specs.Snapshots.{IdsRise, IsSnapshot, SnapshotValue, merge_fault}
use Rattle.fts_snapshots.specs.Successors.{Fits}
use Rattle.fts_snapshots.specs.declared.merges.merge_task.MergeTask.{MergeTask}
use Rattle.fts_snapshots.proofs.ChangeLemmas.{due_more}
use Rattle.fts_snapshots.proofs.FollowLemmas.{fits_further, follows_end}
use Rattle.fts_snapshots.proofs.LateBeginLemmas.{ids_named}
use Rattle.fts_snapshots.proofs.LateBitLemmas.{fault_of_err}
use Rattle.fts_snapshots.proofs.MergeLemmas.{names_given}
use Rattle.fts_snapshots.proofs.PlanLemmas.{all_parts}
use Rattle.fts_snapshots.proofs.SourceLemmas.{first_none, unless_ok}

-- the segment of a number, if segments of other numbers are left out
at_without : (es : List EntryValue) (js : List ℕ) (id : ℕ) → is_among js id ≡ false → entry_at (without es js) id ≡ entry_at es id
at_without [] js id h = refl
at_without (e ∷ es) js id h =
    let rest = without es js in
    elim (e.id == id) as (λ b. (e.id == id) ≡ b → entry_at (cond (not (is_among js e.id)) (e ∷ rest) rest) id ≡ cond b (e ∷ []) (entry_at es id)) [
      | true ↦ λ t.
          let same : e.id ≡ id = grind (arith, nat_tests) in
          ap (λ b. entry_at (cond (not b) (e ∷ rest) rest) id) (ap (is_among js) same ∙ h) ∙ ap (λ b. cond b (e ∷ []) (entry_at rest id)) t
      | false ↦ λ f.
          elim (is_among js e.id) as (λ b. entry_at (cond (not b) (e ∷ rest) rest) id ≡ entry_at es id) [
            | true ↦ at_without es js id h
            | false ↦ ap (λ b. cond b (e ∷ []) (entry_at rest id)) f ∙ at_without es js id h
          ]
    ] refl

-- the segment of a number that no segment of a second list has
at_front : (es fs : List EntryValue) (id : ℕ) → entry_at fs id ≡ [] → entry_at (es ++ fs) id ≡ entry_at es id
at_front [] fs id h = h
at_front (e ∷ es) fs id h = ap (λ xs. cond (e.id == id) (e ∷ []) xs) (at_front es fs id h)

-- a segment of another number
at_other : (e : EntryValue) (id : ℕ) → e.id ≢ id → entry_at (filter has_live (e ∷ [])) id ≡ []
at_other e id h =
    let none : List EntryValue = [] in
    let other : (e.id == id) ≡ false = grind (arith, nat_tests) in
    elim (has_live e) as (λ b. entry_at (cond b (e ∷ []) []) id ≡ none) [ true ↦ ap (λ b. cond b (e ∷ []) none) other | false ↦ refl ]

abbrev is_some_entry : List EntryValue → Bool
is_some_entry [] = false
is_some_entry (e ∷ es) = true

there_at : (es : List EntryValue) (id : ℕ) → is_there es id ≡ is_some_entry (entry_at es id)
there_at [] id = refl
there_at (e ∷ es) id =
    elim (e.id == id) as (λ b. (b || is_there es id) ≡ is_some_entry (cond b (e ∷ []) (entry_at es id))) [ true ↦ refl | false ↦ there_at es id ]

-- the segments of some numbers are the same in two lists
abbrev AreSame : List EntryValue → List EntryValue → List ℕ → Type 0
AreSame es fs ids = AllByRecursion (λ id. entry_at fs id ≡ entry_at es id) ids

same_entries : (es fs : List EntryValue) (ids : List ℕ) → AreSame es fs ids → entries_at fs ids ≡ entries_at es ids
same_entries es fs [] a = refl
same_entries es fs (id ∷ ids) a = ap (λ xs. xs ++ entries_at fs ids) a.0 ∙ ap (λ xs. entry_at es id ++ xs) (same_entries es fs ids a.1)

same_fault : (es fs : List EntryValue) (before ids : List ℕ) → AreSame es fs ids → fault_behind fs before ids ≡ fault_behind es before ids
same_fault es fs before [] a = refl
same_fault es fs before (id ∷ ids) a =
    let there = there_at fs id ∙ ap is_some_entry a.0 ∙ sym (there_at es id) in
    ap (λ b. cond b (cond (is_among before id) (Some (SegmentTwice id)) (fault_behind fs (before ++ id ∷ []) ids)) (Some (UnknownSegment id))) there
    ∙ ap (λ f. cond (is_there es id) (cond (is_among before id) (Some (SegmentTwice id)) f) (Some (UnknownSegment id)))
    (same_fault es fs (before ++ id ∷ []) ids a.1)

same_names : (es fs : List EntryValue) (ids : List ℕ) → AreSame es fs ids → names_fault fs ids ≡ names_fault es ids
same_names es fs [] a = refl
same_names es fs (id ∷ ids) a = same_fault es fs [] (id ∷ ids) a

-- the end of a merge leaves segments of other numbers
same_after : (s : SnapshotValue) (m : MergedSegmentValue) (ids : List ℕ) → AllByRecursion (λ id. is_among m.ids id ≡ false) ids →
    AllByRecursion (λ id. id < s.next_id) ids → AreSame s.entries (after_end m s).entries ids
same_after s m [] a b = tt
same_after s m (id ∷ ids) a b =
    let new = ended s.next_id m s.entries in
    let other : s.next_id ≢ id = λ e. omega (arith, e, b.0) in
    (at_front (without s.entries m.ids) (filter has_live (new ∷ [])) id (at_other new id other) ∙ at_without s.entries m.ids id a.0, same_after s m ids a.1 b.1)

all_below : (n : ℕ) (ids : List ℕ) → ((id : ℕ) → Contains ids id → id < n) → AllByRecursion (λ id. id < n) ids
all_below n [] h = tt
all_below n (id ∷ ids) h = (h id (Contains-first id ids id refl), all_below n ids (λ other c. h other (Contains-behind id ids other c)))

-- a segment that was made for a candidate has the candidate's numbers
pub made_ids : (ids : List ℕ) (s : SnapshotValue) (m : MergedSegmentValue) → IsMadeFor ids s m → m.ids ≡ ids
made_ids ids s m made = ap (λ (n : MergedSegmentValue). n.ids) made.merged ∙ ids_named s.entries ids (names_given s.entries ids made.named).1.there

-- the numbers of a candidate are none of another's
abbrev AreOthers : List ℕ → List ℕ → Type 0
AreOthers js ids = AllByRecursion (λ id. is_among js id ≡ false) ids

made_beside : (ids js : List ℕ) (s : SnapshotValue) (m : MergedSegmentValue) → IsMadeFor ids s m → AreOthers js ids → names_fault s.entries js ≡ None →
    IsMadeFor ids (after_merge js s) m
made_beside ids js s m made others named =
    let other = merged_of (entries_at s.entries js) in
    let is : other.ids ≡ js = ids_named s.entries js (names_given s.entries js named).1.there in
    let below = subst (λ ns. AllByRecursion (λ id. id < s.next_id) ns) (made_ids ids s m made) (all_below s.next_id m.ids made.fits.below) in
    let same = same_after s other ids (subst (λ ns. AreOthers ns ids) (sym is) others) below in
    let entries = same_entries s.entries (after_merge js s).entries ids same in
    record {
      named = same_names s.entries (after_merge js s).entries ids same ∙ made.named;
      few = ap (λ (es : List EntryValue). size_fault (sum_by live_count es)) entries ∙ made.few;
      merged = made.merged ∙ ap merged_of (sym entries);
      fits = fits_further m s (after_merge js s) made.fits (follows_end s other);
    }

-- a segment that was made for a candidate is what its merge makes after another candidate was merged
pub made_further : (ids js : List ℕ) (s : SnapshotValue) (m : MergedSegmentValue) → IsMadeFor ids s m → AreOthers js ids → IsMadeFor ids (after_candidate js s) m
made_further ids js s m made others =
    elim (merge_fault js s) as (λ f. merge_fault js s ≡ f → IsMadeFor ids (cond (is_none f) (after_merge js s) s) m) [
      | None ↦ λ none. made_beside ids js s m made others (first_none (names_fault s.entries js) _ none).0
      | Some refusal ↦ λ _. made
    ] refl

-- a segment that was made for a candidate is what its merge makes after another candidate was tried
made_tried : (ids js : List ℕ) (refused : ℕ) (now next : SnapshotValue) (m : MergedSegmentValue) → MergesAllBut refused (js ∷ []) now next →
    AreOthers js ids → IsMadeFor ids now m → IsMadeFor ids next m
made_tried ids js refused now next m tried others made = elim tried [
  | inl merged ↦ subst (λ s. IsMadeFor ids s m) (sym merged.1) (made_further ids js now m made others)
  | inr left ↦ subst (λ s. IsMadeFor ids s m) (sym left.2.1) made
]

all_tried : (js : List ℕ) (refused : ℕ) (now next : SnapshotValue) (candidates : List (List ℕ)) (made : List (Result MergedSegmentValue Refusal)) →
    MergesAllBut refused (js ∷ []) now next → AllByRecursion (AreOthers js) candidates → AreMadeFor candidates now made → AreMadeFor candidates next made
all_tried js refused now next [] [] tried a h = tt
all_tried js refused now next [] (result ∷ made) tried a h = absurd h
all_tried js refused now next (ids ∷ candidates) [] tried a h = absurd h
all_tried js refused now next (ids ∷ candidates) (result ∷ made) tried a h = (
  IfOk-weaker result (IsMadeFor ids now) (IsMadeFor ids next) (λ m k. made_tried ids js refused now next m tried a.0 k) h.0,
  all_tried js refused now next candidates made tried a.1 h.1,
)

-- a merge of a candidate that succeeded
pub merged_candidate : (ids : List ℕ) (s new : SnapshotValue) → ok_unless (merge_fault ids s) (after_merge ids s) ≡ Ok new →
    (merge_fault ids s ≡ None) × (new ≡ after_merge ids s) × (new ≡ after_candidate ids s)
merged_candidate ids s new given =
    let both = unless_ok (merge_fault ids s) (after_merge ids s) new given in
    (both.0, both.1, both.1 ∙ sym (ap (λ f. cond (is_none f) (after_merge ids s) s) both.0))

-- a candidate that can't be merged
pub left_candidate : (ids : List ℕ) (s : SnapshotValue) (refusal : Refusal) → ok_unless (merge_fault ids s) (after_merge ids s) ≡ Err refusal →
    s ≡ after_candidate ids s
left_candidate ids s refusal given =
    sym (ap (λ f. cond (is_none f) (after_merge ids s) s) (fault_of_err (merge_fault ids s) (after_merge ids s) refusal given))

-- nothing was merged
pub merges_none : (more : ℕ) (old new : SnapshotValue) → new ≡ old → Merges more old new
merges_none more old new same = subst (Merges more old) (sym same) (record { schema = refl; documents = refl; segments = omega arith })

none_among : (ids : List ℕ) → AreOthers [] ids
none_among [] = tt
none_among (id ∷ ids) = (refl, none_among ids)

more_others : (j : ℕ) (js ids : List ℕ) → AllByRecursion (λ id. j ≢ id) ids → AreOthers js ids → AreOthers (j ∷ js) ids
more_others j js [] a b = tt
more_others j js (id ∷ ids) a b =
    let apart : j ≢ id = a.0 in
    let other : (id == j) ≡ false = grind (arith, nat_tests) in
    (ap (λ c. c || is_among js id) other ∙ b.0, more_others j js ids a.1 b.1)

-- numbers that are all different: none of those behind is one of the first
different_parts : (js ids : List ℕ) → AllPairs (λ a b. a ≢ b) (js ++ ids) → AreOthers js ids × AllPairs (λ a b. a ≢ b) ids
different_parts [] ids p = (none_among ids, p)
different_parts (j ∷ js) ids p =
    let all = js ++ ids in
    let first = recursion_from_All (λ id. j ≢ id) all (pairs_front (λ a b. a ≢ b) j all p) in
    let rest = different_parts js ids (pairs_behind (λ a b. a ≢ b) j all p) in
    (more_others j js ids (all_parts (λ id. j ≢ id) js ids first).1 rest.0, rest.1)

each_list : (P : ℕ → Type 0) (lists : List (List ℕ)) → AllByRecursion P (flat_map (λ ids. ids) lists) → AllByRecursion (λ ids. AllByRecursion P ids) lists
each_list P [] a = tt
each_list P (ids ∷ lists) a = let parts = all_parts P ids (flat_map (λ ids. ids) lists) a in (parts.0, each_list P lists parts.1)

all_due : (P : List ℕ → Type 0) (candidates : List (List ℕ)) → AllByRecursion P candidates → AllByRecursion P (due candidates)
all_due P [] a = tt
all_due P (ids ∷ candidates) a =
    elim (nat_lt (length ids) 2) as (λ b. AllByRecursion P (cond b (ids ∷ []) (ids ∷ due candidates))) [
      | true ↦ (a.0, tt)
      | false ↦ (a.0, all_due P candidates a.1)
    ]

-- the first of what is left of a list, beside the first of another
zip_next : {X Y : Type 0} (R : X → Y → Type 0) (x : X) (xs : List X) (ys : List Y) (k : ℕ) → AllZip R (x ∷ xs) (drop k ys) →
    (k < length ys) × ((d : Y) → R x (get_or ys k d)) × AllZip R xs (drop (k + 1) ys)
zip_next R x xs [] zero h = absurd h
zip_next R x xs [] (suc k) h = absurd h
zip_next R x xs (y ∷ ys) zero h = (omega arith, λ d. h.0, h.1)
zip_next R x xs (y ∷ ys) (suc k) h =
    let rest = zip_next R x xs ys k h in
    let more : suc k + 1 ≡ suc (k + 1) = omega arith in
    (omega (arith, rest.0), rest.1, subst (λ n. AllZip R xs (drop n (y ∷ ys))) (sym more) rest.2)

-- the candidates that are left, with the segments that were made for those that are due
abbrev pub AreLeft : List (List ℕ) → SnapshotValue → List (Result MergedSegmentValue Refusal) → Type 0
AreLeft candidates s made = AreApart candidates × AreMadeFor (due candidates) s made

-- the candidates that are left after one of several segments was tried
pub made_more : {V : Type 0} (f : V → List ℕ) (vs : List V) (k : ℕ) (v : V) (made : List (Result MergedSegmentValue Refusal)) (now next : SnapshotValue)
    (refused : ℕ) → k < length vs → v ≡ get_or vs k v → 2 ≤ length (f v) → MergesAllBut refused (f v ∷ []) now next →
    AreLeft (map f (drop k vs)) now (drop k made) → AreLeft (map f (drop (k + 1) vs)) next (drop (k + 1) made)
made_more f vs k v made now next refused within is several tried left =
    let rest = map f (drop (k + 1) vs) in
    let first = at_drop_more (λ ws. map f ws) vs k v within ∙ ap (λ w. f w ∷ rest) (sym is) in
    let apart = different_parts (f v) (flat_map (λ ids. ids) rest) (subst AreApart first left.0) in
    let zipped = zip_next (λ ids result. IfOk result (IsMadeFor ids now)) (f v) (due rest) made k
    (subst (λ cs. AreMadeFor cs now (drop k made)) (due_more f vs k v within is several) left.1) in
    let others = all_due (AreOthers (f v)) rest (each_list (λ id. is_among (f v) id ≡ false) rest apart.0) in
    (apart.1, all_tried (f v) refused now next (due rest) (drop (k + 1) made) tried others zipped.2)

-- the progress of tasks: if more are those of the candidates that are left, all are those of all candidates
abbrev pub Begun : (all left : List (List ℕ)) → SnapshotValue → List MergeTask → Type 0
Begun all left s tasks = (more : List MergeTask) → AllZip (IsTaskFor s) (due left) more → AllZip (IsTaskFor s) (due all) (tasks ++ more)

pub begun_all : {V : Type 0} (f : V → List ℕ) (vs : List V) (k : ℕ) (s : SnapshotValue) (tasks : List MergeTask) → length vs ≤ k →
    Begun (map f vs) (map f (drop k vs)) s tasks → AllZip (IsTaskFor s) (due (map f vs)) tasks
begun_all f vs k s tasks past b =
    subst (λ ts. AllZip (IsTaskFor s) (due (map f vs)) ts) (append-nil tasks)
    (b [] (subst (λ cs. AllZip (IsTaskFor s) cs []) (sym (at_drop_all (λ ws. due (map f ws)) vs k past)) tt))

made_of : (s : SnapshotValue) (ids : List ℕ) (task : MergeTask) (result : Result MergedSegmentValue Refusal) → IsTaskFor s ids task → Makes task result →
    IfOk result (IsMadeFor ids s)
made_of s ids task (Ok m) is makes =
    let both = unless_ok (size_fault (sum_by live_count task.job)) (merged_of task.job) m makes in
    record {
      named = is.named;
      few = ap (λ (es : List EntryValue). size_fault (sum_by live_count es)) (sym is.entries) ∙ both.0;
      merged = both.1 ∙ ap merged_of is.entries;
      fits = subst (λ n. Fits n s) (sym both.1) is.fits;
    }
made_of s ids task (Err e) is makes = tt

-- the results of tasks are the segments for their candidates
pub made_by_tasks : (s : SnapshotValue) (candidates : List (List ℕ)) (tasks : List MergeTask) (results : List (Result MergedSegmentValue Refusal)) →
    AllZip (IsTaskFor s) candidates tasks → AllZip Makes tasks results → AreMadeFor candidates s results
made_by_tasks s [] [] [] a b = tt
made_by_tasks s [] [] (result ∷ results) a b = absurd b
made_by_tasks s [] (task ∷ tasks) results a b = absurd a
made_by_tasks s (ids ∷ candidates) [] results a b = absurd a
made_by_tasks s (ids ∷ candidates) (task ∷ tasks) [] a b = absurd b
made_by_tasks s (ids ∷ candidates) (task ∷ tasks) (result ∷ results) a b =
    (made_of s ids task result a.0 b.0, made_by_tasks s candidates tasks results a.1 b.1)

id_at_get : (es : List EntryValue) (k : ℕ) (d : EntryValue) → k < length es → id_at es k ≡ (get_or es k d).id
id_at_get [] k d l = absurd (omega (arith, l))
id_at_get (e ∷ es) zero d l = refl
id_at_get (e ∷ es) (suc k) d l = id_at_get es k d (omega (arith, l))

ids_rise : (es : List EntryValue) (i j : ℕ) → IdsRise es → i < j → j < length es → id_at es i < id_at es j
ids_rise [] i j rises l within = absurd (omega (arith, within))
ids_rise (e ∷ es) i j rises l within =
    omega (arith, rises i j e l within, id_at_get (e ∷ es) i e (omega (arith, l, within)), id_at_get (e ∷ es) j e within)

ids_differ : (es : List EntryValue) (i j : ℕ) → IdsRise es → i < length es → j < length es → i ≢ j → id_at es i ≢ id_at es j
ids_differ es i j rises li lj apart = λ same.
    ⊎_elim (λ (l : i < j). absurd (omega (arith, ids_rise es i j rises l lj, same)))
    (λ (l : j ≤ i). let less : j < i = omega (arith, l, λ (e : i ≡ j). apart e) in absurd (omega (arith, ids_rise es j i rises less li, same)))
    (cases_lt i j)

each_differs : (es : List EntryValue) (i : ℕ) (js : List ℕ) → IdsRise es → i < length es → AllByRecursion (λ j. j < length es) js →
    AllByRecursion (λ j. i ≢ j) js → AllByRecursion (λ id. id_at es i ≢ id) (map (id_at es) js)
each_differs es i [] rises l a b = tt
each_differs es i (j ∷ js) rises l a b = (ids_differ es i j rises l a.0 b.0, each_differs es i js rises l a.1 b.1)

-- different indexes are of different numbers
different_ids : (es : List EntryValue) (is : List ℕ) → IdsRise es → AllByRecursion (λ i. i < length es) is → AllPairs (λ a b. a ≢ b) is →
    AllPairs (λ a b. a ≢ b) (map (id_at es) is)
different_ids es [] rises a p = pairs_none (λ a b. a ≢ b)
different_ids es (i ∷ is) rises a p =
    let ids = map (id_at es) is in
    let front = recursion_from_All (λ j. i ≢ j) is (pairs_front (λ a b. a ≢ b) i is p) in
    AllPairs-cons (λ a b. a ≢ b) (id_at es i) ids (All-from_recursion (λ id. id_at es i ≢ id) ids (each_differs es i is rises a.0 a.1 front))
    (different_ids es is rises a.1 (pairs_behind (λ a b. a ≢ b) i is p))

flat_maps : (g : ℕ → ℕ) (lists : List (List ℕ)) → flat_map (λ ids. ids) (map (λ list. map g list) lists) ≡ map g (flat_map (λ ids. ids) lists)
flat_maps g [] = refl
flat_maps g (list ∷ lists) = ap (λ ids. map g list ++ ids) (flat_maps g lists) ∙ sym (map-append g list (flat_map (λ ids. ids) lists))

-- the candidates of a policy are apart
pub candidates_apart : (policy : MergePolicy) (s : SnapshotValue) → IsSnapshot s → AreApart (candidate_ids_by policy s.entries)
candidates_apart policy s is =
    let es = s.entries in
    let found = candidates_by policy (map size_of es) in
    let all = flat_map (λ ids. ids) found in
    let within = subst (λ n. All (λ i. i < n) all) (length-map es size_of) (candidates_by-within policy (map size_of es)) in
    subst (AllPairs (λ a b. a ≢ b)) (sym (flat_maps (id_at es) found))
    (different_ids es all is.ids (recursion_from_All (λ i. i < length es) all within) (candidates_by-once policy (map size_of es)))
