-- The sizes of segments after a merge.
use Rattle.std.proofs.Common.{◌≡◌, ◌+◌, ◌<◌, ◌≤◌, ◌==◌, ◌||◌, ◌≢◌, ℕ, Bool, true, false, cond, not, None, Some, List, [], ◌∷◌, ◌++◌, length}
use Rattle.std.proofs.Common.{map, filter, nat_lt, slice_index, sum_by, count_by, All, refl, sym, ap, subst, ◌∙◌, arith}
use Rattle.std.specs.List.{AllByRecursion, flat_map, list_any}
use Rattle.std.proofs.lemmas.Bool.Decides.{nat_tests}
use Rattle.std.proofs.lemmas.List.{length-map, map-append}
use Rattle.std.proofs.lemmas.List.Elements.{recursion_from_All}
use Rattle.std.proofs.lemmas.List.Sorted.{length_permutation}
use Rattle.std.proofs.lemmas.List.Sums.{sum_by-cons, sum_by-append, count_by-le-length}
use Rattle.fts_base.specs.declared.refusal.Refusal.{Refusal}
use Rattle.fts_base.specs.declared.refusal.Refusal.TheVariants.{TooLarge}
use Rattle.std.specs.Prelude.{Result, Ok, Err, IfOk}
use Rattle.fts_base.specs.Results.{Gives, first_of, ok_unless}
use Rattle.fts_merge.specs.declared.origin.Origin.{Origin}
use Rattle.fts_snapshots.specs.Commits.{numbers_fault}
use Rattle.fts_snapshots.specs.Entries.{EntryValue, IsEntry, has_live, live_in, live_count, content}
use Rattle.fts_snapshots.specs.Infos.{info_of, infos_after_merge}
use Rattle.fts_snapshots.specs.LateMerges.{after_merge, ended, is_live_at}
use Rattle.fts_snapshots.specs.MergedSegments.{merged_of, origins_of}
use Rattle.fts_snapshots.specs.Merges.{entry_at, entries_at, names_fault, size_fault, without}
use Rattle.fts_snapshots.specs.Snapshots.{SnapshotValue, IsSnapshot, merge_fault}
use Rattle.fts_snapshots.proofs.LateBeginLemmas.{fits_begun, here_begun, ids_named, job_begun, length-live_in, length-merged, merged_by_job}
use Rattle.fts_snapshots.proofs.CountLemmas.{but, without-more}
use Rattle.fts_snapshots.proofs.LateContentLemmas.{content-ended, snapshot_after_end}
use Rattle.fts_snapshots.proofs.LateSchemaLemmas.{schema_ended}
use Rattle.fts_snapshots.proofs.MergeLemmas.{AreDifferent, names_given}
use Rattle.fts_snapshots.proofs.OrderLemmas.{permutation_in_order}
use Rattle.fts_snapshots.proofs.SnapshotLemmas.{all_entries_at, some_sources}
use Rattle.fts_snapshots.proofs.SourceLemmas.{first_none, numbers_room, unless_ok}

-- if some members are counted, one passes
passes_where_counted : {X : Type 0} (p : X → Bool) (xs : List X) → 0 < count_by p xs → list_any p xs ≡ true
passes_where_counted p [] h = absurd (omega (arith, h))
passes_where_counted p (x ∷ xs) h =
    elim (p x) as (λ b. 0 < cond b 1 0 + count_by p xs → (b || list_any p xs) ≡ true) [
      | true ↦ λ _. refl
      | false ↦ λ k. passes_where_counted p xs (omega (arith, k))
    ] (omega (arith, h, sum_by-cons (λ y. cond (p y) 1 0) x xs))

-- if one member passes, some are counted
counted_where_passes : {X : Type 0} (p : X → Bool) (xs : List X) → list_any p xs ≡ true → 0 < count_by p xs
counted_where_passes p [] h = cc
counted_where_passes p (x ∷ xs) h =
    let rest : (b : Bool) → (b || list_any p xs) ≡ true → 0 < cond b 1 0 + count_by p xs = λ b.
    elim b as (λ b. (b || list_any p xs) ≡ true → 0 < cond b 1 0 + count_by p xs) [
      | true ↦ λ _. omega arith
      | false ↦ λ k. omega (arith, counted_where_passes p xs k)
    ] in
    omega (arith, rest (p x) h, sum_by-cons (λ y. cond (p y) 1 0) x xs)

-- segments that have a live document each have at least one together
live_together : (es : List EntryValue) → AllByRecursion (λ e. has_live e ≡ true) es → 0 < length es → 0 < sum_by live_count es
live_together [] a some = absurd (omega (arith, some))
live_together (e ∷ es) a some = omega (arith, counted_where_passes (λ bit. bit) e.live a.0, sum_by-cons live_count e es)

live_but-le : (id : ℕ) (es : List EntryValue) → sum_by live_count (but id es) ≤ sum_by live_count es
live_but-le id [] = omega arith
live_but-le id (e ∷ es) =
    elim (e.id == id) as (λ b. sum_by live_count (cond (not b) (e ∷ but id es) (but id es)) ≤ sum_by live_count (e ∷ es)) [
      | true ↦ omega (arith, live_but-le id es, sum_by-cons live_count e es)
      | false ↦ omega (arith, live_but-le id es, sum_by-cons live_count e es, sum_by-cons live_count e (but id es))
    ]

-- a segment and those of other numbers have no more live documents than all
live_but : (id : ℕ) (es : List EntryValue) → sum_by live_count (but id es) + sum_by live_count (entry_at es id) ≤ sum_by live_count es
live_but id [] = omega arith
live_but id (e ∷ es) =
    elim (e.id == id) as (λ b. sum_by live_count (cond (not b) (e ∷ but id es) (but id es)) + sum_by live_count (cond b (e ∷ []) (entry_at es id))
    ≤ sum_by live_count (e ∷ es)) [
      | true ↦ omega (arith, live_but-le id es, sum_by-cons live_count e es, sum_by-cons live_count e [])
      | false ↦ omega (arith, live_but id es, sum_by-cons live_count e es, sum_by-cons live_count e (but id es))
    ]

-- the segment of another number is unchanged without this one
entry_at-but : (id other : ℕ) (es : List EntryValue) → id ≢ other → entry_at (but id es) other ≡ entry_at es other
entry_at-but id other [] n = refl
entry_at-but id other (e ∷ es) n =
    elim (e.id == id) as (λ b. (e.id == id) ≡ b → entry_at (cond (not b) (e ∷ but id es) (but id es)) other ≡ cond (e.id == other) (e ∷ []) (entry_at es other)) [
      | true ↦ λ same.
          let differs : (e.id == other) ≡ false = grind (arith, nat_tests) in
          entry_at-but id other es n ∙ sym (ap (λ b. cond b (e ∷ []) (entry_at es other)) differs)
      | false ↦ λ _. ap (λ fs. cond (e.id == other) (e ∷ []) fs) (entry_at-but id other es n)
    ] refl

entries_at-but : (id : ℕ) (ids : List ℕ) (es : List EntryValue) → AllByRecursion (λ other. id ≢ other) ids → entries_at (but id es) ids ≡ entries_at es ids
entries_at-but id [] es d = refl
entries_at-but id (other ∷ ids) es d = (λ i. entry_at-but id other es d.0 i ++ entries_at-but id ids es d.1 i)

live_without-none : (es : List EntryValue) → sum_by live_count (without es []) ≤ sum_by live_count es
live_without-none [] = omega arith
live_without-none (e ∷ es) = omega (arith, live_without-none es, sum_by-cons live_count e es, sum_by-cons live_count e (without es []))

-- some segments and the others have no more live documents than all
live_without : (ids : List ℕ) (es : List EntryValue) → AreDifferent ids → sum_by live_count (without es ids) + sum_by live_count (entries_at es ids)
    ≤ sum_by live_count es
live_without [] es d = omega (arith, live_without-none es)
live_without (id ∷ ids) es d =
    omega (
      arith,
      ap (sum_by live_count) (without-more id ids es),
      ap (sum_by live_count) (entries_at-but id ids es d.0),
      live_without ids (but id es) d.1,
      live_but id es,
      sum_by-append live_count (entry_at es id) (entries_at es ids),
    )

-- the content of segments has as many documents as they have live ones
length-content : (es : List EntryValue) → All IsEntry es → length (content es) ≡ sum_by live_count es
length-content es each = length_permutation (flat_map live_in es) (content es) (permutation_in_order (flat_map live_in es)) ∙ length-live_in es each

-- a size without a fault is small
small : (n : ℕ) → size_fault n ≡ None → n ≤ 1048576
small n h =
    let within : nat_lt 1048576 n ≡ false =
    elim (nat_lt 1048576 n) as (λ b. cond b (Some TooLarge) None ≡ None → b ≡ false) [ true ↦ λ k. cc | false ↦ λ _. refl ] h in
    grind (arith, nat_tests)

-- a merge replaces its sources by one segment, and each of its documents is live
pub infos_merged : (s : SnapshotValue) (ids : List ℕ) → IsSnapshot s → merge_fault ids s ≡ None →
    map info_of (after_merge ids s).entries ≡ infos_after_merge ids s
infos_merged s ids i fine =
    let es = s.entries in
    let job = entries_at es ids in
    let sum = sum_by live_count job in
    let last = numbers_fault (s.next_id + 1) in
    let first = first_none (names_fault es ids) (first_of (size_fault sum) last) fine in
    let second = first_none (size_fault sum) last first.1 in
    let given = (names_given es ids first.0).1 in
    let m = merged_of job in
    let begun = job_begun s ids i first.0 in
    let made = merged_by_job job begun (small sum second.0) in
    let fits = fits_begun s ids i first.0 in
    let after = snapshot_after_end m s made i fits (schema_ended m s made i fits (here_begun es ids first.0)) (numbers_room (s.next_id + 1) second.1) in
    let kept = without es m.ids in
    let one = ended s.next_id m es in
    let ending = filter has_live (one ∷ []) in
    let docs = length-merged job begun.each in
    let bits : length one.live ≡ length m.merged.segment.documents
    = length-map (origins_of m) (λ (o : ℕ × ℕ). is_live_at es o.0 o.1) ∙ length-map m.merged.origins (λ (o : Origin). (slice_index m.ids o.source, o.document))
    ∙ made.merged.paired in
    let same : sum_by live_count (kept ++ ending) ≡ sum_by live_count es
    = sym (length-content (kept ++ ending) after.each) ∙ ap length (content-ended m s made i fits) ∙ length-content es i.each in
    let named : kept ≡ without es ids = ap (without es) (ids_named es ids given.there) in
    let some : 0 < sum = live_together job (all_entries_at (λ e. has_live e ≡ true) es ids (recursion_from_All (λ e. has_live e ≡ true) es i.live))
    (some_sources es ids first.0) in
    let live : live_count one ≡ sum
    = omega (
      arith,
      bits,
      docs,
      same,
      count_by-le-length (λ bit. bit) one.live,
      live_of_one one,
      sum_by-append live_count kept ending,
      ap (sum_by live_count) named,
      live_without ids es given.different,
    ) in
    let has : has_live one ≡ true = passes_where_counted (λ bit. bit) one.live (subst (λ n. 0 < n) (sym live) some) in
    ap (λ b. map info_of (kept ++ cond b (one ∷ []) [])) has
    ∙ map-append info_of kept (one ∷ [])
    ∙ (λ k. map info_of (named k) ++ record { id = s.next_id; docs = docs k; live = live k } ∷ []) where
      live_of_one : (e : EntryValue) → sum_by live_count (filter has_live (e ∷ [])) ≤ live_count e
      live_of_one e =
          elim (has_live e) as (λ b. sum_by live_count (cond b (e ∷ []) []) ≤ live_count e) [
            | true ↦ omega (arith, sum_by-cons live_count e [])
            | false ↦ omega arith
          ]

-- the sizes of segments after the result of a merge
pub infos_given : (s : SnapshotValue) (ids : List ℕ) (r : Result SnapshotValue Refusal) → IsSnapshot s →
    Gives (λ new. new) r (ok_unless (merge_fault ids s) (after_merge ids s)) →
    IfOk r (λ new. map info_of new.entries ≡ infos_after_merge ids s)
infos_given s ids (Ok new) i g = let both = unless_ok (merge_fault ids s) (after_merge ids s) new g in
    ap (λ n. map info_of n.entries) both.1 ∙ infos_merged s ids i both.0
infos_given s ids (Err e) i g = tt
