-- A started merge is a job, the job makes a merged segment, and that fits the snapshot.
use Rattle.std.proofs.Common.{◌≡◌, ◌≢◌, ◌<◌, ◌≤◌, ◌+◌, ◌==◌, ◌||◌, inl, inr, ℕ, zero, suc, Bool, true, false, cond, Option, Some, None, List, [], ◌∷◌, ◌++◌}
use Rattle.std.proofs.Common.{length, map, slice_get, sum_by, All, AllPairs, Contains, subst, refl, sym, ap, ◌∙◌, arith}
use Rattle.std.specs.List.{flat_map, AllByRecursion}
use Rattle.std.specs.Option.{option_map}
use Rattle.std.proofs.lemmas.Bool.Decides.{nat_tests}
use Rattle.std.proofs.lemmas.List.{length-map, map-append}
use Rattle.std.proofs.lemmas.List.Elements.{All-contains, All-from_recursion, recursion_from_All, All-map, All-weaker}
use Rattle.std.proofs.lemmas.List.Kept.{AllPairs-cons}
use Rattle.fts_model.proofs.Lists.{pairs_none, Contains-cases, Contains-first, Contains-behind, Contains-none}
use Rattle.fts_base.specs.declared.refusal.Refusal.{Refusal}
use Rattle.fts_base.specs.declared.refusal.Refusal.TheVariants.{SourceGone}
use Rattle.fts_base.specs.Results.{first_of, ok_unless}
use Rattle.fts_merge.specs.Merges.{HasBits}
use Rattle.fts_merge.proofs.OriginsLemmas.{IsMerged-merge_of, length-contents_of}
use Rattle.fts_merge.proofs.PlacesLemmas.{placed_from}
use Rattle.fts_snapshots.specs.Entries.{EntryValue, IsEntry, live_in, live_count}
use Rattle.fts_snapshots.specs.Merges.{is_there, entry_at, entries_at, names_fault, size_fault}
use Rattle.fts_snapshots.specs.LateMerges.{first_gone, is_gone, gone_fault, end_fault, after_end, after_merge}
use Rattle.fts_snapshots.specs.Commits.{numbers_fault}
use Rattle.fts_snapshots.specs.MergedSegments.{MergedSegmentValue, IsJob, IsMergedSegment, ids_of, merged_of}
use Rattle.fts_snapshots.specs.Snapshots.{SnapshotValue, IsSnapshot, merge_fault}
use Rattle.fts_snapshots.specs.Sources.{source_of}
use Rattle.fts_snapshots.specs.Successors.{is_set, Fits}
use Rattle.fts_snapshots.proofs.OrderLemmas.{rises_from_pairs}
use Rattle.fts_snapshots.proofs.MergeLemmas.{ById, AreDifferent, names_given}
use Rattle.fts_snapshots.proofs.SnapshotLemmas.{all_entries_at, some_sources}
use Rattle.fts_snapshots.proofs.SourceLemmas.{contents-sources, live_count-sources, snapshot_schema, named_schema, schema_of-sources, some_entries}
use Rattle.fts_snapshots.proofs.FollowLemmas.{contains_mapped, contains_at}
use Rattle.fts_snapshots.proofs.LateContentLemmas.{got_mapped}

ids_at : (es : List EntryValue) (id : ℕ) → is_there es id ≡ true → ids_of (entry_at es id) ≡ id ∷ []
ids_at [] id h = cc
ids_at (e ∷ es) id h =
    elim (e.id == id) as (λ b. (e.id == id) ≡ b → (b || is_there es id) ≡ true → ids_of (cond b (e ∷ []) (entry_at es id)) ≡ id ∷ [])
    [ true ↦ λ t _. let same : e.id ≡ id = grind (arith, nat_tests) in ap (λ n. n ∷ []) same | false ↦ λ _ k. ids_at es id k ] refl h

-- the segments of these numbers have these numbers
pub ids_named : (es : List EntryValue) (ids : List ℕ) → AllByRecursion (λ id. is_there es id ≡ true) ids → ids_of (entries_at es ids) ≡ ids
ids_named es [] a = refl
ids_named es (id ∷ ids) a =
    map-append (λ (e : EntryValue). e.id) (entry_at es id) (entries_at es ids)
    ∙ ap (λ ns. ns ++ ids_of (entries_at es ids)) (ids_at es id a.0)
    ∙ ap (λ ns. id ∷ ns) (ids_named es ids a.1)

pairs_different : (ids : List ℕ) → AreDifferent ids → AllPairs (λ a b. a ≢ b) ids
pairs_different [] d = pairs_none (λ a b. a ≢ b)
pairs_different (id ∷ ids) d = AllPairs-cons (λ a b. a ≢ b) id ids (All-from_recursion (λ other. id ≢ other) ids d.0) (pairs_different ids d.1)

-- a started merge is a job
pub job_begun : (s : SnapshotValue) (ids : List ℕ) → IsSnapshot s → names_fault s.entries ids ≡ None → IsJob (entries_at s.entries ids)
job_begun s ids i h =
    let given = (names_given s.entries ids h).1 in
    let job = entries_at s.entries ids in
    record {
      some = some_sources s.entries ids h;
      each = All-from_recursion IsEntry job (all_entries_at IsEntry s.entries ids (recursion_from_All IsEntry s.entries i.each));
      schemas = (named_schema s.entries ids (snapshot_schema s.schema s.entries i.schemas) h).0;
      different = subst (AllPairs (λ a b. a ≢ b)) (sym (ids_named s.entries ids given.there)) (pairs_different ids given.different);
    }

bits_of : (es : List EntryValue) → All IsEntry es → All HasBits (map source_of es)
bits_of es a = All-map HasBits source_of es (All-weaker IsEntry (λ e. HasBits (source_of e)) (λ e h. h.bits) es a)

-- a merged segment has as many documents as its sources have live ones
pub length-merged : (es : List EntryValue) → All IsEntry es → length (merged_of es).merged.segment.documents ≡ sum_by live_count es
length-merged es each = length-contents_of (map source_of es) (bits_of es each) ∙ live_count-sources es

-- the content of segments has as many documents as they have live ones
pub length-live_in : (es : List EntryValue) → All IsEntry es → length (flat_map live_in es) ≡ sum_by live_count es
length-live_in es each = ap length (sym (contents-sources es)) ∙ length-merged es each

-- a job makes a merged segment
pub merged_by_job : (es : List EntryValue) → IsJob es → sum_by live_count es ≤ 1048576 → IsMergedSegment (merged_of es)
merged_by_job es job few =
    let ss = map source_of es in
    let many = length-map es (λ (e : EntryValue). e.id) in
    record {
      merged = IsMerged-merge_of ss (bits_of es job.each);
      sources = length-map es source_of ∙ sym many;
      some = omega (arith, many, job.some);
      different = job.different;
      few = omega (arith, length-merged es job.each, few);
    }

got_from_map : {X Y : Type 0} (f : X → Y) (xs : List X) (k : ℕ) (y : Y) → slice_get (map f xs) k ≡ Some y → (x : X) × (slice_get xs k ≡ Some x) × (f x ≡ y)
got_from_map f [] k y h = cc
got_from_map f (x ∷ xs) zero y h = let same : f x ≡ y = cc in (x, refl, same)
got_from_map f (x ∷ xs) (suc k) y h = got_from_map f xs k y h

set_at : (bits : List Bool) (n : ℕ) → is_set bits n ≡ true → slice_get bits n ≡ Some true
set_at [] n h = cc
set_at (bit ∷ bits) zero h = ap (λ b. Some b) h
set_at (bit ∷ bits) (suc n) h = set_at bits n h

above : (n : ℕ) (es : List EntryValue) (e : EntryValue) → AllByRecursion (λ f. n < f.id) es → Contains es e → n < e.id
above n es e a c = All-contains (λ (f : EntryValue). n < f.id) es e (All-from_recursion (λ (f : EntryValue). n < f.id) es a) c

-- two segments of one number are the same
one_of : (es : List EntryValue) (e f : EntryValue) → ById es → Contains es e → Contains es f → e.id ≡ f.id → e ≡ f
one_of [] e f r c d h = absurd (Contains-none e c)
one_of (g ∷ es) e f r c d h =
    elim (Contains-cases g es e c) as (λ _. e ≡ f) [
      | inl a ↦ elim (Contains-cases g es f d) as (λ _. e ≡ f)
          [ inl b ↦ sym a ∙ b | inr l ↦ let low = above g.id es f r.0 l in let same = ap (λ (x : EntryValue). x.id) a in absurd (omega (arith, low, same, h)) ]
      | inr k ↦ elim (Contains-cases g es f d) as (λ _. e ≡ f) [
        | inl b ↦ let low = above g.id es e r.0 k in let same = ap (λ (x : EntryValue). x.id) b in absurd (omega (arith, low, same, h))
        | inr l ↦ one_of es e
            f r.1 k l h
      ]
    ]

all_contained : (es fs : List EntryValue) → ((e : EntryValue) → Contains es e → Contains fs e) → AllByRecursion (λ e. Contains fs e) es
all_contained [] fs h = tt
all_contained (e ∷ es) fs h = (h e (Contains-first e es e refl), all_contained es fs (λ f c. h f (Contains-behind e es f c)))

-- a segment of some numbers is one of the snapshot
among_named : (es : List EntryValue) (ids : List ℕ) (e : EntryValue) → Contains (entries_at es ids) e → Contains es e
among_named es ids e c =
    All-contains (λ (f : EntryValue). Contains es f) (entries_at es ids) e
    (All-from_recursion (λ (f : EntryValue). Contains es f) (entries_at es ids) (all_entries_at (λ f. Contains es f) es ids (all_contained es es (λ f d. d)))) c

-- a segment merged of segments of a snapshot fits it
pub fits_begun : (s : SnapshotValue) (ids : List ℕ) → IsSnapshot s → names_fault s.entries ids ≡ None → Fits (merged_of (entries_at s.entries ids)) s
fits_begun s ids i h =
    let es = s.entries in
    let job = entries_at es ids in
    let ss = map source_of job in
    let Here : EntryValue → Type 0 = λ e. e.segment.schema ≡ s.schema in
    let each = recursion_from_All Here es i.schemas in
    record {
      below = λ id c.
          let from = contains_mapped (λ (e : EntryValue). e.id) job id c in
          subst (λ n. n < s.next_id) from.2 (All-contains (λ (e : EntryValue). e.id < s.next_id) es from.0 i.below (among_named es ids from.0 from.1));
      schema = λ e c _.
          (named_schema es ids (snapshot_schema s.schema es i.schemas) h).1
          ∙ schema_of-sources s.schema es each (some_entries es ids h)
          ∙ sym (All-contains Here es e i.schemas c);
      mapped = λ e source n c at live.
          let own = got_from_map (λ (e : EntryValue). e.id) job source e.id at in
          let same = one_of es own.0 e (rises_from_pairs (λ (e : EntryValue). e.id) es i.ids) (among_named es ids own.0 (contains_at job source own.0 own.1)) c
          own.2 in
          let is = got_mapped source_of job source own.0 own.1 ∙ ap (λ (f : EntryValue). Some (source_of f)) same in
          let placed = placed_from 0 ss source (source_of e) n (bits_of job (job_begun s ids i h).each) is (set_at e.live n live) in
          (placed.0, placed.1 ∙ ap (λ (k : ℕ). Some (record { source = k; document = n })) (omega arith), placed.2);
    }

abbrev none_of : (X : Type 0) → Option X
none_of X = None

none_gone : (es : List EntryValue) (ids : List ℕ) → AllByRecursion (λ id. is_there es id ≡ true) ids → first_gone es ids ≡ None
none_gone es [] a = refl
none_gone es (id ∷ ids) a = ap (λ b. cond b (first_gone es ids) (Some id)) a.0 ∙ none_gone es ids a.1

-- a merge that started in a snapshot can end there, with respect to its sources
pub here_begun : (es : List EntryValue) (ids : List ℕ) → names_fault es ids ≡ None → gone_fault (merged_of (entries_at es ids)) es ≡ None
here_begun es ids h =
    let there = (names_given es ids h).1.there in
    let m = merged_of (entries_at es ids) in
    ap (λ gone. cond (is_gone m es) (option_map SourceGone gone) None) (ap (first_gone es) (ids_named es ids there) ∙ none_gone es ids there)
    ∙ neither_way (is_gone m es) where
      neither_way : (b : Bool) → cond b (option_map SourceGone (none_of ℕ)) None ≡ none_of Refusal
      neither_way true = refl
      neither_way false = refl

-- a merge that is started, run and ended at once
pub merge_here : (s : SnapshotValue) (ids : List ℕ) (m : MergedSegmentValue) → names_fault s.entries ids ≡ None →
    size_fault (sum_by live_count (entries_at s.entries ids)) ≡ None →
    m ≡ merged_of (entries_at s.entries ids) → ok_unless (end_fault s.next_id m s.entries) (after_end m s) ≡ ok_unless (merge_fault ids s) (after_merge ids s)
merge_here s ids m names few is =
    let last = numbers_fault (s.next_id + 1) in
    let size = size_fault (sum_by live_count (entries_at s.entries ids)) in
    let new = after_merge ids s in
    ap (λ k. ok_unless (end_fault s.next_id k s.entries) (after_end k s)) is
    ∙ ap (λ f. ok_unless (first_of f last) new) (here_begun s.entries ids names)
    ∙ sym (ap (λ f. ok_unless (first_of f (first_of size last)) new) names ∙ ap (λ f. ok_unless (first_of f last) new) few)
