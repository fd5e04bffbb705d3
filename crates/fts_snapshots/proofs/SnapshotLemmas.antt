-- A commit leaves a snapshot.
use Rattle.std.proofs.Common.{◌≡◌, ◌<◌, ◌≤◌, ◌+◌, ◌^◌, ◌||◌, ◌==◌, ℕ, true, false, cond, None, List, [], ◌∷◌, ◌++◌, length, map, filter, All, subst, refl, sym}
use Rattle.std.proofs.Common.{ap, ◌∙◌, arith}
use Rattle.std.specs.List.{AllByRecursion}
use Rattle.std.proofs.lemmas.List.{length-append}
use Rattle.std.proofs.lemmas.List.Elements.{All-from_recursion, recursion_from_All, All-append, All-filter, All-map, All-weaker, filter_passes}
use Rattle.fts_model.specs.declared.schema.Field.{Field}
use Rattle.fts_model.specs.declared.operation.Op.{Op}
use Rattle.fts_model.specs.declared.operation.Stamped.{Stamped}
use Rattle.fts_model.specs.Documents.{DocumentValue}
use Rattle.fts_model.specs.Operations.{adds, added, StampsRise}
use Rattle.fts_model.proofs.OperationsAlive.{alive-pairs}
use Rattle.fts_snapshots.specs.Entries.{EntryValue, IsEntry, has_live, content}
use Rattle.fts_model.specs.declared.cut.Cut.{Cut}
use Rattle.fts_snapshots.specs.Cuts.{IsCut, groups_of}
use Rattle.fts_snapshots.specs.Commits.{struck, fresh, fresh_from, new_segments}
use Rattle.fts_snapshots.specs.Merges.{is_there, entry_at, entries_at, names_fault}
use Rattle.fts_snapshots.specs.Snapshots.{SnapshotValue, IsSnapshot, IsBehind, after_commit}
use Rattle.fts_snapshots.proofs.OrderLemmas.{Rises, rises_from_pairs, pairs_from_rises, rises_filtered, rises_joined, All-weaker_by, All-joined}
use Rattle.fts_snapshots.proofs.EntryLemmas.{entry_struck, entry_fresh}
use Rattle.fts_snapshots.proofs.CutLemmas.{IsWithin, groups_within}
use Rattle.fts_snapshots.proofs.CommitLemmas.{by_stamp, stamps_rise, content-committed}
use Rattle.fts_snapshots.proofs.MergeLemmas.{ById, names_given}

ids_struck : (ops : List (Stamped Op)) (es : List EntryValue) → ById es → ById (map (struck ops) es)
ids_struck ops [] r = tt
ids_struck ops (e ∷ es) r = (above_struck e.id es r.0, ids_struck ops es r.1) where
  above_struck : (n : ℕ) (es : List EntryValue) → AllByRecursion (λ (f : EntryValue). n < f.id) es →
      AllByRecursion (λ (f : EntryValue). n < f.id) (map (struck ops) es)
  above_struck n [] a = tt
  above_struck n (f ∷ es) a = (a.0, above_struck n es a.1)

-- the numbers of new segments begin with the first
pub ids_from : (schema : List Field) (ops : List (Stamped Op)) (id low : ℕ) (groups : List (List (Stamped DocumentValue))) → low ≤ id →
    AllByRecursion (λ (e : EntryValue). low ≤ e.id) (fresh_from schema ops id groups)
ids_from schema ops id low [] l = tt
ids_from schema ops id low (ds ∷ groups) l = (l, ids_from schema ops (id + 1) low groups (omega arith))

ids_fresh : (schema : List Field) (ops : List (Stamped Op)) (id : ℕ) (groups : List (List (Stamped DocumentValue))) → ById (fresh_from schema ops id groups)
ids_fresh schema ops id [] = tt
ids_fresh schema ops id (ds ∷ groups) = (
  All-weaker_by (λ (e : EntryValue). id + 1 ≤ e.id) (λ e. id < e.id) (λ e h. omega arith) (fresh_from schema ops (id + 1) groups)
      (ids_from schema ops (id + 1) (id + 1) groups (omega arith)),
  ids_fresh schema ops (id + 1) groups,
)

ids_to : (schema : List Field) (ops : List (Stamped Op)) (id high : ℕ) (groups : List (List (Stamped DocumentValue))) → id + length groups ≤ high →
    AllByRecursion (λ (e : EntryValue). e.id < high) (fresh_from schema ops id groups)
ids_to schema ops id high [] l = tt
ids_to schema ops id high (ds ∷ groups) l = (omega (arith, l), ids_to schema ops (id + 1) high groups (omega (arith, l)))

-- a property of each new segment
all_fresh : (P : EntryValue → Type 0) (schema : List Field) (ops : List (Stamped Op)) (id : ℕ) (groups : List (List (Stamped DocumentValue))) →
    ((n : ℕ) (ds : List (Stamped DocumentValue)) → length ds ≤ 65536 → P (fresh schema ops n ds)) → IsWithin 65536 groups →
    AllByRecursion P (fresh_from schema ops id groups)
all_fresh P schema ops id [] f w = tt
all_fresh P schema ops id (ds ∷ groups) f w = (f id ds w.0, all_fresh P schema ops (id + 1) groups f w.1)

pub snapshot_after_commit : (cut : Cut) (batch : List (Stamped Op)) (s : SnapshotValue) → IsCut cut → IsSnapshot s →
    StampsRise (adds (content s.entries) ++ batch) →
    s.next_id + new_segments cut batch ≤ 2 ^ 62 → IsSnapshot (after_commit cut batch s)
snapshot_after_commit cut batch s k i rise room =
    let groups = groups_of cut (added batch) in
    let within = groups_within cut (added batch) k in
    let old = map (struck batch) s.entries in
    let new = fresh_from s.schema batch s.next_id groups in
    let high = s.next_id + length groups in
    let below = All-map (λ (e : EntryValue). e.id < s.next_id) (struck batch) s.entries i.below in
    let Here : EntryValue → Type 0 = λ e. e.segment.schema ≡ s.schema in
    let kept : (P : EntryValue → Type 0) → All P old → AllByRecursion P new → All P (filter has_live (old ++ new)) =
    λ P a b. All-filter has_live P (old ++ new) (All-append P old new a (All-from_recursion P new b)) in
    record {
      ids =
          pairs_from_rises (λ (e : EntryValue). e.id) (filter has_live (old ++ new))
          (rises_filtered (λ (e : EntryValue). e.id) has_live (old ++ new)
          (rises_joined (λ (e : EntryValue). e.id) s.next_id old new (ids_struck batch s.entries (rises_from_pairs (λ (e : EntryValue). e.id) s.entries i.ids))
          (recursion_from_All (λ (e : EntryValue). e.id < s.next_id) old below)
          (ids_fresh s.schema batch s.next_id groups)
          (ids_from s.schema batch s.next_id s.next_id groups (omega arith))));
      below = kept (λ e. e.id < high) (All-weaker (λ (e : EntryValue). e.id < s.next_id) (λ e. e.id < high) (λ e h. omega (arith, h)) old below)
          (ids_to s.schema batch s.next_id high groups (omega arith));
      room = room;
      schemas = kept Here (All-map Here (struck batch) s.entries i.schemas) (all_fresh Here s.schema batch s.next_id groups (λ n ds l. refl) within);
      each = kept IsEntry (All-map IsEntry (struck batch) s.entries (All-weaker IsEntry (λ e. IsEntry (struck batch e)) (entry_struck batch) s.entries i.each))
          (all_fresh IsEntry s.schema batch s.next_id groups (entry_fresh s.schema batch) within);
      live = filter_passes has_live (old ++ new);
      stamps = subst StampsRise (sym (content-committed cut s.schema batch s.next_id s.entries (recursion_from_All Here s.entries i.schemas) rise))
          (alive-pairs (λ m n. m < n) s.schema (adds (content s.entries) ++ batch) rise);
    }

-- a property of each segment holds of each with a number
all_at : (P : EntryValue → Type 0) (es : List EntryValue) (id : ℕ) → AllByRecursion P es → AllByRecursion P (entry_at es id)
all_at P [] id a = tt
all_at P (e ∷ es) id a = elim (e.id == id) as (λ b. AllByRecursion P (cond b (e ∷ []) (entry_at es id))) [ true ↦ (a.0, tt) | false ↦ all_at P es id a.1 ]

pub all_entries_at : (P : EntryValue → Type 0) (es : List EntryValue) (ids : List ℕ) → AllByRecursion P es → AllByRecursion P (entries_at es ids)
all_entries_at P es [] a = tt
all_entries_at P es (id ∷ ids) a = All-joined P (entry_at es id) (entries_at es ids) (all_at P es id a) (all_entries_at P es ids a)

-- there is a segment of a number if one has it
pub some_at : (es : List EntryValue) (id : ℕ) → is_there es id ≡ true → 0 < length (entry_at es id)
some_at [] id h = cc
some_at (e ∷ es) id h =
    elim (e.id == id) as (λ b. (b || is_there es id) ≡ true → 0 < length (cond b (e ∷ []) (entry_at es id)))
    [ true ↦ λ _. omega arith | false ↦ λ k. some_at es id k ] h

-- there is a source if the numbers have no fault
pub some_sources : (es : List EntryValue) (ids : List ℕ) → names_fault es ids ≡ None → 0 < length (entries_at es ids)
some_sources es [] h = cc
some_sources es (id ∷ ids) h =
    let given = (names_given es (id ∷ ids) h).1 in
    omega (arith, some_at es id given.there.0, length-append (entry_at es id) (entries_at es ids))

-- a snapshot from its parts
abbrev pub snapshot_with : List Field → List EntryValue → ℕ → SnapshotValue
snapshot_with schema entries next = record { schema = schema; entries = entries; next_id = next }

pub same_snapshot : (schema other : List Field) (entries others : List EntryValue) (next number : ℕ) → schema ≡ other → entries ≡ others → next ≡ number →
    snapshot_with schema entries next ≡ snapshot_with other others number
same_snapshot schema other entries others next number e f g =
    ap (λ s. snapshot_with s entries next) e ∙ ap (λ es. snapshot_with other es next) f ∙ ap (snapshot_with other others) g

-- the stamps of the operations that add documents
pub all_adds : (P : ℕ → Type 0) (ds : List (Stamped DocumentValue)) → AllByRecursion (λ d. P d.stamp) ds → AllByRecursion (λ o. P o.stamp) (adds ds)
all_adds P [] h = tt
all_adds P (d ∷ ds) h = (h.0, all_adds P ds h.1)

adds_rise : (ds : List (Stamped DocumentValue)) → Rises (λ d. d.stamp) ds → Rises (λ o. o.stamp) (adds ds)
adds_rise [] h = tt
adds_rise (d ∷ ds) h = (all_adds (λ s. d.stamp < s) ds h.0, adds_rise ds h.1)

-- operations after documents, following those that add these, have rising stamps
pub rise_behind : (ds : List (Stamped DocumentValue)) (ops : List (Stamped Op)) → StampsRise ds → IsBehind ds ops → StampsRise (adds ds ++ ops)
rise_behind ds ops rise behind =
    stamps_rise (adds ds ++ ops)
    (rises_joined (λ (o : Stamped Op). o.stamp) behind.first (adds ds) ops (adds_rise ds (by_stamp ds rise))
    (all_adds (λ s. s < behind.first) ds (recursion_from_All (λ (d : Stamped DocumentValue). d.stamp < behind.first) ds behind.before))
    (by_stamp ops behind.rising)
    (recursion_from_All (λ (o : Stamped Op). behind.first ≤ o.stamp) ops behind.behind))
