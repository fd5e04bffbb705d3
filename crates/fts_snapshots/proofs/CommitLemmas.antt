-- The content of a snapshot after a commit: the documents alive after the operations of its batch.
use Rattle.std.proofs.Common.{◌≡◌, ◌<◌, ◌+◌, ◌&&◌, ◌||◌, ℕ, Bool, true, false, not, nat_lt, List, [], ◌∷◌, ◌++◌, map, filter, subst, refl, sym, ap, ◌∙◌}
use Rattle.std.specs.List.{flat_map, list_any, AllByRecursion}
use Rattle.std.proofs.lemmas.List.Elements.{All-from_recursion, recursion_from_All, filter-append, filter_agree}
use Rattle.std.proofs.lemmas.List.Sorted.{IsPermutation-sym, IsPermutation-append}
use Rattle.std.proofs.lemmas.Grind.{flat_map-append}
use Rattle.fts_model.specs.declared.schema.Field.{Field}
use Rattle.fts_model.specs.declared.operation.Op.{Op}
use Rattle.fts_model.specs.declared.operation.Op.TheVariants.{Add, Delete, DeleteAll}
use Rattle.fts_model.specs.declared.operation.Stamped.{Stamped}
use Rattle.fts_model.specs.Documents.{DocumentValue}
use Rattle.fts_segment.specs.Segments.{BuilderValue}
use Rattle.fts_model.specs.Operations.{alive, adds, added, added_by, survives, strikes_later, StampsRise}
use Rattle.fts_model.proofs.OperationsByStamps.{alive-survives, All-added, added-adds}
use Rattle.fts_snapshots.specs.Order.{in_stamp_order}
use Rattle.fts_snapshots.specs.Entries.{EntryValue, live_in, content}
use Rattle.fts_model.specs.declared.cut.Cut.{Cut}
use Rattle.fts_snapshots.specs.Cuts.{groups_of}
use Rattle.fts_snapshots.specs.Commits.{struck, fresh, fresh_from, committed}
use Rattle.fts_snapshots.specs.Groups.{built_from, documents_in}
use Rattle.fts_snapshots.proofs.OrderLemmas.{ByStamp, rises_from_pairs, pairs_from_rises, permutation_in_order, in_stamp_order-permutation}
use Rattle.fts_snapshots.proofs.OrderLemmas.{in_stamp_order-rises, filter-in_stamp_order}
use Rattle.fts_snapshots.proofs.EntryLemmas.{joined, entry_with, live_in-filter, live_in-struck, live_in-fresh}
use Rattle.fts_snapshots.proofs.CutLemmas.{groups_permute}
use Rattle.fts_merge.proofs.BitsLemmas.{bits_where-same}

-- rising stamps, as the definitions say it
pub by_stamp : {X : Type 0} (xs : List (Stamped X)) → StampsRise xs → ByStamp xs
by_stamp {X} xs h = rises_from_pairs (λ (x : Stamped X). x.stamp) xs h

pub stamps_rise : {X : Type 0} (xs : List (Stamped X)) → ByStamp xs → StampsRise xs
stamps_rise {X} xs h = pairs_from_rises (λ (x : Stamped X). x.stamp) xs h

no_strike : (b c : Bool) → not ((b && false) || c) ≡ not c
no_strike true c = refl
no_strike false c = refl

-- adds in front of operations delete nothing
survives-adds : (schema : List Field) (ds : List (Stamped DocumentValue)) (ops : List (Stamped Op)) (d : Stamped DocumentValue) →
    survives schema (adds ds ++ ops) d ≡ survives schema ops d
survives-adds schema [] ops d = refl
survives-adds schema (e ∷ ds) ops d = no_strike (nat_lt d.stamp e.stamp) (list_any (λ op. strikes_later schema op d) (adds ds ++ ops))
    ∙ survives-adds schema ds ops d

rises_added_by : (stamp : ℕ) (op : Op) (ds : List (Stamped DocumentValue)) → AllByRecursion (λ d. stamp < d.stamp) ds → ByStamp ds →
    ByStamp (added_by stamp op ++ ds)
rises_added_by stamp (Add document) ds a r = (a, r)
rises_added_by stamp (Delete term) ds a r = r
rises_added_by stamp DeleteAll ds a r = r

rises_added : (ops : List (Stamped Op)) → ByStamp ops → ByStamp (added ops)
rises_added [] r = tt
rises_added (op ∷ ops) r =
    let above = All-added (λ n. op.stamp < n) ops (All-from_recursion (λ o. op.stamp < o.stamp) ops r.0) in
    rises_added_by op.stamp op.value (added ops) (recursion_from_All (λ d. op.stamp < d.stamp) (added ops) above) (rises_added ops r.1)

-- documents followed by added ones have rising stamps
rises_together : (ds : List (Stamped DocumentValue)) (ops : List (Stamped Op)) → ByStamp (adds ds ++ ops) → ByStamp (ds ++ added ops)
rises_together ds ops r = subst ByStamp (added-adds ds ops) (rises_added (adds ds ++ ops) r)

-- existing and new documents, divided in any way, sorted by stamp
order_of_all : (cut : Cut) (es : List EntryValue) (batch : List (Stamped Op)) → ByStamp (adds (content es) ++ batch) →
    in_stamp_order (flat_map live_in es ++ joined (groups_of cut (added batch))) ≡ content es ++ added batch
order_of_all cut es batch r =
    let old = flat_map live_in es in
    let new = joined (groups_of cut (added batch)) in
    let rises = rises_together (content es) batch r in
    let stays = in_stamp_order-rises (content es ++ added batch) rises in
    in_stamp_order-permutation (content es ++ added batch) (old ++ new) (subst ByStamp (sym stays) rises)
    (IsPermutation-append (content es) old (added batch) new (IsPermutation-sym old (content es) (permutation_in_order old)) (groups_permute cut (added batch)))
    ∙ stays

-- the content of the segments that a commit leaves: the survivors of existing and new documents
live_in-committed : (cut : Cut) (schema : List Field) (batch : List (Stamped Op)) (id : ℕ) (es : List EntryValue) →
    AllByRecursion (λ e. e.segment.schema ≡ schema) es →
    flat_map live_in (committed cut schema batch id es) ≡ filter (survives schema batch) (flat_map live_in es ++ joined (groups_of cut (added batch)))
live_in-committed cut schema batch id es a =
    let groups = groups_of cut (added batch) in
    let old = map (struck batch) es in
    let new = fresh_from schema batch id groups in
    live_in-filter (old ++ new)
    ∙ flat_map-append live_in old new
    ∙ ap (λ ds. ds ++ flat_map live_in new) (live_in-struck schema batch es a)
    ∙ ap (λ ds. filter (survives schema batch) (flat_map live_in es) ++ ds) (live_in-fresh schema batch id groups)
    ∙ sym (filter-append (survives schema batch) (flat_map live_in es) (joined groups))

-- the content after a commit
pub content-committed : (cut : Cut) (schema : List Field) (batch : List (Stamped Op)) (id : ℕ) (es : List EntryValue) →
    AllByRecursion (λ e. e.segment.schema ≡ schema) es →
    StampsRise (adds (content es) ++ batch) → content (committed cut schema batch id es) ≡ alive schema (adds (content es) ++ batch)
content-committed cut schema batch id es a rise =
    let history = adds (content es) ++ batch in
    let documents = flat_map live_in es ++ joined (groups_of cut (added batch)) in
    ap in_stamp_order (live_in-committed cut schema batch id es a)
    ∙ sym (filter-in_stamp_order (survives schema batch) documents)
    ∙ ap (filter (survives schema batch)) (order_of_all cut es batch (by_stamp history rise))
    ∙ sym (filter_agree (survives schema history) (survives schema batch) (survives-adds schema (content es) batch) (content es ++ added batch))
    ∙ ap (filter (survives schema history)) (sym (added-adds (content es) batch))
    ∙ sym (alive-survives schema history rise)

map_agree : {X Y : Type 0} (f g : X → Y) → ((x : X) → f x ≡ g x) → (xs : List X) → map f xs ≡ map g xs
map_agree f g same [] = refl
map_agree f g same (x ∷ xs) = ap (λ y. y ∷ map f xs) (same x) ∙ ap (λ ys. g x ∷ ys) (map_agree f g same xs)

-- operations that delete the same documents leave the same segments
pub same_struck : (ops batch : List (Stamped Op)) → ((s : List Field) (d : Stamped DocumentValue) → survives s ops d ≡ survives s batch d) →
    (es : List EntryValue) → map (struck ops) es ≡ map (struck batch) es
same_struck ops batch same es =
    map_agree (struck ops) (struck batch) (λ e. ap (entry_with e.id e.segment) (bits_where-same (survives e.segment.schema ops) (survives e.segment.schema batch)
    (same e.segment.schema) e.segment.documents e.live)) es

-- the new segments of builders are those of their documents
pub same_built : (schema : List Field) (ops batch : List (Stamped Op)) → ((s : List Field) (d : Stamped DocumentValue) → survives s ops d ≡ survives s batch d) →
    (id : ℕ) (bs : List BuilderValue) → AllByRecursion (λ b. (b.segment.schema ≡ schema) × (b.merging ≡ false)) bs →
    built_from ops id bs ≡ fresh_from schema batch id (documents_in bs)
same_built schema ops batch same id [] a = refl
same_built schema ops batch same id (b ∷ bs) a =
    let ds = b.segment.documents in
    ap (λ s. fresh s ops id ds ∷ built_from ops (id + 1) bs) a.0.0
    ∙ ap (λ bits. entry_with id (record { schema = schema; documents = ds }) bits ∷ built_from ops (id + 1) bs)
    (map_agree (survives schema ops) (survives schema batch) (same schema) ds)
    ∙ ap (λ es. fresh schema batch id ds ∷ es) (same_built schema ops batch same (id + 1) bs a.1)
