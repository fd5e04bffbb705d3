-- Commits of batches without a delete, which leave the existing segments as they are.
use Rattle.std.proofs.Common.{◌≡◌, ◌<◌, ◌≤◌, ◌+◌, ◌&&◌, ℕ, true, false, cond, not, nat_lt, List, [], ◌∷◌, ◌++◌, length, map, filter}
use Rattle.std.proofs.Common.{refl, sym, ap, ◌∙◌, arith}
use Rattle.std.specs.List.{AllByRecursion, list_any}
use Rattle.std.proofs.lemmas.Bool.{or_from, or_parts}
use Rattle.std.proofs.lemmas.List.Elements.{recursion_from_All, filter-append}
use Rattle.std.proofs.Math.Bool.{and-false}
use Rattle.fts_model.specs.declared.cut.Cut.{Cut}
use Rattle.fts_model.specs.declared.schema.Field.{Field}
use Rattle.fts_model.specs.declared.operation.Op.{Op}
use Rattle.fts_model.specs.declared.operation.Op.TheVariants.{Add, Delete, DeleteAll}
use Rattle.fts_model.specs.declared.operation.Stamped.{Stamped}
use Rattle.fts_model.specs.Documents.{DocumentValue}
use Rattle.fts_model.specs.Operations.{added, strikes, strikes_later}
use Rattle.fts_snapshots.specs.Commits.{committed, deletes, fresh_from, has_delete, spared_by, struck, struck_by}
use Rattle.fts_snapshots.specs.Cuts.{groups_of}
use Rattle.fts_snapshots.specs.Entries.{EntryValue, IsEntry, has_live}
use Rattle.fts_snapshots.specs.Snapshots.{IsSnapshot, SnapshotValue}
use Rattle.fts_snapshots.proofs.CommitLemmas.{same_struck}
use Rattle.fts_snapshots.proofs.EntryLemmas.{struck_none}
use Rattle.fts_snapshots.proofs.MergeLemmas.{ById}
use Rattle.fts_snapshots.proofs.OrderLemmas.{All-weaker_by, rises_from_pairs}

no_strike : (schema : List Field) (op : Op) (document : DocumentValue) → deletes op ≡ false → strikes schema op document ≡ false
no_strike schema (Add added) document h = refl
no_strike schema (Delete term) document h = cc
no_strike schema DeleteAll document h = cc

none_strikes : (schema : List Field) (batch : List (Stamped Op)) (d : Stamped DocumentValue) → has_delete batch ≡ false →
    list_any (λ op. strikes_later schema op d) batch ≡ false
none_strikes schema [] d h = refl
none_strikes schema (op ∷ ops) d h =
    let parts = or_parts (deletes op.value) (has_delete ops) h in
    or_from (strikes_later schema op d) (list_any (λ o. strikes_later schema o d) ops)
    (ap (λ b. nat_lt d.stamp op.stamp && b) (no_strike schema op.value d.value parts.0) ∙ and-false (nat_lt d.stamp op.stamp))
    (none_strikes schema ops d parts.1)

struck_by_none : (es : List EntryValue) → AllByRecursion IsEntry es → map (struck []) es ≡ es
struck_by_none [] a = refl
struck_by_none (e ∷ es) a = ap (λ f. f ∷ map (struck []) es) (struck_none e a.0) ∙ ap (λ fs. e ∷ fs) (struck_by_none es a.1)

-- segments are unchanged by a batch without a delete
struck_same : (batch : List (Stamped Op)) (es : List EntryValue) → has_delete batch ≡ false → AllByRecursion IsEntry es → map (struck batch) es ≡ es
struck_same batch es h a = sym (same_struck [] batch (λ s d. ap not (sym (none_strikes s batch d h))) es) ∙ struck_by_none es a

live_stay : (es : List EntryValue) → AllByRecursion (λ e. has_live e ≡ true) es → filter has_live es ≡ es
live_stay [] a = refl
live_stay (e ∷ es) a = ap (λ b. cond b (e ∷ filter has_live es) (filter has_live es)) a.0 ∙ ap (λ fs. e ∷ fs) (live_stay es a.1)

-- the segments that a batch can't change, followed by those that a commit leaves of the others, are those that it
-- leaves of all
pub spared_and_committed : (cut : Cut) (schema : List Field) (batch : List (Stamped Op)) (id : ℕ) (es : List EntryValue) →
    AllByRecursion IsEntry es → AllByRecursion (λ e. has_live e ≡ true) es →
    spared_by batch es ++ committed cut schema batch id (struck_by batch es) ≡ committed cut schema batch id es
spared_and_committed cut schema batch id es each live =
    let new = fresh_from schema batch id (groups_of cut (added batch)) in
    elim (has_delete batch) as (λ b. has_delete batch ≡ b →
    cond b [] es ++ filter has_live (map (struck batch) (cond b es []) ++ new) ≡ filter has_live (map (struck batch) es ++ new)) [
      | true ↦ λ h. refl
      | false ↦ λ h.
          ap (λ fs. fs ++ filter has_live new) (sym (live_stay es live))
          ∙ sym (filter-append has_live es new)
          ∙ ap (λ fs. filter has_live (fs ++ new)) (sym (struck_same batch es h each))
    ] refl

rising_few : (low high : ℕ) (es : List EntryValue) → low ≤ high → AllByRecursion (λ e. low ≤ e.id) es → ById es → AllByRecursion (λ e. e.id < high) es →
    low + length es ≤ high
rising_few low high [] l a r b = omega (arith, l)
rising_few low high (e ∷ es) l a r b =
    let above = All-weaker_by (λ (f : EntryValue). e.id < f.id) (λ f. e.id + 1 ≤ f.id) (λ f h. omega (arith, h)) es r.0 in
    omega (arith, rising_few (e.id + 1) high es (omega (arith, b.0)) above r.1 b.1, a.0)

-- a snapshot has no more segments than numbers that were given
pub few_segments : (s : SnapshotValue) → IsSnapshot s → length s.entries ≤ s.next_id
few_segments s i =
    let below = recursion_from_All (λ (e : EntryValue). e.id < s.next_id) s.entries i.below in
    let from = All-weaker_by (λ (e : EntryValue). e.id < s.next_id) (λ e. 0 ≤ e.id) (λ e h. omega arith) s.entries below in
    omega (arith, rising_few 0 s.next_id s.entries (omega arith) from (rises_from_pairs (λ (e : EntryValue). e.id) s.entries i.ids) below)
