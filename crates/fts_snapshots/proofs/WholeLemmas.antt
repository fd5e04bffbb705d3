-- Merges of all segments.
use Rattle.std.proofs.Common.{◌≡◌, ◌+◌, ◌^◌, ◌<◌, ◌≤◌, ◌↔◌, ℕ, Bool, false, IsTrue, None, List, [], ◌∷◌, length, refl, sym, ap, subst, ◌∙◌, arith}
use Rattle.std.proofs.lemmas.List.{length-map}
use Rattle.fts_snapshots.specs.Entries.{EntryValue}
use Rattle.fts_snapshots.specs.LateMerges.{after_merge}
use Rattle.fts_snapshots.specs.MergedSegments.{ids_of}
use Rattle.fts_snapshots.specs.Snapshots.{IsSnapshot, SnapshotValue, content_of, merge_fault}
use Rattle.fts_snapshots.proofs.ChangeLemmas.{merged_into_one}
use Rattle.fts_snapshots.proofs.CountLemmas.{live_documents, no_fault_in_all}

-- a list that isn't empty has an element
some_of : {X : Type 0} (xs : List X) (empty : Bool) → IsTrue empty ↔ (xs ≡ []) → empty ≡ false → 0 < length xs
some_of [] empty h is = let told = h.1 refl in absurd (cc)
some_of (x ∷ xs) empty h is = omega arith

-- if all documents fit into one segment, and there is a number for it, nothing but memory refuses the merge
pub whole_fine : (s : SnapshotValue) (es : List EntryValue) (empty : Bool) (ids : List ℕ) → IsSnapshot s → es ≡ s.entries →
    IsTrue empty ↔ (es ≡ []) → empty ≡ false → length (content_of s) ≤ 1048576 → (0 < length s.entries → s.next_id + 1 ≤ 2 ^ 62) →
    ids ≡ ids_of s.entries → merge_fault ids s ≡ None
whole_fine s es empty ids is same told not few room named =
    let some = subst (λ (es : List EntryValue). 0 < length es) same (some_of es empty told not) in
    subst (λ ns. merge_fault ns s ≡ None) (sym named) (no_fault_in_all s is some (omega (arith, live_documents s is, few)) (room some))

-- it leaves one segment, or none
pub whole_one : (s : SnapshotValue) (ids : List ℕ) → ids ≡ ids_of s.entries → merge_fault ids s ≡ None → length (after_merge ids s).entries ≤ 1
whole_one s ids named fine = merged_into_one ids s fine (ap length named ∙ length-map s.entries (λ (e : EntryValue). e.id))
