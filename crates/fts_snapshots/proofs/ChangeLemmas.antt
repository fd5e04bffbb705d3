-- The changes that commits and merges make to an index over segments.
use Rattle.std.proofs.Common.{◌≡◌, ◌+◌, ◌<◌, ◌≤◌, inl, inr, ℕ, true, false, cond, None, nat_lt, List, [], ◌∷◌, ◌++◌}
use Rattle.std.proofs.Common.{length, get_or, drop, map, filter, refl, sym, ap, subst, ◌∙◌, arith}
use Rattle.std.proofs.lemmas.Bool.{false≢true}
use Rattle.std.proofs.lemmas.Bool.Decides.{nat_tests}
use Rattle.std.proofs.lemmas.List.{at_drop_all, at_drop_more, length-append}
use Rattle.std.proofs.lemmas.List.Sums.{length-filter, count_by-le-length}
use Rattle.fts_model.specs.declared.cut.Cut.{Cut}
use Rattle.fts_model.specs.declared.operation.Op.{Op}
use Rattle.fts_model.specs.declared.operation.Stamped.{Stamped}
use Rattle.fts_model.specs.Operations.{alive, adds}
use Rattle.fts_snapshots.specs.Candidates.{MergesAllBut, MergesDue, after_candidate, due}
use Rattle.fts_snapshots.specs.Changes.{Commits, Merges}
use Rattle.fts_snapshots.specs.Entries.{has_live}
use Rattle.fts_snapshots.specs.LateMerges.{after_merge, ended}
use Rattle.fts_snapshots.specs.MergedSegments.{merged_of}
use Rattle.fts_snapshots.specs.Merges.{entries_at, without}
use Rattle.fts_snapshots.specs.Snapshots.{SnapshotValue, after_commit, content_of, merge_fault, segments_and_numbers}
use Rattle.fts_snapshots.proofs.CountLemmas.{commit_counted, fewer_without, merge_counted}

-- a commit of a batch is a change by its operations
pub commits_made : (cut : Cut) (ops : List (Stamped Op)) (old new : SnapshotValue) → new ≡ after_commit cut ops old →
    content_of new ≡ alive old.schema (adds (content_of old) ++ ops) → Commits ops old new
commits_made cut ops old new is content = record {
  schema = ap (λ (s : SnapshotValue). s.schema) is;
  documents = content;
  segments = omega (arith, ap segments_and_numbers is, commit_counted cut ops old);
}

-- a merge of segments is a change that leaves the content
pub merges_made : (more : ℕ) (ids : List ℕ) (old new : SnapshotValue) → new ≡ after_merge ids old → merge_fault ids old ≡ None → 2 ≤ length ids + more →
    content_of new ≡ content_of old → Merges more old new
merges_made more ids old new is fine enough content = record {
  schema = ap (λ (s : SnapshotValue). s.schema) is;
  documents = content;
  segments = omega (arith, ap segments_and_numbers is, merge_counted more ids old fine enough);
}

-- merges one after the other are merges
pub merges_then : (more : ℕ) (a b c : SnapshotValue) → Merges 0 a b → Merges more b c → Merges more a c
merges_then more a b c ab bc =
    record { schema = bc.schema ∙ ab.schema; documents = bc.documents ∙ ab.documents; segments = omega (arith, ab.segments, bc.segments) }

-- a merge of no segment is refused
some_named : (ids : List ℕ) (s : SnapshotValue) → merge_fault ids s ≡ None → 0 < length ids
some_named [] s fine = cc
some_named (id ∷ ids) s fine = omega arith

-- a merge of any number of segments is a change that leaves the content
pub merges_any : (ids : List ℕ) (old new : SnapshotValue) → new ≡ after_merge ids old → merge_fault ids old ≡ None → content_of new ≡ content_of old →
    Merges 1 old new
merges_any ids old new is fine content = merges_made 1 ids old new is fine (omega (arith, some_named ids old fine)) content

-- a merge of all segments leaves one
pub merged_into_one : (ids : List ℕ) (s : SnapshotValue) → merge_fault ids s ≡ None → length ids ≡ length s.entries → length (after_merge ids s).entries ≤ 1
merged_into_one ids s fine all =
    let m = merged_of (entries_at s.entries ids) in
    let one = ended s.next_id m s.entries ∷ [] in
    omega (
      arith,
      fewer_without ids s fine,
      all,
      length-filter has_live one,
      count_by-le-length has_live one,
      length-append (without s.entries m.ids)
          (filter has_live one),
    )

-- the progress of candidates: if the rest reach a snapshot, all reach it
abbrev pub Tried : (all left : List (List ℕ)) → (old now : SnapshotValue) → ℕ → Type 0
Tried all left old now refused =
    (n : ℕ) (new : SnapshotValue) → MergesAllBut n (due left) now new → MergesAllBut (n + refused) (due all) old new

-- the first of the candidates that are left
pub due_first : {V : Type 0} (f : V → List ℕ) (vs : List V) (k : ℕ) (v : V) → k < length vs → v ≡ get_or vs k v →
    due (map f (drop k vs)) ≡ due (f v ∷ map f (drop (k + 1) vs))
due_first f vs k v within is =
    at_drop_more (λ ws. due (map f ws)) vs k v within ∙ ap (λ w. due (f w ∷ map f (drop (k + 1) vs))) (sym is)

-- a candidate of several segments, followed by those after it
pub due_more : {V : Type 0} (f : V → List ℕ) (vs : List V) (k : ℕ) (v : V) → k < length vs → v ≡ get_or vs k v → 2 ≤ length (f v) →
    due (map f (drop k vs)) ≡ f v ∷ due (map f (drop (k + 1) vs))
due_more f vs k v within is several =
    let rest = map f (drop (k + 1) vs) in
    let more : nat_lt (length (f v)) 2 ≡ false = grind (arith, nat_tests) in
    due_first f vs k v within is ∙ ap (λ b. cond b (f v ∷ []) (f v ∷ due rest)) more

-- a candidate of a single segment is the last
pub due_last : {V : Type 0} (f : V → List ℕ) (vs : List V) (k : ℕ) (v : V) → k < length vs → v ≡ get_or vs k v → length (f v) < 2 →
    due (map f (drop k vs)) ≡ f v ∷ []
due_last f vs k v within is one =
    let rest = map f (drop (k + 1) vs) in
    let last : nat_lt (length (f v)) 2 ≡ true = grind (arith, nat_tests) in
    due_first f vs k v within is ∙ ap (λ b. cond b (f v ∷ []) (f v ∷ due rest)) last

-- a candidate of several segments was tried
pub tried_more : {V : Type 0} (f : V → List ℕ) (vs : List V) (k : ℕ) (v : V) (old now next : SnapshotValue) (refused more : ℕ) →
    k < length vs → v ≡ get_or vs k v → 2 ≤ length (f v) → MergesAllBut more (f v ∷ []) now next →
    Tried (map f vs) (map f (drop k vs)) old now refused → Tried (map f vs) (map f (drop (k + 1) vs)) old next (refused + more)
tried_more f vs k v old now next refused more within is several one t n new h =
    let rest = due (map f (drop (k + 1) vs)) in
    let front : MergesAllBut (n + more) (f v ∷ rest) now new = elim one [
      | inl merged ↦ inl (subst (λ m. MergesAllBut m rest (after_candidate (f v) now) new) (omega (arith, merged.0))
          (subst (λ s. MergesAllBut n rest s new) merged.1 h))
      | inr left ↦ inr (n, omega (arith, left.1, left.2.0), subst (λ s. MergesAllBut n rest s new) left.2.1 h)
    ] in
    let counted : n + more + refused ≡ n + (refused + more) = omega arith in
    subst (λ m. MergesAllBut m (due (map f vs)) old new) counted
    (t (n + more) new (subst (λ cs. MergesAllBut (n + more) cs now new) (sym (due_more f vs k v within is several)) front))

-- the last candidate, of a single segment, was tried
pub tried_last : {V : Type 0} (f : V → List ℕ) (vs : List V) (k : ℕ) (v : V) (old now next : SnapshotValue) (refused more : ℕ) →
    k < length vs → v ≡ get_or vs k v → length (f v) < 2 → MergesAllBut more (f v ∷ []) now next →
    Tried (map f vs) (map f (drop k vs)) old now refused → MergesAllBut (refused + more) (due (map f vs)) old next
tried_last f vs k v old now next refused more within is few one t =
    let counted : more + refused ≡ refused + more = omega arith in
    subst (λ m. MergesAllBut m (due (map f vs)) old next) counted
    (t more next (subst (λ cs. MergesAllBut more cs now next) (sym (due_last f vs k v within is few)) one))

-- no candidate is left
pub tried_all : {V : Type 0} (f : V → List ℕ) (vs : List V) (k : ℕ) (old now : SnapshotValue) (refused : ℕ) → length vs ≤ k →
    Tried (map f vs) (map f (drop k vs)) old now refused → MergesAllBut refused (due (map f vs)) old now
tried_all f vs k old now refused past t =
    let none : 0 + refused ≡ refused = omega arith in
    subst (λ m. MergesAllBut m (due (map f vs)) old now) none
    (t 0 now (subst (λ cs. MergesAllBut 0 cs now now) (sym (at_drop_all (λ ws. due (map f ws)) vs k past)) (refl, refl)))

-- memory ran out for all candidates
merges_none : (candidates : List (List ℕ)) (s : SnapshotValue) → MergesAllBut (length candidates) candidates s s
merges_none [] s = (refl, refl)
merges_none (ids ∷ candidates) s = inr (length candidates, omega arith, merges_none candidates s)

-- memory ran out before the candidates were known
pub due_unknown : (candidates : List (List ℕ)) (s : SnapshotValue) → MergesDue candidates s s false
due_unknown candidates s = record {
  refused = length (due candidates);
  merges = merges_none (due candidates) s;
  none = λ all. absurd (false≢true all);
}
