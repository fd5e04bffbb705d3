-- Following is transitive, a merged segment that fits a snapshot fits each that follows it, and commits and merges are
-- followed.
use Rattle.std.proofs.Common.{◌≡◌, ◌≤◌, inl, inr, ℕ, zero, suc, Bool, true, not, Some, List, [], ◌∷◌, ◌++◌, map, filter, slice_get, subst, refl, sym, ap}
use Rattle.std.proofs.Common.{◌∙◌, arith, Contains}
use Rattle.std.proofs.lemmas.List.Elements.{All-contains, All-from_recursion, Contains-append_cases}
use Rattle.std.proofs.lemmas.Bool.{and_parts}
use Rattle.fts_model.specs.declared.operation.Op.{Op}
use Rattle.fts_model.specs.declared.operation.Stamped.{Stamped}
use Rattle.fts_model.specs.Operations.{added, survives}
use Rattle.fts_model.proofs.Lists.{Contains-cases, Contains-first, Contains-behind, Contains-none, Contains-from_filter}
use Rattle.fts_merge.specs.Strikes.{bits_where}
use Rattle.fts_snapshots.specs.Entries.{EntryValue, has_live}
use Rattle.fts_model.specs.declared.cut.Cut.{Cut}
use Rattle.fts_snapshots.specs.Cuts.{groups_of}
use Rattle.fts_snapshots.specs.Commits.{struck, fresh_from}
use Rattle.fts_snapshots.specs.Merges.{is_among, without}
use Rattle.fts_snapshots.specs.MergedSegments.{MergedSegmentValue}
use Rattle.fts_snapshots.specs.Snapshots.{SnapshotValue, after_commit}
use Rattle.fts_snapshots.specs.Successors.{is_set, later_itself, IsLater, Follows, Fits}
use Rattle.fts_snapshots.specs.LateMerges.{ended, after_end}
use Rattle.fts_snapshots.proofs.SnapshotLemmas.{ids_from}

-- an element at an index is a member
pub contains_at : {X : Type 0} (xs : List X) (k : ℕ) (x : X) → slice_get xs k ≡ Some x → Contains xs x
contains_at [] k x h = cc
contains_at (y ∷ xs) zero x h = Contains-first y xs x cc
contains_at (y ∷ xs) (suc k) x h = Contains-behind y xs x (contains_at xs k x h)

pub fits_further : (m : MergedSegmentValue) (a b : SnapshotValue) → Fits m a → Follows a b → Fits m b
fits_further m a b f g = record {
  below = λ id c. omega (arith, f.below id c, g.next);
  schema = λ e c named.
      let one = g.segments e c (f.below e.id named) in
      f.schema one.0 one.1 (subst (Contains m.ids) one.2.id named) ∙ ap (λ s. s.schema) (sym one.2.segment);
  mapped = λ e source n c i h.
      let one = g.segments e c (f.below e.id (contains_at m.ids source e.id i)) in
      let found = f.mapped one.0 source n one.1 (i ∙ ap (λ id. Some id) one.2.id) (one.2.live n h) in
      (found.0, found.1, found.2 ∙ ap (λ s. slice_get s.documents n) (sym one.2.segment));
}

-- a member of a map is that of a member
pub contains_mapped : {X Y : Type 0} (f : X → Y) (xs : List X) (y : Y) → Contains (map f xs) y → (x : X) × Contains xs x × (f x ≡ y)
contains_mapped f [] y c = absurd (Contains-none y c)
contains_mapped {X} f (x ∷ xs) y c =
    elim (Contains-cases (f x) (map f xs) y c) as (λ _. (z : X) × Contains (x ∷ xs) z × (f z ≡ y))
    [ inl e ↦ (x, Contains-first x xs x refl, e) | inr k ↦ let rest = contains_mapped f xs y k in (rest.0, Contains-behind x xs rest.0 rest.1, rest.2) ]

set_before : {X : Type 0} (p : X → Bool) (xs : List X) (bits : List Bool) (n : ℕ) → is_set (bits_where p xs bits) n ≡ true → is_set bits n ≡ true
set_before p [] bits n h = cc
set_before p (x ∷ xs) [] n h = cc
set_before p (x ∷ xs) (bit ∷ bits) zero h = (and_parts bit (p x) h).0
set_before p (x ∷ xs) (bit ∷ bits) (suc n) h = set_before p xs bits n h

later_struck : (ops : List (Stamped Op)) (e : EntryValue) → IsLater e (struck ops e)
later_struck ops e = record { id = refl; segment = refl; live = set_before (survives e.segment.schema ops) e.segment.documents e.live }

pub follows_commit : (s : SnapshotValue) (cut : Cut) (batch : List (Stamped Op)) → Follows s (after_commit cut batch s)
follows_commit s cut batch =
    let groups = groups_of cut (added batch) in
    let old = map (struck batch) s.entries in
    let new = fresh_from s.schema batch s.next_id groups in
    record {
      next = omega arith;
      segments = λ e c l.
          elim (Contains-append_cases old new e (Contains-from_filter has_live (old ++ new) e c).0) as (λ _. (f : EntryValue) × Contains s.entries f
          × IsLater f e) [
            | inl k ↦ let was = contains_mapped (struck batch) s.entries e k in (was.0, was.1, subst (IsLater was.0) was.2 (later_struck batch was.0))
            | inr k ↦
                let from = All-from_recursion (λ (f : EntryValue). s.next_id ≤ f.id) new (ids_from s.schema batch s.next_id s.next_id groups (omega arith)) in
                let high = All-contains (λ (f : EntryValue). s.next_id ≤ f.id) new e from k in absurd (omega (arith, high, l))
          ];
    }

pub follows_end : (s : SnapshotValue) (m : MergedSegmentValue) → Follows s (after_end m s)
follows_end s m =
    let test : EntryValue → Bool = λ e. not (is_among m.ids e.id) in
    let one = ended s.next_id m s.entries in
    record {
      next = omega arith;
      segments = λ e c l.
          elim (Contains-append_cases (without s.entries m.ids) (filter has_live (one ∷ [])) e c) as (λ _. (f : EntryValue) × Contains s.entries f
          × IsLater f e) [
            | inl k ↦ (e, (Contains-from_filter test s.entries e k).0, later_itself e)
            | inr k ↦ elim (Contains-cases one [] e (Contains-from_filter has_live (one ∷ []) e k).0) as (λ _. (f : EntryValue) × Contains s.entries f
                × IsLater f e) [
                  | inl x ↦ let high : s.next_id ≡ e.id = ap (λ (f : EntryValue). f.id) x in absurd (omega (arith, high, l))
                  | inr n ↦ absurd (Contains-none e n)
                ]
          ];
    }
