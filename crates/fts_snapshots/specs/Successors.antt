-- The order of snapshots, and the snapshots in which a merged segment can replace its sources.
use Rattle.std.specs.Prelude.{◌≡◌, ◌≤◌, ◌<◌, ℕ, Bool, true, false, Some, List, slice_get, Contains}
use Rattle.std.proofs.Common.{◌∙◌, refl, subst}
use Rattle.std.proofs.Math.Nat.{le_refl, le_trans, lt_of_lt_of_le}
use Rattle.std.specs.Option.{option_map_or}
use Rattle.fts_snapshots.specs.Entries.{EntryValue}
use Rattle.fts_snapshots.specs.MergedSegments.{MergedSegmentValue}
use Rattle.fts_snapshots.specs.Snapshots.{SnapshotValue}

-- whether the bit of this number is set
abbrev pub is_set : List Bool → ℕ → Bool
is_set bits n = option_map_or (λ bit. bit) (slice_get bits n) false

-- a later state of a segment: its number and its documents are the same, and no document is live that was not
pub record IsLater (before after : EntryValue) : Type 0 where
  pub id : after.id ≡ before.id
  pub segment : after.segment ≡ before.segment
  pub live : (n : ℕ) → is_set after.live n ≡ true → is_set before.live n ≡ true

-- a snapshot follows another: the next number is no smaller, and the old segments that are left have no document live
-- that was not
pub record Follows (old new : SnapshotValue) : Type 0 where
  pub next : old.next_id ≤ new.next_id
  pub segments : (entry : EntryValue) → Contains new.entries entry → entry.id < old.next_id →
      (before : EntryValue) × Contains old.entries before × IsLater before entry

-- a merged segment can replace its sources in a snapshot. Their numbers were given already. It has the schema of each
-- source that is there and each of its live documents, with the origin at the same index.
pub record Fits (m : MergedSegmentValue) (s : SnapshotValue) : Type 0 where
  pub below : (id : ℕ) → Contains m.ids id → id < s.next_id
  pub schema : (entry : EntryValue) → Contains s.entries entry → Contains m.ids entry.id →
      m.merged.segment.schema ≡ entry.segment.schema
  pub mapped : (entry : EntryValue) (source n : ℕ) → Contains s.entries entry →
      slice_get m.ids source ≡ Some entry.id → is_set entry.live n ≡ true →
      (place : ℕ) × (slice_get m.merged.origins place ≡ Some (record { source = source; document = n }))
      × (slice_get m.merged.segment.documents place ≡ slice_get entry.segment.documents n)

-- What holds of merges one after the other needs the next three, which the laws of a trait cite.

pub later_itself : (e : EntryValue) → IsLater e e
later_itself e = record { id = refl; segment = refl; live = λ n h. h }

-- each snapshot follows itself
pub follows_itself : (s : SnapshotValue) → Follows s s
follows_itself s = record { next = le_refl s.next_id; segments = λ e c below. (e, c, later_itself e) }

-- what follows a successor follows
pub follows_further : (a b c : SnapshotValue) → Follows a b → Follows b c → Follows a c
follows_further a b c f g = record {
  next = le_trans f.next g.next;
  segments = λ e h l.
      let one = g.segments e h (lt_of_lt_of_le l f.next) in
      let two = f.segments one.0 one.1 (subst (λ n. n < a.next_id) one.2.id l) in (
        two.0,
        two.1,
        record {
          id = one.2.id ∙ two.2.id;
          segment = one.2.segment ∙ two.2.segment;
          live = λ n k. two.2.live n (one.2.live n k);
        },
      );
}
