-- Segments that fit a snapshot still fit the snapshots that follow it, and so they do if one is taken out or put in.
use Rattle.std.proofs.Common.{◌≡◌, ℕ, ◌+◌, ◌<◌, List, [], ◌∷◌, ◌++◌, length, take, drop, get_or, sym, subst}
use Rattle.std.proofs.lemmas.List.Elements.{All-weaker, All-append, All-take, All-drop, All-push, All-get_or}
use Rattle.dilforec.specs.MergedSegments.{MergedSegmentValue}
use Rattle.dilforec.specs.Snapshots.{SnapshotValue}
use Rattle.dilforec.specs.Successors.{Follows, Fits}
use Rattle.dilforec.proofs.FollowLemmas.{fits_further}
use Rattle.cases_index.specs.Late.{AllFit}

pub all_further : (a b : SnapshotValue) → Follows a b → (ms : List MergedSegmentValue) → AllFit a ms → AllFit b ms
all_further a b follows ms = All-weaker (λ m. Fits m a) (λ m. Fits m b) (λ m fits. fits_further m a b fits follows) ms

pub all_without : (s : SnapshotValue) (ms : List MergedSegmentValue) (which : ℕ) → AllFit s ms → AllFit s (take which ms ++ drop (which + 1) ms)
all_without s ms which all =
    let P : MergedSegmentValue → Type 0 = λ m. Fits m s in
    All-append P (take which ms) (drop (which + 1) ms) (All-take P which ms all) (All-drop P (which + 1) ms all)

pub all_with : (s : SnapshotValue) (ms : List MergedSegmentValue) (m : MergedSegmentValue) → AllFit s ms → Fits m s → AllFit s (ms ++ m ∷ [])
all_with s ms m all fits = All-push (λ m. Fits m s) ms m all fits

pub one_fits : (s : SnapshotValue) (ms : List MergedSegmentValue) (which : ℕ) (m : MergedSegmentValue) → which < length ms → m ≡ get_or ms which m →
    AllFit s ms → Fits m s
one_fits s ms which m inside is all = subst (λ (x : MergedSegmentValue). Fits x s) (sym is) (All-get_or (λ x. Fits x s) ms which m inside all)
