-- The rule of a round's table, and the outcome of one step on it.
use Rattle.std.specs.Prelude.{◌≡◌, ℕ, ◌+◌, ◌-◌, ◌*◌, ◌^◌, ◌<◌, ◌≤◌, List, [], ◌∷◌, ◌++◌, length, slice_index}
use Rattle.std.specs.List.{range_with_len}
use mathlib.Core.Option.{some}
use lib.ListN.{get_elem?}
use Rattle.atomic_table.specs.Table.{State, Me, Step}
use Rattle.fts_rounds.specs.declared.stamps.RoundLimits.{RoundLimits}
use Rattle.fts_rounds.specs.declared.stamps.Drawn.{Drawn}
use Rattle.fts_base.specs.Totals.{times, total}
use Rattle.fts_rounds.specs.Rounds.{AllBelow, Rises}

abbrev pub drawn : RoundLimits → ℕ → List ℕ → Drawn
drawn t lanes stamps = record { limits = t; lanes = lanes; stamps = stamps }

-- at the start the first seat represents all lanes
abbrev pub begun : RoundLimits → Drawn
begun t = drawn t t.lanes []

abbrev pub one_less : Drawn → Drawn
one_less v = drawn v.limits (v.lanes - 1) []

abbrev pub one_lane : Drawn → Drawn
one_lane v = drawn v.limits 1 []

abbrev pub joined : Drawn → Drawn → Drawn
joined v w = drawn w.limits (v.lanes + w.lanes) (v.stamps ++ w.stamps)

abbrev pub spent : Drawn
spent = drawn record { round = 0; first = 0; lanes = 0; cap = 0 } 0 []

-- the number of lanes that the views represent together
abbrev pub lane_count : List Drawn → ℕ
lane_count views = total (λ v. v.lanes) views

-- the number of stamps that the views have together
abbrev pub stamp_count : List Drawn → ℕ
stamp_count views = total (λ v. length v.stamps) views

-- a view has at most `cap` stamps per lane, all below the next one, and they rise while it represents one lane
pub record Fits (t : RoundLimits) (next : ℕ) (v : Drawn) : Type 0 where
  pub limits : 0 < v.lanes → v.limits ≡ t
  pub most : length v.stamps ≤ v.lanes * t.cap
  pub below : AllBelow next v.stamps
  pub rises : v.lanes ≡ 1 → Rises v.stamps

-- the word is the next stamp, and the stamps of all views are those from the first to the last one drawn, each once
pub record Kept (t : RoundLimits) (s : State (Unit {0}) Drawn) : Type 0 where
  pub one_word : length s.words ≡ 1
  pub small : t.first + t.lanes * t.cap < 2 ^ 62
  pub lanes : lane_count s.views ≡ t.lanes
  pub next : slice_index s.words 0 ≡ t.first + stamp_count s.views
  pub each_once : (x : ℕ) →
      total (λ v. times x v.stamps) s.views ≡ times x (range_with_len t.first (stamp_count s.views))
  pub fit : (id : ℕ) (v : Drawn) → get_elem? s.views id ≡ some v → Fits t (slice_index s.words 0) v

abbrev Sat : Type 0
Sat = Me (Unit {0}) Drawn

-- the stamp that is drawn is now this seat's, above its earlier ones; a seat of all lanes draws consecutive ones
abbrev pub Draws : Step (Unit {0}) → Sat → ℕ → Sat → Type 0
Draws step v found w =
    (w ≡ (drawn v.0.limits v.0.lanes (v.0.stamps ++ found ∷ []), v.1))
    × (v.0.limits.first ≤ found) × AllBelow found v.0.stamps × (found < 2 ^ 62)
    × (v.0.lanes ≡ v.0.limits.lanes → found ≡ v.0.limits.first + length v.0.stamps)

-- stamps are the first ones of the round, each once
pub record AreAll (t : RoundLimits) (stamps : List ℕ) : Type 0 where
  pub small : t.first + length stamps < 2 ^ 62
  pub each_once : (x : ℕ) → times x stamps ≡ times x (range_with_len t.first (length stamps))

-- nothing changed, and a seat of all lanes has all stamps
abbrev pub Looks : Step (Unit {0}) → Sat → ℕ → Sat → Type 0
Looks step v found w = (w ≡ v) × (v.0.lanes ≡ v.0.limits.lanes → AreAll v.0.limits v.0.stamps)
