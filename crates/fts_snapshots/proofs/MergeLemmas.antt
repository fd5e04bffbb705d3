-- The numbers of segments that can be merged.
use Rattle.std.proofs.Common.{◌≡◌, ◌≢◌, ◌||◌, ◌==◌, ℕ, true, false, cond, Some, None, List, [], ◌∷◌, ◌++◌, refl, ap, ◌∙◌, arith}
use Rattle.std.specs.List.{AllByRecursion}
use Rattle.std.proofs.lemmas.Bool.Decides.{nat_tests}
use Rattle.fts_base.specs.declared.refusal.Refusal.TheVariants.{UnknownSegment, SegmentTwice}
use Rattle.fts_snapshots.specs.Entries.{EntryValue}
use Rattle.fts_snapshots.specs.Merges.{is_among, is_there, fault_behind, names_fault}
use Rattle.fts_snapshots.proofs.OrderLemmas.{Rises}

-- the numbers of segments rise
abbrev pub ById : List EntryValue → Type 0
ById es = Rises (λ (e : EntryValue). e.id) es

-- no number occurs twice
abbrev pub AreDifferent : List ℕ → Type 0
AreDifferent [] = Unit
AreDifferent (id ∷ ids) = AllByRecursion (λ other. id ≢ other) ids × AreDifferent ids

among_append : (before : List ℕ) (id other : ℕ) → is_among (before ++ id ∷ []) other ≡ false → (is_among before other ≡ false) × (id ≢ other)
among_append [] id other h = (refl, λ e. grind (arith, nat_tests))
among_append (b ∷ before) id other h =
    elim (other == b) as (λ c. (c || is_among (before ++ id ∷ []) other) ≡ false → ((c || is_among before other) ≡ false) × (id ≢ other))
    [ true ↦ λ k. cc | false ↦ λ k. among_append before id other k ] h

all_among_append : (before : List ℕ) (id : ℕ) (ids : List ℕ) → AllByRecursion (λ other. is_among (before ++ id ∷ []) other ≡ false) ids →
    AllByRecursion (λ other. is_among before other ≡ false) ids × AllByRecursion (λ other. id ≢ other) ids
all_among_append before id [] a = (tt, tt)
all_among_append before id (other ∷ ids) a =
    let first = among_append before id other a.0 in
    let rest = all_among_append before id ids a.1 in
    ((first.0, rest.0), (first.1, rest.1))

-- numbers without a fault after others: each is of a segment, none is among the others, and none occurs twice
pub record AreNamed (es : List EntryValue) (before ids : List ℕ) : Type 0 where
  pub there : AllByRecursion (λ id. is_there es id ≡ true) ids
  pub new : AllByRecursion (λ id. is_among before id ≡ false) ids
  pub different : AreDifferent ids

named : (es : List EntryValue) (before ids : List ℕ) → fault_behind es before ids ≡ None → AreNamed es before ids
named es before [] h = record { there = tt; new = tt; different = tt }
named es before (id ∷ ids) h =
    elim (is_there es id) as (λ b. is_there es id ≡ b → cond b (cond (is_among before id) (Some (SegmentTwice id)) (fault_behind es (before ++ id ∷ []) ids))
    (Some (UnknownSegment id)) ≡ None → AreNamed es before (id ∷ ids)) [
      | false ↦ λ _ k. cc
      | true ↦ λ t k.
          elim (is_among before id) as (λ c. is_among before id ≡ c → cond c (Some (SegmentTwice id)) (fault_behind es (before ++ id ∷ []) ids) ≡ None →
          AreNamed es before (id ∷ ids)) [
            | true ↦ λ _ m. cc
            | false ↦ λ e m.
                let rest = named es (before ++ id ∷ []) ids m in
                let both = all_among_append before id ids rest.new in
                record { there = (t, rest.there); new = (e, both.0); different = (both.1, rest.different) }
          ] refl k
    ] refl h

-- numbers without a fault: there is at least one, and each is of a segment and occurs once
pub names_given : (es : List EntryValue) (ids : List ℕ) → names_fault es ids ≡ None → (ids ≢ []) × AreNamed es [] ids
names_given es [] h = cc
names_given es (id ∷ ids) h = ((λ e. cc), named es [] (id ∷ ids) h)

-- numbers after others: one that no segment has, one that comes before, and any other
pub fault_unknown : (es : List EntryValue) (before ids : List ℕ) (id : ℕ) → is_there es id ≡ false →
    fault_behind es before (id ∷ ids) ≡ Some (UnknownSegment id)
fault_unknown es before ids id h =
    ap (λ b. cond b (cond (is_among before id) (Some (SegmentTwice id)) (fault_behind es (before ++ id ∷ []) ids)) (Some (UnknownSegment id))) h

pub fault_twice : (es : List EntryValue) (before ids : List ℕ) (id : ℕ) → is_there es id ≡ true → is_among before id ≡ true →
    fault_behind es before (id ∷ ids) ≡ Some (SegmentTwice id)
fault_twice es before ids id h k =
    ap (λ b. cond b (cond (is_among before id) (Some (SegmentTwice id)) (fault_behind es (before ++ id ∷ []) ids)) (Some (UnknownSegment id))) h
    ∙ ap (λ b. cond b (Some (SegmentTwice id)) (fault_behind es (before ++ id ∷ []) ids)) k

pub fault_later : (es : List EntryValue) (before ids : List ℕ) (id : ℕ) → is_there es id ≡ true → is_among before id ≡ false →
    fault_behind es before (id ∷ ids) ≡ fault_behind es (before ++ id ∷ []) ids
fault_later es before ids id h k =
    ap (λ b. cond b (cond (is_among before id) (Some (SegmentTwice id)) (fault_behind es (before ++ id ∷ []) ids)) (Some (UnknownSegment id))) h
    ∙ ap (λ b. cond b (Some (SegmentTwice id)) (fault_behind es (before ++ id ∷ []) ids)) k
