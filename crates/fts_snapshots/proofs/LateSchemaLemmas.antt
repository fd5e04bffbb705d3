-- A merge that can end has a source in the snapshot.
use Rattle.std.proofs.Common.{◌≡◌, ◌<◌, ◌==◌, ◌||◌, ℕ, true, false, cond, not, Some, None, List, [], ◌∷◌, length, Contains, refl, sym, ◌∙◌, arith}
use Rattle.std.specs.List.{list_any}
use Rattle.std.specs.Option.{option_map}
use Rattle.std.proofs.lemmas.Bool.Decides.{nat_tests}
use Rattle.std.proofs.lemmas.List.Elements.{All-contains}
use Rattle.fts_base.specs.declared.refusal.Refusal.TheVariants.{SourceGone}
use Rattle.fts_model.proofs.Lists.{Contains-first, Contains-behind}
use Rattle.fts_snapshots.specs.Entries.{EntryValue}
use Rattle.fts_snapshots.specs.Merges.{is_there}
use Rattle.fts_snapshots.specs.MergedSegments.{MergedSegmentValue, IsMergedSegment}
use Rattle.fts_snapshots.specs.Snapshots.{SnapshotValue, IsSnapshot}
use Rattle.fts_snapshots.specs.Successors.{Fits}
use Rattle.fts_snapshots.specs.LateMerges.{first_gone, is_some_live, stamps_left, gone_fault}

there_entry : (es : List EntryValue) (id : ℕ) → is_there es id ≡ true → (e : EntryValue) × Contains es e × (e.id ≡ id)
there_entry [] id h = cc
there_entry (e ∷ es) id h =
    elim (e.id == id) as (λ b. (e.id == id) ≡ b → (b || is_there es id) ≡ true → (f : EntryValue) × Contains (e ∷ es) f × (f.id ≡ id)) [
      | true ↦ λ t _. (e, Contains-first e es e refl, grind (arith, nat_tests))
      | false ↦ λ _ k. let rest = there_entry es id k in (rest.0, Contains-behind e es rest.0 rest.1, rest.2)
    ] refl h

any_there : (es : List EntryValue) (ids : List ℕ) → list_any (is_there es) ids ≡ true → (e : EntryValue) × Contains es e × Contains ids e.id
any_there es [] h = cc
any_there es (id ∷ ids) h =
    elim (is_there es id) as (λ b. is_there es id ≡ b → (b || list_any (is_there es) ids) ≡ true → (e : EntryValue) × Contains es e × Contains (id ∷ ids) e.id) [
      | true ↦ λ t _. let at = there_entry es id t in (at.0, at.1, Contains-first id ids at.0.id (sym at.2))
      | false ↦ λ _ k. let rest = any_there es ids k in (rest.0, rest.1, Contains-behind id ids rest.0.id rest.2)
    ] refl h

-- if no source is gone, the first one is there
none_gone : (es : List EntryValue) (ids : List ℕ) → 0 < length ids → option_map SourceGone (first_gone es ids) ≡ None → list_any (is_there es) ids ≡ true
none_gone es [] l h = absurd (omega (arith, l))
none_gone es (id ∷ ids) l h =
    elim (is_there es id) as (λ b. option_map SourceGone (cond b (first_gone es ids) (Some id)) ≡ None → (b || list_any (is_there es) ids) ≡ true)
    [ true ↦ λ _. refl | false ↦ λ k. cc ] h

some_there : (m : MergedSegmentValue) (es : List EntryValue) → 0 < length m.ids → gone_fault m es ≡ None → list_any (is_there es) m.ids ≡ true
some_there m es l h =
    elim (list_any (is_there es) m.ids) as (λ b. list_any (is_there es) m.ids ≡ b → cond (not b || is_some_live es (stamps_left m es))
    (option_map SourceGone (first_gone es m.ids)) None ≡ None → b ≡ true) [
      | true ↦ λ _ _. refl
      | false ↦ λ t k. sym t ∙ none_gone es m.ids l k
    ] refl h

-- the schema of a merged segment that can replace its sources is that of the snapshot
pub schema_ended : (m : MergedSegmentValue) (s : SnapshotValue) → IsMergedSegment m → IsSnapshot s → Fits m s → gone_fault m s.entries ≡ None →
    m.merged.segment.schema ≡ s.schema
schema_ended m s w i f h =
    let at = any_there s.entries m.ids (some_there m s.entries w.some h) in
    f.schema at.0 at.1 at.2 ∙ All-contains (λ (e : EntryValue). e.segment.schema ≡ s.schema) s.entries at.0 i.schemas at.1
