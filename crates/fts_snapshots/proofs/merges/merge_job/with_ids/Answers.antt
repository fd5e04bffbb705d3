-- The rest of the proof of `merges::merge_job::with_ids`.
use Rattle.std.proofs.Common.{◌≡◌, ◌≢◌, ◌<◌, ◌≤◌, ◌↔◌, ◌⊎◌, List, inl, inr, ⊎_elim, ◌∙◌, ℕ, true, cond, nat_lt, Some, None, Result, Ok, Err, map, sum_by, refl, sym}
use Rattle.std.proofs.Common.{ap, subst, arith}
use Rattle.std.proofs.lemmas.Bool.{cases_lt}
use Rattle.std.proofs.lemmas.Bool.Decides.{nat_tests}
use Rattle.fts_base.specs.declared.refusal.Refusal.{Refusal}
use Rattle.fts_base.specs.declared.refusal.Refusal.TheVariants.{Memory, TooLarge}
use Rattle.fts_base.specs.Results.{ok_unless}
use Rattle.fts_merge.specs.Merges.{MergedValue, merge_of}
use Rattle.fts_segment.specs.Sources as sources
use Rattle.fts_snapshots.specs.Entries.{EntryValue, live_count}
use Rattle.fts_snapshots.specs.Merges.{size_fault}
use Rattle.fts_snapshots.specs.MergedSegments.{IsMergedSegment, ids_of, segment_of, merged_of}
use Rattle.fts_snapshots.specs.Sources.{IsMergeOf, source_of}
use Rattle.fts_snapshots.proofs.LateBeginLemmas.{merged_by_job}
use Rattle.fts_snapshots.proofs.SourceLemmas.{live_count-sources, not_large, size_none}
use Rattle.fts_snapshots.proofs.merges.merge_job.with_ids.Goals as goal

abbrev refusal_of : Refusal → Result MergedValue Refusal
refusal_of refusal = Err refusal

-- a merge that was refused had too many documents, or too little memory
refused : {Y : Type 0} (refusal : Refusal) (n : ℕ) (y : Y) → (refusal_of refusal ≡ refusal_of TooLarge) ↔ (1048576 < n) →
    (refusal ≢ TooLarge → refusal ≡ Memory) →
    (refusal ≡ Memory) ⊎ (ok_unless (size_fault n) y ≡ Err refusal)
refused refusal n y large other =
    ⊎_elim
    (λ (l : 1048576 < n).
    let back = large.1 l in
    let same : refusal ≡ TooLarge = cc in
    let over : nat_lt 1048576 n ≡ true = grind (arith, nat_tests) in
    inr (ap (λ b. ok_unless (cond b (Some TooLarge) None) y) over ∙ ap (λ e. Err e) (sym same)))
    (λ (l : n ≤ 1048576). inl (other (λ e. let over = large.0 (ap refusal_of e) in omega (arith, over, l))))
    (cases_lt 1048576 n)

pub returns-in-Err : goal.returns-in-Err
returns-in-Err c =
    let es = c.args.entries.now in
    let given = subst (IsMergeOf es) c.in-Err.is c.requires.is in
    subst (λ n. (c.in-Err.refusal ≡ Memory) ⊎ (ok_unless (size_fault n) (merged_of es) ≡ Err c.in-Err.refusal)) (live_count-sources es)
    (refused c.in-Err.refusal (sources.live_count (map source_of es)) (merged_of es) given.large given.other)

few : (es : List EntryValue) (m : MergedValue) → IsMergeOf es (Ok m) → sum_by live_count es ≤ 1048576
few es m given =
    let large = not_large (Ok m) m (sources.live_count (map source_of es)) refl given.large in
    omega (arith, large, live_count-sources es)

segment_is : (es : List EntryValue) (m : MergedValue) (ids : List ℕ) → IsMergeOf es (Ok m) → ids ≡ ids_of es → segment_of m ids ≡ merged_of es
segment_is es m ids given same = ap (λ m. segment_of m ids) given.ok ∙ ap (segment_of (merge_of (map source_of es))) same

pub new-requires : goal.new-requires
new-requires c =
    let es = c.args.entries.now in
    let given = subst (IsMergeOf es) c.in-Ok.is c.requires.is in
    subst IsMergedSegment (sym (segment_is es c.in-Ok.merged c.in_ok-ids.ids.items given c.in_ok-ids.ensures))
    (merged_by_job es c.requires.job (few es c.in-Ok.merged given))

pub returns : goal.returns
returns c =
    let es = c.args.entries.now in
    let given = subst (IsMergeOf es) c.in-Ok.is c.requires.is in
    ap (λ fault. ok_unless fault (merged_of es)) (size_none (sum_by live_count es) (few es c.in-Ok.merged given))
    ∙ ap Ok (sym (c.new.ensures ∙ segment_is es c.in-Ok.merged c.in_ok-ids.ids.items given c.in_ok-ids.ensures))
