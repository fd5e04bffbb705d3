-- The rest of the proof of `merges::end_entries::end_entries`.
use Rattle.std.proofs.Common.{◌∙◌, ◌++◌, ◌∷◌, [], filter, Ok, List, inl, inr, ⊎_elim, sym, ap}
use Rattle.fts_base.specs.Results.{ok_unless}
use Rattle.fts_snapshots.specs.Entries.{EntryValue, has_live}
use Rattle.fts_snapshots.specs.Merges.{without}
use Rattle.fts_snapshots.specs.LateMerges.{ended, replaced, end_fault}
use Rattle.fts_snapshots.proofs.SourceLemmas.{unless_ok}
use Rattle.fts_snapshots.proofs.LateBitLemmas.{unless_err}
use Rattle.fts_snapshots.proofs.merges.end_entries.end_entries.Goals as goal

pub returns-in-Err-clause-entries : goal.returns-in-Err-clause-entries
returns-in-Err-clause-entries c =
    let m = c.args.segment.now in
    let next = c.args.next in
    let es = c.args.entries.now in
    ⊎_elim (λ memory. inl memory)
    (λ refused.
    inr (unless_err (end_fault next m es) (ended next m c.in_ok-lookup.lookup) (replaced next m es) c.in-Err.refusal
    (ap (λ (fs : List EntryValue). ok_unless (end_fault next m fs) (ended next m c.in_ok-lookup.lookup)) (sym c.in_ok-lookup.ensures) ∙ refused)))
    c.in-Err.ensures

pub returns-clause-entries : goal.returns-clause-entries
returns-clause-entries c =
    let m = c.args.segment.now in
    let next = c.args.next in
    let es = c.args.entries.now in
    let outcome = ap (λ (fs : List EntryValue). ok_unless (end_fault next m fs) (ended next m fs)) (sym c.in_ok-lookup.ensures) ∙ c.in-Ok.ensures in
    let both = unless_ok (end_fault next m es) (ended next m es) c.in-Ok.entry outcome in
    let kept = c.in_ok-new.ensures ∙ ap (without es) c.sources.ensures.ids in
    let new = c.in_ok-push_live.ensures ∙ ap (λ fs. fs ++ filter has_live (c.in-Ok.entry ∷ [])) kept ∙ ap (λ e. without es m.ids ++ filter has_live (e ∷ []))
    both.1 in
    ap (λ fault. ok_unless fault (replaced next m es)) both.0 ∙ ap Ok (sym new)
