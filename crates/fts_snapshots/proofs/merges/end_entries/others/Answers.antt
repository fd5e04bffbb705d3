-- The rest of the proof of `merges::end_entries::others`.
use Rattle.std.proofs.Common.{◌≡◌, ◌∙◌, ◌++◌, ◌∷◌, [], Bool, true, false, cond, not, take, ap, sym}
use Rattle.std.proofs.lemmas.List.{append-nil, take_more}
use Rattle.std.proofs.lemmas.List.Elements.{filter-append}
use Rattle.fts_snapshots.specs.Entries.{EntryValue}
use Rattle.fts_snapshots.specs.Merges.{is_among, without}
use Rattle.fts_snapshots.proofs.merges.end_entries.others.Goals as goal
use Rattle.fts_snapshots.proofs.merges.end_entries.others.Goals.{then-not-contains+in_ok-clone+in_ok-push, else-not-contains}

pub loop-entry-preserved : goal.loop-entry-preserved
loop-entry-preserved c =
    let es = c.args.entries.now in
    let ids = c.args.ids.now in
    let i = c.loop-entry.entry-index in
    let e = c.entry-item.result in
    let before = without (take i es) ids in
    let next =
    ap (λ fs. without fs ids) (take_more es i e c.loop-entry-test.true ∙ ap (λ f. take i es ++ f ∷ []) (sym c.entry-item.is))
    ∙ filter-append (λ (f : EntryValue). not (is_among ids f.id)) (take i es) (e ∷ []) in
    let among : (b : Bool) → c.contains.result ≡ b → is_among ids e.id ≡ b =
    λ b h. sym (c.contains.ensures ∙ c.in_ok-set.ensures c.id.result ∙ ap (is_among ids) c.id.ensures) ∙ h in
    elim c.if-not-contains.branch [
      | then-not-contains+in_ok-clone+in_ok-push w ↦
          ap (λ v. v.items) w.others-is ∙ w.in_ok-push.ensures.items ∙ ap (λ fs. fs ++ w.in_ok-clone.field-0 ∷ []) c.loop-entry.invariant
          ∙ ap (λ f. before ++ f ∷ []) w.in_ok-clone.ensures.cases
          ∙ sym (next ∙ ap (λ b. before ++ cond (not b) (e ∷ []) []) (among false w.if-not-contains.true))
      | else-not-contains w ↦
          ap (λ v. v.items) w.others-is ∙ c.loop-entry.invariant
          ∙ sym (next ∙ ap (λ b. before ++ cond (not b) (e ∷ []) []) (among true w.if-not-contains.false) ∙ append-nil before)
    ]
