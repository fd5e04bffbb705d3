-- The rest of the proof of `merges::named_entries::named_entries`.
use Rattle.std.proofs.Common.{◌≡◌, ◌<◌, ◌⊎◌, inl, inr, ⊎_elim, ◌∙◌, ◌+◌, ◌++◌, ◌∷◌, [], ℕ, List, Err, length, get_or, take, drop, nat_eq, refl, ap, sym, subst}
use Rattle.std.proofs.Common.{add-one, arith, rules}
use Rattle.std.proofs.Math.Seq.{drop-cons}
use Rattle.std.proofs.lemmas.List.{append-nil, take_more}
use Rattle.std.proofs.lemmas.Grind.{flat_map-append}
use Rattle.std.specs.HashSet.{contains}
use Rattle.fts_base.specs.declared.refusal.Refusal.TheVariants as refusals
use Rattle.fts_base.specs.Results.{ok_unless}
use Rattle.fts_snapshots.specs.Entries.{EntryValue}
use Rattle.fts_snapshots.specs.Merges.{entry_at, entries_at, fault_behind, names_fault}
use Rattle.fts_snapshots.specs.Lookups.{TellsOf}
use Rattle.fts_snapshots.proofs.merges.named_entries.named_entries.Goals as goal

-- the refusal of at least one number
fault_of_some : (es : List EntryValue) (ids : List ℕ) → 0 < length ids → names_fault es ids ≡ fault_behind es [] ids
fault_of_some es [] l = absurd (omega (arith, l))
fault_of_some es (id ∷ ids) l = refl

pub loop-id-preserved : goal.loop-id-preserved
loop-id-preserved c =
    let es = c.args.entries.now in
    let ids = c.args.ids.now in
    let i = c.loop-id.id-index in
    let id = get_or ids i 0 in
    let before = take i ids in
    let after = drop (i + 1) ids in
    let more = take_more ids i 0 c.loop-id-test.true in
    let rest = drop-cons ids i 0 c.loop-id-test.true ∙ ap (λ k. id ∷ drop k ids) (sym (add-one i)) in
    let named = c.in_ok-named.ensures in
    let same = c.in_ok-lookup.ensures ∙ c.deref.ensures.value ∙ c.in_ok-all.ensures in
    record {
      names = subst (TellsOf (contains nat_eq c.named.new.names)) (sym more) (named.names before c.loop-id.invariant.names);
      found =
          c.in_ok-push.ensures.items
          ∙ ap (λ fs. fs ++ c.in_ok-named.field-0 ∷ []) c.loop-id.invariant.found
          ∙ ap (λ fs. entries_at es before ++ fs) (sym (ap (λ fs. entry_at fs id) (sym same) ∙ named.entry))
          ∙ ap (λ fs. entries_at es before ++ fs) (sym (append-nil (entry_at es id)))
          ∙ sym (ap (entries_at es) more ∙ flat_map-append (entry_at es) before (id ∷ []));
      left =
          ap (λ xs. fault_behind es xs after) more
          ∙ sym (ap (λ fs. fault_behind fs before (id ∷ after)) (sym same) ∙ named.fault before after c.loop-id.invariant.names
          ∙ ap (λ fs. fault_behind fs (before ++ id ∷ []) after) same)
          ∙ ap (fault_behind es before) (sym rest)
          ∙ c.loop-id.invariant.left;
    }

pub returns-in_err-named-clause-found : goal.returns-in_err-named-clause-found
returns-in_err-named-clause-found c =
    let es = c.args.entries.now in
    let ids = c.args.ids.now in
    let i = c.loop-id.id-index in
    let id = get_or ids i 0 in
    let before = take i ids in
    let after = drop (i + 1) ids in
    let e = c.in_err-named.field-0.0 in
    let rest = drop-cons ids i 0 c.loop-id-test.true ∙ ap (λ k. id ∷ drop k ids) (sym (add-one i)) in
    let same = c.in_ok-lookup.ensures ∙ c.deref.ensures.value ∙ c.in_ok-all.ensures in
    let refused : (e ≡ refusals.Memory) ⊎ (ok_unless (names_fault es ids) (entries_at es ids) ≡ Err e) =
    ⊎_elim (λ memory. inl memory)
    (λ fault. inr (ap (λ f. ok_unless f (entries_at es ids)) (fault_of_some es ids (omega (arith, c.loop-id-test.true))
    ∙ sym c.loop-id.invariant.left ∙ ap (fault_behind es before) rest ∙ sym (ap (λ fs. fault_behind fs before (id ∷ after)) same) ∙ fault)))
    (c.in_err-named.ensures.fault before after c.loop-id.invariant.names) in
    search rules
