use Rattle.std.proofs.Common.{◌≡◌, ◌∙◌, ◌++◌, ap, drop, length, subst, sym, take}
use Rattle.std.proofs.lemmas.List.{take_at}
use Rattle.fts_pack.specs.column.Counts.{AreWithin}
use Rattle.fts_parts.specs.declared.tally.Tally.TheVariants.{Counts}
use Rattle.fts_parts.specs.Tallies.{AreCounts, IsTally, IsTallyFor, present_at}
use Rattle.fts_parts.proofs.TallyLemmas.{AreCounts-docs}
use Rattle.fts_parts.proofs.tally.Tally.take.Goals as goal

pub returns-in-Counts-clause-taken : goal.returns-in-Counts-clause-taken
returns-in-Counts-clause-taken c = λ numbers is.
    let column = c.args.column.now in
    let docs = c.args.docs.now in
    let least = c.in-Counts.least in
    let counts = c.in-Counts.counts in
    let held = c.deref_mut.result.now in
    let new = c.count_values.new.counts in
    let long : length new ≡ counts.len = c.count_values.ensures.long ∙ ap length c.deref_mut.ensures.value ∙ sym counts.ok.0 in
    let whole : take counts.len (new ++ drop (length new) counts.items) ≡ new = take_at new (drop (length new) counts.items) counts.len long in
    let for_column : IsTallyFor column (Counts least counts) = subst (IsTallyFor column) c.in-Counts.is c.requires in
    let within : AreWithin column least (length held) = subst (λ xs. AreWithin column least (length xs)) (sym c.deref_mut.ensures.value) for_column.0 in
    let before : IsTally numbers (Counts least counts) = subst (IsTally numbers) c.in-Counts.is is in
    let counted : AreCounts numbers least held = subst (AreCounts numbers least) (sym c.deref_mut.ensures.value) before in
    subst (AreCounts (numbers ++ present_at column docs) least) (sym whole)
    (AreCounts-docs column docs numbers least held new within c.count_values.ensures.long c.count_values.ensures.counted counted)
