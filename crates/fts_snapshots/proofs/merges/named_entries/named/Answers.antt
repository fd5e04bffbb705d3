-- The rest of the proof of `merges::named_entries::named`.
use Rattle.std.proofs.Common.{true, false, sym, ◌∙◌, inr}
use Rattle.fts_snapshots.proofs.MergeLemmas.{fault_unknown, fault_twice, fault_later}
use Rattle.fts_snapshots.proofs.LookupLemmas.{there_none, there_one}
use Rattle.fts_snapshots.proofs.merges.named_entries.named.Goals as goal
use Rattle.fts_model.proofs.QueriesBoolean.{flipped}

pub returns-in_default-clause-fault : goal.returns-in_default-clause-fault
returns-in_default-clause-fault c = λ before ids names.
    inr (fault_unknown c.args.lookup.now before ids c.args.id (there_none c.args.lookup.now c.args.id c.in_default.ensures))

pub returns-then-not-branch-clause-fault : goal.returns-then-not-branch-clause-fault
returns-then-not-branch-clause-fault c = λ before ids names.
    inr (fault_twice c.args.lookup.now before ids c.args.id (there_one c.args.lookup.now c.args.id c.in-Some.entry.now c.in-Some.ensures)
    (sym (names c.args.id) ∙ flipped _ false (sym c.if-not-branch.true ∙ c.in_ok-insert.ensures.added)))

pub returns-clause-fault : goal.returns-clause-fault
returns-clause-fault c = λ before ids names.
    fault_later c.args.lookup.now before ids c.args.id (there_one c.args.lookup.now c.args.id c.in-Some.entry.now c.in-Some.ensures)
    (sym (names c.args.id) ∙ flipped _ true (sym c.if-not-branch.false ∙ c.in_ok-insert.ensures.added))
