-- What is left of the proof of `mergeable::whole`.
use Rattle.std.proofs.Common.{◌<◌, inr, sum_by, refl, ap, subst, ◌∙◌, arith}
use Rattle.fts_snapshots.specs.Entries.{live_count}
use Rattle.fts_snapshots.proofs.CountLemmas.{live_documents}
use Rattle.fts_snapshots.proofs.mergeable.whole.Goals as goal

pub returns-in_default-clause-refused : goal.returns-in_default-clause-refused
returns-in_default-clause-refused c =
    let s = c.args.snapshot.now in
    inr (
      refl,
      subst (λ n. 1048576 < n) (ap (sum_by live_count) c.entries-entries.ensures.entries ∙ live_documents s c.entries-entries.ensures.snapshot)
          c.in_default.ensures,
    )

pub returns-clause-count : goal.returns-clause-count
returns-clause-count c =
    let s = c.args.snapshot.now in
    c.in-Some.ensures.0 ∙ ap (sum_by live_count) c.entries-entries.ensures.entries ∙ live_documents s c.entries-entries.ensures.snapshot

pub returns-in_err-ids-clause-large : goal.returns-in_err-ids-clause-large
returns-in_err-ids-clause-large c = λ l.
    let s = c.args.snapshot.now in
    absurd (omega (
      arith,
      l,
      c.in-Some.ensures.0 ∙ ap (sum_by live_count) c.entries-entries.ensures.entries ∙ live_documents s c.entries-entries.ensures.snapshot,
      c.in-Some.ensures.1,
    ))

pub returns-clause-large : goal.returns-clause-large
returns-clause-large c = λ l.
    let s = c.args.snapshot.now in
    absurd (omega (
      arith,
      l,
      c.in-Some.ensures.0 ∙ ap (sum_by live_count) c.entries-entries.ensures.entries ∙ live_documents s c.entries-entries.ensures.snapshot,
      c.in-Some.ensures.1,
    ))
