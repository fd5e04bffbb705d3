use Rattle.std.proofs.Common.{◌≤◌, ap, sym, subst, arith, length, List, ◌∙◌}
use mathlib.Core.List.{IsPrefix}
use Rattle.fts_index.specs.declared.publications.publication.Publication.{Publication}
use Rattle.fts_index.specs.Publications.{schema_of}
use Rattle.fts_index.proofs.PublicationsLemmas.{newest_alike, prefix_self, prefix_shorter}
use Rattle.fts_index.proofs.publications.front.Front.keep_newer.Goals as goal

pub returns-then-self-other-clause-mine : goal.returns-then-self-other-clause-mine
returns-then-self-other-clause-mine c =
    let both = c.learn.new.self.log in
    let mine : IsPrefix c.self.inside.seen.log both =
    subst (λ (l : List Publication). IsPrefix l both) (ap (λ s. s.log) c.again-both.ensures) c.learn.ensures.2 in
    let less : length c.self.inside.seen.log ≤ length c.other.inside.seen.log = omega (arith, c.self.invariant.0, c.other.invariant.0) in
    subst (λ (l : List Publication). IsPrefix l c.other.inside.seen.log) (ap (λ f. f.seen.list) c.self.view_is)
    (prefix_shorter c.self.inside.seen.log c.other.inside.seen.log both mine c.learn.ensures.3 less)

pub returns-then-self-other-clause-other : goal.returns-then-self-other-clause-other
returns-then-self-other-clause-other c = subst (λ (l : List Publication). IsPrefix l c.other.inside.seen.log) (ap (λ f. f.seen.list) c.other.view_is)
    (prefix_self c.other.inside.seen.log)

pub returns-else-self-other-clause-mine : goal.returns-else-self-other-clause-mine
returns-else-self-other-clause-mine c = prefix_self _

pub returns-else-self-other-clause-other : goal.returns-else-self-other-clause-other
returns-else-self-other-clause-other c =
    let both = c.learn.new.self.log in
    let mine : IsPrefix c.self.inside.seen.log both =
    subst (λ (l : List Publication). IsPrefix l both) (ap (λ s. s.log) c.again-both.ensures) c.learn.ensures.2 in
    let less : length c.other.inside.seen.log ≤ length c.self.inside.seen.log = omega (arith, c.self.invariant.0, c.other.invariant.0) in
    let short : IsPrefix c.other.inside.seen.log c.self.inside.seen.log =
    prefix_shorter c.other.inside.seen.log c.self.inside.seen.log both c.learn.ensures.3 mine less in
    rw (← c.self.view_is, ← c.other.view_is) short

pub returns-then-self-other-clause-schema : goal.returns-then-self-other-clause-schema
returns-then-self-other-clause-schema c =
    let both = c.learn.new.self.log in
    let mine : IsPrefix c.self.inside.seen.log both =
    subst (λ (l : List Publication). IsPrefix l both) (ap (λ s. s.log) c.again-both.ensures) c.learn.ensures.2 in
    sym (newest_alike c.self.inside.seen.log c.other.inside.seen.log both mine c.learn.ensures.3 c.self.invariant.2 c.other.invariant.2).0
    ∙ ap (λ f. schema_of f.seen) c.self.view_is
