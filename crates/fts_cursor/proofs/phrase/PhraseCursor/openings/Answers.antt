-- Each opening was counted by its source.
use Rattle.std.proofs.Common.{◌-◌, ◌^◌, ◌≤◌, ◌∷◌, min, ap, subst, sym, ◌∙◌}
use Rattle.std.specs.List.{slice_get}
use Rattle.fts_postings.specs.Bounds.{most_at}
use Rattle.fts_postings.specs.Conjoined.{bound_of, common_of, counts_of}
use Rattle.fts_postings.proofs.SetLemmas.{filter-first}
use Rattle.fts_cursor.specs.Phrases.{phrase_at}
use Rattle.fts_cursor.proofs.TermsLemmas.{terms-tied}
use Rattle.fts_cursor.proofs.phrase.PhraseCursor.openings.Goals as goal

pub returns-clause-sum : goal.returns-clause-sum
returns-clause-sum c =
    c.openings.ensures.sum ∙ ap (min (2 ^ 64 - 1)) (sym (terms-tied c.self.inside.terms c.self.invariant.tied) ∙ ap (λ s. s.openings) c.self.view_is)

pub returns-clause-bound : goal.returns-clause-bound
returns-clause-bound c =
    let terms = c.self.inside.terms in
    let test = phrase_at (c.self.inside.first.value ∷ c.self.inside.others.items) in
    rw (← c.self.view_is) (subst (λ doc. counts_of terms ≤ most_at (bound_of terms) doc) (filter-first test (common_of terms) c.self.invariant.settled)
    (subst (λ n. n ≤ most_at (bound_of terms) (slice_get (common_of terms) 0)) (sym (terms-tied terms c.self.invariant.tied)) c.openings.ensures.bound))
