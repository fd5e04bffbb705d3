-- The first place is the one after the first document.
use Rattle.std.proofs.Common.{ap, sym, ◌∙◌, drop}
use Rattle.fts_postings.proofs.WindowLemmas.{found}
use Rattle.fts_postings.proofs.RemainingLemmas.{nothing_first}
use Rattle.fts_postings.proofs.window.Window.advance.Goals as goal

pub returns-in-Some-clause-marked : goal.returns-in-Some-clause-marked
returns-in-Some-clause-marked c =
    sym (ap (drop 1) (sym c.first.ensures.same ∙ c.in-Some.ensures.stands.1))

pub returns-in_default-clause-marked : goal.returns-in_default-clause-marked
returns-in_default-clause-marked c =
    let none = nothing_first (found c.args.self.now) (sym c.in_default.is ∙ c.first.ensures.first) in
    c.first.ensures.same ∙ none ∙ sym (ap (drop 1) none)
