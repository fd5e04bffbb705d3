-- The terms are those they were, and stand where the phrase does.
use Rattle.std.proofs.Common.{◌≡◌, [], ◌∷◌, List, ◌∙◌, arith}
use Rattle.std.proofs.lemmas.List.{with_items_is}
use Rattle.fts_cursor.specs.declared.phrase.Member.{Member}
use Rattle.fts_postings.proofs.ConjoinedLemmas.{AllFollow-same}
use Rattle.fts_cursor.proofs.PhraseLemmas.{PhraseMoved, phrase-moved}
use Rattle.fts_cursor.proofs.phrase.PhraseCursor.new.Goals.{After-settle}
use Rattle.fts_cursor.proofs.phrase.PhraseCursor.new.Goals as goal

moved : (c : After-settle) (others : List Member) → others ≡ c.settle.new.others →
    PhraseMoved c.args.terms c.args.terms c.settle.new.terms (c.args.first.value ∷ c.args.others.items) (c.settle.new.first ∷ others)
moved c others is =
    phrase-moved c.args.terms c.args.terms c.settle.new.terms c.args.first.value c.deref_mut.result.now c.settle.new.first c.args.others.items
    c.deref_mut-2.result.now others c.deref_mut.ensures.value c.deref_mut-2.ensures.value
    c.settle.ensures.first (is ∙ c.settle.ensures.others) (AllFollow-same c.args.terms) c.settle.ensures.follows c.requires.members c.requires.tied
    c.settle.ensures.settled c.settle.ensures.same

pub invariant_of-result : goal.invariant_of-result
invariant_of-result c = (moved (goal.at.invariant_of-result c).After-settle _ (with_items_is c.args.others c.settle.new.others (omega arith))).is

pub returns-clause-remaining : goal.returns-clause-remaining
returns-clause-remaining c = (moved (goal.at.returns-clause-remaining c).After-settle _ (with_items_is c.args.others c.settle.new.others (omega arith))).same

pub returns-clause-bound : goal.returns-clause-bound
returns-clause-bound c =
    ((moved (goal.at.returns-clause-bound c).After-settle _ (with_items_is c.args.others c.settle.new.others (omega arith))).continues [] []).bound
