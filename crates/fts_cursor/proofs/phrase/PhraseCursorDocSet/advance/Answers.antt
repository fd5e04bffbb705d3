-- The step over the document at which all stand is that over where the phrase stands.
use Rattle.std.proofs.Common.{◌≡◌, ◌∷◌, List, drop, refl, ap, ◌∙◌, arith}
use Rattle.std.specs.List.{filter}
use Rattle.std.proofs.lemmas.List.{with_items_is}
use Rattle.fts_cursor.specs.declared.phrase.Member.{Member}
use Rattle.fts_postings.specs.Conjoined.{common_of}
use Rattle.fts_cursor.specs.Phrases.{phrase_at}
use Rattle.fts_postings.proofs.SetLemmas.{filter-step}
use Rattle.fts_cursor.proofs.PhraseLemmas.{PhraseMoved, members-follow, phrase-moved}
use Rattle.fts_cursor.proofs.phrase.PhraseCursorDocSet.advance.Goals.{After-settle}
use Rattle.fts_cursor.proofs.phrase.PhraseCursorDocSet.advance.Goals as goal

pub settle-requires : goal.settle-requires
settle-requires c = rw (c.deref_mut.ensures.value, c.deref_mut-2.ensures.value) (members-follow c.self.inside.terms c.advance.new.self
    (c.self.inside.first.value ∷ c.self.inside.others.items) c.advance.ensures.follows c.self.invariant.members_are)

moved : (c : After-settle) (others : List Member) → others ≡ c.settle.new.others →
    PhraseMoved c.self.inside.terms c.advance.new.self c.settle.new.terms (c.self.inside.first.value ∷ c.self.inside.others.items) (c.settle.new.first ∷ others)
moved c others is =
    let s = c.self.inside in
    phrase-moved s.terms c.advance.new.self c.settle.new.terms s.first.value c.deref_mut.result.now c.settle.new.first s.others.items c.deref_mut-2.result.now
    others c.deref_mut.ensures.value c.deref_mut-2.ensures.value
    c.settle.ensures.first (is ∙ c.settle.ensures.others) c.advance.ensures.follows c.settle.ensures.follows c.self.invariant.members_are c.self.invariant.tied
    c.settle.ensures.settled c.settle.ensures.same

pub invariant_of-self : goal.invariant_of-self
invariant_of-self c = (moved (goal.at.invariant_of-self c).After-settle _ (with_items_is c.self.inside.others c.settle.new.others (omega arith))).is

pub returns-clause-walked : goal.returns-clause-walked
returns-clause-walked c =
    rw (← c.self.view_is) (record { continues = (moved (goal.at.returns-clause-walked c).After-settle c.settle.new.others refl).continues _ _; whole = λ h. h })

pub returns-clause-remaining : goal.returns-clause-remaining
returns-clause-remaining c =
    let s = c.self.inside in
    let test = phrase_at (s.first.value ∷ s.others.items) in
    (moved (goal.at.returns-clause-remaining c).After-settle _ (with_items_is s.others c.settle.new.others (omega arith))).same
    ∙ ap (filter test) c.advance.ensures.remaining ∙ filter-step test (common_of s.terms) c.self.invariant.settled ∙ ap (λ s. drop 1 s.remaining) c.self.view_is
