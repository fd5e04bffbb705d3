use Rattle.std.proofs.Common.{◌≡◌, ◌++◌, ◌∷◌, [], vec_len, flat_map, length, ap, sym, subst, ◌∙◌, arith}
use Rattle.std.specs.List.Sorted.{IsStrictlyIncreasing}
use Rattle.std.proofs.lemmas.Bool.{eqb-true, eqb-false}
use Rattle.std.proofs.lemmas.List.{nil_from_length}
use Rattle.fts_segment.specs.Parts.{given}
use Rattle.fts_positions.specs.PositionListLogs.{logged_position_lists}
use Rattle.fts_segment.specs.Postings.{documents}
use Rattle.fts_segment.proofs.JoiningLemmas.{no_documents, none_put, some_put}
use Rattle.fts_segment.proofs.term_merge.merge_term.Goals as goal
use Rattle.fts_segment.proofs.term_merge.merge_term.Goals.{After-is_empty}

-- the documents of the term
docs_of : (c : After-is_empty) → c.take_from_each.new.docs.items ≡ documents (flat_map (given c.args.term.now) c.args.parts.now)
docs_of c = c.in_ok-take_from_each.ensures.puts.documents_are ∙ ap (λ ds. ds ++ documents (flat_map (given c.args.term.now) c.args.parts.now)) c.clear.ensures.items

-- there are no documents if there is no posting
empty_of : (c : After-is_empty) → flat_map (given c.args.term.now) c.args.parts.now ≡ [] → vec_len c.take_from_each.new.docs ≡ 0
empty_of c none = omega (arith, ap length (docs_of c), ap (λ ps. length (documents ps)) none, c.take_from_each.new.docs.ok.0)

none_of : (c : After-is_empty) → vec_len c.take_from_each.new.docs ≡ 0 → flat_map (given c.args.term.now) c.args.parts.now ≡ []
none_of c empty =
    no_documents (flat_map (given c.args.term.now) c.args.parts.now) (sym (docs_of c) ∙ nil_from_length c.take_from_each.new.docs.items
    (omega (arith, empty, c.take_from_each.new.docs.ok.0)))

pub returns-then-is_empty-clause-names : goal.returns-then-is_empty-clause-names
returns-then-is_empty-clause-names c =
    let a = (goal.at.returns-then-is_empty-clause-names c).After-is_empty in
    none_put c.args.writer.now.names c.args.term.now (flat_map (given c.args.term.now) c.args.parts.now)
    (none_of a (eqb-true (vec_len c.take_from_each.new.docs) 0 (sym c.is_empty.ensures ∙ c.if-is_empty.true)))

pub returns-then-is_empty-clause-lists : goal.returns-then-is_empty-clause-lists
returns-then-is_empty-clause-lists c =
    let a = (goal.at.returns-then-is_empty-clause-lists c).After-is_empty in
    let postings = flat_map (given c.args.term.now) c.args.parts.now in
    none_put c.args.writer.now.lists (documents postings) postings
    (none_of a (eqb-true (vec_len c.take_from_each.new.docs) 0 (sym c.is_empty.ensures ∙ c.if-is_empty.true)))

pub returns-then-is_empty-clause-positions : goal.returns-then-is_empty-clause-positions
returns-then-is_empty-clause-positions c = c.in_ok-take_from_each.ensures.puts.positions_are

pub returns-then-is_empty-clause-is : goal.returns-then-is_empty-clause-is
returns-then-is_empty-clause-is c = c.in_ok-take_from_each.ensures.puts.is

pub push-requires : goal.push-requires
push-requires c =
    let a = (goal.at.push-requires c).After-is_empty in
    subst IsStrictlyIncreasing (sym (c.deref.ensures.value ∙ docs_of a)) c.requires.rise

pub returns-clause-names : goal.returns-clause-names
returns-clause-names c =
    let a = (goal.at.returns-clause-names c).After-is_empty in
    some_put c.args.writer.now.names c.push.new.self.names c.args.term.now (flat_map (given c.args.term.now) c.args.parts.now)
    (λ none. eqb-false (vec_len c.take_from_each.new.docs) 0 (sym c.is_empty.ensures ∙ c.if-is_empty.false) (empty_of a none)) c.in_ok-push.ensures.names

pub returns-clause-lists : goal.returns-clause-lists
returns-clause-lists c =
    let a = (goal.at.returns-clause-lists c).After-is_empty in
    let lists = c.args.writer.now.lists in
    let postings = flat_map (given c.args.term.now) c.args.parts.now in
    some_put lists c.push.new.self.lists (documents postings) postings
    (λ none. eqb-false (vec_len c.take_from_each.new.docs) 0 (sym c.is_empty.ensures ∙ c.if-is_empty.false) (empty_of a none))
    (c.in_ok-push.ensures.lists ∙ ap (λ ds. lists ++ ds ∷ []) (c.deref.ensures.value ∙ docs_of a))

pub returns-clause-positions : goal.returns-clause-positions
returns-clause-positions c = ap logged_position_lists c.push.ensures.positions ∙ c.in_ok-take_from_each.ensures.puts.positions_are

pub returns-clause-is : goal.returns-clause-is
returns-clause-is c = rw c.push.ensures.positions c.in_ok-take_from_each.ensures.puts.is
