use Rattle.std.proofs.Common.{◌≡◌, ◌+◌, ◌≤◌, ◌^◌, ◌<◌, ℕ, List, true, [], All, length, get_or, drop, ap, ap₂, sym, subst, ◌∙◌, arith}
use Rattle.fts_pack.specs.ListRef.{listed}
use Rattle.fts_segment.specs.Parts.{TermStreamValue, begins, given, passed, moved}
use Rattle.fts_segment.specs.Postings.{postings_of}
use Rattle.fts_positions.specs.PositionCopiers.{lists_in}
use Rattle.fts_segment.proofs.PartLemmas.{begins-within, given-here, passed-here}
use Rattle.fts_segment.proofs.PutsLemmas.{puts-as}
use Rattle.fts_segment.proofs.TermPositionsLemmas.{documents-within}
use Rattle.fts_segment.proofs.term_stream.TermStream.take_term.Goals as goal
use Rattle.fts_segment.proofs.term_stream.TermStream.take_term.Goals.{After-start-start}

-- the term is the next name of the dictionary
next_of : (c : After-start-start) → let p = c.self.inside in begins c.args.term.now (drop p.at p.dictionary.now.names) ≡ true
next_of c = ap (λ (q : TermStreamValue). begins c.args.term.now q.names) c.self.view_is ∙ sym c.is_next.ensures ∙ c.if-is_next.true

within_of : (c : After-start-start) → c.self.inside.at < length c.self.inside.dictionary.now.names
within_of c = begins-within c.args.term.now c.self.inside.dictionary.now.names c.self.inside.at (next_of c)

-- the list of the term's documents
list_of : (c : After-start-start) → listed c.get-list.result ≡ get_or c.self.inside.dictionary.now.lists c.self.inside.at []
list_of c = c.get-list.ensures

-- the postings that the stream gives for the term
given_of : (c : After-start-start) → moved c.self.inside.numbers (postings_of (listed c.get-list.result) (drop c.start-start.result (lists_in c.self.inside.lists)))
    ≡ given c.args.term.now c.args.self.now
given_of c =
    let p = c.self.inside in
    ap₂ (λ list lists. moved p.numbers (postings_of list lists)) (list_of c) (ap₂ (λ n (ls : List (List ℕ)). drop n ls) c.start-start.ensures c.self.invariant.lists_are)
    ∙ sym (given-here c.args.term.now p.at p.dictionary.now p.numbers c.self.invariant.whole (next_of c)) ∙ ap (given c.args.term.now) c.self.view_is

pub copy_postings-requires-clause-paired : goal.copy_postings-requires-clause-paired
copy_postings-requires-clause-paired c =
    let a = (goal.at.copy_postings-requires-clause-paired c).After-start-start in
    let p = c.self.inside in
    let lists = p.dictionary.now.lists in
    omega (
      arith,
      c.start-start.ensures,
      ap length (list_of a),
      documents-within lists p.at (omega (arith, within_of a, c.self.invariant.whole.listed)),
      c.self.invariant.whole.paired,
      ap length c.self.invariant.lists_are,
    )

pub copy_postings-requires-clause-numbered : goal.copy_postings-requires-clause-numbered
copy_postings-requires-clause-numbered c =
    let a = (goal.at.copy_postings-requires-clause-numbered c).After-start-start in
    let p = c.self.inside in
    subst (All (λ doc. doc < length p.numbers)) (sym (list_of a)) (c.self.invariant.whole.numbered p.at (within_of a))

pub overflow_add-self : goal.overflow_add-self
overflow_add-self c =
    let a = (goal.at.overflow_add-self c).After-start-start in
    let fits : c.len.result < 2 ^ 64 = c.len.type_inv in
    omega (arith, within_of a, c.self.invariant.whole.listed, c.len.ensures, fits)

pub invariant_of-self : goal.invariant_of-self
invariant_of-self c =
    record { whole = c.self.invariant.whole; next = c.self.invariant.next; lists_are = c.copy_postings.ensures.same ∙ c.self.invariant.lists_are }

pub invariant_of-self-then-is_next : goal.invariant_of-self-then-is_next
invariant_of-self-then-is_next c =
    record { whole = c.self.invariant.whole; next = c.term_at-self-inside.ensures; lists_are = c.copy_postings.ensures.same ∙ c.self.invariant.lists_are }

pub returns-in_ok-copy_postings-clause-part : goal.returns-in_ok-copy_postings-clause-part
returns-in_ok-copy_postings-clause-part c =
    let a = (goal.at.returns-in_ok-copy_postings-clause-part c).After-start-start in
    let p = c.self.inside in
    sym (passed-here c.args.term.now p.at p.dictionary.now p.numbers c.self.invariant.whole (next_of a)) ∙ ap (passed c.args.term.now) c.self.view_is

pub returns-in_ok-copy_postings-clause-puts : goal.returns-in_ok-copy_postings-clause-puts
returns-in_ok-copy_postings-clause-puts c =
    let a = (goal.at.returns-in_ok-copy_postings-clause-puts c).After-start-start in puts-as (sym (given_of a)) c.in_ok-copy_postings.ensures.puts
