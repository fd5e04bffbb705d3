use Rattle.std.proofs.Common.{◌≡◌, ℕ, [], ◌∷◌, List, ap₂, sym, subst}
use Rattle.std.specs.List.{AllByRecursion}
use Rattle.std.specs.List.Sorted.{IsStrictlyIncreasing}
use Rattle.fts_segment.specs.Parts.{TermStreamValue, IsJoined, IsSound, joined}
use Rattle.fts_segment.specs.Postings.{documents}
use Rattle.fts_segment.proofs.SourceLemmas.{bits-halves, halves, parts-halves, parts-rise, sound-parts, terms-halves, whole_source, whole-terms}
use Rattle.fts_segment.proofs.dictionary_merge.merge_halves.Goals as goal
use Rattle.fts_segment.proofs.dictionary_merge.merge_halves.Goals.{In_ok-second}

pub whole_stream-requires-clause-whole : goal.whole_stream-requires-clause-whole
whole_stream-requires-clause-whole c =
    let r = c.requires.are in
    whole-terms r.0 r.1 0 r.2 c.args.front_docs c.args.front.now r.4

pub whole_stream-requires-2-clause-whole : goal.whole_stream-requires-2-clause-whole
whole_stream-requires-2-clause-whole c =
    let r = c.requires.are in
    whole-terms r.0 r.1 c.args.front_docs r.3 c.args.back_docs c.args.back.now r.5

-- the two streams
streams : (c : In_ok-second) → c.in_ok-first.first ∷ c.in_ok-second.second ∷ [] ≡ halves c.args.front.now c.args.front_docs c.args.back.now c.args.back_docs
streams c = ap₂ (λ a b. a ∷ b ∷ []) c.in_ok-first.ensures c.in_ok-second.ensures

pub merge_terms-requires-clause-sound : goal.merge_terms-requires-clause-sound
merge_terms-requires-clause-sound c =
    let r = c.requires.are in
    let a = (goal.at.merge_terms-requires-clause-sound c).In_ok-second in
    let ps = halves c.args.front.now c.args.front_docs c.args.back.now c.args.back_docs in
    let are = parts-halves r.0 r.1 r.2 r.3 c.args.front.now c.args.front_docs c.args.back.now c.args.back_docs r.4 r.5 in
    subst (AllByRecursion IsSound) (sym (streams a))
    (sound-parts r.0 r.1 0 (whole_source r.2 ∷ whole_source r.3 ∷ []) ps are)

pub merge_terms-requires-clause-rise : goal.merge_terms-requires-clause-rise
merge_terms-requires-clause-rise c =
    let r = c.requires.are in
    let a = (goal.at.merge_terms-requires-clause-rise c).In_ok-second in
    let ps = halves c.args.front.now c.args.front_docs c.args.back.now c.args.back_docs in
    let are = parts-halves r.0 r.1 r.2 r.3 c.args.front.now c.args.front_docs c.args.back.now c.args.back_docs r.4 r.5 in
    let P : List TermStreamValue → Type 0 = λ ps. (q : List ℕ) → IsStrictlyIncreasing (documents (joined ps q)) in
    subst P (sym (streams a))
    (parts-rise r.0 r.1 (whole_source r.2 ∷ whole_source r.3 ∷ []) ps (bits-halves r.2 r.3) are)

pub returns : goal.returns
returns c = λ kind field xs ys a b.
    let d = c.in_ok-dictionary.dictionary in
    let P : List TermStreamValue → Type 0 = λ ps. IsJoined ps d.names d.lists d.positions in
    terms-halves kind field xs ys c.args.front.now c.args.front_docs c.args.back.now c.args.back_docs d a b
    (subst P (streams (goal.at.returns c).In_ok-second) c.in_ok-dictionary.ensures)
