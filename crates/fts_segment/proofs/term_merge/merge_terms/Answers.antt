use Rattle.std.proofs.Common.{◌≡◌, Some, None, List, flat_map, map, refl, ◌∙◌, sym, subst, ◌<◌}
use Rattle.fts_segment.specs.Parts.{TermStreamValue, given, passed, least_of}
use Rattle.fts_positions.specs.PositionListLogs.{logged_position_lists}
use Rattle.fts_segment.proofs.PartLemmas.{left, fewer}
use Rattle.fts_segment.proofs.JoiningLemmas.{IsJoining-start, IsJoining-next, IsJoined-end, all-given, postings-rise, least-from, met-of-least}
use Rattle.fts_segment.proofs.term_merge.merge_terms.Goals as goal

pub loop-term-init : goal.loop-term-init
loop-term-init c = record {
  joining = IsJoining-start c.args.parts.now c.in_ok-writer.writer.names c.in_ok-writer.writer.lists
      (logged_position_lists c.in_ok-writer.writer.positions)
      c.requires.sound c.in_ok-writer.ensures.names c.in_ok-writer.ensures.lists c.in_ok-writer.ensures.positions;
  is = c.in_ok-writer.ensures.is;
}

pub merge_term-requires-clause-rise : goal.merge_term-requires-clause-rise
merge_term-requires-clause-rise c =
    let rest = c.loop-term.parts in
    let term = c.in-Some.term in
    let w = c.loop-term.writer in
    let least : least_of None rest ≡ Some term = sym c.least.ensures ∙ c.in-Some.is in
    postings-rise term (flat_map (given term) rest) c.args.parts.now rest w.names w.lists (logged_position_lists w.positions)
    c.loop-term.invariant.joining (least-from None rest term least).1 (met-of-least rest term least) refl c.requires.rise

pub loop-term-smaller : goal.loop-term-smaller
loop-term-smaller c =
    let rest = c.loop-term.parts in
    let term = c.in-Some.term in
    let least : least_of None rest ≡ Some term = sym c.least.ensures ∙ c.in-Some.is in
    let fewer_left : left (map (passed term) rest) < left rest = fewer term rest (met-of-least rest term least) in
    subst (λ (ps : List TermStreamValue). left ps < left rest) (sym c.in_ok-merge_term.ensures.parts) fewer_left

pub loop-term-preserved : goal.loop-term-preserved
loop-term-preserved c =
    let rest = c.loop-term.parts in
    let term = c.in-Some.term in
    let names = c.loop-term.writer.names in
    let lists = c.loop-term.writer.lists in
    let positions = logged_position_lists c.loop-term.writer.positions in
    let least : least_of None rest ≡ Some term = sym c.least.ensures ∙ c.in-Some.is in
    let from = (least-from None rest term least).1 in
    let met = met-of-least rest term least in
    let postings = flat_map (given term) rest in
    let all = all-given term postings c.args.parts.now rest names lists positions c.loop-term.invariant.joining from met refl in
    record {
      joining = rw (c.in_ok-merge_term.ensures.parts, c.in_ok-merge_term.ensures.names, c.in_ok-merge_term.ensures.lists, c.in_ok-merge_term.ensures.positions)
          (IsJoining-next term postings c.args.parts.now rest names lists positions c.loop-term.invariant.joining from met all);
      is = c.in_ok-merge_term.ensures.is;
    }

pub returns : goal.returns
returns c =
    let w = c.loop-term.writer in
    rw (c.in_ok-dictionary.ensures.names, c.in_ok-dictionary.ensures.lists, c.in_ok-dictionary.ensures.positions)
    (IsJoined-end c.args.parts.now c.loop-term.parts w.names w.lists (logged_position_lists w.positions) c.loop-term.invariant.joining
    (sym c.least.ensures ∙ c.in_default.is))
