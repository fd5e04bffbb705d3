use Rattle.std.proofs.Common.{◌≡◌, ◌<◌, ℕ, List, [], Bor, map, length, get_or, sym, arith}
use Rattle.std.proofs.lemmas.List.{get_or-map, length-map}
use Rattle.fts_segment.specs.Dictionaries.{docs_in}
use Rattle.fts_segment.specs.Positions.{position_lists_of}
use Rattle.fts_positions.specs.PositionListLogs.{logged_position_lists}
use Rattle.fts_segment.proofs.DictionaryLemmas.{flat_step, names_step, listed_step}
use Rattle.fts_segment.proofs.postings_writer.write_terms.Goals as goal

pub loop-number-preserved : goal.loop-number-preserved
loop-number-preserved c =
    let d : Bor (List ℕ) = record { ref_ptr = (0, 0); now = [] } in
    let l = c.loop-number in
    let items = c.args.names.now in
    let names = map (λ n. n.now) items in
    let groups = c.args.groups.now in
    let places = c.get.result.now in
    let long = length-map items (λ n. n.now) in
    let count : length groups ≡ length names = omega (arith, c.requires.count, long) in
    let within : l.number < length names = omega (arith, c.loop-number-test.true, long) in
    let inside : l.number < length groups = omega (arith, within, count) in
    let here : (get_or items l.number d).now ≡ get_or names l.number [] = sym (get_or-map (λ n. n.now) items l.number d [] c.loop-number-test.true) in
    record {
      names = names_step groups names l.number places (get_or items l.number d).now l.writer.names c.put.new.writer.names within count here c.get.ensures
          c.in_ok-put.ensures.names l.invariant.names;
      lists = listed_step docs_in groups l.number places l.writer.lists c.put.new.writer.lists inside c.get.ensures c.in_ok-put.ensures.lists
          l.invariant.lists;
      positions = flat_step position_lists_of groups l.number [] places (logged_position_lists l.writer.positions)
          (logged_position_lists c.put.new.writer.positions) inside c.get.ensures c.in_ok-put.ensures.positions l.invariant.positions;
      is = c.in_ok-put.ensures.is;
    }
