use Rattle.std.proofs.Common.{◌≡◌, ◌++◌, flat_map, map, drop}
use Rattle.fts_segment.specs.Dictionaries.{docs_in, names_listed, listed_by}
use Rattle.fts_segment.specs.Positions.{position_lists_of}
use Rattle.fts_positions.specs.PositionListLogs.{IsPositionListLog, logged_position_lists}
use Rattle.fts_segment.proofs.postings_writer.write_terms.Given as goal

abbrev pub invariant-loop-number : goal.invariant-loop-number
invariant-loop-number l = record {
  names : l.writer.names ++ names_listed (drop l.number l.groups) (drop l.number (map (λ n. n.now) l.names)) ≡ names_listed l.groups (map (λ n. n.now) l.names);
  lists : l.writer.lists ++ listed_by docs_in (drop l.number l.groups) ≡ listed_by docs_in l.groups;
  positions : logged_position_lists l.writer.positions ++ flat_map position_lists_of (drop l.number l.groups) ≡ flat_map position_lists_of l.groups;
  is : IsPositionListLog l.writer.positions;
}
