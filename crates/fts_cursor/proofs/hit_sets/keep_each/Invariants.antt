-- The hits of each query so far.
use Rattle.std.proofs.Common.{◌≡◌, take}
use Rattle.std.specs.List.{filter}
use Rattle.fts_postings.specs.Sets.{in_all}
use Rattle.fts_cursor.specs.Tests.{hits_of_each}
use Rattle.fts_cursor.proofs.hit_sets.keep_each.Given as goal

abbrev pub invariant-loop-query : goal.invariant-loop-query
invariant-loop-query l = l.set ≡ filter (in_all (hits_of_each l.segment (take l.query-index l.queries))) l.initial.set
