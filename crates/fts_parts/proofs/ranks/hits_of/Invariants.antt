use Rattle.std.proofs.Common.{◌≡◌, take, map}
use Rattle.fts_parts.specs.Ranks.{hit_of}
use Rattle.fts_parts.proofs.ranks.hits_of.Given as goal

abbrev pub invariant-loop-key : goal.invariant-loop-key
invariant-loop-key l = l.hits.items ≡ map (hit_of l.kind l.order l.segment.documents) (take l.key-index l.keys)
