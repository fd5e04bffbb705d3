use Rattle.std.proofs.Common.{◌≡◌, ◌+◌, drop}
use Rattle.fts_scan.specs.Scans.{hit_place}
use Rattle.fts_scan.proofs.answers.hit_place.Given as goal

abbrev pub invariant-loop-i : goal.invariant-loop-i
invariant-loop-i l = hit_place l.order l.hits l.hit ≡ l.i + hit_place l.order (drop l.i l.hits) l.hit
