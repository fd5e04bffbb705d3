use Rattle.std.proofs.Common.{◌≡◌, ◌<◌, ◌^◌, length}
use Rattle.std.specs.List.{list_all}
use Rattle.fts_query.specs.Meanings.{decimal_after, decimal, is_digit}
use Rattle.fts_query.proofs.number.unsigned.Given as goal

abbrev pub invariant-loop-rest : goal.invariant-loop-rest
invariant-loop-rest l = (decimal_after l.value l.rest ≡ decimal l.fn.text) × (list_all is_digit l.rest ≡ list_all is_digit l.fn.text) × (l.value < 2 ^ 64)

abbrev pub decreases-loop-rest : goal.decreases-loop-rest
decreases-loop-rest l = length l.rest
