use Rattle.std.proofs.Common.{◌≡◌, Ok, map}
use Rattle.fts_merge.proofs.join_by.fields_of.Given as goal

abbrev pub invariant-loop-field : goal.invariant-loop-field
invariant-loop-field l = l.yielded ≡ map Ok l.fields.items
