use Rattle.std.proofs.Common.{◌≡◌, drop}
use Rattle.std.specs.Cmp.Lexicographic.{pointwise}
use Rattle.std.specs.Str.{bytes_eq}
use Rattle.fts_model.proofs.texts.TextsPartialEq.eq.Given as goal

abbrev pub invariant-loop-number : goal.invariant-loop-number
invariant-loop-number l = pointwise bytes_eq (drop l.number l.self) (drop l.number l.other) ≡ pointwise bytes_eq l.self l.other
