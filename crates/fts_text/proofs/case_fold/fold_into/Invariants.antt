use Rattle.std.proofs.Common.{◌≡◌, ◌≤◌, ◌++◌, take}
use Rattle.std.specs.Str.{chars, IsUtf8}
use Rattle.std.specs.Str.Iter.{chars_rest}
use Rattle.std.specs.String.{string_bytes, string_capacity}
use Rattle.fts_text.specs.Characters.{fold_chars}
use Rattle.fts_text.proofs.case_fold.fold_into.Given as goal

abbrev pub invariant-loop-c : goal.invariant-loop-c
invariant-loop-c l =
    (goal.iterator-loop-c).can_next l.c-iterator × (goal.iterator-loop-c).is_finite l.c-iterator × record {
      text : IsUtf8 (chars_rest l.c-iterator);
      begins : take l.len (string_bytes l.out) ≡ string_bytes l.initial.out;
      whole : string_bytes l.out ++ fold_chars (chars (chars_rest l.c-iterator)) ≡ string_bytes l.initial.out ++ fold_chars (chars l.span);
      capacity : string_capacity l.initial.out ≤ string_capacity l.out;
    }
