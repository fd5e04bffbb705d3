use Rattle.std.proofs.Common.{◌≡◌, ◌+◌, length}
use Rattle.std.specs.Str.{chars, IsUtf8}
use Rattle.std.specs.Str.Iter.{chars_rest}
use Rattle.fts_text.specs.Characters.{front_len}
use Rattle.fts_text.proofs.tokenizer.front_len.Given as goal

abbrev pub invariant-loop-c : goal.invariant-loop-c
invariant-loop-c l =
    (goal.iterator-loop-c).can_next l.c-iterator × (goal.iterator-loop-c).is_finite l.c-iterator × record {
      text : IsUtf8 (chars_rest l.c-iterator);
      bytes : l.len + length (chars_rest l.c-iterator) ≡ length l.text;
      counted : l.len + front_len l.alphanumeric (chars (chars_rest l.c-iterator)) ≡ front_len l.alphanumeric (chars l.text);
    }
