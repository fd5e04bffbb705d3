use Rattle.std.proofs.Common.{length, ap, ◌∙◌, arith, length-append}
use Rattle.std.proofs.lemmas.Str.{IsUtf8-past_char}
use Rattle.std.specs.Char.{encode_utf8}
use Rattle.std.specs.Str.Iter.{chars_rest}
use Rattle.fts_text.proofs.FrontLemmas.{front_len-empty, front_len-more, front_len-stop}
use Rattle.fts_text.proofs.tokenizer.front_len.Goals as goal

pub loop-c-preserved : goal.loop-c-preserved
loop-c-preserved c =
    let before = chars_rest c.loop-c.c-iterator in
    let after = chars_rest c.next.new.self in
    let kept = c.loop-c.invariant.2 in
    let begins = c.in-Some.ensures.steps.0 in
    let same = rw c.is_alphanumeric.ensures at c.if-is_alphanumeric-alphanumeric.false in
    let len = ap length begins ∙ length-append (encode_utf8 c.in-Some.c) after in
    let more = front_len-more c.args.alphanumeric before after c.in-Some.c kept.text begins same in
    let value = c.len_utf8-len.ensures.value in
    let long = c.len_utf8-len.ensures.len in (
      tt,
      tt,
      record {
        text = IsUtf8-past_char before after c.in-Some.c kept.text begins;
        bytes = omega (arith, kept.bytes);
        counted = omega (arith, kept.counted);
      },
    )

pub returns-in-None-clause-len : goal.returns-in-None-clause-len
returns-in-None-clause-len c =
    let none = front_len-empty c.args.alphanumeric (chars_rest c.loop-c.c-iterator) c.in-None.ensures.steps.0.0 in
    omega (arith, c.loop-c.invariant.2.counted)

pub returns-then-is_alphanumeric-alphanumeric-clause-len : goal.returns-then-is_alphanumeric-alphanumeric-clause-len
returns-then-is_alphanumeric-alphanumeric-clause-len c =
    let other = rw c.is_alphanumeric.ensures at c.if-is_alphanumeric-alphanumeric.true in
    let none = front_len-stop c.args.alphanumeric (chars_rest c.loop-c.c-iterator) (chars_rest c.next.new.self) c.in-Some.c c.loop-c.invariant.2.text
    c.in-Some.ensures.steps.0 other in
    omega (arith, c.loop-c.invariant.2.counted)
