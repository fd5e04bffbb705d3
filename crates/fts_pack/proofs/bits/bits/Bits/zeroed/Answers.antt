use Rattle.std.proofs.Common.{◌≡◌, false, replicate, rules, sym, ◌∙◌, arith}
use Rattle.fts_pack.specs.bits.Digits.{word_count}
use Rattle.fts_pack.proofs.BitsLemmas.{IsBits-empty, flags-empty, ones_replicated}
use Rattle.fts_pack.proofs.bits.bits.Bits.zeroed.Goals as goal

pub invariant_of-result : goal.invariant_of-result
invariant_of-result c =
    let words : c.in_ok-words.words.items ≡ replicate (word_count 64 c.args.len) 0 = search rules in
    rw words (record {
      bits = IsBits-empty c.args.len c.ranges.len.fits;
      ones_are = sym (sym (ones_replicated _ c.args.len false (flags-empty c.args.len)) ∙ omega arith);
    })

pub returns : goal.returns
returns c =
    let words : c.in_ok-words.words.items ≡ replicate (word_count 64 c.args.len) 0 = search rules in
    rw words (flags-empty c.args.len)
