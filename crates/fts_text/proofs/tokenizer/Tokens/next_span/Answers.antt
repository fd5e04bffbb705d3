use Rattle.std.proofs.Common.{◌+◌, ◌<◌, ℕ, true, false, refl, sym, subst, arith}
use Rattle.std.specs.Str.{chars, IsCharBoundary}
use Rattle.fts_text.specs.Tokens.{char_indices}
use Rattle.fts_text.proofs.FrontLemmas.{front, IsCharBoundary-front_len}
use Rattle.fts_text.proofs.SpanLemmas.{spans-step, spans-end, place_of-front}
use Rattle.fts_text.proofs.tokenizer.Tokens.next_span.Goals as goal

pub range_from-rest-requires : goal.range_from-rest-requires
range_from-rest-requires c = λ _.
    let text = c.args.self.now.rest.now in
    let P : ℕ → Type 0 = IsCharBoundary text in
    subst P (sym c.front_len-gap.ensures.len) (IsCharBoundary-front_len false text c.front_len-gap.ensures.utf8)

pub range_from-self-requires : goal.range_from-self-requires
range_from-self-requires c = λ _.
    let text = c.range_from-rest.result.now in
    let P : ℕ → Type 0 = IsCharBoundary text in
    subst P (sym c.front_len-len.ensures.len) (IsCharBoundary-front_len true text c.front_len-len.ensures.utf8)

pub returns-then-len-eq0 : goal.returns-then-len-eq0
returns-then-len-eq0 c =
    let ended = spans-end c.args.self.now.at c.front_len-gap.result c.front_len-len.result c.args.self.now.rest.now c.range_from-rest.result.now
    c.range_from-self.result.now
    c.front_len-gap.ensures.utf8 c.front_len-gap.ensures.len c.range_from-rest.ensures.value c.front_len-len.ensures.utf8 c.front_len-len.ensures.len
    c.range_from-self.ensures.value c.if-len-eq0.true in
    (ended.0, ended.1, refl, refl)

pub returns : goal.returns
returns c =
    let some : 0 < c.front_len-len.result = omega arith in
    let mid = c.range_from-rest.result.now in
    let at = c.args.self.now.at + c.front_len-gap.result in (
      char_indices at (front true (chars mid)),
      spans-step c.args.self.now.at c.front_len-gap.result c.front_len-len.result c.args.self.now.rest.now mid c.range_from-self.result.now
          c.front_len-gap.ensures.utf8 c.front_len-gap.ensures.len c.range_from-rest.ensures.value c.front_len-len.ensures.utf8 c.front_len-len.ensures.len
          c.range_from-self.ensures.value some,
      place_of-front c.args.self.now.next_position at c.front_len-len.result (chars mid) c.front_len-len.ensures.len some,
      refl,
      omega arith,
      refl,
    )
