use Rattle.std.proofs.Common.{◌*◌, ◌/◌, ◌%◌, ◌^◌, ◌≤◌, refl, sym, ap, ◌∙◌, arith}
use Rattle.fts_pack.proofs.LaneLemmas.{number_within, number_across}
use Rattle.std.proofs.Math.Facts.{Fits-lt-pow}
use Rattle.std.proofs.Math.Nat.{mul-le-mul_right}
use Rattle.fts_pack.proofs.four_lanes.at_place.Goals as goal

pub returns-then-shift-width-le32 : goal.returns-then-shift-width-le32
returns-then-shift-width-le32 c lane small =
    let bit = c.args.place * c.args.width in
    let near : bit ≤ 31 * c.args.width = mul-le-mul_right c.args.width (omega arith) in
    c.within.ensures lane small
    ∙ ap (λ x. x / 2 ^ (bit % 32) % 2 ^ c.args.width) (c.load-low.ensures lane small)
    ∙ sym (number_within c.args.width c.args.words.now c.args.place lane bit (λ i. Fits-lt-pow (c.type_inv.words i)) c.requires.near small refl (omega arith)
    c.if-shift-width-le32.true)

pub returns : goal.returns
returns c lane small =
    let bit = c.args.place * c.args.width in
    let near : bit ≤ 31 * c.args.width = mul-le-mul_right c.args.width (omega arith) in
    c.across.ensures lane small
    ∙ (rw (c.load.ensures lane small, c.load-low.ensures lane small) refl)
    ∙ sym (number_across c.args.width c.args.words.now c.args.place lane bit (λ i. Fits-lt-pow (c.type_inv.words i)) c.requires.near small refl (omega arith)
    c.requires.narrow)
