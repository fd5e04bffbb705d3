use Rattle.std.proofs.Common.{◌≡◌, ◌+◌, ◌*◌, ◌/◌, ◌%◌, ◌<◌, get_or, take, rules, sym, ap, ◌∙◌, arith}
use Rattle.std.proofs.Math.Facts.{Fits-lt-pow}
use Rattle.fts_pack.proofs.PackingLemmas.{read_pair}
use Rattle.fts_pack.specs.FourLanes.{lane_of, numbers_in_lanes}
use Rattle.fts_pack.proofs.LaneLemmas.{Below-lane_of, lane_get, number_at}
use Rattle.fts_pack.proofs.four_lanes.read.Goals as goal

pub returns : goal.returns
returns c =
    let words = c.args.words.now in
    let width = c.args.width in
    let lane = c.args.index % 4 in
    let bit = c.args.index / 4 * width in
    let small : lane < 4 = omega arith in
    let place : 4 * (c.args.index / 4) + lane ≡ c.args.index = omega arith in
    let next : 4 * (bit / 32) + lane + 4 ≡ 4 * (bit / 32 + 1) + lane = omega arith in
    let low : c.unwrap_or-low.result ≡ get_or (take (4 * width) words) (4 * (bit / 32) + lane) 0 = search rules in
    let high : c.unwrap_or-high.result ≡ get_or (take (4 * width) words) (4 * (bit / 32) + lane + 4) 0 = search rules in
    read_pair 32 width bit _ _ (lane_of width lane words) (omega arith) c.requires.narrow
    (Below-lane_of 32 width lane words (λ i. Fits-lt-pow (c.type_inv.words i)))
    (c.from-2.ensures ∙ low ∙ lane_get width lane (bit / 32) words small c.requires.room)
    (c.from.ensures ∙ high ∙ ap (λ i. get_or (take (4 * width) words) i 0) next ∙ lane_get width lane (bit / 32 + 1) words small c.requires.room)
    ∙ sym (number_at width words (c.args.index / 4) lane (omega (arith, c.requires.near)) small)
    ∙ ap (λ i. get_or (numbers_in_lanes width words) i 0) place
