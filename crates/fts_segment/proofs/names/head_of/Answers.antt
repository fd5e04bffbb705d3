use Rattle.std.proofs.Common.{◌≡◌, get_or, arith, rules, refl}
use Rattle.std.proofs.Math.Facts.{Fits-lt-pow}
use Rattle.fts_segment.specs.Heads.{head}
use Rattle.fts_segment.proofs.HeadLemmas.{head-more, head-fits}
use Rattle.fts_segment.proofs.names.head_of.Goals as goal

pub loop-place-init : goal.loop-place-init
unfolding head
loop-place-init c = refl

pub overflow_mul-head : goal.overflow_mul-head
overflow_mul-head c =
    let is : c.loop-place.head ≡ head c.loop-place.place c.args.name.now = c.loop-place.invariant in
    omega (arith, is, head-fits c.loop-place.place c.args.name.now (λ i. Fits-lt-pow (c.type_inv.name i)) c.loop-place-test.true)

pub overflow_add-head : goal.overflow_add-head
overflow_add-head c =
    let is : c.loop-place.head ≡ head c.loop-place.place c.args.name.now = c.loop-place.invariant in
    let byte : c.unwrap_or-byte.result ≡ get_or c.args.name.now c.loop-place.place 0 = search rules in
    omega (arith, is, byte, c.from.ensures, head-fits c.loop-place.place c.args.name.now (λ i. Fits-lt-pow (c.type_inv.name i)) c.loop-place-test.true)

pub loop-place-preserved : goal.loop-place-preserved
loop-place-preserved c =
    let name = c.args.name.now in
    let is : c.loop-place.head ≡ head c.loop-place.place name = c.loop-place.invariant in
    let byte : c.unwrap_or-byte.result ≡ get_or name c.loop-place.place 0 = search rules in
    omega (arith, is, byte, c.from.ensures, head-more c.loop-place.place name)
