-- One more bit is set.
use Rattle.std.proofs.Common.{arith, refl}
use Rattle.fts_pack.proofs.BitsLemmas.{AreSet-all, AreSet-more, AreSet-none}
use Rattle.fts_pack.proofs.bits.bits.Bits.set_all.Goals as goal

pub loop-doc-init : goal.loop-doc-init
loop-doc-init c = AreSet-none c.args.self.now c.args.docs.now

pub put-requires : goal.put-requires
put-requires c = omega (arith, c.loop-doc.invariant.len, c.requires c.loop-doc.doc-index 0 c.loop-doc-test.true)

pub loop-doc-preserved : goal.loop-doc-preserved
loop-doc-preserved c =
    AreSet-more c.args.self.now c.loop-doc.self _ c.args.docs.now c.loop-doc.doc-index _ c.loop-doc.invariant c.loop-doc-test.true refl
    (c.requires c.loop-doc.doc-index 0 c.loop-doc-test.true) c.put.ensures

pub returns : goal.returns
returns c =
    let all = AreSet-all c.args.self.now c.loop-doc.self c.args.docs.now c.loop-doc.doc-index c.loop-doc.invariant c.loop-doc-test.false in
    record { len = all.len; set = all.set_are }
