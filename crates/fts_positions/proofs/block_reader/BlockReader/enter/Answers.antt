use Rattle.fts_positions.proofs.UnpackedLemmas.{opened}
use Rattle.fts_positions.proofs.block_reader.BlockReader.enter.Goals as goal

pub invariant_of-self : goal.invariant_of-self
invariant_of-self c =
    let h = opened c.args.self.now.numbers.now c.args.index c.open-self.result c.open-self.new.out c.requires c.open-self.ensures.count
    c.open-self.ensures.numbers in
    record { few = c.args.self.now.few; near = h.near; within = h.within; are = h.are }

pub returns-clause-to : goal.returns-clause-to
returns-clause-to c =
    (opened c.args.self.now.numbers.now c.args.index c.open-self.result c.open-self.new.out c.requires c.open-self.ensures.count c.open-self.ensures.numbers).to
