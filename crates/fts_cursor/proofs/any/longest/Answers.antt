-- The longer of two.
use Rattle.std.proofs.Common.{◌≤◌, List, Bool, length, get_or, subst, ap, arith}
use Rattle.std.specs.Prelude.{All}
use Rattle.std.specs.Borrow.{Bor}
use Rattle.std.proofs.lemmas.List.{take_all}
use Rattle.std.proofs.lemmas.List.Elements.{All-more}
use Rattle.fts_cursor.proofs.any.longest.Goals as goal

pub loop-bits-preserved : goal.loop-bits-preserved
loop-bits-preserved c =
    let i = c.loop-bits.bits-index in
    let item = c.bits-item.result in
    let here = c.requires i item c.loop-bits-test.true in
    let last : length (get_or c.args.list.now i item).now ≤ c.max-docs.result =
    omega (arith, c.max-docs.ensures, c.len.ensures, ap (λ (b : Bor (List Bool)). length b.now) c.bits-item.is) in
    record {
      longest = All-more (λ (b : Bor (List Bool)). length b.now ≤ c.max-docs.result) c.args.list.now i item c.loop-bits-test.true
          (λ k d inside. (let h = c.loop-bits.invariant.longest k d inside in omega (arith, h, c.max-docs.ensures))) last;
      few = omega (arith, c.max-docs.ensures, c.len.ensures, c.loop-bits.invariant.few, here, ap (λ (b : Bor (List Bool)). length b.now) c.bits-item.is);
    }

pub returns-clause-longest : goal.returns-clause-longest
returns-clause-longest c =
    subst (All (λ (b : Bor (List Bool)). length b.now ≤ c.loop-bits.docs)) (take_all c.loop-bits.bits-index c.args.list.now c.loop-bits-test.false)
    c.loop-bits.invariant.longest
