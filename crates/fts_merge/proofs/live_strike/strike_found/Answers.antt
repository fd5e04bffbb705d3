use Rattle.std.proofs.Common.{◌≡◌, ◌≤◌, ap, sym, ◌∙◌, arith, length, take}
use Rattle.std.proofs.lemmas.List.{take_all}
use Rattle.fts_merge.specs.Strikes.{bits_where}
use Rattle.fts_merge.specs.Internals.Deletes.{survives_found}
use Rattle.fts_merge.proofs.FoundLemmas.{survives_found-none}
use Rattle.fts_merge.proofs.live_strike.strike_found.Goals as goal

pub loop-number-init : goal.loop-number-init
loop-number-init c = record {
  bits = c.requires.bits;
  struck = sym (survives_found-none c.args.segment.now.schema c.args.segment.now.documents c.args.live.now c.requires.bits);
}

pub loop-number-preserved : goal.loop-number-preserved
loop-number-preserved c = record {
  bits = c.strike_next.ensures.bits;
  struck = c.strike_next.ensures.struck c.args.live.now c.loop-number.invariant.struck;
}

pub returns : goal.returns
returns c =
    let s = c.args.segment.now in
    let deletes = c.args.deletes.now in
    let all : length deletes ≤ c.loop-number.number = omega (arith, c.loop-number-test.false) in
    c.loop-number.invariant.struck ∙ ap (λ ds. bits_where (survives_found s.schema ds) s.documents c.args.live.now) (take_all c.loop-number.number deletes all)
