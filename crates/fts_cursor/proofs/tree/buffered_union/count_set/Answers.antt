-- Each turn counts the documents of the window.
use Rattle.std.proofs.Common.{◌≡◌, ◌+◌, ◌<◌, [], length, ap, sym, subst, ◌∙◌, arith}
use Rattle.std.specs.List.{filter}
use Rattle.fts_postings.proofs.RemainingLemmas.{nothing_first}
use Rattle.fts_postings.specs.Windows.{is_set}
use Rattle.fts_cursor.specs.TreeValues.{remains}
use Rattle.fts_cursor.specs.Trees.{StandsAt, gathered}
use Rattle.fts_cursor.specs.declared.tree.Node.TheVariants.{Or}
use Rattle.fts_cursor.proofs.GatherLemmas.{gathered_passing}
use Rattle.fts_cursor.proofs.TreeLemmas.{Walked-trans}
use Rattle.fts_cursor.proofs.tree.buffered_union.count_set.Goals as goal

-- what is counted, and what remains then
counted : (c : goal.After-refill-next) → (length (gathered c.refill-next.new.buffered) < length (gathered c.loop-next.buffered))
    × (c.count_set-here.result + length (filter (is_set c.args.bits.now) (gathered c.refill-next.new.buffered))
    ≡ length (filter (is_set c.args.bits.now) (gathered c.loop-next.buffered)))
counted c =
    let b = c.loop-next.buffered in
    gathered_passing (is_set c.args.bits.now) c.in-Some._first c.loop-next.next b.window (remains b.parts.items) (gathered c.refill-next.new.buffered)
    c.count_set-here.result c.in-Some.is c.loop-next.invariant.stands.parts c.count_set-here.ensures.count c.refill-next.ensures.now.is

pub loop-next-preserved : goal.loop-next-preserved
loop-next-preserved c =
    let k = c.refill-next.ensures.continues in
    record {
      sum = omega (arith, c.loop-next.invariant.sum, (counted c).1, c.saturating_add-count.ensures);
      fits = omega (arith, c.saturating_add-count.ensures);
      stands = c.refill-next.ensures.now.stands;
      walked = Walked-trans _ _ _ c.loop-next.invariant.walked (record { continues = record { bound = k.bound; list = k.list; more = k.more }; whole = λ h. h });
    }

pub loop-next-smaller : goal.loop-next-smaller
loop-next-smaller c = (counted c).0

-- behind the last window nothing remains
behind : (c : goal.In_default) → gathered c.loop-next.buffered ≡ []
behind c = nothing_first (gathered c.loop-next.buffered) (sym c.in_default.is ∙ c.loop-next.invariant.stands.first)

pub returns-clause-count : goal.returns-clause-count
returns-clause-count c =
    omega (arith, c.loop-next.invariant.sum, ap (λ xs. length (filter (is_set c.args.bits.now) xs)) (behind c), c.loop-next.invariant.fits)

pub returns-clause-now : goal.returns-clause-now
returns-clause-now c = record {
  is = behind c;
  stands = subst (λ doc. StandsAt doc (Or c.loop-next.buffered)) c.in_default.is c.loop-next.invariant.stands;
}
