-- The words so far are changed.
use Rattle.std.proofs.Common.{get_or, false}
use Rattle.fts_pack.specs.bits.Changes.{changed}
use Rattle.fts_pack.proofs.ChangeLemmas.{AreChangedTo}
use Rattle.fts_pack.proofs.bits.bits.Bits.change.Given as goal

abbrev pub invariant-loop-place : goal.invariant-loop-place
invariant-loop-place l = AreChangedTo (λ doc told. changed l.change told (get_or l.self doc false)) l.index l.initial.words l.words l.place
