-- One document more is looked at.
use Rattle.std.proofs.Common.{◌≡◌, ◌+◌, ◌∙◌, Bool, true, false, get_or, refl, ap, arith}
use Rattle.std.specs.Bool.{beq}
use Rattle.fts_sets.proofs.KeptLemmas.{keeps_more}
use Rattle.fts_postings.specs.Windows.{is_set}
use Rattle.fts_sets.proofs.retain.keep_set.Goals as goal

same : (b : Bool) → b ≡ beq b true
same true = refl
same false = refl

pub loop-index-preserved : goal.loop-index-preserved
loop-index-preserved c =
    let l = c.loop-index in
    keeps_more (λ d. beq (is_set c.args.bits.now d) true) c.args.docs.now l.docs l.kept l.index (get_or l.docs l.index 0) _ c.contains.result l.invariant
    (omega arith) refl (same c.contains.result ∙ ap (λ b. beq b true) c.contains.ensures) (ap (λ n. l.kept + n) c.from-kept.ensures)
