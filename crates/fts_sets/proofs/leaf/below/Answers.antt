-- All of the word's documents, or those below.
use Rattle.std.proofs.Common.{◌==◌, ◌∙◌, ◌+◌, ◌*◌, refl, sym, ap, arith}
use Rattle.std.proofs.lemmas.Bool.{lt-ltb}
use Rattle.std.proofs.lemmas.Nat.Bits.{bit_at_ones}
use Rattle.fts_sets.proofs.RowLemmas.{first-some}
use Rattle.fts_sets.proofs.leaf.below.Goals as goal

pub returns-then-index-last : goal.returns-then-index-last
returns-then-index-last c j inside =
    ap (λ n. n == 1) (bit_at_ones 64 j inside) ∙ sym (lt-ltb (64 * c.args.index + j) c.args.docs (omega (arith, c.if-index-last.true, inside)))

pub returns-else-index-last-2 : goal.returns-else-index-last-2
returns-else-index-last-2 c j inside =
    first-some c.args.docs c.args.index _ (omega (arith, c.if-index-last.false, c.if-index-last-2.false)) refl j inside
