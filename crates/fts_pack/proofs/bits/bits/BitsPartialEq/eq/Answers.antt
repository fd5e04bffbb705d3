use Rattle.std.proofs.lemmas.Bool.Decides.{Decides-eqb}
use Rattle.std.proofs.lemmas.Slice.Eq.{slice_eq-Decides}
use Rattle.fts_pack.proofs.BitsLemmas.{eq_same_len, eq_other_len}
use Rattle.fts_pack.proofs.bits.bits.BitsPartialEq.eq.Goals as goal

pub returns-then-self-other : goal.returns-then-self-other
returns-then-self-other c =
    eq_same_len c.self.inside.len c.other.inside.len _ _ _ _ c.eq.result c.self.view_is c.other.view_is c.self.invariant.bits c.other.invariant.bits
    c.if-self-other.true (slice_eq-Decides Decides-eqb _ _ c.eq.result c.eq.ensures)

pub returns-else-self-other : goal.returns-else-self-other
returns-else-self-other c =
    eq_other_len c.self.inside.len c.other.inside.len _ _ _ _ c.self.view_is c.other.view_is c.if-self-other.false
