use Rattle.std.proofs.Common.{◌∙◌, ap₂, subst}
use Rattle.std.specs.Ordering.{nat_cmp}
use Rattle.fts_segment.specs.Heads.{IsHead}
use Rattle.fts_segment.proofs.HeadLemmas.{order_of_heads}
use Rattle.fts_segment.proofs.names.Name.compare.Goals as goal

pub returns-in_default : goal.returns-in_default
returns-in_default c =
    let mine : IsHead c.self.inside.head c.args.self.now = subst (IsHead c.self.inside.head) c.self.view_is c.self.invariant in
    let its : IsHead c.other.inside.head c.args.other.now = subst (IsHead c.other.inside.head) c.other.view_is c.other.invariant in
    order_of_heads 8 c.args.self.now c.args.other.now c.cmp.result mine.bytes its.bytes (c.cmp.ensures ∙ ap₂ nat_cmp mine.is its.is) c.in_default.not-Equal
