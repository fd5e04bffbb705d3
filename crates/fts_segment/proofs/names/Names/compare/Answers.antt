use Rattle.std.proofs.Common.{[], get_or, ◌≡◌, ◌∙◌, ap₂, subst}
use Rattle.std.specs.Ordering.{nat_cmp}
use Rattle.fts_segment.specs.Heads.{head, AreHeads, IsHead}
use Rattle.fts_segment.proofs.HeadLemmas.{order_of_heads, head_at}
use Rattle.fts_segment.proofs.names.Names.compare.Goals as goal

pub returns-in_default : goal.returns-in_default
returns-in_default c =
    let names = c.args.self.now in
    let heads = c.self.inside.heads.items in
    let h : AreHeads heads names = subst (AreHeads heads) c.self.view_is c.self.invariant.1 in
    let other : IsHead c.name.inside.head c.args.name.now = subst (IsHead c.name.inside.head) c.name.view_is c.name.invariant in
    let this : c.index.result.now ≡ head 8 (get_or names c.args.number []) = c.index.ensures ∙ head_at heads names c.args.number _ h c.requires in
    order_of_heads 8 (get_or names c.args.number []) c.args.name.now c.cmp.result (h.bytes c.args.number [] c.requires) other.bytes
    (c.cmp.ensures ∙ ap₂ nat_cmp this other.is) c.in_default.not-Equal
