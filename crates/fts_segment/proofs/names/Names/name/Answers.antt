use Rattle.std.proofs.Common.{[], ◌∙◌, ap, sym, subst}
use Rattle.fts_segment.specs.Heads.{head, AreBytes, AreHeads}
use Rattle.fts_segment.proofs.HeadLemmas.{head_at}
use Rattle.fts_segment.proofs.names.Names.name.Goals as goal

pub invariant_of-result : goal.invariant_of-result
invariant_of-result c =
    let names = c.args.self.now in
    let heads = c.self.inside.heads.items in
    let h : AreHeads heads names = subst (AreHeads heads) c.self.view_is c.self.invariant.1 in
    record {
      is = c.index.ensures ∙ head_at heads names c.args.number _ h c.requires ∙ ap (head 8) (sym c.get.ensures);
      bytes = subst AreBytes (sym c.get.ensures) (h.bytes c.args.number [] c.requires);
    }
