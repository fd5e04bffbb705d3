use Rattle.std.proofs.Common.{◌∙◌, sym, subst}
use Rattle.std.proofs.lemmas.Bool.{ne_eqb}
use Rattle.fts_segment.specs.Heads.{IsHead}
use Rattle.fts_segment.proofs.HeadLemmas.{heads-differ}
use Rattle.fts_segment.proofs.names.Name.is.Goals as goal

pub returns-else-self-other : goal.returns-else-self-other
returns-else-self-other c =
    let head = c.self.inside.head in
    let other = c.other.inside.head in
    let mine : IsHead head c.args.self.now = subst (IsHead head) c.self.view_is c.self.invariant in
    let its : IsHead other c.args.other.now = subst (IsHead other) c.other.view_is c.other.invariant in
    ne_eqb head other c.if-self-other.false ∙ sym (heads-differ head other c.args.self.now c.args.other.now mine its c.if-self-other.false)
