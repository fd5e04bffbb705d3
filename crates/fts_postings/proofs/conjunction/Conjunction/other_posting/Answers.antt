-- Each of the others is at the first in common.
use Rattle.std.proofs.Common.{◌≡◌, ◌<◌, get_or, length, ap, sym, subst, ◌∙◌}
use Rattle.std.specs.List.{slice_get}
use Rattle.std.proofs.lemmas.List.{get_or_default}
use Rattle.std.proofs.lemmas.Option.{slice_get_within}
use Rattle.fts_postings.specs.Conjoined.{Conjoined, common_of}
use Rattle.fts_postings.specs.Posting.{Posting, remaining_of}
use Rattle.fts_postings.proofs.ConjoinedLemmas.{stand_at}
use Rattle.fts_postings.proofs.conjunction.Conjunction.other_posting.Goals as goal

pub posting-requires-clause-stands : goal.posting-requires-clause-stands
posting-requires-clause-stands g c =
    let others = c.self.inside.others.items in
    let some : 0 < length (common_of (record { lead = c.self.inside.lead; others = others })) =
    subst (λ (q : Conjoined). 0 < length (common_of q)) (sym c.self.view_is) c.requires.stands in
    let inside : c.args.other < length others = subst (λ (q : Conjoined). c.args.other < length q.others) (sym c.self.view_is) c.requires.inside in
    let at = stand_at c.self.inside.lead others c.self.invariant.together some in
    let there : 0 < length (remaining_of (get_or others c.args.other c.index.result.now)) =
    slice_get_within (remaining_of (get_or others c.args.other c.index.result.now)) 0 at.0 (at.2 c.args.other c.index.result.now inside) in
    subst (λ (q : Posting). 0 < length (remaining_of q)) (sym c.index.ensures) there

pub returns : goal.returns
returns g c =
    let others = c.self.inside.others.items in
    let some : 0 < length (common_of (record { lead = c.self.inside.lead; others = others })) =
    subst (λ (q : Conjoined). 0 < length (common_of q)) (sym c.self.view_is) c.requires.stands in
    let inside : c.args.other < length others = subst (λ (q : Conjoined). c.args.other < length q.others) (sym c.self.view_is) c.requires.inside in
    let at = stand_at c.self.inside.lead others c.self.invariant.together some in
    rw (← c.self.view_is) (λ documents p is.
    let same : c.index.result.now ≡ get_or others c.args.other p = c.index.ensures ∙ get_or_default others c.args.other c.index.result.now p inside in
    ap (λ xs. slice_get xs 0) (c.posting.ensures documents (ap (λ q. q.blocks) same ∙ is)) ∙ ap (λ q. slice_get (remaining_of q) 0) same
    ∙ at.2 c.args.other p inside ∙ sym at.1)
