use Rattle.std.proofs.Common.{◌∙◌, sym, ap, subst, List, take}
use Rattle.fts_parts.specs.declared.top_k.Key.{Key}
use Rattle.fts_parts.specs.Keys.{TopKValue, IsTopK, put_key, first_keys}
use Rattle.fts_parts.proofs.KeysLemmas.{top_k-push, first_keys-push}
use Rattle.fts_parts.proofs.top_k.TopK.push.Goals as goal

pub invariant_of-self-2 : goal.invariant_of-self-2
invariant_of-self-2 c =
    let P : List Key → Type 0 = λ held. IsTopK c.self.inside.k held c.self.inside.bound in
    subst P (sym c.in_ok-push.ensures.items) (top_k-push c.self.inside.k c.self.inside.held.items c.self.inside.bound c.args.key c.self.invariant)

pub returns-clause-ok : goal.returns-clause-ok
returns-clause-ok c =
    let k = c.self.inside.k in
    let more : TopKValue → TopKValue = λ v. record { k = v.k; keys = take v.k (put_key v.keys c.args.key) } in
    ap (λ keys. record { k = k; keys = keys }) (ap (first_keys k) c.in_ok-push.ensures.items ∙ first_keys-push k c.self.inside.held.items c.args.key)
    ∙ ap more c.self.view_is
