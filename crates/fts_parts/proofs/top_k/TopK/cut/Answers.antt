use Rattle.std.proofs.Common.{◌∙◌, sym, ap, length, ◌-◌, slice_get}
use Rattle.fts_parts.specs.Keys.{first_keys}
use Rattle.fts_parts.proofs.KeysLemmas.{top_k-last, first_keys-again}
use Rattle.fts_parts.proofs.top_k.TopK.cut.Goals as goal

pub invariant_of-self : goal.invariant_of-self
invariant_of-self c =
    let kept = c.keep_least.new.keys in
    top_k-last c.self.inside.k c.self.inside.held.items kept.items c.copied-self-inside.result c.keep_least.ensures
    (sym kept.ok.0 ∙ sym c.len.ensures ∙ c.if-len-self.true)
    (c.copied-self-inside.ensures ∙ c.last.ensures.value ∙ ap (λ ks. slice_get ks (length ks - 1)) c.deref.ensures.value)

pub returns-then-len-self : goal.returns-then-len-self
returns-then-len-self c =
    let k = c.self.inside.k in
    ap (λ keys. record { k = k; keys = keys }) (ap (first_keys k) c.keep_least.ensures ∙ first_keys-again k c.self.inside.held.items) ∙ c.self.view_is

pub returns-else-len-self : goal.returns-else-len-self
returns-else-len-self c =
    let k = c.self.inside.k in
    ap (λ keys. record { k = k; keys = keys }) (ap (first_keys k) c.keep_least.ensures ∙ first_keys-again k c.self.inside.held.items) ∙ c.self.view_is
