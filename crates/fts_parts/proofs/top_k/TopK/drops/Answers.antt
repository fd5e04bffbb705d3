use Rattle.std.proofs.Common.{◌≡◌, ◌∙◌, sym, ap, subst, false, take}
use Rattle.fts_parts.specs.Keys.{TopKValue, IsTopK, key_lt, put_key}
use Rattle.std.proofs.Common.{Option}
use Rattle.std.specs.Ordering.{is_ge}
use Rattle.fts_parts.specs.declared.top_k.Key.{Key}
use Rattle.fts_parts.proofs.KeysLemmas.{beyond, not_lt}
use Rattle.fts_parts.proofs.top_k.TopK.drops.Goals as goal

pub returns-in-Some : goal.returns-in-Some
returns-in-Some c = λ yes.
    let key = c.args.key in
    let bound = c.in-Some.bound in
    let P : Option Key → Type 0 = IsTopK c.self.inside.k c.self.inside.held.items in
    let Q : TopKValue → Type 0 = λ v. take v.k (put_key v.keys key) ≡ v.keys in
    let behind : key_lt key bound ≡ false = not_lt _ (ap is_ge (sym c.cmp.ensures) ∙ sym c.is_ge.ensures ∙ yes) in
    subst Q c.self.view_is (beyond c.self.inside.k _ bound key (subst P c.in-Some.is c.self.invariant) behind)
