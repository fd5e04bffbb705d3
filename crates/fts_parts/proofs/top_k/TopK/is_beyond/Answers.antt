use Rattle.std.proofs.Common.{◌≡◌, subst, take, Option}
use Rattle.fts_parts.specs.declared.top_k.Key.{Key}
use Rattle.fts_parts.specs.Keys.{TopKValue, IsTopK, put_key}
use Rattle.fts_parts.proofs.KeysLemmas.{beyond, higher_rank, lower_rank}
use Rattle.fts_parts.proofs.top_k.TopK.is_beyond.Goals as goal

pub returns-in-Some : goal.returns-in-Some
returns-in-Some c = λ above key most.
    let bound = c.in-Some.bound in
    let P : Option Key → Type 0 = IsTopK c.self.inside.k c.self.inside.held.items in
    let Q : TopKValue → Type 0 = λ v. take v.k (put_key v.keys key) ≡ v.keys in
    subst Q c.self.view_is (beyond c.self.inside.k _ bound key (subst P c.in-Some.is c.self.invariant)
    (higher_rank key bound (lower_rank bound.rank c.args.rank key.rank above most)))
