-- There are as many ends as lanes.
use Rattle.std.proofs.Common.{◌≡◌, ℕ, ◌*◌, ◌<◌, length, ap, sym, subst, ◌∙◌}
use Rattle.fts_rounds.proofs.EndsLemmas.{as_many}
use Rattle.fts_rounds.proofs.round.Round.gather_all.Goals as goal

pub submitted-count-requires-clause-few : goal.submitted-count-requires-clause-few
submitted-count-requires-clause-few c =
    let same : c.self.inside.limits.lanes ≡ c.args.self.limits.lanes = ap (λ r. r.limits.lanes) c.self.view_is in
    let count : length c.args.ends.items ≡ c.args.self.limits.lanes =
    as_many c.args.self c.args.ends.items c.requires.lanes c.requires.each_once c.requires.none_missing in
    let whole : length c.deref.result.now ≡ c.self.inside.limits.lanes = ap length c.deref.ensures.value ∙ (count ∙ sym same) in
    subst (λ (k : ℕ). k * c.self.inside.limits.cap < 4611686018427387904) (sym whole) c.self.invariant.4

pub merge-requires-clause-all : goal.merge-requires-clause-all
merge-requires-clause-all c = c.args.ends.ok.0 ∙ as_many c.args.self c.args.ends.items c.requires.lanes c.requires.each_once c.requires.none_missing
