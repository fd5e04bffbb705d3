use Rattle.std.proofs.Common.{◌≡◌, [], ◌∷◌, ap, ◌∙◌}
use Rattle.fts_base.specs.Results.{result_map}
use Rattle.fts_model.specs.QueryValues.{query_value}
use Rattle.fts_query.specs.declared.clauses.Occur.{Occur}
use Rattle.fts_query.specs.declared.reader.Level.TheVariants.{Conjunction}
use Rattle.fts_query.specs.Gathering.{Gathered, gathered_of, gather, gathered_node}
use Rattle.fts_query.specs.Sequences.{factor_seen, clause_of, lone}
use Rattle.fts_query.proofs.GatheringLemmas.{gathered_node-all}
use Rattle.fts_query.proofs.reader.conjunction_of_one.Goals as goal

pub returns : goal.returns
returns c =
    let f = clause_of Conjunction (lone (factor_seen c.args.factor)) in
    let pushed : gathered_of c.push.new.self ≡ gather (gathered_of c.new-clauses.result) f =
    c.in_ok-push.ensures ∙ ap (λ (r : Occur). gather (gathered_of c.new-clauses.result) (r, result_map query_value c.args.factor.unit))
    c.occur_in_conjunction.ensures in
    c.into_node.ensures ∙ ap gathered_node (pushed ∙ ap (λ (g : Gathered). gather g f) c.new-clauses.ensures) ∙ gathered_node-all (f ∷ [])
