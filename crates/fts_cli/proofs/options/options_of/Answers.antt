use Rattle.std.proofs.lemmas.Option.{IfSome_then}
use Rattle.clap.specs.Matches.{found_of}
use Rattle.clap.specs.Walk.{first_of, one_of, rows_of}
use Rattle.clap.proofs.WalkLemmas.{first_value-rows}
use Rattle.std.proofs.Common.{◌≡◌, ◌∙◌, ap, ap₂, codes, rules, Some, unwrap_or}
use Rattle.fts_cli.specs.RunOptions.{cut_asked, cut_given, merge_asked, number_given}
use Rattle.fts_cli.proofs.options.options_of.Goals as goal

pub number-workers-requires : goal.number-workers-requires
number-workers-requires c = IfSome_then (one_of (codes "workers") (rows_of (found_of c.args.run.now))) c.requires.0 (λ t p. (p.0, p.1))

pub number-runs-requires : goal.number-runs-requires
number-runs-requires c = IfSome_then (one_of (codes "runs") (rows_of (found_of c.args.run.now))) c.requires.1 (λ t p. (p.0, p.1))

pub number-deal-requires : goal.number-deal-requires
number-deal-requires c = IfSome_then (one_of (codes "deal") (rows_of (found_of c.args.run.now))) c.requires.2 (λ t p. (p.0, p.1))

pub returns-clause-some : goal.returns-clause-some
returns-clause-some c =
    let rows = rows_of (found_of c.args.run.now) in
    let workers_are : c.unwrap_or.result ≡ unwrap_or (number_given (codes "workers") rows) 1 = search rules in
    let cut_is : Some c.in_ok-cut.cut ≡ cut_given rows = c.in_ok-cut.ensures ∙ ap₂ cut_asked c.number-runs.ensures c.number-deal.ensures in
    let merge_is : c.merge.result ≡ merge_asked (first_of (codes "merge") rows) =
    c.merge.ensures ∙ ap merge_asked (c.get_str.ensures ∙ first_value-rows (found_of c.args.run.now) (codes "merge")) in
    IfSome_then c.new.result c.new.ensures.some (λ options p. (p.0 ∙ workers_are, ap Some p.1 ∙ cut_is, p.2 ∙ merge_is))
