use Rattle.std.proofs.Common.{rules, ◌∙◌, sym, ap}
use Rattle.fts_model.specs.QueryValues.{query_value}
use Rattle.fts_collect.proofs.OpeningsLemmas.{musts-length}
use Rattle.fts_collect.proofs.collector.musts_of.Goals as goal

pub returns-in-Bool : goal.returns-in-Bool
returns-in-Bool c = λ terms has.
    let n = musts-length c.in-Bool.must c.in-Bool.must_not c.in-Bool.should terms (sym (ap query_value c.in-Bool.is) ∙ has) in
    search rules
