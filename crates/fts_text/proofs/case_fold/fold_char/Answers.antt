use Rattle.std.proofs.Common.{◌<◌, arith, sym, ◌∙◌}
use Rattle.std.proofs.lemmas.Bool.Decides.{nat_tests}
use Rattle.unicode.proofs.CaseFoldingLemmas.{simple_fold-ascii}
use Rattle.fts_text.proofs.case_fold.fold_char.Goals as goal

pub returns-then-is_ascii : goal.returns-then-is_ascii
returns-then-is_ascii c =
    let below : c.args.c < 128 = grind (arith, nat_tests) in
    c.to_ascii_lowercase.ensures.value ∙ sym (simple_fold-ascii c.args.c below)
