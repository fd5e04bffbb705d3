-- A test shows it of each.
use Rattle.std.proofs.Common.{◌≡◌, ◌<◌, ◌&&◌, true, nat_lt, sym, get_or, arith, ◌∙◌}
use Rattle.std.proofs.lemmas.Bool.{and_parts}
use Rattle.std.proofs.lemmas.Bool.Decides.{nat_tests}
use Rattle.fts_sets.specs.Leaves.{all_have}
use Rattle.fts_sets.proofs.retain.are_first.Goals as goal

pub returns-then-show_below : goal.returns-then-show_below
returns-then-show_below c = λ _ k d within.
    let doc = get_or c.args.docs.now k d in
    let low : nat_lt doc c.args.count ≡ true =
    (and_parts (nat_lt doc c.args.count) (all_have c.args.leaves.now doc) (sym (c.show_below.ensures c.if-show_below.true doc) ∙ c.requires k d within)).0 in
    grind (arith, nat_tests)
