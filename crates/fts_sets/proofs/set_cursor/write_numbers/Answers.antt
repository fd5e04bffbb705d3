-- A number more is written.
use Rattle.std.proofs.Common.{◌+◌, ◌∷◌, ◌++◌, [], ap, sym, ◌∙◌, rules, ◌<◌, length}
use Rattle.std.proofs.lemmas.List.{take_more_set}
use Rattle.fts_postings.proofs.PassingLemmas.{range-append}
use Rattle.fts_sets.proofs.set_cursor.write_numbers.Goals as goal

pub loop-place-preserved : goal.loop-place-preserved
loop-place-preserved c =
    let l = c.loop-place in
    let number = c.args.from + l.place in
    let inside : l.place < length l.out = search rules in
    take_more_set l.out l.place number inside ∙ ap (λ xs. xs ++ number ∷ []) l.invariant ∙ sym (range-append c.args.from l.place 1)
