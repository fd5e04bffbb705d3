-- The numbers before the index are below the number.
use Rattle.std.proofs.Common.{Ok, Err, arith}
use Rattle.std.proofs.lemmas.List.Sorted.{searched}
use Rattle.fts_segment.proofs.BetweenLemmas.{IsCut-found, rising}
use Rattle.fts_segment.proofs.binary_search.lower_bound.Goals as goal

pub returns-in-Ok : goal.returns-in-Ok
returns-in-Ok c =
    let xs = c.args.numbers.now in
    let s = searched xs c.args.number (Ok c.in-Ok.place) c.in-Ok.ensures.position (rising xs c.requires) in
    IsCut-found xs c.args.number c.in-Ok.place c.requires s.0 s.1

pub returns-in-Err : goal.returns-in-Err
returns-in-Err c =
    let xs = c.args.numbers.now in
    let s = searched xs c.args.number (Err c.in-Err.place) c.in-Err.ensures.position (rising xs c.requires) in
    record { within = s.0; before = s.1; behind = λ k more inside. omega (arith, s.2 k more inside) }
