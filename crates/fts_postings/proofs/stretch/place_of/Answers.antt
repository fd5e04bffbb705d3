-- 16 numbers are compared at once; the first that reaches the target is found, or none.
use Rattle.std.proofs.Common.{drop, take, arith}
use Rattle.std.proofs.lemmas.List.{length-drop, length-take-le}
use Rattle.fts_postings.proofs.PlacesLemmas.{none_reached, reached-are, reached_place}
use Rattle.fts_postings.proofs.stretch.place_of.Goals as goal

pub returns : goal.returns
returns c =
    let numbers = c.args.numbers.now in
    let from = c.args.from in
    let size = length-take-le 16 (drop from numbers) (omega (arith, c.requires.within, c.if-to-from-lt16.false, length-drop from numbers)) in
    reached_place numbers from c.args.to c.args.target _ (omega (arith, c.if-to-from-lt16.false)) c.requires.within
    (reached-are (take 16 (drop from numbers)) c.args.target size) (omega (arith, c.if-reached-eq0.false))

pub returns-then-reached-eq0 : goal.returns-then-reached-eq0
returns-then-reached-eq0 c =
    let numbers = c.args.numbers.now in
    let from = c.args.from in
    let size = length-take-le 16 (drop from numbers) (omega (arith, c.requires.within, c.if-to-from-lt16.false, length-drop from numbers)) in
    none_reached numbers from c.args.to c.args.target _ (omega (arith, c.if-to-from-lt16.false)) c.requires.within
    (reached-are (take 16 (drop from numbers)) c.args.target size) c.if-reached-eq0.true c.place_between-then-reached-eq0.result
    c.place_between-then-reached-eq0.ensures
