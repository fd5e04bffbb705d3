-- What is found of lists that were split is found of all.
use Rattle.std.proofs.Common.{◌≡◌, [], arith, length, rules, subst}
use Rattle.std.proofs.lemmas.Bool.{eqb-true}
use Rattle.std.proofs.lemmas.List.{nil_from_length}
use Rattle.std.proofs.lemmas.Result.{IfOk-weaker}
use Rattle.fts_pack.specs.ListRef.{listed}
use Rattle.fts_cursor.specs.Splits.{FindsAll, FindsSplit, IsSplit}
use Rattle.fts_cursor.specs.TreeValues.{TreeValue}
use Rattle.fts_cursor.proofs.LeadingLemmas.{lists_of}
use Rattle.fts_cursor.proofs.term_lists.of_lists.Goals as goal

pub returns : goal.returns
returns c =
    let s = c.in_ok-bits.field-0 in
    IfOk-weaker c.some_told.result _ (λ (t : TreeValue). FindsAll (listed c.args.shortest) (lists_of c.args.others.now) t.standing)
    (λ (t : TreeValue) h. subst (λ rest. FindsSplit (listed c.args.shortest) s.bits.items (lists_of rest) s.opened t.standing) c.deref.ensures.value h
    (lists_of c.args.others.now) c.in_ok-bits.ensures.split) c.some_told.ensures

pub returns-then-is_empty : goal.returns-then-is_empty
returns-then-is_empty c = c.untold.ensures

pub returns-in-Some : goal.returns-in-Some
returns-in-Some c =
    let s = c.in_ok-bits.field-0 in
    let size : length s.rest.items ≡ 0 = search (rules, eqb-true) in
    let none : s.rest.items ≡ [] = nil_from_length s.rest.items size in
    IfOk-weaker c.all_told.result _ (λ (t : TreeValue). FindsAll (listed c.args.shortest) (lists_of c.args.others.now) t.standing)
    (λ (t : TreeValue) h. h (lists_of c.args.others.now) (subst (λ rest. IsSplit (lists_of c.args.others.now) s.bits.items (lists_of rest) s.opened) none
    c.in_ok-bits.ensures.split)) c.all_told.ensures

pub all_told-requires : goal.all_told-requires
all_told-requires c = record { rises = c.requires; few = c.in-Some.ensures.few; tells = c.in-Some.ensures.tells }

pub some_told-requires-clause-some : goal.some_told-requires-clause-some
some_told-requires-clause-some c = grind (arith, c.is_empty.ensures, c.if-is_empty.false)
