use Rattle.std.proofs.Common.{◌≡◌, List, [], suc, map, length, get_or, sym, ap, subst, arith}
use Rattle.std.specs.List.{enumerate_from}
use Rattle.std.specs.List.Sorted.{IsPermutation}
use Rattle.std.proofs.lemmas.List.{get_or_default, length-map}
use Rattle.std.proofs.lemmas.Option.{slice_get_within}
use Rattle.fts_segment.specs.Sorted.{IsInOrder, with_name}
use Rattle.fts_segment.proofs.TermOrderLemmas.{Numbered, shown, name_of, right_number, some_with, IsSorting-next, Stand-sorted}
use Rattle.fts_segment.proofs.sorted_names.sort_names.Goals as goal

pub index_mut-requires : goal.index_mut-requires
index_mut-requires c =
    let items = c.deref-name-items.result.now in
    let i = c.loop-name.name-index in
    let d : Numbered = (record { ref_ptr = (0, 0); now = [] }, 0) in
    let e = get_or items i d in
    let P : List Numbered → Type 0 = λ es. IsPermutation (enumerate_from 0 c.args.names.now) (map shown es) in
    let moved = subst P (sym c.deref-name-items.ensures.value) c.in_ok-order.ensures.all in
    let right = right_number c.args.names.now items i e moved c.loop-name-test.true (get_or_default items i d e c.loop-name-test.true) in
    omega (arith, slice_get_within c.args.names.now e.1 e.0.now right, c.loop-name.invariant.count, c.loop-name.ordinals.ok.0)

pub loop-name-preserved : goal.loop-name-preserved
loop-name-preserved c =
    let items = c.deref-name-items.result.now in
    let i = c.loop-name.name-index in
    let d : Numbered = (record { ref_ptr = (0, 0); now = [] }, 0) in
    let e = get_or items i d in
    let P : List Numbered → Type 0 = λ es. IsPermutation (enumerate_from 0 c.args.names.now) (map shown es) in
    let Q : List Numbered → Type 0 = λ es. IsInOrder (map name_of es) in
    let moved = subst P (sym c.deref-name-items.ensures.value) c.in_ok-order.ensures.all in
    let in_order = subst Q (sym c.deref-name-items.ensures.value) c.in_ok-order.ensures.in_order in
    let is = get_or_default items i d e c.loop-name-test.true in
    let right = right_number c.args.names.now items i e moved c.loop-name-test.true is in
    let different = map (λ n. n.now) c.loop-name.different.items in
    let last = c.in-Ok.ordinal in
    let long : suc last ≡ length (with_name different e.0.now) =
    omega (
      arith,
      c.len-in-loop-name.ensures,
      c.push_different.new.names.ok.0,
      length-map c.push_different.new.names.items (λ n. n.now),
      ap length
          c.in_ok-push_different.ensures,
      some_with different e.0.now,
    ) in
    rw c.in_ok-push_different.ensures (IsSorting-next c.args.names.now items i e different c.loop-name.ordinals.items last c.loop-name-test.true is right
    in_order long c.loop-name.invariant)

pub returns-clause-ordinals : goal.returns-clause-ordinals
returns-clause-ordinals c =
    let items = c.deref-name-items.result.now in
    let P : List Numbered → Type 0 = λ es. IsPermutation (enumerate_from 0 c.args.names.now) (map shown es) in
    let moved = subst P (sym c.deref-name-items.ensures.value) c.in_ok-order.ensures.all in
    Stand-sorted c.args.names.now items c.loop-name.name-index (map (λ n. n.now) c.loop-name.different.items) c.loop-name.ordinals.items moved (omega arith)
    c.loop-name.invariant
