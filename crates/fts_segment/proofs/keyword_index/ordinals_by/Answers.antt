use Rattle.std.proofs.Common.{◌≡◌, ◌<◌, ◌++◌, ℕ, [], All, List, None, rules, length, get_or, map, replicate, take, drop, sym, subst, ap, ◌∙◌, arith}
use Rattle.std.proofs.Math.Seq.{take-append_seam}
use Rattle.std.proofs.lemmas.List.{length-map}
use Rattle.fts_pack.specs.ListRef.{listed}
use Rattle.fts_segment.specs.Keywords.{with_ordinal}
use Rattle.fts_segment.proofs.OrdinalsLemmas.{all_below, below, keyed_within, length-with_ordinal, none_below, with_next}
use Rattle.fts_segment.proofs.keyword_index.ordinals_by.Goals as goal

pub loop-ordinal-init : goal.loop-ordinal-init
loop-ordinal-init c = λ column size keyed.
    c.in_ok-ordinals.ensures.items_if_clones_equal (λ y made. search rules) ∙ ap (λ n. replicate n None) (sym size) ∙ none_below column

pub set_ordinals_of-requires : goal.set_ordinals_of-requires
set_ordinals_of-requires c =
    let lists = c.args.lists.now in
    let column = c.requires.0 in
    let k = c.loop-ordinal.ordinal in
    let size : length c.deref_mut.result.now ≡ length column =
    ap length (c.deref_mut.ensures.value ∙ c.loop-ordinal.invariant column c.requires.1 c.requires.2) ∙ length-map column (below k) in
    let there : get_or lists k [] ≡ listed c.get.result = sym c.get.ensures in
    let P : List ℕ → Type 0 = All (λ doc. doc < length c.deref_mut.result.now) in
    subst P there (keyed_within column lists k (length c.deref_mut.result.now) c.requires.2 (omega (arith, c.loop-ordinal-test.true, c.len-ordinal-end.ensures)) size)

pub loop-ordinal-preserved : goal.loop-ordinal-preserved
loop-ordinal-preserved c = λ column same keyed.
    let lists = c.args.lists.now in
    let k = c.loop-ordinal.ordinal in
    let old = c.loop-ordinal.ordinals in
    let new = c.set_ordinals_of.new.ordinals in
    let there : get_or lists k [] ≡ listed c.get.result = sym c.get.ensures in
    let size : old.len ≡ length new =
    omega (
      arith,
      old.ok.0,
      ap length c.deref_mut.ensures.value,
      ap length c.set_ordinals_of.ensures,
      length-with_ordinal k c.deref_mut.result.now (listed c.get.result),
    ) in
    let all = new ++ drop (length new) old.items in
    ap (λ n. take n all) size ∙ take-append_seam new (drop (length new) old.items) ∙ c.set_ordinals_of.ensures
    ∙ ap (λ os. with_ordinal k os (listed c.get.result)) (c.deref_mut.ensures.value ∙ c.loop-ordinal.invariant column same keyed)
    ∙ ap (with_ordinal k (map (below k) column)) (sym there) ∙ with_next column lists k keyed (omega (arith, c.loop-ordinal-test.true, c.len-ordinal-end.ensures))

pub returns : goal.returns
returns c = λ column same keyed. c.loop-ordinal.invariant column same keyed ∙ all_below column c.loop-ordinal.ordinal
    (λ doc x at. let found = keyed.whole doc x at in omega (arith, found.1, found.2, c.loop-ordinal-test.false, c.len-ordinal-end.ensures))
