use Rattle.std.proofs.Common.{◌<◌, ◌≤◌, ◌+◌, ℕ, List, [], length, map, drop, sym, ap, ◌∙◌, arith}
use Rattle.std.proofs.lemmas.List.{drop_all, drop_more}
use Rattle.serde_json.specs.Data.{Data, array, item, string}
use Rattle.serde_json.specs.View.{items_of}
use Rattle.serde_json.proofs.Views.{view-Array}
use Rattle.fts_model.proofs.ItemsLemmas.{items_alone, items_before, items_pushed}
use Rattle.fts_model.proofs.document.json_of_texts.Goals as goal

pub loop-number-preserved : goal.loop-number-preserved
loop-number-preserved c =
    let texts = c.args.texts.now in
    let n = c.loop-number.number in
    let items = c.loop-number.items.items in
    let within : n < length texts = omega (arith, c.loop-number-test.true, c.len-number-end.ensures) in
    rw c.in_ok-push.ensures.items
    (items_pushed items _ _
    ∙ ap (λ (d : Data). items_before items (item d (items_of (map string (drop (n + 1) texts))))) (c.in_ok-json_of_text.ensures ∙ ap string c.get.ensures)
    ∙ ap (λ (ts : List (List ℕ)). items_before items (items_of (map string ts))) (sym (drop_more texts n [] within))
    ∙ c.loop-number.invariant)

pub returns : goal.returns
returns c =
    let texts = c.args.texts.now in
    let items = c.loop-number.items.items in
    let done : length texts ≤ c.loop-number.number = omega (arith, c.loop-number-test.false, c.len-number-end.ensures) in
    view-Array c.loop-number.items
    ∙ ap array (sym (items_alone items) ∙ ap (λ (ts : List (List ℕ)). items_before items (items_of (map string ts)))
    (sym (drop_all c.loop-number.number texts done)) ∙ c.loop-number.invariant)
