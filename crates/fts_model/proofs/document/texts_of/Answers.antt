use Rattle.std.proofs.Common.{◌≡◌, ◌<◌, ◌+◌, ◌++◌, ◌∷◌, ℕ, List, [], Some, length, drop, sym, ap, ◌∙◌, arith, append-nil, option_map}
use Rattle.std.proofs.lemmas.List.{drop_all, drop_more}
use Rattle.serde_json.specs.View.{items_view, view}
use Rattle.serde_json.specs.declared.value.Value.{Value}
use Rattle.fts_model.specs.Documents.{strings_in}
use Rattle.fts_model.proofs.ListsLemmas.{texts_step}
use Rattle.fts_model.proofs.document.texts_of.Goals as goal

pub loop-item-init : goal.loop-item-init
loop-item-init c = λ ts h.
    let start : List (List ℕ) = c.in_ok-texts.texts in
    ap (λ (xs : List (List ℕ)). option_map (λ rest. xs ++ rest) (strings_in (items_view c.args.items.now))) c.in_ok-texts.ensures
    ∙ ap (option_map (λ rest. rest)) h

pub loop-item-preserved : goal.loop-item-preserved
loop-item-preserved c = λ ts h.
    let items = c.args.items.now in
    let i = c.loop-item.item-index in
    let json = c.item-item.result in
    let within : i < length items = omega arith in
    let next : drop i items ≡ json ∷ drop (i + 1) items = drop_more items i json within ∙ ap (λ (v : Value). v ∷ drop (i + 1) items) (sym c.item-item.is) in
    texts_step c.loop-item.texts c.push_text.new.texts (view json) (items_view (drop (i + 1) items)) ts
    (ap (λ vs. option_map (λ rest. c.loop-item.texts ++ rest) (strings_in (items_view vs))) (sym next) ∙ c.loop-item.invariant ts h) c.in_ok-push_text.ensures

pub returns : goal.returns
returns c = λ ts h.
    let texts = c.loop-item.texts in
    let all : Some (texts ++ []) ≡ Some ts =
    ap (λ vs. option_map (λ rest. texts ++ rest) (strings_in (items_view vs)))
    (sym (drop_all c.loop-item.item-index c.args.items.now c.loop-item-test.false)) ∙ c.loop-item.invariant ts h in
    sym (append-nil texts) ∙ (let same : texts ++ [] ≡ ts = cc in same)
