use Rattle.std.proofs.Common.{◌≡◌, ◌==◌, false, length, sym, ◌∙◌, arith}
use Rattle.std.proofs.lemmas.Bool.{eqb-false}
use Rattle.serde_json.specs.View.{items_view}
use Rattle.fts_model.specs.Documents.{strings_in}
use Rattle.fts_model.proofs.ListsLemmas.{list_value, strings_count}
use Rattle.fts_model.proofs.document.list_of.Goals as goal

pub returns-clause-value : goal.returns-clause-value
returns-clause-value c =
    let items = c.args.items.now in
    let isnt : (length items == 0) ≡ false = sym c.is_empty.ensures ∙ c.if-is_empty.false in
    (list_value (strings_in (items_view items)) (length items) c.in_ok-texts_of.field-0 c.requires (strings_count items)
    (omega (arith, eqb-false (length items) 0 isnt)) c.in_ok-texts_of.ensures).0

pub returns-clause-in_range : goal.returns-clause-in_range
returns-clause-in_range c =
    let items = c.args.items.now in
    let isnt : (length items == 0) ≡ false = sym c.is_empty.ensures ∙ c.if-is_empty.false in
    (list_value (strings_in (items_view items)) (length items) c.in_ok-texts_of.field-0 c.requires (strings_count items)
    (omega (arith, eqb-false (length items) 0 isnt)) c.in_ok-texts_of.ensures).1
