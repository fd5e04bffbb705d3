use Rattle.std.proofs.Common.{◌∙◌, arith, length}
use Rattle.serde_json.specs.View.{items_view}
use Rattle.fts_model.specs.Documents.{strings_in}
use Rattle.fts_model.proofs.ListsLemmas.{bytes_behind-is, list_fine, list_long, list_many, list_none, strings_count}
use Rattle.fts_model.proofs.document.fault_of_list.Goals as goal

pub returns-in_default : goal.returns-in_default
returns-in_default c =
    let items = c.args.items.now in
    list_none (strings_in (items_view items)) (c.in_default.ensures ∙ bytes_behind-is 0 (items_view items) (omega arith))

pub returns-then-items-gt-MOST_TEXTS : goal.returns-then-items-gt-MOST_TEXTS
returns-then-items-gt-MOST_TEXTS c =
    let items = c.args.items.now in
    list_many (strings_in (items_view items)) c.in-Some.bytes (length items) (c.in-Some.ensures ∙ bytes_behind-is 0 (items_view items) (omega arith))
    (strings_count items) c.if-items-gt-MOST_TEXTS.true

pub returns-then-bytes-gt-LONGEST_TEXT : goal.returns-then-bytes-gt-LONGEST_TEXT
returns-then-bytes-gt-LONGEST_TEXT c =
    let items = c.args.items.now in
    list_long (strings_in (items_view items)) c.in-Some.bytes (length items) (c.in-Some.ensures ∙ bytes_behind-is 0 (items_view items) (omega arith))
    (strings_count items) c.if-items-gt-MOST_TEXTS.false c.if-bytes-gt-LONGEST_TEXT.true

pub returns : goal.returns
returns c =
    let items = c.args.items.now in
    list_fine (strings_in (items_view items)) c.in-Some.bytes (length items) (c.in-Some.ensures ∙ bytes_behind-is 0 (items_view items) (omega arith))
    (strings_count items) c.if-items-gt-MOST_TEXTS.false c.if-bytes-gt-LONGEST_TEXT.false
