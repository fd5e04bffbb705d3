-- The documents of the lists, or those of the column within the bounds.
use Rattle.std.specs.List.{filter}
use Rattle.std.proofs.Common.{◌≡◌, ◌≤◌, length, min, ap, subst, sym, ◌∙◌, arith}
use Rattle.std.proofs.lemmas.Result.{IfOk-weaker}
use Rattle.fts_pack.specs.ListRange.{lists_in_range}
use Rattle.fts_pack.specs.Documents.{block_count}
use Rattle.fts_sets.specs.Leaves.{has_within}
use Rattle.fts_cursor.specs.Standing.{at_most}
use Rattle.fts_cursor.specs.TreeValues.{TreeValue}
use Rattle.fts_postings.specs.Windows.{passing}
use Rattle.fts_cursor.proofs.CountLemmas.{count-within}
use Rattle.fts_cursor.proofs.ListedLemmas.{lists_union, lists_within}
use Rattle.fts_cursor.proofs.MostLemmas.{block_count-union, opens_column, opens_lists}
use Rattle.fts_cursor.proofs.SplitLemmas.{both_of}
use Rattle.fts_cursor.proofs.range.between.Goals as goal

pub returns-then-documents-fewest_scanned-clause-remaining : goal.returns-then-documents-fewest_scanned-clause-remaining
returns-then-documents-fewest_scanned-clause-remaining c =
    let listed = c.in_ok-listed.ensures in
    IfOk-weaker c.listed.result _ _ (λ t is. is ∙ lists_within c.args.column.now c.args.low c.args.high (lists_in_range c.args.lists) c.requires.lists c.in_ok-listed.listed
    listed.rises listed.sound listed.whole
    ∙ ap (passing (has_within c.args.low c.args.high c.args.column.now) 0) c.requires.size) c.listed.ensures.remaining

pub new-requires : goal.new-requires
new-requires c =
    let column = c.args.column.now in
    let test = has_within c.args.low c.args.high column in
    c.requires.documents ∙ sym (ap length (c.in_ok-with.ensures.kept ∙ ap (filter test) c.every-set.ensures)
    ∙ ap (λ n. length (passing test 0 n)) (sym c.requires.size) ∙ count-within c.args.low c.args.high column)

pub returns-clause-remaining : goal.returns-clause-remaining
returns-clause-remaining c =
    let test = has_within c.args.low c.args.high c.args.column.now in
    IfOk-weaker c.scan.result _ _ (λ t is. is ∙ c.new.ensures ∙ c.in_ok-with.ensures.kept ∙ ap (filter test) c.every-set.ensures) c.scan.ensures.remaining

pub returns-then-documents-fewest_scanned-clause-opens : goal.returns-then-documents-fewest_scanned-clause-opens
returns-then-documents-fewest_scanned-clause-opens c =
    let listed = c.in_ok-listed.ensures in
    let documents = c.in_ok-listed.listed in
    let lists = lists_in_range c.args.lists in
    let are = lists_within c.args.column.now c.args.low c.args.high lists c.requires.lists documents listed.rises listed.sound listed.whole in
    let size : length documents ≡ c.args.documents = ap length are ∙ count-within c.args.low c.args.high c.args.column.now ∙ sym c.requires.documents in
    let many : block_count (length documents) ≤ c.in_ok-listed.opened =
    subst (λ xs. block_count (length xs) ≤ c.in_ok-listed.opened) (sym (lists_union documents lists listed.rises listed.sound listed.whole))
    (omega (arith, block_count-union lists, listed.opened)) in
    both_of c.listed.result _ _ _ (λ (t : TreeValue) remaining counts.
    let n : length t.remaining ≡ c.args.documents = ap length remaining ∙ size in
    let told : c.min.result ≡ min c.in_ok-listed.opened (length t.remaining) = c.min.ensures ∙ ap (min c.in_ok-listed.opened) (sym n) in
    opens_lists c.args.docs c.in_ok-listed.opened t.standing (omega (arith, n, c.if-documents-fewest_scanned.true, c.fewest_scanned.ensures)) (omega (arith, many, n, size)) (counts.0 ∙ told)
    (counts.1 ∙ ap at_most told))
    c.listed.ensures.remaining c.listed.ensures.counts

pub returns-clause-opens : goal.returns-clause-opens
returns-clause-opens c =
    let column = c.args.column.now in
    let test = has_within c.args.low c.args.high column in
    let size : length c.new.result ≡ c.args.documents =
    ap length (c.new.ensures ∙ c.in_ok-with.ensures.kept ∙ ap (filter test) c.every-set.ensures) ∙ ap (λ n. length (passing test 0 n)) (sym c.requires.size)
    ∙ count-within c.args.low c.args.high column ∙ sym c.requires.documents in
    both_of c.scan.result _ _ _ (λ (t : TreeValue) remaining counts. opens_column c.args.docs t.standing
    (omega (arith, ap length remaining, size, c.if-documents-fewest_scanned.false, c.fewest_scanned.ensures)) counts.1)
    c.scan.ensures.remaining c.scan.ensures.counts
