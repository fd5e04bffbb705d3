-- A list goes after the others, and each of its blocks has a document.
use Rattle.std.proofs.Common.{[], ◌≡◌, ◌+◌, ◌++◌, ◌≤◌, ◌<◌, ◌∷◌, List, ℕ, ap, get_or, length, sum_by, take, sym, ◌∙◌, arith}
use Rattle.std.specs.List.{flat_map}
use Rattle.std.proofs.lemmas.List.{append-nil, length-append, take_all, take_more}
use Rattle.std.proofs.lemmas.List.Sums.{sum_by_more}
use Rattle.std.proofs.lemmas.Grind.{flat_map-append}
use Rattle.fts_pack.specs.ListRange.{lists_in_range}
use Rattle.fts_pack.specs.ListRef.{listed}
use Rattle.fts_pack.specs.Documents.{block_count}
use Rattle.fts_cursor.proofs.list_union.joined.Goals.{In_ok-opened}
use Rattle.fts_cursor.proofs.list_union.joined.Goals as goal

abbrev all : List (List ℕ) → List ℕ
all lists = flat_map (λ list. list) lists

abbrev blocks : List ℕ → ℕ
blocks list = block_count (length list)

-- no more blocks than documents lie after the others
few : (c : In_ok-opened) → c.loop-index.opened + c.in_ok-opened.field-0 ≤ length c.push_list.new.documents.items
few c =
    let list = listed c.get.result in
    let size : length c.push_list.new.documents.items ≡ length c.loop-index.documents.items + length list =
    ap length c.in_ok-opened.ensures.documents ∙ length-append c.loop-index.documents.items list in
    omega (arith, c.loop-index.invariant.few, size, c.in_ok-opened.ensures.opened)

pub loop-index-preserved : goal.loop-index-preserved
loop-index-preserved c =
    let lists = lists_in_range c.args.lists in
    let i = c.loop-index.index in
    let x = listed c.get.result in
    let inside : i < length lists = omega (arith, c.loop-index-test.true, c.len-index-end.ensures) in
    record {
      documents =
          c.in_ok-opened.ensures.documents ∙ ap (λ ds. ds ++ x) c.loop-index.invariant.documents
          ∙ sym (ap all (take_more lists i [] inside) ∙ flat_map-append (λ list. list) (take i lists) (get_or lists i [] ∷ [])
          ∙ ap (λ ys. all (take i lists) ++ ys) (append-nil (get_or lists i []) ∙ sym c.get.ensures));
      opened = omega (
        arith,
        c.loop-index.invariant.opened,
        c.in_ok-opened.ensures.opened,
        sum_by_more blocks lists i [] inside,
        ap blocks c.get.ensures,
      );
      few = few c;
    }

pub returns-clause-documents : goal.returns-clause-documents
returns-clause-documents c =
    let lists = lists_in_range c.args.lists in
    let whole : length lists ≤ c.loop-index.index = omega (arith, c.loop-index-test.false, c.len-index-end.ensures) in
    c.loop-index.invariant.documents ∙ ap all (take_all c.loop-index.index lists whole)

pub returns-clause-opened : goal.returns-clause-opened
returns-clause-opened c =
    let lists = lists_in_range c.args.lists in
    let whole : length lists ≤ c.loop-index.index = omega (arith, c.loop-index-test.false, c.len-index-end.ensures) in
    c.loop-index.invariant.opened ∙ ap (sum_by blocks) (take_all c.loop-index.index lists whole)
