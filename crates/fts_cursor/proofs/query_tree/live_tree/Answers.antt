-- Where all bits are set, all are live; else the set of bits has the documents whose bit is set.
use Rattle.std.proofs.Common.{◌≡◌, ℕ, ◌∙◌, ap, false, length, sym}
use Rattle.std.specs.List.{filter, range_with_len}
use Rattle.std.proofs.lemmas.List.{get_or_past}
use Rattle.fts_model.specs.QueryValues.{query_value}
use Rattle.fts_postings.specs.Sets.{has}
use Rattle.fts_sets.proofs.SetLemmas.{filter-agree, has-passing}
use Rattle.fts_cursor.specs.Hits.{is_live}
use Rattle.fts_cursor.specs.TreeValues.{TreeValue}
use Rattle.std.proofs.lemmas.Result.{IfOk-weaker}
use Rattle.fts_cursor.proofs.BoolHits.{all_live}
use Rattle.fts_cursor.proofs.OpensLemmas.{opens_walked}
use Rattle.fts_cursor.proofs.SplitLemmas.{both_of}
use Rattle.fts_cursor.proofs.query_tree.live_tree.Goals as goal

pub returns-then-is_all_set-clause-hits : goal.returns-then-is_all_set-clause-hits
returns-then-is_all_set-clause-hits c = c.in_ok-tree.ensures.hits
    ∙ all_live c.args.segment.now c.args.live.now (query_value c.args.query.now) c.requires.bits (sym c.is_all_set.ensures ∙ c.if-is_all_set.true)

-- the set has the live documents
kept_is : (c : goal.After-filtered) → (d : ℕ) → has c.with.new.self d ≡ is_live c.args.live.now d
kept_is c d =
    let live = c.args.live.now in
    ap (λ xs. has xs d) (c.in_ok-with.ensures.kept ∙ ap (filter (is_live live)) (c.every-set.ensures ∙ ap (range_with_len 0) (c.docs.ensures.len ∙ sym c.requires.bits)))
    ∙ has-passing (is_live live) (length live) d (λ past. get_or_past live d false past)

pub returns-clause-hits : goal.returns-clause-hits
returns-clause-hits c =
    let tree = c.in_ok-tree.tree.remaining in
    IfOk-weaker c.filtered.result _ _ (λ (t : TreeValue) is. is ∙ filter-agree (has c.with.new.self) (is_live c.args.live.now) tree (kept_is c)
    ∙ ap (filter (is_live c.args.live.now)) c.in_ok-tree.ensures.hits) c.filtered.ensures.remaining

pub returns-clause-opens : goal.returns-clause-opens
returns-clause-opens c =
    let tree = c.in_ok-tree.tree.remaining in
    both_of c.filtered.result _ _ _ (λ t walked is. opens_walked c.args.segment.now (query_value c.args.query.now) (is_live c.args.live.now)
    c.in_ok-tree.tree.standing t.standing c.in_ok-tree.ensures.opens walked
    (is ∙ filter-agree (has c.with.new.self) (is_live c.args.live.now) tree (kept_is c))) c.filtered.ensures.walked c.filtered.ensures.remaining
