-- What a Boolean query is, by the queries in it.
use Rattle.std.proofs.Common.{◌≡◌, ℕ, ◌+◌, ◌*◌, ◌<◌, ◌&&◌, false, true, not, nat_lt, None, List, [], length, map, refl, sym, ap, subst, ◌∙◌, arith}
use Rattle.std.specs.List.{list_all, range_with_len}
use Rattle.std.proofs.lemmas.Bool.{eqb-true}
use Rattle.std.proofs.lemmas.List.{nil_from_length}
use Rattle.std.proofs.lemmas.Result.{IfOk-weaker}
use Rattle.fts_model.specs.declared.query.Query.{Query}
use Rattle.fts_model.specs.declared.schema.Field.{Field}
use Rattle.fts_model.specs.QueryValues.{query_value}
use Rattle.fts_model.proofs.QueriesBoolean.{fits_in, matches_at_bool, matches_in, value_at_bool}
use Rattle.fts_cursor.specs.Builds.{is_term}
use Rattle.fts_cursor.specs.Musts.{AreMusts}
use Rattle.fts_cursor.specs.Tests.{hits_of_each}
use Rattle.fts_cursor.specs.TreeValues.{TreeValue, remains}
use Rattle.fts_pack.specs.Documents.{Rises}
use Rattle.fts_pack.proofs.DocumentsLemmas.{Rises-from_increasing}
use Rattle.fts_postings.specs.Bounds.{Bound, most_at}
use Rattle.fts_postings.specs.Sets.{has, in_all, in_some, union}
use Rattle.std.proofs.Math.Bool.{and-true}
use Rattle.fts_cursor.proofs.BoolHits.{IsBool, bool_apart, bool_kept, kept_by, only_one, single_hits, some_from}
use Rattle.fts_cursor.proofs.DepthLemmas.{depth, depth_at, depth_of, one_of_all, parts_fall}
use Rattle.fts_cursor.proofs.HitsLemmas.{hits_of}
use Rattle.fts_cursor.proofs.OpensLemmas.{Keeps, keeps_musts, keeps_shoulds, keeps_terms, nothing_found, opens_apart, opens_filtered, opens_kept, parts_fit}
use Rattle.fts_cursor.proofs.MustsLemmas.{AreMusts-next, AreMusts-none, AreMusts-part, AreMusts-told, filtered_has, musts_common, musts_found, set_apart}
use Rattle.fts_cursor.proofs.query_tree.+build.Goals.{tree_of-then-is_empty+in_ok-kept-in-Bool, tree_of-else-is_empty+then-are_terms+in_ok-kept-in-Bool-2}
use Rattle.fts_cursor.proofs.query_tree.+build.Goals.{tree_of-else-is_empty+else-are_terms+in_ok-kept-in-Bool-3, tree_of-In-Bool}
use Rattle.fts_cursor.proofs.query_tree.+build.Goals.{tree_of-Joined-is_empty}
use Rattle.fts_cursor.proofs.ShouldsLemmas.{AreShoulds-next, AreShoulds-part, AreShoulds-told, shoulds_found}
use Rattle.fts_cursor.proofs.SplitLemmas.{both_of}
use Rattle.fts_cursor.proofs.query_tree.+build.Goals.{musts_of-then-branch, musts_of-else-branch+in_ok-tree_of+in_ok-push}
use Rattle.fts_cursor.proofs.query_tree.+build.Goals.{shoulds_of-in-Some+in_ok-push, shoulds_of-in_default+in_ok-tree_of+in_ok-push-2}
use Rattle.fts_cursor.proofs.query_tree.+build.Goals as goal

-- what lies in a Boolean query is less deep, and fits
record Lies (t : ℕ) (schema : List Field) (queries : List Query) : Type 0 where
  falls : 3 * depth_of queries + 2 < t
  fits : list_all (fits_in schema) queries ≡ true

lie : (t : _) (c : tree_of-In-Bool t) → Lies t c.args.segment.now.schema c.in-Bool.must.items × Lies t c.args.segment.now.schema c.in-Bool.must_not.items
    × Lies t c.args.segment.now.schema c.in-Bool.should.items
lie t c =
    let falls = parts_fall t c.args.query.now c.in-Bool.must c.in-Bool.must_not c.in-Bool.should c.in-Bool.is (omega (arith, c.decreases)) in
    let fit = parts_fit c.args.segment.now.schema c.args.query.now c.in-Bool.must c.in-Bool.must_not c.in-Bool.should c.in-Bool.is c.requires.fits in
    (record { falls = falls.0; fits = fit.0 }, record { falls = falls.1; fits = fit.1 }, record { falls = falls.2; fits = fit.2 })

pub tree_of-any_of-requires : goal.tree_of-any_of-requires
tree_of-any_of-requires t c =
    let part = (lie t (goal.at.tree_of-any_of-requires t c).In-Bool).2 in
    (rw c.deref-then-is_empty.ensures.value part.falls, ap (list_all (fits_in c.args.segment.now.schema)) c.deref-then-is_empty.ensures.value ∙ part.fits)

pub tree_of-all_of-requires : goal.tree_of-all_of-requires
tree_of-all_of-requires t c =
    let part = (lie t (goal.at.tree_of-all_of-requires t c).In-Bool).0 in
    let some : 0 < length c.in-Bool.must.items = omega (arith, some_from c.in-Bool.must.len (sym c.is_empty.ensures ∙ c.if-is_empty.false)) in (
      rw c.deref-else-are_terms.ensures.value part.falls,
      (rw c.deref-else-are_terms.ensures.value some, ap (list_all (fits_in c.args.segment.now.schema)) c.deref-else-are_terms.ensures.value ∙ part.fits),
    )

pub tree_of-any_of-requires-in-Bool : goal.tree_of-any_of-requires-in-Bool
tree_of-any_of-requires-in-Bool t c =
    let part = (lie t (goal.at.tree_of-any_of-requires-in-Bool t c).In-Bool).1 in
    (rw c.deref-in-Bool-2.ensures.value part.falls, ap (list_all (fits_in c.args.segment.now.schema)) c.deref-in-Bool-2.ensures.value ∙ part.fits)

pub tree_of-set_without-requires : goal.tree_of-set_without-requires
tree_of-set_without-requires t c =
    let part = (lie t (goal.at.tree_of-set_without-requires t c).In-Bool).1 in
    ap (list_all (fits_in c.args.segment.now.schema)) c.deref-in-Bool.ensures.value ∙ part.fits

pub musts_of-tree_of-requires : goal.musts_of-tree_of-requires
musts_of-tree_of-requires t c =
    let falls = depth_at c.args.queries.now c.loop-query.query-index c.query-item.result c.loop-query-test.true c.query-item.is in
    let less : 3 * depth (query_value c.query-item.result) + 0 < t = omega (arith, falls, c.decreases) in (
      less,
      one_of_all (fits_in c.args.segment.now.schema) c.args.queries.now c.loop-query.query-index c.query-item.result c.requires.fits c.loop-query-test.true
          c.query-item.is,
    )

pub musts_of-keep_query-requires : goal.musts_of-keep_query-requires
musts_of-keep_query-requires t c =
    one_of_all (fits_in c.args.segment.now.schema) c.args.queries.now c.loop-query.query-index c.query-item.result c.requires.fits c.loop-query-test.true
    c.query-item.is

keeps : (t : _) (c : tree_of-Joined-is_empty t) → Keeps c.args.segment.now c.in-Bool.must.items c.in-Bool.should.items c.if-is_empty.kept
keeps t c =
    let segment = c.args.segment.now in
    let must = c.in-Bool.must.items in
    let should = c.in-Bool.should.items in
    elim c.if-is_empty.branch [
      | tree_of-then-is_empty+in_ok-kept-in-Bool w ↦
          let count : length must ≡ 0 = omega (arith, eqb-true c.in-Bool.must.len 0 (sym c.is_empty.ensures ∙ w.if-is_empty.true)) in
          let made = rw w.deref-then-is_empty.ensures.value at w.in_ok-kept-in-Bool.ensures in
          subst (Keeps segment must should) (sym w.kept-is)
          (keeps_shoulds segment must should w.in_ok-kept-in-Bool.kept (nil_from_length must count) made.hits made.alone made.none made.most)
      | tree_of-else-is_empty+then-are_terms+in_ok-kept-in-Bool-2 w ↦
          let some : 0 < length must = omega (arith, some_from c.in-Bool.must.len (sym c.is_empty.ensures ∙ w.if-is_empty.false)) in
          let made = rw w.deref-then-are_terms.ensures.value at w.in_ok-kept-in-Bool-2.ensures in
          let terms : list_all (λ q. is_term (query_value q)) must ≡ true =
          ap (list_all (λ q. is_term (query_value q))) (sym w.deref-else-is_empty.ensures.value) ∙ sym w.are_terms.ensures ∙ w.if-are_terms.true in
          subst (Keeps segment must should) (sym w.kept-is) (keeps_terms segment must should w.in_ok-kept-in-Bool-2.kept some terms made.remaining made.bound
          made.opened)
      | tree_of-else-is_empty+else-are_terms+in_ok-kept-in-Bool-3 w ↦
          let some : 0 < length must = omega (arith, some_from c.in-Bool.must.len (sym c.is_empty.ensures ∙ w.if-is_empty.false)) in
          let made = rw w.deref-else-are_terms.ensures.value at w.in_ok-kept-in-Bool-3.ensures in
          let mixed : list_all (λ q. is_term (query_value q)) must ≡ false =
          ap (list_all (λ q. is_term (query_value q))) (sym w.deref-else-is_empty.ensures.value) ∙ sym w.are_terms.ensures ∙ w.if-are_terms.false in
          subst (Keeps segment must should) (sym w.kept-is) (keeps_musts segment must should w.in_ok-kept-in-Bool-3.kept some mixed made.hits made.most)
    ]

pub tree_of-returns-then-is_empty-2-clause-hits : goal.tree_of-returns-then-is_empty-2-clause-hits
tree_of-returns-then-is_empty-2-clause-hits t c =
    let segment = c.args.segment.now in
    let bool : IsBool segment c.args.query.now c.in-Bool.must.items c.in-Bool.must_not.items c.in-Bool.should.items =
    λ document. ap (matches_in segment.schema document) c.in-Bool.is ∙ matches_at_bool segment.schema document c.in-Bool.must c.in-Bool.must_not
    c.in-Bool.should in
    let count : length c.in-Bool.must_not.items ≡ 0 =
    omega (arith, eqb-true c.in-Bool.must_not.len 0 (sym c.is_empty-in-Bool.ensures ∙ c.if-is_empty-2.true)) in
    bool_kept segment c.args.query.now c.in-Bool.must.items c.in-Bool.must_not.items c.in-Bool.should.items c.if-is_empty.kept.remaining bool
    (nil_from_length c.in-Bool.must_not.items count) (keeps t (goal.at.tree_of-returns-then-is_empty-2-clause-hits t c).Joined-is_empty).hits

pub tree_of-returns-then-is_empty-2-clause-opens : goal.tree_of-returns-then-is_empty-2-clause-opens
tree_of-returns-then-is_empty-2-clause-opens t c =
    let count : length c.in-Bool.must_not.items ≡ 0 =
    omega (arith, eqb-true c.in-Bool.must_not.len 0 (sym c.is_empty-in-Bool.ensures ∙ c.if-is_empty-2.true)) in
    opens_kept c.args.segment.now c.args.query.now c.in-Bool.must.items c.in-Bool.must_not.items c.in-Bool.should.items c.if-is_empty.kept
    (ap query_value c.in-Bool.is ∙ value_at_bool c.in-Bool.must c.in-Bool.must_not c.in-Bool.should) (nil_from_length c.in-Bool.must_not.items count)
    (keeps t (goal.at.tree_of-returns-then-is_empty-2-clause-opens t c).Joined-is_empty)

pub tree_of-returns-in-None-clause-hits : goal.tree_of-returns-in-None-clause-hits
tree_of-returns-in-None-clause-hits t c = c.nothing.ensures.remaining ∙ nothing_found c.args.segment.now c.args.query.now c.in-None.is

pub tree_of-returns-in_ok-dropped-in-Bool-clause-opens : goal.tree_of-returns-in_ok-dropped-in-Bool-clause-opens
tree_of-returns-in_ok-dropped-in-Bool-clause-opens t c =
    let segment = c.args.segment.now in
    let dropped = rw c.deref-in-Bool-2.ensures.value at c.in_ok-dropped-in-Bool.ensures.most in
    IfOk-weaker c.without.result _ _ (λ tree is. opens_apart segment c.args.query.now c.in-Bool.must.items c.in-Bool.must_not.items c.in-Bool.should.items tree
    (ap query_value c.in-Bool.is ∙ value_at_bool c.in-Bool.must c.in-Bool.must_not c.in-Bool.should)
    (omega (arith, some_from c.in-Bool.must_not.len (sym c.is_empty-in-Bool.ensures ∙ c.if-is_empty-2.false))) c.if-is_empty.kept
    c.in_ok-dropped-in-Bool.dropped (keeps t (goal.at.tree_of-returns-in_ok-dropped-in-Bool-clause-opens t c).Joined-is_empty) dropped is)
    c.without.ensures.most

pub tree_of-returns-in_ok-dropped-in-Bool-clause-hits : goal.tree_of-returns-in_ok-dropped-in-Bool-clause-hits
tree_of-returns-in_ok-dropped-in-Bool-clause-hits t c =
    let segment = c.args.segment.now in
    let bool : IsBool segment c.args.query.now c.in-Bool.must.items c.in-Bool.must_not.items c.in-Bool.should.items =
    λ document. ap (matches_in segment.schema document) c.in-Bool.is ∙ matches_at_bool segment.schema document c.in-Bool.must c.in-Bool.must_not
    c.in-Bool.should in
    let dropped = c.in_ok-dropped-in-Bool.ensures.hits ∙ ap union (ap (map (hits_of segment)) c.deref-in-Bool-2.ensures.value) in
    IfOk-weaker c.without.result _ _ (λ tree is. is ∙ bool_apart segment c.args.query.now c.in-Bool.must.items c.in-Bool.must_not.items c.in-Bool.should.items
    c.if-is_empty.kept.remaining c.in_ok-dropped-in-Bool.dropped.remaining bool
    (keeps t (goal.at.tree_of-returns-in_ok-dropped-in-Bool-clause-hits t c).Joined-is_empty).hits dropped) c.without.ensures.remaining

pub any_of-returns-in-len1-clause-hits : goal.any_of-returns-in-len1-clause-hits
any_of-returns-in-len1-clause-hits t c =
    let segment = c.args.segment.now in
    let one = only_one c.args.queries.now c.query-item.result c.query-item.is c.in-len1.len_at_least c.in-len1.len_below in
    IfOk-weaker c.tree_of.result _ _ (λ tree is. is ∙ single_hits segment c.query-item.result ∙ ap (λ qs. union (map (hits_of segment) qs)) (sym one))
    c.tree_of.ensures.hits

pub tree_of-returns-in-Some-clause-hits : goal.tree_of-returns-in-Some-clause-hits
tree_of-returns-in-Some-clause-hits t c = rw c.in-Some.is at c.in_ok-tree-in-Bool.ensures.remaining

pub tree_of-returns-in-Some-clause-opens : goal.tree_of-returns-in-Some-clause-opens
tree_of-returns-in-Some-clause-opens t c = rw c.in-Some.is at c.in_ok-tree-in-Bool.ensures.opens

pub shoulds_of-tree_of-requires : goal.shoulds_of-tree_of-requires
shoulds_of-tree_of-requires t c =
    let falls = depth_at c.args.queries.now c.loop-query.query-index c.query-item.result c.loop-query-test.true c.query-item.is in
    let less : 3 * depth (query_value c.query-item.result) + 0 < t = omega (arith, falls, c.decreases) in (
      less,
      one_of_all (fits_in c.args.segment.now.schema) c.args.queries.now c.loop-query.query-index c.query-item.result c.requires.fits c.loop-query-test.true
          c.query-item.is,
    )

pub shoulds_of-loop-query-preserved : goal.shoulds_of-loop-query-preserved
shoulds_of-loop-query-preserved t c =
    let segment = c.args.segment.now in
    let l = c.loop-query in
    let q = c.query-item.result in
    elim c.match-told_by.branch [
      | shoulds_of-in-Some+in_ok-push w ↦
          let tells = rw w.in-Some.is at c.told_by.ensures.tells in
          let few = rw w.in-Some.is at c.told_by.ensures.few in
          rw (w.bits-is, w.parts-is, w.in_ok-push.ensures.items) (AreShoulds-next segment c.args.queries.now l.query-index q _ l.parts.items c.loop-query-test.true
          c.query-item.is (AreShoulds-told segment _ l.bits.items l.parts.items l.invariant q w.in-Some.told tells few))
      | shoulds_of-in_default+in_ok-tree_of+in_ok-push-2 w ↦
          rw (w.bits-is, w.parts-is, w.in_ok-push-2.ensures.items) (AreShoulds-next segment c.args.queries.now l.query-index q l.bits.items _ c.loop-query-test.true
          c.query-item.is (AreShoulds-part segment _ l.bits.items l.parts.items l.invariant q w.in_ok-tree_of.field-0 w.in_ok-tree_of.ensures.hits
          w.in_ok-tree_of.ensures.opens.most))
    ]

pub any_of-returns-in_ok-shoulds_of-in_default-clause-hits : goal.any_of-returns-in_ok-shoulds_of-in_default-clause-hits
any_of-returns-in_ok-shoulds_of-in_default-clause-hits t c =
    let made = c.in_ok-shoulds_of-in_default in
    both_of c.union_of.result _ _ _ (λ tree is rises. shoulds_found c.args.segment.now c.args.queries.now made.field-0.bits.items
    made.field-0.parts.items tree.remaining made.ensures is rises) c.union_of.ensures.has c.union_of.ensures.rises

pub tree_of-returns-in-Some-2-clause-hits : goal.tree_of-returns-in-Some-2-clause-hits
tree_of-returns-in-Some-2-clause-hits t c =
    let segment = c.args.segment.now in
    let must = c.in-Bool.must.items in
    let must_not = c.in-Bool.must_not.items in
    let should = c.in-Bool.should.items in
    let bool : IsBool segment c.args.query.now must must_not should = λ document. ap (matches_in segment.schema document) c.in-Bool.is
    ∙ matches_at_bool segment.schema document c.in-Bool.must c.in-Bool.must_not c.in-Bool.should in
    let kept = keeps t (goal.at.tree_of-returns-in-Some-2-clause-hits t c).Joined-is_empty in
    let told = rw c.in-Some-2.is at c.in_ok-set-in-Bool.ensures in
    IfOk-weaker c.filtered.result _ _ (λ (tree : TreeValue) is. is ∙ set_apart segment must_not (kept_by segment.schema must should) c.in-Some-2.set
    c.if-is_empty.kept.remaining kept.hits
    (λ d. told d ∙ ap (λ qs. nat_lt d (length segment.documents) && not (in_some (hits_of_each segment qs) d)) c.deref-in-Bool.ensures.value)
    ∙ bool_apart segment c.args.query.now must must_not should c.if-is_empty.kept.remaining (union (map (hits_of segment) must_not)) bool kept.hits refl)
    c.filtered.ensures.remaining

pub tree_of-returns-in-Some-2-clause-opens : goal.tree_of-returns-in-Some-2-clause-opens
tree_of-returns-in-Some-2-clause-opens t c =
    IfOk-weaker c.filtered.result _ _ (λ (tree : TreeValue) walked. opens_filtered c.args.segment.now c.args.query.now c.in-Bool.must.items
    c.in-Bool.must_not.items c.in-Bool.should.items tree
    (ap query_value c.in-Bool.is ∙ value_at_bool c.in-Bool.must c.in-Bool.must_not c.in-Bool.should)
    (omega (arith, some_from c.in-Bool.must_not.len (sym c.is_empty-in-Bool.ensures ∙ c.if-is_empty-2.false))) c.if-is_empty.kept
    (keeps t (goal.at.tree_of-returns-in-Some-2-clause-opens t c).Joined-is_empty) (ap (λ (b : Bound). most_at b None) walked.continues.bound))
    c.filtered.ensures.walked

pub musts_of-loop-query-init : goal.musts_of-loop-query-init
musts_of-loop-query-init t c =
    AreMusts-none c.args.segment.now c.every-set.result c.new-parts.result.items (c.every-set.ensures ∙ ap (range_with_len 0) c.docs-docs.ensures.len)
    c.new-parts.ensures.items

pub musts_of-loop-query-preserved : goal.musts_of-loop-query-preserved
musts_of-loop-query-preserved t c =
    let segment = c.args.segment.now in
    let l = c.loop-query in
    let q = c.query-item.result in
    elim c.if-branch.branch [
      | musts_of-then-branch w ↦
          rw (w.is_told-is, w.parts-is) (AreMusts-next segment c.args.queries.now l.query-index q true c.keep_query.new.set l.parts.items c.loop-query-test.true
          c.query-item.is (AreMusts-told segment _ l.is_told l.set l.parts.items l.invariant q c.keep_query.new.set (c.in_ok-keep_query.ensures.kept w.if-branch.true)))
      | musts_of-else-branch+in_ok-tree_of+in_ok-push w ↦
          rw (w.is_told-is, w.parts-is, w.in_ok-push.ensures.items) (AreMusts-next segment c.args.queries.now l.query-index q l.is_told c.keep_query.new.set _
          c.loop-query-test.true c.query-item.is (AreMusts-part segment _ l.is_told l.set l.parts.items l.invariant q c.keep_query.new.set
          w.in_ok-tree_of.field-0 (c.in_ok-keep_query.ensures.untold w.if-branch.false) w.in_ok-tree_of.ensures.hits w.in_ok-tree_of.ensures.opens.most))
    ]

pub all_of-returns-then-is_empty-clause-hits : goal.all_of-returns-then-is_empty-clause-hits
all_of-returns-then-is_empty-clause-hits t c =
    let segment = c.args.segment.now in
    let m = c.in_ok-set.field-0 in
    let musts : AreMusts segment c.args.queries.now m.is_told m.set m.parts.items =
    c.in_ok-set.ensures in
    let none : m.parts.items ≡ [] = nil_from_length m.parts.items (omega (arith, eqb-true m.parts.len 0 (sym c.is_empty.ensures ∙ c.if-is_empty.true))) in
    IfOk-weaker c.scan.result _ _ (λ (tree : TreeValue) is.
    let same : tree.remaining ≡ m.set = is ∙ c.new.ensures in
    musts_found segment c.args.queries.now m.is_told m.set m.parts.items tree.remaining musts c.requires.some
    (λ d. ap (λ xs. has xs d) same ∙ sym (and-true (has m.set d)) ∙ ap (λ ps. has m.set d && in_all (remains ps) d) (sym none))
    (subst (Rises 0) (sym same) musts.rises)) c.scan.ensures.remaining

pub all_of-returns-then-not-is_told-clause-hits : goal.all_of-returns-then-not-is_told-clause-hits
all_of-returns-then-not-is_told-clause-hits t c =
    let m = c.in_ok-set.field-0 in
    let musts : AreMusts c.args.segment.now c.args.queries.now m.is_told m.set m.parts.items =
    c.in_ok-set.ensures in
    musts_common c.args.segment.now c.args.queries.now m.parts.items c.in_ok-tree.tree.remaining (musts.untold c.if-not-is_told.true) c.requires.some
    c.in_ok-tree.ensures.remaining

pub all_of-returns-clause-hits : goal.all_of-returns-clause-hits
all_of-returns-clause-hits t c =
    let m = c.in_ok-set.field-0 in
    let musts : AreMusts c.args.segment.now c.args.queries.now m.is_told m.set m.parts.items =
    c.in_ok-set.ensures in
    let some : 0 < length m.parts.items = omega (arith, some_from m.parts.len (sym c.is_empty.ensures ∙ c.if-is_empty.false)) in
    both_of c.filtered.result _ _ _ (λ tree is rises. musts_found c.args.segment.now c.args.queries.now m.is_told m.set m.parts.items tree.remaining musts
    c.requires.some (λ d. filtered_has m.set m.parts.items tree.remaining c.in_ok-tree.tree.remaining d some c.in_ok-tree.ensures.remaining is)
    (Rises-from_increasing tree.remaining rises)) c.filtered.ensures.remaining c.filtered.ensures.rises
