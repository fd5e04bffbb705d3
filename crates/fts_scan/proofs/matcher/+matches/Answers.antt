use Rattle.std.proofs.Common.{◌≡◌, ◌==◌, Bool, IfOk, length, not, sym, ap, subst, ◌∙◌}
use Rattle.std.specs.List.{list_all, list_any}
use Rattle.fts_model.specs.Queries.{is_nonempty}
use Rattle.fts_model.proofs.QueriesBoolean.{flipped, is_nonempty-length, is_nonempty-none, matches_in, matches_at_bool, not_all_must, one_must_not}
use Rattle.fts_model.proofs.QueriesBoolean.{musts_suffice, shoulds_decide}
use Rattle.fts_scan.proofs.matcher.+matches.Goals as goal

pub query_matches-returns-then-branch : goal.query_matches-returns-then-branch
query_matches-returns-then-branch t c =
    let test = matches_in c.args.schema.now c.args.document.now in
    let whole = ap test c.in-Bool.is ∙ matches_at_bool c.args.schema.now c.args.document.now c.in-Bool.must c.in-Bool.must_not c.in-Bool.should in
    let all : list_all test c.in-Bool.must.items ≡ not c.in_ok-one_is-in-Bool.field-0 = ap (list_all test) (sym c.deref-in-Bool.ensures.value)
    ∙ flipped _ _ c.in_ok-one_is-in-Bool.ensures in
    sym (whole
    ∙ not_all_must (list_all test c.in-Bool.must.items) (list_any test c.in-Bool.must_not.items) (is_nonempty c.in-Bool.must.items)
    (list_any test c.in-Bool.should.items)
    (all ∙ ap not c.if-branch.true))

pub query_matches-returns-then-branch-2 : goal.query_matches-returns-then-branch-2
query_matches-returns-then-branch-2 t c =
    let test = matches_in c.args.schema.now c.args.document.now in
    let whole = ap test c.in-Bool.is ∙ matches_at_bool c.args.schema.now c.args.document.now c.in-Bool.must c.in-Bool.must_not c.in-Bool.should in
    let any : list_any test c.in-Bool.must_not.items ≡ c.in_ok-one_is-in-Bool-2.field-0 = ap (list_any test) (sym c.deref-in-Bool-2.ensures.value)
    ∙ sym c.in_ok-one_is-in-Bool-2.ensures in
    sym (whole
    ∙ one_must_not (list_all test c.in-Bool.must.items) (list_any test c.in-Bool.must_not.items) (is_nonempty c.in-Bool.must.items)
    (list_any test c.in-Bool.should.items)
    (any ∙ c.if-branch-2.true))

pub query_matches-returns-then-not-is_empty : goal.query_matches-returns-then-not-is_empty
query_matches-returns-then-not-is_empty t c =
    let test = matches_in c.args.schema.now c.args.document.now in
    let whole = ap test c.in-Bool.is ∙ matches_at_bool c.args.schema.now c.args.document.now c.in-Bool.must c.in-Bool.must_not c.in-Bool.should in
    let all : list_all test c.in-Bool.must.items ≡ not c.in_ok-one_is-in-Bool.field-0 = ap (list_all test) (sym c.deref-in-Bool.ensures.value)
    ∙ flipped _ _ c.in_ok-one_is-in-Bool.ensures in
    let any : list_any test c.in-Bool.must_not.items ≡ c.in_ok-one_is-in-Bool-2.field-0 = ap (list_any test) (sym c.deref-in-Bool-2.ensures.value)
    ∙ sym c.in_ok-one_is-in-Bool-2.ensures in
    let len = ap length (sym c.deref-in-Bool.ensures.value) ∙ c.deref-in-Bool.ensures.len in
    let some = is_nonempty-length c.in-Bool.must.items (ap (λ n. n == 0) len ∙ sym c.is_empty.ensures ∙ c.if-not-is_empty.true) in
    sym (whole
    ∙ musts_suffice (list_all test c.in-Bool.must.items) (list_any test c.in-Bool.must_not.items) (is_nonempty c.in-Bool.must.items)
    (list_any test c.in-Bool.should.items)
    (all ∙ ap not c.if-branch.false) (any ∙ c.if-branch-2.false) some)

pub query_matches-returns-else-not-is_empty : goal.query_matches-returns-else-not-is_empty
query_matches-returns-else-not-is_empty t c =
    let test = matches_in c.args.schema.now c.args.document.now in
    let whole = ap test c.in-Bool.is ∙ matches_at_bool c.args.schema.now c.args.document.now c.in-Bool.must c.in-Bool.must_not c.in-Bool.should in
    let all : list_all test c.in-Bool.must.items ≡ not c.in_ok-one_is-in-Bool.field-0 = ap (list_all test) (sym c.deref-in-Bool.ensures.value)
    ∙ flipped _ _ c.in_ok-one_is-in-Bool.ensures in
    let any : list_any test c.in-Bool.must_not.items ≡ c.in_ok-one_is-in-Bool-2.field-0 = ap (list_any test) (sym c.deref-in-Bool-2.ensures.value)
    ∙ sym c.in_ok-one_is-in-Bool-2.ensures in
    let len = ap length (sym c.deref-in-Bool.ensures.value) ∙ c.deref-in-Bool.ensures.len in
    let none = is_nonempty-none c.in-Bool.must.items (ap (λ n. n == 0) len ∙ sym c.is_empty.ensures ∙ c.if-not-is_empty.false) in
    let P : Bool → Type 0 = λ b. IfOk c.one_is-in-Bool-2.result (λ m. m ≡ b) in
    subst P
    (ap (list_any test) c.deref-in-Bool-3.ensures.value
    ∙ sym (whole
    ∙ shoulds_decide (list_all test c.in-Bool.must.items) (list_any test c.in-Bool.must_not.items) (is_nonempty c.in-Bool.must.items)
    (list_any test c.in-Bool.should.items)
    (all ∙ ap not c.if-branch.false) (any ∙ c.if-branch-2.false) none))
    c.one_is-in-Bool-2.ensures
