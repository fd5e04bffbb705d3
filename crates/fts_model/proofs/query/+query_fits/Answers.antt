use Rattle.std.proofs.Common.{◌≡◌, ◌&&◌, sym, ◌∙◌, ap}
use Rattle.std.specs.List.{list_all}
use Rattle.fts_model.proofs.QueriesBoolean.{fits_in, query_fits_at_bool, last_of_three, first_two_false}
use Rattle.fts_model.proofs.query.+query_fits.Goals as goal
use Rattle.fts_model.proofs.query.+query_fits.Goals.{Query::fits-then-all_fit, Query::fits-else-all_fit}

pub Query::fits-returns-then-all_fit-2 : goal.Query::fits-returns-then-all_fit-2
Query::fits-returns-then-all_fit-2 t c =
    let all = list_all (fits_in c.args.schema.now) in
    let whole = ap (fits_in c.args.schema.now) c.in-Bool.is ∙ query_fits_at_bool c.args.schema.now c.in-Bool.must c.in-Bool.must_not c.in-Bool.should in
    let first : c.all_fit.result ≡ all c.in-Bool.must.items = c.all_fit.ensures ∙ ap all c.deref.ensures.value in
    let third : c.all_fit-then-all_fit-2.result ≡ all c.in-Bool.should.items = c.all_fit-then-all_fit-2.ensures ∙ ap all c.deref-then-all_fit-2.ensures.value in
    elim c.if-all_fit.branch [
      | Query::fits-then-all_fit w ↦
          let second : w.all_fit-then-all_fit.result ≡ all c.in-Bool.must_not.items =
          w.all_fit-then-all_fit.ensures ∙ ap all w.deref-then-all_fit.ensures.value in
          last_of_three (all c.in-Bool.must.items) (all c.in-Bool.must_not.items) (all c.in-Bool.should.items) _ (sym first ∙ w.if-all_fit.true)
          (sym second ∙ sym w.value-is ∙ c.if-all_fit-2.true) third ∙ sym whole
      | Query::fits-else-all_fit w ↦ cc
    ]

pub Query::fits-returns-else-all_fit-2 : goal.Query::fits-returns-else-all_fit-2
Query::fits-returns-else-all_fit-2 t c =
    let all = list_all (fits_in c.args.schema.now) in
    let whole = ap (fits_in c.args.schema.now) c.in-Bool.is ∙ query_fits_at_bool c.args.schema.now c.in-Bool.must c.in-Bool.must_not c.in-Bool.should in
    let first : c.all_fit.result ≡ all c.in-Bool.must.items = c.all_fit.ensures ∙ ap all c.deref.ensures.value in
    elim c.if-all_fit.branch [
      | Query::fits-then-all_fit w ↦
          let second : w.all_fit-then-all_fit.result ≡ all c.in-Bool.must_not.items =
          w.all_fit-then-all_fit.ensures ∙ ap all w.deref-then-all_fit.ensures.value in
          first_two_false (all c.in-Bool.must.items) (all c.in-Bool.must_not.items) (all c.in-Bool.should.items) _
          (ap (λ b. b && all c.in-Bool.must_not.items) (sym first ∙ w.if-all_fit.true) ∙ sym second ∙ sym w.value-is ∙ c.if-all_fit-2.false)
          c.if-all_fit-2.false ∙ sym whole
      | Query::fits-else-all_fit w ↦
          first_two_false (all c.in-Bool.must.items) (all c.in-Bool.must_not.items) (all c.in-Bool.should.items) _
          (ap (λ b. b && all c.in-Bool.must_not.items) (sym first ∙ w.if-all_fit.false)) c.if-all_fit-2.false ∙ sym whole
    ]
