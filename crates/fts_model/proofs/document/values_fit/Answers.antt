use Rattle.std.proofs.Common.{◌≡◌, ◌+◌, ◌<◌, ◌&&◌, ℕ, Bool, true, false, List, Option, Some, None, drop, get_or, length, sym, ap, ap₂, ◌∙◌, arith}
use Rattle.std.specs.Borrow.{Bor}
use Rattle.std.specs.Option.{option_and_then}
use Rattle.std.specs.Prelude.{option_copied, slice_get}
use Rattle.std.specs.Slice.Iter.{iter_rest, iter_steps}
use Rattle.std.specs.declared.slice.Iter.{Iter}
use Rattle.std.proofs.lemmas.List.{drop_all}
use Rattle.std.proofs.lemmas.Option.{slice_get_past}
use Rattle.fts_model.specs.declared.schema.Field.{Field}
use Rattle.fts_model.specs.declared.value.FieldValue.{FieldValue}
use Rattle.fts_model.specs.Documents.{fits_fields, may_stand}
use Rattle.fts_model.proofs.DocumentsZips.{fits_fields-next}
use Rattle.fts_model.proofs.document.values_fit.Goals as goal

-- an iterator gives the first field and keeps the others
next_of : (s t : Iter Field) (r : Option (Bor Field)) → iter_steps s r t → (option_copied r ≡ slice_get (iter_rest s) 0) × (iter_rest t ≡ drop 1 (iter_rest s))
next_of s t None h =
    (sym (slice_get_past (iter_rest s) 0 (omega arith)), ap iter_rest h.1 ∙ drop_all 0 (iter_rest s) (omega arith) ∙ sym (drop_all 1 (iter_rest s) (omega arith)))
next_of s t (Some field) h = (sym (ap (λ fields. slice_get fields 0) h), sym (ap (drop 1) h))

-- the values that are left fit if the next one does and the others do
next_fits : (s t : Iter Field) (there : Option (Bor Field)) (fields : List Field) (vs : List (Option FieldValue)) (i : ℕ) (field : Field)
    (value : Option (Bor FieldValue)) (fit : Bool) → iter_steps s there t → i < length fields → field ≡ get_or fields i field →
    option_copied value ≡ option_and_then (λ v. v) (slice_get vs i) → fit ≡ may_stand (option_copied there) field (option_copied value) →
    fits_fields (iter_rest s) (drop i fields) (drop i vs) ≡ fit && fits_fields (iter_rest t) (drop (i + 1) fields) (drop (i + 1) vs)
next_fits s t there fields vs i field value fit steps lt is read stands =
    let first = next_of s t there steps in
    fits_fields-next (iter_rest s) fields vs i field lt is
    ∙ ap₂ (λ b schema. b && fits_fields schema (drop (i + 1) fields) (drop (i + 1) vs))
    (sym (stands ∙ ap₂ (λ f v. may_stand f field v) first.0 read)) (sym first.1)

pub returns-then-not-may_stand : goal.returns-then-not-may_stand
returns-then-not-may_stand c =
    let field = c.index-fields-number.result in
    let stands : false ≡ may_stand (option_copied c.next.result) field (option_copied c.get.result) = cc in
    sym (next_fits c.loop-number.schema c.next.new.self c.next.result c.args.fields.now c.args.values.now c.loop-number.number field c.get.result false
    c.next.ensures.steps c.loop-number-test.true c.index-fields-number.is c.get.ensures stands)
    ∙ c.loop-number.invariant

pub loop-number-preserved : goal.loop-number-preserved
loop-number-preserved c =
    let field = c.index-fields-number.result in
    let stands : true ≡ may_stand (option_copied c.next.result) field (option_copied c.get.result) = cc in
    sym (next_fits c.loop-number.schema c.next.new.self c.next.result c.args.fields.now c.args.values.now c.loop-number.number field c.get.result true
    c.next.ensures.steps c.loop-number-test.true c.index-fields-number.is c.get.ensures stands)
    ∙ c.loop-number.invariant

pub returns : goal.returns
returns c =
    let i = c.loop-number.number in
    sym (ap (λ fs. fits_fields (iter_rest c.loop-number.schema) fs (drop i c.args.values.now)) (drop_all i c.args.fields.now (omega arith)))
    ∙ c.loop-number.invariant
