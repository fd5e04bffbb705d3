use Rattle.std.proofs.Common.{◌≡◌, ◌≢◌, ◌∙◌, sym, refl, ap, true, false, cond, length, Option, Some, None, Result, Ok, Err, option_map, is_some}
use Rattle.std.specs.Prelude.{nat_le}
use Rattle.serde_json.specs.Data.{Data, null, boolean, number, string, array, object}
use Rattle.serde_json.specs.Find.{as_null, as_u64, as_i64}
use Rattle.fts_base.specs.Results.{error_if_err, result_and_then}
use Rattle.fts_base.specs.declared.refusal.Refusal.{Refusal}
use Rattle.fts_model.specs.declared.schema.Kind.{Kind}
use Rattle.fts_model.specs.declared.schema.Kind.TheVariants as kinds
use Rattle.fts_model.specs.declared.value.Number.TheVariants as numbers
use Rattle.fts_model.specs.declared.value.FieldValue.{FieldValue}
use Rattle.fts_model.specs.declared.value.FieldValue.TheVariants as values
use Rattle.std.specs.Option.{ok_or}
use Rattle.serde_json.specs.View.{view}
use Rattle.fts_base.specs.declared.refusal.Refusal.TheVariants.{KeywordTooLong, WrongKind}
use Rattle.fts_model.specs.Documents.{value_in}
use Rattle.fts_model.specs.Operations.{some_value_in}
use Rattle.fts_model.proofs.ResultsRefused.{one_error, and_then_error}
use Rattle.fts_model.proofs.operation.some_value_of.Goals as goal

pub returns-in-Some-clause-refused : goal.returns-in-Some-clause-refused
returns-in-Some-clause-refused c =
    λ fault wanted.
    let read = value_in c.args.kind (view c.args.json.now) in
    one_error (some_value_in c.args.kind (view c.args.json.now)) c.in-Some.fault fault
    (and_then_error (λ v. ok_or v WrongKind) read c.in-Some.fault (sym c.in-Some.is ∙ c.fault_of_value.ensures)) wanted

-- outside text fields only null is no value
only_null : (kind : Kind) (d : Data) → kind ≢ kinds.Text → value_in kind d ≡ Ok None → d ≡ null
only_null kind null apart h = refl
only_null kind (boolean b) apart h = cc
only_null kind (object ms) apart h = cc
only_null kinds.Text d apart h = absurd (apart refl)
only_null kinds.Keyword (array items) apart h = cc
only_null kinds.U64 (array items) apart h = cc
only_null kinds.I64 (array items) apart h = cc
only_null kinds.Keyword (number n) apart h = cc
only_null kinds.U64 (string text) apart h = cc
only_null kinds.I64 (string text) apart h = cc
only_null kinds.Keyword (string text) apart h =
    elim (nat_le (length text) 256) as (λ b. cond b (Ok (Some (values.Text text))) (Err KeywordTooLong) ≡ Ok None → string text ≡ null)
    [ true ↦ λ g. cc | false ↦ λ g. cc ] h
only_null kinds.U64 (number n) apart h =
    elim (as_u64 n) as (λ o. ok_or (option_map (λ x. Some (values.Number (numbers.U64 x))) o) WrongKind ≡ Ok None → number n ≡ null)
    [ None ↦ λ g. cc | Some x ↦ λ g. cc ] h
only_null kinds.I64 (number n) apart h =
    elim (as_i64 n) as (λ o. ok_or (option_map (λ x. Some (values.Number (numbers.I64 x))) o) WrongKind ≡ Ok None → number n ≡ null)
    [ None ↦ λ g. cc | Some x ↦ λ g. cc ] h

-- a value that is not null and has no fault is some value
no_refusal : (read : Result (Option FieldValue) Refusal) (fault : Refusal) → error_if_err read ≡ None → (read ≡ Ok None → ⊥) →
    result_and_then (λ v. ok_or v WrongKind) read ≡ Err fault → ⊥
no_refusal (Err e) fault h some g = cc
no_refusal (Ok None) fault h some g = some refl
no_refusal (Ok (Some v)) fault h some g = cc

pub returns-in_err-value-clause-refused : goal.returns-in_err-value-clause-refused
returns-in_err-value-clause-refused c = λ fault wanted.
    let kind = c.args.kind in
    let d = view c.args.json.now in
    let fine : error_if_err (value_in kind d) ≡ None = sym c.fault_of_value.ensures ∙ c.in_default.is in
    absurd (no_refusal (value_in kind d) fault fine
    (λ none. let there : d ≡ null = only_null kind d c.requires none in
    let yes : is_some (as_null d) ≡ true = ap (λ e. is_some (as_null e)) there in
    let clash : true ≡ false = sym yes ∙ sym c.is_null.ensures ∙ c.if-is_null.false in cc) wanted)
