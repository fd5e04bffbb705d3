use Rattle.std.proofs.Common.{◌≡◌, ℕ, ◌-◌, ◌*◌, ◌^◌, ◌%◌, ◌<◌, bit_and, count_ones, ◌∙◌, List, Option, None, sym, ap, subst, arith}
use Rattle.std.specs.Prelude.{slice_get}
use Rattle.std.specs.Option.{option_and_then}
use Rattle.std.proofs.lemmas.Nat.{one_shl, pow_pos}
use Rattle.std.proofs.lemmas.Option.{slice_get_past}
use Rattle.fts_model.specs.declared.value.FieldValue.{FieldValue}
use Rattle.fts_model.specs.Internals.FieldValues.{spread}
use Rattle.fts_model.proofs.FieldValuesLemmas.{copied_item, length-spread, read-none, read-some}
use Rattle.fts_model.proofs.field_values.FieldValues.get.Goals.{then-field-self-via-then-field-self}
use Rattle.fts_model.proofs.field_values.FieldValues.get.Goals.{then-field-self-via-else-field-self+then-self-field-eq0}
use Rattle.fts_model.proofs.field_values.FieldValues.get.Goals as goal

pub overflow_shr-self-inside : goal.overflow_shr-self-inside
overflow_shr-self-inside c =
    let s = c.self.inside in
    omega (arith, c.self.invariant.few, length-spread s.len s.present s.values.items)

pub returns-then-field-self : goal.returns-then-field-self
returns-then-field-self c =
    let s = c.self.inside in
    let vs : List (Option FieldValue) = spread s.len s.present s.values.items in
    subst (λ (us : List (Option FieldValue)). None ≡ option_and_then (λ v. v) (slice_get us c.args.field)) c.self.view_is
    (elim c.then-field-self.branch [
      | then-field-self-via-then-field-self w ↦
          ap (option_and_then (λ v. v)) (sym (slice_get_past vs c.args.field (omega (arith, length-spread s.len s.present s.values.items))))
      | then-field-self-via-else-field-self+then-self-field-eq0 w ↦
          read-none vs s.present s.values.items c.args.field c.self.invariant (omega arith)
    ])

pub overflow_shl-before : goal.overflow_shl-before
overflow_shl-before c =
    let s = c.self.inside in
    omega (arith, c.self.invariant.few, length-spread s.len s.present s.values.items)

pub overflow_sub-before : goal.overflow_sub-before
overflow_sub-before c =
    let s = c.self.inside in
    let few : c.args.field < 32 = omega (arith, c.self.invariant.few, length-spread s.len s.present s.values.items) in
    omega (arith, one_shl c.args.field 32 few, pow_pos c.args.field)

pub returns : goal.returns
returns c =
    let s = c.self.inside in
    let vs : List (Option FieldValue) = spread s.len s.present s.values.items in
    let few : c.args.field < 32 = omega (arith, c.self.invariant.few, length-spread s.len s.present s.values.items) in
    let items : c.deref.result.now ≡ s.values.items = cc in
    let place : ℕ = count_ones (bit_and s.present (1 * 2 ^ c.args.field % 2 ^ 32 - 1)) in
    copied_item c.deref.result.now place c.get.result c.get.ensures.lookup ∙ ap (λ xs. slice_get xs place) items
    ∙ subst (λ (us : List (Option FieldValue)). slice_get s.values.items place ≡ option_and_then (λ v. v) (slice_get us c.args.field)) c.self.view_is
    (read-some vs s.present s.values.items c.args.field c.self.invariant few (omega arith))
