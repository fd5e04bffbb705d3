use Rattle.std.proofs.Common.{◌≡◌, ◌<◌, ◌++◌, ◌∷◌, [], ◌∙◌, List, Option, length, sym, ap, ap₂, arith}
use Rattle.fts_model.specs.declared.value.FieldValue.{FieldValue}
use Rattle.fts_model.specs.Internals.FieldValues.{spread}
use Rattle.fts_model.proofs.FieldValuesLemmas.{length-spread, push-none, push-some}
use Rattle.fts_model.proofs.field_values.FieldValues.push.Goals.{in-Some+in_ok-push, in_default}
use Rattle.fts_model.proofs.field_values.FieldValues.push.Goals as goal

pub overflow_shl-self : goal.overflow_shl-self
overflow_shl-self c =
    let s = c.self.inside in
    let seen : spread s.len s.present s.values.items ≡ c.args.self.now = c.self.view_is in
    omega (arith, c.requires, ap length seen, length-spread s.len s.present s.values.items)

pub overflow_add-self : goal.overflow_add-self
overflow_add-self c =
    let s = c.self.inside in
    let seen : spread s.len s.present s.values.items ≡ c.args.self.now = c.self.view_is in
    let few : s.len < 32 = omega (arith, c.requires, ap length seen, length-spread s.len s.present s.values.items) in
    elim c.match-value.branch [
      | in-Some+in_ok-push w ↦ rw w.self-inside-is (omega (arith, few))
      | in_default w ↦ rw w.self-inside-is (omega (arith, few))
    ]

pub invariant_of-self-2 : goal.invariant_of-self-2
invariant_of-self-2 c =
    let s = c.self.inside in
    let seen : spread s.len s.present s.values.items ≡ c.args.self.now = c.self.view_is in
    let few : s.len < 32 = omega (arith, c.requires, ap length seen, length-spread s.len s.present s.values.items) in
    elim c.match-value.branch [
      | in-Some+in_ok-push w ↦
          rw (w.self-inside-is, w.in_ok-push.ensures.items) (push-some s.len s.present s.values.items w.in-Some.value few c.self.invariant).1
      | in_default w ↦ rw w.self-inside-is (push-none s.len s.present s.values.items few c.self.invariant).1
    ]

pub returns : goal.returns
returns c =
    let s = c.self.inside in
    let seen : spread s.len s.present s.values.items ≡ c.args.self.now = c.self.view_is in
    let few : s.len < 32 = omega (arith, c.requires, ap length seen, length-spread s.len s.present s.values.items) in
    elim c.match-value.branch [
      | in-Some+in_ok-push w ↦
          rw (w.self-inside-is, w.in_ok-push.ensures.items)
          ((push-some s.len s.present s.values.items w.in-Some.value few c.self.invariant).0
          ∙ ap₂ (λ (vs : List (Option FieldValue)) o. vs ++ o ∷ []) seen (sym w.in-Some.is))
      | in_default w ↦
          rw w.self-inside-is
          ((push-none s.len s.present s.values.items few c.self.invariant).0
          ∙ ap₂ (λ (vs : List (Option FieldValue)) o. vs ++ o ∷ []) seen (sym w.in_default.is))
    ]
