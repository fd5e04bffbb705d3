-- What is alive after adds alone.
use Rattle.std.proofs.Common.{◌≡◌, ℕ, Bool, true, false, cond, List, [], ◌∷◌, ◌++◌, refl, ap, ◌∙◌}
use Rattle.std.specs.List.{list_all}
use Rattle.std.proofs.lemmas.Bool.{and_parts}
use Rattle.fts_model.specs.declared.schema.Field.{Field}
use Rattle.fts_model.specs.declared.operation.Op.{Op}
use Rattle.fts_model.specs.declared.operation.Op.TheVariants.{Add, Delete, DeleteAll}
use Rattle.fts_model.specs.declared.operation.Stamped.{Stamped}
use Rattle.fts_model.specs.Documents.{DocumentValue}
use Rattle.fts_model.specs.Operations.{strikes, is_struck, left_by, alive, added, added_by, adds}
use Rattle.fts_engine.specs.Operations.{is_add}
use Rattle.fts_model.proofs.OperationsByStamps.{added-adds}

abbrev all_add : List (Stamped Op) → Bool
all_add ops = list_all (λ op. is_add op.value) ops

strikes_nothing : (schema : List Field) (op : Op) (d : DocumentValue) → is_add op ≡ true → strikes schema op d ≡ false
strikes_nothing schema (Add document) d h = refl
strikes_nothing schema (Delete term) d h = cc
strikes_nothing schema DeleteAll d h = cc

unstruck : (schema : List Field) (ops : List (Stamped Op)) (d : DocumentValue) → all_add ops ≡ true → is_struck schema ops d ≡ false
unstruck schema [] d h = refl
unstruck schema (op ∷ ops) d h =
    let each = and_parts (is_add op.value) (all_add ops) h in
    let first = strikes_nothing schema op.value d each.0 in
    let rest = unstruck schema ops d each.1 in
    cc

left_by_add : (schema : List Field) (stamp : ℕ) (op : Op) (ops : List (Stamped Op)) → is_add op ≡ true → all_add ops ≡ true →
    left_by schema stamp op ops ≡ added_by stamp op
left_by_add schema stamp (Add document) ops h k =
    let one : Stamped DocumentValue = record { stamp = stamp; value = document } in
    ap (λ b. cond b [] (one ∷ [])) (unstruck schema ops document k)
left_by_add schema stamp (Delete term) ops h k = cc
left_by_add schema stamp DeleteAll ops h k = cc

alive_all_add : (schema : List Field) (ops : List (Stamped Op)) → all_add ops ≡ true → alive schema ops ≡ added ops
alive_all_add schema [] h = refl
alive_all_add schema (op ∷ ops) h =
    let each = and_parts (is_add op.value) (all_add ops) h in
    ap (λ ds. ds ++ alive schema ops) (left_by_add schema op.stamp op.value ops each.0 each.1)
    ∙ ap (λ ds. added_by op.stamp op.value ++ ds) (alive_all_add schema ops each.1)

all_add-adds : (documents : List (Stamped DocumentValue)) (ops : List (Stamped Op)) → all_add ops ≡ true → all_add (adds documents ++ ops) ≡ true
all_add-adds [] ops h = h
all_add-adds (d ∷ documents) ops h = all_add-adds documents ops h

-- after documents that are there, adds alone leave these and what they add
pub alive-adds : (schema : List Field) (documents : List (Stamped DocumentValue)) (ops : List (Stamped Op)) → all_add ops ≡ true →
    alive schema (adds documents ++ ops) ≡ documents ++ added ops
alive-adds schema documents ops h = alive_all_add schema (adds documents ++ ops) (all_add-adds documents ops h) ∙ added-adds documents ops
