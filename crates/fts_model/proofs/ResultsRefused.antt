-- The refusal that a definition gives.
use Rattle.std.proofs.Common.{◌≡◌, Result, Ok, Err, IsErrOf, List, Some, map, sym, ap, ◌∙◌}
use Rattle.serde_json.specs.Data.{Members, object}
use Rattle.fts_base.specs.declared.refusal.Refusal.{Refusal}
use Rattle.fts_model.specs.declared.schema.Field.{Field}
use Rattle.fts_base.specs.Results.{error_if_err, result_and_then, ok_unless}
use Rattle.fts_model.specs.Documents.{members_fault, value_at, document_of}

-- a result has one error
pub one_error : {X Y E : Type 0} (wanted : Result Y E) (e f : E) → wanted ≡ Err e → wanted ≡ Err f → IsErrOf {T = X} (Err e) f
one_error {X} {Y} {E} wanted e f h k =
    let both = sym h ∙ k in
    let same : e ≡ f = cc in
    let as_error : E → Result X E = λ g. Err g in
    ap as_error same

-- a further step on an error gives that error
pub and_then_error : {X Y E : Type 0} (f : X → Result Y E) (r : Result X E) (e : E) → Some e ≡ error_if_err r → result_and_then f r ≡ Err e
and_then_error f (Ok x) e h = cc
and_then_error f (Err g) e h = let same : g ≡ e = cc in ap Err same

-- an object with a fault is no document
pub object_with_fault : (fields : List Field) (ms : Members) (e : Refusal) → Some e ≡ members_fault fields ms → document_of fields (object ms) ≡ Err e
object_with_fault fields ms e h = ap (λ o. ok_unless o (record { schema = fields; values = map (value_at ms) fields })) (sym h)
