-- Relates the result of a call to what a definition says.
use Rattle.std.specs.Prelude.{◌≡◌, ◌⊎◌, Result, Ok, Err, Option, Some, None}
use Rattle.fts_base.specs.declared.refusal.Refusal.{Refusal}
use Rattle.fts_base.specs.declared.refusal.Refusal.TheVariants.{Memory}

-- a call returned what a definition says, or memory ran out
abbrev pub Gives : {X Y : Type 0} → (X → Y) → Result X Refusal → Result Y Refusal → Type 0
Gives view (Ok x) wanted = wanted ≡ Ok (view x)
Gives view (Err e) wanted = (e ≡ Memory) ⊎ (wanted ≡ Err e)

-- the value of a result, if it is no error
abbrev pub value_if_ok : {X E : Type 0} → Result X E → Option X
value_if_ok (Ok x) = Some x
value_if_ok (Err e) = None

-- the error of a result, if it is one
abbrev pub error_if_err : {X E : Type 0} → Result X E → Option E
error_if_err (Ok x) = None
error_if_err (Err e) = Some e

-- the first of two options if it has a value, otherwise the second
abbrev pub first_of : {X : Type 0} → Option X → Option X → Option X
first_of None y = y
first_of (Some x) y = Some x

-- a value, or the fault if there is one
abbrev pub ok_unless : {X E : Type 0} → Option E → X → Result X E
ok_unless None x = Ok x
ok_unless (Some e) x = Err e

-- a further step on the value of a result, or the result's error
abbrev pub result_and_then : {X Y E : Type 0} → (X → Result Y E) → Result X E → Result Y E
result_and_then f (Ok x) = f x
result_and_then f (Err e) = Err e

-- a result whose value is replaced by its image
abbrev pub result_map : {X Y E : Type 0} → (X → Y) → Result X E → Result Y E
result_map f (Ok x) = Ok (f x)
result_map f (Err e) = Err e
