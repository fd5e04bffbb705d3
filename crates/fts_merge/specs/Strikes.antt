-- The effect of operations on the live documents of a segment.
use Rattle.std.specs.Prelude.{Bool, ◌&&◌, List, [], ◌∷◌}
use Rattle.fts_model.specs.declared.schema.Field.{Field}
use Rattle.fts_model.specs.declared.operation.Op.{Op}
use Rattle.fts_model.specs.declared.operation.Stamped.{Stamped}
use Rattle.fts_model.specs.Documents.{DocumentValue}
use Rattle.fts_model.specs.Operations.{survives}

-- the bits that were set and whose members pass a test
abbrev pub bits_where : {X : Type 0} → (X → Bool) → List X → List Bool → List Bool
bits_where p [] bits = []
bits_where p (x ∷ xs) [] = []
bits_where p (x ∷ xs) (bit ∷ bits) = (bit && p x) ∷ bits_where p xs bits

-- the live bits after operations: those that were set and whose documents no operation of a later stamp deletes
abbrev pub bits_after : List Field → List (Stamped Op) → List (Stamped DocumentValue) → List Bool → List Bool
bits_after schema ops documents live = bits_where (survives schema ops) documents live
