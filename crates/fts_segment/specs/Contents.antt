-- The live documents of a segment.
use Rattle.std.specs.Prelude.{Bool, List, [], ◌∷◌, if◌then◌else◌}
use Rattle.fts_model.specs.declared.operation.Stamped.{Stamped}
use Rattle.fts_model.specs.Documents.{DocumentValue}
use Rattle.fts_segment.specs.Segments.{SegmentValue}

-- the members whose bit is set, in order
abbrev pub where_set : {X : Type 0} → List X → List Bool → List X
where_set [] bits = []
where_set (x ∷ xs) [] = []
where_set (x ∷ xs) (bit ∷ bits) = if bit then x ∷ where_set xs bits else where_set xs bits

-- the live documents, in order
abbrev pub content : List (Stamped DocumentValue) → List Bool → List (Stamped DocumentValue)
content documents live = where_set documents live

-- the live documents of a segment, in order
abbrev pub content_of : SegmentValue → List Bool → List (Stamped DocumentValue)
content_of segment live = content segment.documents live
