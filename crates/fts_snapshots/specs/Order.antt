-- Members with stamps, sorted by their stamps.
use Rattle.std.specs.Prelude.{nat_le, List, [], ◌∷◌, if◌then◌else◌}
use Rattle.fts_model.specs.declared.operation.Stamped.{Stamped}

-- sorted members with one more, inserted before the first whose stamp is not smaller
abbrev pub placed : {X : Type 0} → Stamped X → List (Stamped X) → List (Stamped X)
placed x [] = x ∷ []
placed x (y ∷ ys) = if nat_le x.stamp y.stamp then x ∷ y ∷ ys else y ∷ placed x ys

-- members sorted by their stamps
abbrev pub in_stamp_order : {X : Type 0} → List (Stamped X) → List (Stamped X)
in_stamp_order [] = []
in_stamp_order (x ∷ xs) = placed x (in_stamp_order xs)
