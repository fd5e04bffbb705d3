-- Ids of terms, as terms come.
use Rattle.std.specs.Prelude.{◌≡◌, List, ◌++◌}

-- a list that begins with another
abbrev pub GoesOn : {X : Type 0} → List X → List X → Type 0
GoesOn {X} old new = (more : List X) × (new ≡ old ++ more)
