-- The lines of a text.
use Rattle.std.specs.Prelude.{ℕ, ◌≡◌, ◌≢◌, ◌⊎◌, ◌==◌, ◌||◌, List, [], ◌∷◌, ◌++◌, Bool, if◌then◌else◌}
use Rattle.std.specs.List.{list_all, onto_first}

-- the lines of a text: each ends at an LF, and the last may lack it
abbrev pub lines_of : List ℕ → List (List ℕ)
lines_of [] = []
lines_of (b ∷ bytes) = if b == 10 then [] ∷ lines_of bytes else onto_first b (lines_of bytes)

-- a space, a tab or a CR
abbrev pub is_white : ℕ → Bool
is_white b = b == 32 || b == 9 || b == 13

-- a line of spaces, tabs and CRs alone
abbrev pub is_blank : List ℕ → Bool
is_blank line = list_all is_white line

-- nothing, or whole lines: the last byte is an LF
abbrev pub IsWhole : List ℕ → Type 0
IsWhole bytes = (bytes ≡ []) ⊎ ((front : List ℕ) × (bytes ≡ front ++ 10 ∷ []))

-- text in which no line ends
abbrev pub HasNoEnd : List ℕ → Type 0
HasNoEnd [] = Unit {0}
HasNoEnd (b ∷ bytes) = (b ≢ 10) × HasNoEnd bytes
