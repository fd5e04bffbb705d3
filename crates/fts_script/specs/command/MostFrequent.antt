-- Answers with the most frequent groups alone.
use Rattle.std.specs.Prelude.{ℕ, Bool, List, [], ◌∷◌, take, if◌then◌else◌, option_map}
use Rattle.std.specs.Ordering.{is_lt, nat_cmp, ordering_then}
use Rattle.std.specs.declared.cmp.Ordering.{Ordering}
use Rattle.fts_model.specs.declared.value.GroupValue.{GroupValue}
use Rattle.fts_model.specs.Answers.{AnswerValue, group_cmp}

-- a list with one more member, inserted before the first that it is less than
abbrev pub insert_by : {X : Type 0} → (X → X → Bool) → X → List X → List X
insert_by less x [] = x ∷ []
insert_by less x (y ∷ ys) = if less x y then x ∷ y ∷ ys else y ∷ insert_by less x ys

-- a list in an order
abbrev pub sort_by : {X : Type 0} → (X → X → Bool) → List X → List X
sort_by less [] = []
sort_by less (x ∷ xs) = insert_by less x (sort_by less xs)

-- the order of groups by their counts, the greatest first, and of those of equal counts by their values
abbrev pub frequency_cmp : GroupValue × ℕ → GroupValue × ℕ → Ordering
frequency_cmp a b = ordering_then (nat_cmp b.1 a.1) (group_cmp a.0 b.0)

-- the most frequent groups, at most this many
abbrev pub most_frequent : ℕ → List (GroupValue × ℕ) → List (GroupValue × ℕ)
most_frequent limit groups = take limit (sort_by (λ a b. is_lt (frequency_cmp a b)) groups)

-- an answer with its most frequent groups alone
abbrev pub with_most_frequent : ℕ → AnswerValue → AnswerValue
with_most_frequent limit a = record a { groups = option_map (most_frequent limit) a.groups }
