-- How many blocks are opened at most, by the document at which a cursor is.
use Rattle.std.specs.Prelude.{ℕ, ◌+◌, ◌*◌, List, Option, None, Some, filter, length, nat_le}

-- this many in any case, and if other lists are sought for the members of one that leads, one of each of them when its
-- cursor is made, and one for each member that was reached
pub record Bound : Type 0 where
  pub blocks : ℕ
  pub lead : List ℕ
  pub others : ℕ

-- how many members of a rising list are reached at a document, that one counted: all of them at the end
abbrev pub reached : List ℕ → Option ℕ → ℕ
reached members None = length members
reached members (Some doc) = length (filter (λ d. nat_le d doc) members)

-- the most blocks that are opened by then
abbrev pub most_at : Bound → Option ℕ → ℕ
most_at bound doc = bound.blocks + bound.others * (reached bound.lead doc + 1)
