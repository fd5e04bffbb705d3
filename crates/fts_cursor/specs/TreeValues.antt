-- What contracts see of a tree of cursors: what those of its cursor see, and a measure for recursions over it.
use Rattle.std.specs.Prelude.{◌≡◌, ℕ, suc, ◌+◌, ◌≤◌, max, Bool, false, List, None, Some, [], ◌∷◌, filter, map, slice_get}
use Rattle.std.proofs.Common.{arith}
use denote.Param.Weighed.{most}
use Rattle.fts_postings.specs.Bounds.{most_at}
use Rattle.fts_postings.specs.Remaining.{at_least}
use Rattle.fts_cursor.specs.Standing.{Continues, Standing, at_most, left_at}

-- how it is, and how deep the cursors in it nest
pub record TreeValue : Type 0 where
  pub standing : Standing
  pub open standing use *
  pub height : ℕ

-- a later state of a tree
pub record TreeContinues (old new : TreeValue) : Type 0 where
  pub continues : Continues old.standing new.standing
  pub open continues use *
  pub height : new.height ≡ old.height

-- what remains of each
abbrev pub remains : List TreeValue → List (List ℕ)
remains parts = map (λ t. t.remaining) parts

-- the sums of all, and the greatest height
abbrev pub all_openings : List TreeValue → ℕ
all_openings [] = 0
all_openings (t ∷ parts) = t.openings + all_openings parts

abbrev pub all_most : List TreeValue → ℕ
all_most [] = 0
all_most (t ∷ parts) = most_at t.bound None + all_most parts

abbrev pub heights : List TreeValue → ℕ
heights [] = 0
heights (t ∷ parts) = max t.height (heights parts)

-- one cursor alone
abbrev pub leaf : Standing → TreeValue
leaf standing = record { standing = standing; height = 0 }

-- several cursors as one
abbrev pub together : List TreeValue → TreeValue
together parts = record {
  standing = record {
    remaining = [];
    openings = all_openings parts;
    bound = at_most (all_most parts);
    whole = false;
    list = None;
  };
  height = heights parts;
}

-- a cursor of two, with what remains of it
abbrev pub beside : TreeValue → TreeValue → List ℕ → TreeValue
beside a b remaining = record {
  standing = record {
    remaining = remaining;
    openings = a.openings + b.openings;
    bound = at_most (most_at a.bound None + most_at b.bound None);
    whole = false;
    list = None;
  };
  height = suc (max a.height b.height);
}

-- a cursor over what remains of another
abbrev pub above : TreeValue → List ℕ → TreeValue
above tree remaining = record { standing = record tree.standing { remaining = remaining }; height = suc tree.height }

-- no cursor is deeper than the deepest
pub most-heights : (parts : List TreeValue) → most (λ t. t.height + 1) parts ≤ heights parts + 1
most-heights [] = omega arith
most-heights (t ∷ parts) = omega (arith, most-heights parts)

-- if a tree goes over one list alone, what remains is of what is left of that list, by some test of the documents
abbrev pub LeavesList : TreeValue → Type 0
LeavesList tree =
    (documents : List ℕ) → tree.list ≡ Some documents →
    (test : ℕ → Bool) × (tree.remaining ≡ filter test (left_at documents (slice_get tree.remaining 0)))

-- a tree after a search for a document: the same from there on
pub record Narrowed (doc : ℕ) (old new : TreeValue) : Type 0 where
  pub same : at_least doc new.remaining ≡ at_least doc old.remaining
  pub continues : TreeContinues old new

-- a tree that passed what is below the target
pub record Left (target : ℕ) (old new : TreeValue) : Type 0 where
  pub remaining : new.remaining ≡ at_least target old.remaining
  pub continues : TreeContinues old new
