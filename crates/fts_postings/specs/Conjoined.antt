-- What contracts see of a conjunction of posting cursors, and the bound on its openings.
use Rattle.std.specs.Prelude.{◌≡◌, ℕ, ◌+◌, ◌-◌, ◌<◌, ◌≤◌, All, List, Option, None, Some, true, false, length, map}
use Rattle.std.specs.Prelude.{slice_get}
use Rattle.std.specs.List.{AllZip, sum_by}
use Rattle.fts_postings.specs.Bounds.{Bound}
use Rattle.fts_postings.specs.Sets.{common, in_all}
use Rattle.fts_postings.specs.Posting.{Follows, Posting, members_of, remaining_of}
use Rattle.fts_postings.specs.Remaining.{at_least}

-- the cursor that leads, and the others
pub record Conjoined : Type 0 where
  pub lead : Posting
  pub others : List Posting

-- what remains of each
abbrev pub each_remaining : List Posting → List (List ℕ)
each_remaining others = map remaining_of others

-- what is still to come of all
abbrev pub common_of : Conjoined → List ℕ
common_of c = common (remaining_of c.lead) (each_remaining c.others)

-- how many members there are up to the one at which the cursor is, that one included: all of them at the end
abbrev pub members_reached : Posting → ℕ
members_reached p = length (members_of p) - (length (remaining_of p) - 1)

-- how many blocks all of them opened, and how many openings their sources counted
abbrev pub openings_of : Conjoined → ℕ
openings_of c = c.lead.opened + sum_by (λ p. p.opened) c.others

abbrev pub counts_of : Conjoined → ℕ
counts_of c = c.lead.count + sum_by (λ p. p.count) c.others

-- how many blocks they open at most: those of the leading list, and those that its members are sought in
abbrev pub bound_of : Conjoined → Bound
bound_of c = record { blocks = length c.lead.blocks; lead = members_of c.lead; others = length c.others }

-- a later state of cursors over lists that don't change
pub record AllFollow (old new : Conjoined) : Type 0 where
  pub lead : Follows old.lead new.lead
  pub others : AllZip Follows old.others new.others

-- each of the others opened one block for each member that the leading cursor reached, and one when it was made
abbrev pub AreFew : Posting → List Posting → Type 0
AreFew lead others = All (λ p. p.opened ≤ members_reached lead + 1) others

-- each of the others has so few openings that it may open another block at the leading cursor's document
pub record MayBeBrought (lead : Posting) (others : List Posting) : Type 0 where
  pub few : AreFew lead others
  pub fewer : 0 < length (remaining_of lead) → All (λ p. p.opened ≤ members_reached lead) others

-- cursors are at a document
abbrev pub StandAt : ℕ → List Posting → Type 0
StandAt doc cursors = All (λ p. slice_get (remaining_of p) 0 ≡ Some doc) cursors

-- the others are at the leading cursor's document, or that one is at its end
abbrev pub StandTogether : Posting → List Posting → Type 0
StandTogether lead others = (doc : ℕ) → slice_get (remaining_of lead) 0 ≡ Some doc → StandAt doc others

pub record IsConjoined (lead : Posting) (others : List Posting) : Type 0 where
  pub together : StandTogether lead others
  pub few : AreFew lead others

-- after one seek at most
pub record Sought (doc : ℕ) (old new : Posting) : Type 0 where
  pub follows : Follows old new
  pub same : at_least doc (remaining_of new) ≡ at_least doc (remaining_of old)
  pub once : new.opened ≤ old.opened + 1

abbrev pub Brought : ℕ → List Posting → List Posting → Type 0
Brought doc old new = AllZip (Sought doc) old new

-- the first document, from `doc` on, that the lists may have in common
abbrev pub IsAhead : ℕ → List (List ℕ) → Option ℕ → Type 0
IsAhead doc lists None = (d : ℕ) → doc ≤ d → in_all lists d ≡ false
IsAhead doc lists (Some next) =
    (doc ≤ next) × (next ≡ doc → in_all lists doc ≡ true) × ((d : ℕ) → doc ≤ d → d < next → in_all lists d ≡ false)
