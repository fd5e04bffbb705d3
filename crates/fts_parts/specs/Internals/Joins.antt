-- How parts are joined: their groups value by value, and their top lists as one list of hits.
use Rattle.std.specs.Prelude.{◌≡◌, ◌≢◌, ℕ, ◌+◌, ◌-◌, ◌^◌, min, List, [], ◌∷◌, map, take, fold, AllPairs, unwrap_or}
use Rattle.std.specs.Prelude.{Some}
use Rattle.std.specs.List.{flat_map}
use Rattle.std.specs.Ordering.{match_ordering, ordering_then, nat_cmp}
use Rattle.std.specs.declared.cmp.Ordering.{Ordering}
use Rattle.std.specs.declared.cmp.Ordering.TheVariants.{Less}
use Rattle.fts_model.specs.declared.operation.Stamped.{Stamped}
use Rattle.fts_model.specs.declared.value.GroupValue.{GroupValue}
use Rattle.fts_model.specs.declared.query.Order.{Order}
use Rattle.fts_model.specs.declared.answer.Hit.{Hit}
use Rattle.fts_model.specs.Documents.{DocumentValue}
use Rattle.fts_model.specs.Answers.{group_cmp, cmp_by, put_hit, groups}
use Rattle.fts_parts.specs.Parts.{PartValue}

-- two counts together, which stay at the greatest number of 64 bits
abbrev pub counts_added : ℕ → ℕ → ℕ
counts_added n m = min (n + m) (2 ^ 64 - 1)

-- groups of rising values, with one more
abbrev pub add_group : List (GroupValue × ℕ) → GroupValue × ℕ → List (GroupValue × ℕ)
add_group [] more = more ∷ []
add_group (group ∷ groups) more =
    match_ordering (group_cmp more.0 group.0)
    (more ∷ group ∷ groups)
    ((group.0, counts_added group.1 more.1) ∷ groups)
    (group ∷ add_group groups more)

-- the values of groups rise
abbrev pub GroupsRise : List (GroupValue × ℕ) → Type 0
GroupsRise groups = AllPairs (λ a b. group_cmp a.0 b.0 ≡ Less) groups

-- the groups of a part are those of these hits
abbrev pub AreGroupsOf : ℕ → List (List (Stamped DocumentValue)) → List PartValue → Type 0
AreGroupsOf field lists parts = map (λ part. part.answer.groups) parts ≡ map (λ hits. Some (groups field hits)) lists

-- how two hits compare in a top list
abbrev pub rank : Order → Hit → Hit → Ordering
rank order a b = ordering_then (cmp_by order a.value b.value) (nat_cmp a.stamp b.stamp)

-- no two hits have one stamp
abbrev pub AreApart : List Hit → Type 0
AreApart hits = AllPairs (λ a b. a.stamp ≢ b.stamp) hits

-- the first of hits
abbrev pub first_of : ℕ → Order → List Hit → List Hit
first_of k order hits = take k (fold (put_hit order) [] hits)

-- the hits in the top list of a part
abbrev pub hits_in : PartValue → List Hit
hits_in part = unwrap_or part.answer.top []

-- the hits in the top lists of all parts
abbrev pub all_hits : List PartValue → List Hit
all_hits parts = flat_map hits_in parts
