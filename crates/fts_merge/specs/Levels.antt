-- The segments that are merged: those of one level together, by their numbers of live documents, and one with many
-- deleted documents by itself.
use Rattle.std.specs.Prelude.{ℕ, ◌-◌, ◌*◌, ◌^◌, ◌==◌, ◌&&◌, ◌||◌, not, nat_eq, nat_le, nat_lt, max, Bool, List, [], ◌∷◌}
use Rattle.std.specs.Prelude.{◌++◌}
use Rattle.std.specs.Prelude.{length, map, filter, if◌then◌else◌}
use Rattle.std.specs.List.{enumerate_from, list_any}
use Rattle.fts_merge.specs.declared.merge_plan.LevelSize.{LevelSize}
use Rattle.fts_merge.specs.declared.merge_policy.MergePolicy.{MergePolicy}
use Rattle.fts_merge.specs.declared.merge_policy.SegmentSize.{SegmentSize}

-- the policy of an index: no segment is merged by itself
abbrev pub usual : MergePolicy
usual = record { floor = 10000; members = 8; most = 1000000; dead = 100 }

-- a size with its index, raised to the policy's floor
abbrev pub as_counted : ℕ → ℕ × ℕ → LevelSize
as_counted floor (index, size) = record { size = max size floor; index = index }

-- sizes up to the policy's maximum, raised to its floor, each with its index
abbrev pub considered : MergePolicy → List ℕ → List LevelSize
considered policy sizes = map (as_counted policy.floor) (filter (λ s. nat_le s.1 policy.most) (enumerate_from 0 sizes))

-- a size is greater, or equal and of a smaller index
abbrev pub comes_first : LevelSize → LevelSize → Bool
comes_first a b = nat_lt b.size a.size || a.size == b.size && nat_lt a.index b.index

-- ordered sizes with one more, inserted before the first that it comes before
abbrev pub placed : LevelSize → List LevelSize → List LevelSize
placed c [] = c ∷ []
placed c (d ∷ ds) = if comes_first c d then c ∷ d ∷ ds else d ∷ placed c ds

-- sizes in descending order, equal ones by their indexes
abbrev pub greatest_first : List LevelSize → List LevelSize
greatest_first [] = []
greatest_first (c ∷ cs) = placed c (greatest_first cs)

-- a size is in the level of another: their logarithms to base 2 differ by at most 0.75
abbrev pub joins : ℕ → ℕ → Bool
joins first size = nat_le (first ^ 4) (8 * size ^ 4)

-- the levels of ordered sizes, if some before them are in the level whose first size is `first`
abbrev pub levels_behind : ℕ → List LevelSize → List LevelSize → List (List LevelSize)
levels_behind first level [] = level ∷ []
levels_behind first level (c ∷ cs) =
    if joins first c.size then levels_behind first (level ++ c ∷ []) cs else level ∷ levels_behind c.size (c ∷ []) cs

-- the levels of ordered sizes: the first size begins one, and each that does not join it begins another
abbrev pub levels_of : List LevelSize → List (List LevelSize)
levels_of [] = []
levels_of (c ∷ cs) = levels_behind c.size (c ∷ []) cs

-- the levels of sizes, beginning with the greatest
abbrev pub levels : MergePolicy → List ℕ → List (List LevelSize)
levels policy sizes = levels_of (greatest_first (considered policy sizes))

-- the indexes of the levels with enough members
abbrev pub large_enough : ℕ → List (List LevelSize) → List (List ℕ)
large_enough members levels =
    map (λ level. map (λ c. c.index) level) (filter (λ level. nat_le members (length level)) levels)

-- the candidates for levels: for each level with enough members, their indexes among the sizes
abbrev pub together : MergePolicy → List ℕ → List (List ℕ)
together policy sizes = large_enough policy.members (levels policy sizes)

-- the candidates for levels of at least eight members
abbrev pub candidates : List ℕ → List (List ℕ)
candidates sizes = together usual sizes

-- an index is in a candidate
abbrev pub is_named : List (List ℕ) → ℕ → Bool
is_named found index = list_any (λ candidate. list_any (λ named. nat_eq named index) candidate) found

-- more than this percentage of a segment's documents are deleted
abbrev pub is_mostly_dead : ℕ → SegmentSize → Bool
is_mostly_dead percent segment = nat_lt (percent * segment.docs) (100 * (segment.docs - segment.live))

-- the candidates of a single segment: each with more than this percentage of deleted documents that is in no other
-- candidate
abbrev pub alone : ℕ → List (List ℕ) → List SegmentSize → List (List ℕ)
alone percent found segments =
    map (λ s. s.0 ∷ [])
    (filter (λ s. is_mostly_dead percent s.1 && not (is_named found s.0)) (enumerate_from 0 segments))

-- the number of live documents of each segment
abbrev pub live_sizes : List SegmentSize → List ℕ
live_sizes segments = map (λ s. s.live) segments

-- the candidates of a policy: first those for levels, then single segments with too many deleted documents
abbrev pub candidates_by : MergePolicy → List SegmentSize → List (List ℕ)
candidates_by policy segments =
    together policy (live_sizes segments)
    ++ alone policy.dead (together policy (live_sizes segments)) segments
