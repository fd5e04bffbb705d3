-- How many blocks are opened for a query of one term, and at most for a conjunction of terms.
use Rattle.std.specs.Prelude.{◌≡◌, ℕ, ◌-◌, ◌⊎◌, List, [], ◌∷◌, None, fold, if◌then◌else◌, length, map, nat_lt}
use Rattle.fts_model.specs.declared.operation.Term.{Term}
use Rattle.fts_model.specs.QueryValues.{QueryValue, term, boolean, no_queries, queries, query_list}
use Rattle.fts_pack.specs.Documents.{block_count}
use Rattle.fts_postings.specs.Bounds.{Bound, most_at}
use Rattle.fts_segment.specs.Segments.{SegmentValue, postings}

-- the query is this term alone, or has it as its only should and nothing else
abbrev pub IsOfOneTerm : QueryValue → Term → Type 0
IsOfOneTerm query t = (query ≡ term t) ⊎ (query ≡ boolean no_queries no_queries (queries (term t) no_queries))

-- the query has these terms as its musts and nothing else
abbrev pub HasMusts : QueryValue → List Term → Type 0
HasMusts query terms = query ≡ boolean (query_list (map term terms)) no_queries no_queries

-- how many blocks the list of a term has
abbrev pub blocks_with : SegmentValue → Term → ℕ
blocks_with segment t = block_count (length (postings segment t))

-- the shortest of some lists, the first of those that are as short
abbrev pub shortest_of : List (List ℕ) → List ℕ
shortest_of [] = []
shortest_of (xs ∷ lists) = fold (λ least other. if nat_lt (length other) (length least) then other else least) xs lists

-- the bound of a conjunction of lists that the shortest leads
abbrev pub bound_of_all : List (List ℕ) → Bound
bound_of_all lists = record {
  blocks = block_count (length (shortest_of lists));
  lead = shortest_of lists;
  others = length lists - 1;
}

-- the bound of a conjunction of terms: the blocks of the shortest list, and of each other list one when its cursor is
-- made and one for each document of the shortest that was reached
abbrev pub bound_for_musts : SegmentValue → List Term → Bound
bound_for_musts segment terms = bound_of_all (map (postings segment) terms)

-- the most blocks that it opens from its beginning to its end
abbrev pub most_for_musts : SegmentValue → List Term → ℕ
most_for_musts segment terms = most_at (bound_for_musts segment terms) None
