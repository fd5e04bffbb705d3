-- How many blocks were opened, and how many musts a query has.
use Rattle.std.proofs.Common.{◌≡◌, ◌≢◌, ℕ, ◌-◌, ◌/◌, ◌^◌, ◌<◌, ◌≤◌, true, false, nat_le, List, [], ◌∷◌, length, map, min, refl, sym, ap, ◌∙◌, inl, inr}
use Rattle.std.proofs.Common.{nat_lt, arith}
use Rattle.std.proofs.lemmas.Bool.{cases_lt, le-ltb, lt-ltb}
use Rattle.std.proofs.lemmas.List.{length-map}
use Rattle.std.specs.Prelude.{if◌then◌else◌}
use Rattle.fts_model.specs.declared.operation.Term.{Term}
use Rattle.fts_model.specs.declared.query.Query.TheOpen.{Query-F}
use Rattle.fts_model.specs.declared.query.Query.TheViews as views
use Rattle.fts_model.specs.declared.query.Query.TheVariants.{rolls-Bool}
use Rattle.fts_model.specs.declared.query.Query.TheFolds.{fold-roll-Query}
use Rattle.fts_model.specs.Queries.{matches}
use Rattle.fts_model.specs.QueryValues.{QueryValue, every, nothing, phrase, range, boolean, no_queries, term, query_list, value_by_parts, query_value}
use Rattle.fts_model.specs.declared.operation.Stamped.{Stamped}
use Rattle.fts_model.specs.declared.query.Request.{Request}
use Rattle.fts_model.specs.Documents.{DocumentValue}
use Rattle.fts_model.specs.Operations.{has}
use Rattle.fts_model.specs.Answers.{AnswerValue, answer_of}
use Rattle.fts_segment.specs.Segments.{SegmentValue}
use Rattle.fts_pack.specs.Documents.{block_count}
use Rattle.fts_cursor.specs.Hits.{segment_hits}
use Rattle.fts_cursor.specs.Most.{least_for, least_of_range}
use Rattle.fts_cursor.specs.Openings.{HasMusts, blocks_with}
use Rattle.fts_parts.specs.Collected.{hits_at}
use Rattle.fts_segment.proofs.HoldingLemmas.{length-numbers_where}

-- lists of one value are as long
query_list-length : (xs ys : List QueryValue) → query_list xs ≡ query_list ys → length xs ≡ length ys
query_list-length [] [] same = refl
query_list-length [] (y ∷ ys) same = cc
query_list-length (x ∷ xs) [] same = cc
query_list-length (x ∷ xs) (y ∷ ys) same =
    let rest : query_list xs ≡ query_list ys = cc in
    omega (arith, query_list-length xs ys rest)

-- a query that has these terms as its musts has as many musts
pub musts-length : (must must_not should : _) (terms : List Term) → HasMusts (query_value (views.Bool must must_not should)) terms →
    length must.items ≡ length terms
musts-length must must_not should terms has =
    let whole : boolean (query_list (map query_value must.items)) (query_list (map query_value must_not.items)) (query_list (map query_value should.items))
    ≡ boolean (query_list (map term terms)) no_queries no_queries =
    sym (ap query_value (sym (rolls-Bool must must_not should)) ∙ fold-roll-Query QueryValue value_by_parts (Query-F.Bool must must_not should)) ∙ has in
    let same : query_list (map query_value must.items) ≡ query_list (map term terms) = cc in
    sym (length-map must.items query_value) ∙ query_list-length (map query_value must.items) (map term terms) same ∙ length-map terms term

-- the blocks of a term can be counted in 64 bits
pub blocks-few : (segment : SegmentValue) (t : Term) → length segment.documents ≤ 2 ^ 32 → min (2 ^ 64 - 1) (blocks_with segment t) ≡ blocks_with segment t
blocks-few segment t few = omega (arith, few, length-numbers_where (λ (d : Stamped DocumentValue). has segment.schema d.value t) 0 segment.documents)

-- so can those that the cursor of a query opens at least
least-range : (documents found : ℕ) → found ≤ documents → documents ≤ 2 ^ 32 → least_of_range documents found ≤ 2 ^ 64 - 1
least-range documents found within few =
    elim (nat_le found (documents / 256)) as (λ b. (if b then block_count found else 0) ≤ 2 ^ 64 - 1) [
      | true ↦ omega (arith, within, few)
      | false ↦ omega arith
    ]

pub least-few : (segment : SegmentValue) (query : QueryValue) → length segment.documents ≤ 2 ^ 32 → least_for segment query ≤ 2 ^ 64 - 1
least-few segment every few = omega arith
least-few segment nothing few = omega arith
least-few segment (term t) few = omega arith
least-few segment (phrase field pattern) few = omega arith
least-few segment (range field lower upper) few =
    least-range (length segment.documents) (length (segment_hits segment (range field lower upper)))
    (length-numbers_where (λ (d : Stamped DocumentValue). matches segment.schema d.value (range field lower upper)) 0 segment.documents) few
least-few segment (boolean must must_not should) few = omega arith

-- one number is at most another, and that at most a third
pub at_most : (a b c : ℕ) → a ≤ b → b ≤ c → a ≤ c
at_most a b c first second = omega arith

-- what is so many where there are some
pub where_some : (n m k : ℕ) → (0 < n → m ≤ k) → (if nat_lt 0 n then m else 0) ≤ k
where_some n m k h = elim (cases_lt 0 n) [
  | inl some ↦ rw (lt-ltb 0 n some) (h some)
  | inr none ↦ rw (le-ltb 0 n none) (omega arith)
]

-- where hits are counted, there are hits
pub some_hits : (segment : SegmentValue) (request : Request) (docs : List ℕ) (answer : AnswerValue) → answer ≡ answer_of request (hits_at segment docs) →
    0 < answer.count → docs ≢ []
some_hits segment request docs answer is some none =
    let counted : answer.count ≡ length (hits_at segment docs) = ap (λ (a : AnswerValue). a.count) is in
    let nothing : length (hits_at segment docs) ≡ 0 = ap (λ ds. length (hits_at segment ds)) none in
    omega (arith, counted, nothing, some)
