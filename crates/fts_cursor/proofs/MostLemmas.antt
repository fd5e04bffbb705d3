-- How many blocks are opened at most: of several cursors, of lists that are joined, and of a phrase.
use Rattle.std.proofs.Common.{◌≡◌, ℕ, zero, suc, ◌+◌, ◌-◌, ◌*◌, ◌/◌, ◌<◌, ◌≤◌, ◌&&◌, min, nat_le, nat_lt, true, false, None, List, [], ◌∷◌, length, map}
use Rattle.std.proofs.Common.{get_or, refl, sym, ap, ap₂, subst, ◌∙◌, arith}
use Rattle.std.specs.Prelude.{if◌then◌else◌}
use Rattle.std.specs.List.{AllZip, flat_map, fold, list_all, remove, sum_by}
use Rattle.std.specs.declared.ops.Bound.{Bound}
use Rattle.std.proofs.Math.Nat.{mul-le-mul_left}
use Rattle.std.proofs.lemmas.Bool.{le-leb, lt-leb}
use Rattle.std.proofs.lemmas.List.{length-map}
use Rattle.std.proofs.lemmas.List.Edits.{length-remove}
use Rattle.std.proofs.lemmas.List.Sums.{sum_by-cons}
use Rattle.fts_model.specs.declared.query.Query.{Query}
use Rattle.fts_model.specs.declared.value.FieldValue.{FieldValue}
use Rattle.fts_model.specs.QueryValues.{phrase, query_list, query_value, range}
use Rattle.fts_pack.specs.Documents.{block_count}
use Rattle.fts_pack.specs.SourceLaws.{blocks_joined, length-blocks_of}
use Rattle.fts_postings.specs.Bounds.{most_at}
use Rattle.fts_postings.specs.Conjoined.{bound_of}
use Rattle.fts_postings.specs.Posting.{Posting}
use Rattle.fts_postings.specs.Sets.{union}
use Rattle.fts_postings.proofs.CostLemmas.{length-with_all}
use Rattle.fts_segment.specs.ListIds.{documents_in}
use Rattle.fts_segment.specs.Segments.{SegmentValue, postings}
use Rattle.fts_cursor.specs.declared.phrase.Member.{Member}
use Rattle.fts_cursor.specs.Builds.{IsCursorOf, IsMemberFor, is_term, text_term}
use Rattle.fts_cursor.specs.Leading.{IsOver}
use Rattle.fts_cursor.specs.Hits.{segment_hits}
use Rattle.fts_cursor.specs.Most.{OpensRange, are_terms, hits_each, least_for, least_of_range, most_for, most_of_range}
use Rattle.fts_cursor.specs.Openings.{shortest_of}
use Rattle.fts_cursor.specs.Standing.{Standing, at_most}
use Rattle.fts_cursor.specs.TreeValues.{TreeValue, all_most}
use Rattle.fts_cursor.proofs.HitsLemmas.{hits_of}
use Rattle.fts_cursor.proofs.PhraseHits.{cursors_many}
use Rattle.fts_cursor.proofs.PhraseLeads.{AllZip-at}

-- one of some cursors and the others open at most what all do
pub all_most-led : (parts : List TreeValue) (k : ℕ) (e : TreeValue) → k < length parts → most_at (get_or parts k e).bound None + all_most (remove parts k)
    ≡ all_most parts
all_most-led [] k e inside = absurd (omega (arith, inside))
all_most-led (p ∷ ps) zero e inside = refl
all_most-led (p ∷ ps) (suc k) e inside = omega (arith, all_most-led ps k e (omega (arith, inside)))

-- queries of the code, and what they find
pub are_all_terms : (qs : List Query) → are_terms (query_list (map query_value qs)) ≡ list_all (λ q. is_term (query_value q)) qs
are_all_terms [] = refl
are_all_terms (q ∷ qs) = ap (λ b. is_term (query_value q) && b) (are_all_terms qs)

pub hits_are_each : (segment : SegmentValue) (qs : List Query) → hits_each segment (query_list (map query_value qs)) ≡ map (hits_of segment) qs
hits_are_each segment [] = refl
hits_are_each segment (q ∷ qs) = ap (λ lists. hits_of segment q ∷ lists) (hits_are_each segment qs)

-- what lists have together has no more blocks than they
pub block_count-union : (lists : List (List ℕ)) → block_count (length (union lists)) ≤ sum_by (λ list. block_count (length list)) lists
block_count-union [] = omega arith
block_count-union (xs ∷ lists) =
    omega (arith, length-with_all xs (union lists), block_count-union lists, sum_by-cons (λ (list : List ℕ). block_count (length list)) xs lists)

-- the shortest of some lists is no shorter than what none of them is shorter than
no_shorter-fold : (n : ℕ) (xs : List ℕ) (lists : List (List ℕ)) → n ≤ length xs → ((j : ℕ) (e : List ℕ) → j < length lists → n ≤ length (get_or lists j e)) →
    n ≤ length (fold (λ least other. if nat_lt (length other) (length least) then other else least) xs lists)
no_shorter-fold n xs [] h all = h
no_shorter-fold n xs (ys ∷ lists) h all =
    let first : n ≤ length (if nat_lt (length ys) (length xs) then ys else xs) =
    elim (nat_lt (length ys) (length xs)) as (λ b. n ≤ length (if b then ys else xs)) [ true ↦ all 0 xs (omega arith) | false ↦ h ] in
    no_shorter-fold n (if nat_lt (length ys) (length xs) then ys else xs) lists first (λ j e inside. all (suc j) e (omega (arith, inside)))

no_shorter : (n : ℕ) (lists : List (List ℕ)) → 0 < length lists → ((j : ℕ) (e : List ℕ) → j < length lists → n ≤ length (get_or lists j e)) →
    n ≤ length (shortest_of lists)
no_shorter n [] some all = absurd (omega (arith, some))
no_shorter n (xs ∷ lists) some all = no_shorter-fold n xs lists (all 0 xs (omega arith)) (λ j e inside. all (suc j) e (omega (arith, inside)))

-- a longer list that leads as many others may open more
grows : (others a b : ℕ) → a ≤ b → block_count a + others * (a + 1) ≤ block_count b + others * (b + 1)
grows others a b less =
    let more : a + 1 ≤ b + 1 = omega (arith, less) in
    omega (arith, mul-le-mul_left others more, less)

-- the lists of a pattern are those of its members
lists_are : (segment : SegmentValue) (field : ℕ) (pattern : List (ℕ × List ℕ)) (ms : List Member) → AllZip (IsMemberFor segment field) pattern ms →
    map (postings segment) (map (λ w. text_term field w.1) pattern) ≡ map (λ m. documents_in m.list) ms
lists_are segment field [] [] h = refl
lists_are segment field [] (m ∷ ms) h = absurd h
lists_are segment field (w ∷ ws) [] h = absurd h
lists_are segment field (w ∷ ws) (m ∷ ms) h = ap₂ (λ (xs : List ℕ) (lists : List (List ℕ)). xs ∷ lists) (sym h.0.documents) (lists_are segment field ws ms h.1)

-- how many documents have the term of a member
abbrev pub HasLength : ℕ → Member → Type 0
HasLength count m = count ≡ length (documents_in m.list)

none_shorter : (n : ℕ) (lengths : List ℕ) (ms : List Member) → AllZip HasLength lengths ms → ((j : ℕ) → j < length lengths → n ≤ get_or lengths j 0) →
    (j : ℕ) (e : List ℕ) → j < length (map (λ m. documents_in m.list) ms) → n ≤ length (get_or (map (λ m. documents_in m.list) ms) j e)
none_shorter n [] [] h all j e inside = absurd (omega (arith, inside))
none_shorter n [] (m ∷ ms) h all j e inside = absurd h
none_shorter n (l ∷ ls) [] h all j e inside = absurd h
none_shorter n (l ∷ ls) (m ∷ ms) h all zero e inside = omega (arith, h.0, all 0 (omega arith))
none_shorter n (l ∷ ls) (m ∷ ms) h all (suc j) e inside = none_shorter n ls ms h.1 (λ i within. all (suc i) (omega (arith, within))) j e (omega (arith, inside))

-- a conjunction of the cursors of a phrase, of which the shortest leads, opens no more than is said of the phrase
pub phrase_most : (segment : SegmentValue) (field : ℕ) (pattern : List (ℕ × List ℕ)) (lengths : List ℕ) (ps : List Posting) (ms : List Member) (k : ℕ)
    (lead : Posting) (rest : List Posting) (first : Member) →
    AllZip (IsMemberFor segment field) pattern ms → AllZip HasLength lengths ms → AllZip IsCursorOf ps ms → k < length ms →
    ((j : ℕ) → j < length lengths → get_or lengths k 0 ≤ get_or lengths j 0) → lead ≡ get_or ps k lead → rest ≡ remove ps k →
    most_at (bound_of (record { lead = lead; others = rest })) None ≤ most_for segment (phrase field pattern)
phrase_most segment field pattern lengths ps ms k lead rest first members counts cursors inside least lead_is rest_are =
    let lists = map (postings segment) (map (λ w. text_term field w.1) pattern) in
    let documents = documents_in (get_or ms k first).list in
    let over : IsOver lead documents = subst (λ p. IsOver p documents) (sym lead_is) (AllZip-at IsCursorOf ps ms k lead first inside cursors) in
    let many : length rest ≡ length ms - 1 =
    omega (
      arith,
      ap length rest_are,
      length-remove ps k (let within : k < length ps = omega (arith, cursors_many ps ms cursors, inside) in within),
      cursors_many ps ms cursors,
      inside,
    ) in
    let size : length lists ≡ length ms = ap length (lists_are segment field pattern ms members) ∙ length-map ms (λ m. documents_in m.list) in
    let n : get_or lengths k 0 ≡ length documents = AllZip-at HasLength lengths ms k 0 first inside counts in
    let short : length documents ≤ length (shortest_of lists) =
    subst (λ m. m ≤ length (shortest_of lists)) n (no_shorter (get_or lengths k 0) lists (omega (arith, size, inside))
    (subst (λ ls. (j : ℕ) (e : List ℕ) → j < length ls → get_or lengths k 0 ≤ length (get_or ls j e)) (sym (lists_are segment field pattern ms members))
    (none_shorter (get_or lengths k 0) lengths ms counts least))) in
    let others : length rest ≡ length lists - 1 = omega (arith, many, size) in
    let is : most_at (bound_of (record { lead = lead; others = rest })) None ≡ block_count (length documents) + (length lists - 1) * (length documents + 1) =
    ap (λ bs. length bs + length rest * (length (flat_map (λ block. block) bs) + 1)) over.blocks
    ∙ ap₂ (λ b n. b + length rest * (n + 1)) (length-blocks_of documents) (ap length (blocks_joined documents))
    ∙ ap (λ o. block_count (length documents) + o * (length documents + 1)) others in
    subst (λ v. v ≤ most_for segment (phrase field pattern)) (sym is) (grows (length lists - 1) (length documents) (length (shortest_of lists)) short)

-- a range where few documents match: its lists are read
pub opens_lists : (documents blocks : ℕ) (s : Standing) → length s.remaining ≤ documents / 256 → block_count (length s.remaining) ≤ blocks →
    s.openings ≡ min blocks (length s.remaining) → s.bound ≡ at_most (min blocks (length s.remaining)) → OpensRange documents s
opens_lists documents blocks s few many openings bound =
    let found = length s.remaining in
    let test : nat_le found (documents / 256) ≡ true = le-leb found (documents / 256) few in
    record {
      most = rw bound (rw test (omega arith));
      least = rw openings (rw test (omega (arith, many)));
    }

-- one where many do: its column is
pub opens_column : (documents : ℕ) (s : Standing) → documents / 256 < length s.remaining → s.bound ≡ at_most 0 → OpensRange documents s
opens_column documents s many bound =
    let test : nat_le (length s.remaining) (documents / 256) ≡ false = lt-leb (length s.remaining) (documents / 256) many in
    record {
      most = rw bound (omega arith);
      least = rw test (omega arith);
    }

-- what the cursor of a range opens
module _ (segment : SegmentValue) (field : ℕ) (lower upper : Bound FieldValue) (s : Standing) where
  pub range_most : s.remaining ≡ segment_hits segment (range field lower upper) → OpensRange (length segment.documents) s →
      most_at s.bound None ≤ most_for segment (range field lower upper)
  range_most is opens = subst (λ xs. most_at s.bound None ≤ most_of_range (length segment.documents) (length xs)) is opens.most

  pub range_least : s.remaining ≡ segment_hits segment (range field lower upper) → OpensRange (length segment.documents) s →
      least_for segment (range field lower upper) ≤ s.openings
  range_least is opens = subst (λ xs. least_of_range (length segment.documents) (length xs) ≤ s.openings) is opens.least
