-- What the parts of a search tell together.
use Rattle.std.proofs.Common.{◌≡◌, ◌<◌, ◌≤◌, ◌+◌, ◌-◌, ◌*◌, ◌^◌, ◌||◌, ℕ, true, false, cond, List, [], ◌∷◌, ◌++◌, length, map, min, sum_by, subst}
use Rattle.std.proofs.Common.{refl, sym, ap, ◌∙◌, arith}
use Rattle.std.specs.List.{AllZip, AllByRecursion, flat_map, list_any}
use Rattle.std.specs.List.Sorted.{IsPermutation}
use Rattle.std.proofs.lemmas.List.Sums.{sum_by-cons}
use Rattle.std.proofs.lemmas.List.Elements.{filter-append, recursion_from_All}
use Rattle.std.proofs.lemmas.List.Kept.{AllPairs-filter}
use Rattle.std.proofs.lemmas.Bool.{lt-ltb}
use Rattle.std.proofs.lemmas.Slice.Zip.{all_zipped_more}
use Rattle.fts_model.specs.declared.schema.Field.{Field}
use Rattle.fts_model.specs.declared.operation.Stamped.{Stamped}
use Rattle.fts_model.specs.declared.operation.Term.{Term}
use Rattle.fts_model.specs.declared.query.Request.{Request}
use Rattle.fts_model.specs.Documents.{DocumentValue}
use Rattle.fts_model.specs.Operations.{StampsRise, HasEachStampOnce}
use Rattle.fts_model.specs.Queries.{hits, matches}
use Rattle.fts_model.specs.QueryValues.{QueryValue}
use Rattle.fts_model.specs.Answers.{answer_of}
use Rattle.fts_cursor.specs.Most.{least_for, most_for}
use Rattle.fts_cursor.specs.Openings.{IsOfOneTerm, HasMusts, blocks_with, most_for_musts}
use Rattle.fts_parts.specs.Parts.{PartValue, ArePartsOf, joined}
use Rattle.fts_snapshots.specs.Entries.{EntryValue, live_in, content}
use Rattle.fts_snapshots.specs.Snapshots.{IsSnapshot, SnapshotValue, content_of}
use Rattle.fts_collect.specs.Searches.{AreOfParts, IsPartOf, OpensInAll, blocks_in, fewest_in, greatest_in, most_in, has_hit, least_in}
use Rattle.fts_snapshots.proofs.OrderLemmas.{permutation_in_order, filter-in_stamp_order}

-- one more of each
pub zip_more : {X Y : Type 0} (P : X → Y → Type 0) (xs more : List X) (x : X) (before after : List Y) (y : Y) → AllZip P xs before → P x y →
    more ≡ xs ++ x ∷ [] →
    after ≡ before ++ y ∷ [] → AllZip P more after
zip_more P xs more x before after y z p f e =
    subst (λ ys. AllZip P more ys) (sym e) (subst (λ zs. AllZip P zs (before ++ y ∷ [])) (sym f) (all_zipped_more P xs before x y z p))

-- the live hits of each segment
abbrev pub hits_by : List Field → QueryValue → List EntryValue → List (List (Stamped DocumentValue))
hits_by schema query entries = map (λ entry. hits schema query (live_in entry)) entries

joined_hits : (schema : List Field) (query : QueryValue) (entries : List EntryValue) →
    joined (hits_by schema query entries) ≡ hits schema query (flat_map live_in entries)
joined_hits schema query [] = refl
joined_hits schema query (entry ∷ entries) =
    let p = λ (d : Stamped DocumentValue). matches schema d.value query in
    ap (λ ds. hits schema query (live_in entry) ++ ds) (joined_hits schema query entries) ∙ sym (filter-append p (live_in entry) (flat_map live_in entries))

answers_told : (schema : List Field) (query : QueryValue) (request : Request) (entries : List EntryValue) (parts : List PartValue) →
    AllByRecursion (λ entry. entry.segment.schema ≡ schema) entries →
    AllZip (IsPartOf query request) entries parts → map (λ part. part.answer) parts ≡ map (answer_of request) (hits_by schema query entries)
answers_told schema query request [] [] s z = refl
answers_told schema query request [] (part ∷ parts) s z = absurd z
answers_told schema query request (entry ∷ entries) [] s z = absurd z
answers_told schema query request (entry ∷ entries) (part ∷ parts) s z =
    let first : part.answer ≡ answer_of request (hits schema query (live_in entry)) =
    z.0.answer ∙ ap (λ f. answer_of request (hits f query (live_in entry))) s.0 in
    ap (λ a. a ∷ map (λ part. part.answer) parts) first ∙ ap (λ others. answer_of request (hits schema query (live_in entry)) ∷ others)
    (answers_told schema query request entries parts s.1 z.1)

-- the parts are told of the hits of the content
pub parts_of_content : (schema : List Field) (query : QueryValue) (request : Request) (entries : List EntryValue) (parts : List PartValue) →
    AllByRecursion (λ entry. entry.segment.schema ≡ schema) entries →
    AllZip (IsPartOf query request) entries parts → ArePartsOf request (hits schema query (content entries)) parts
parts_of_content schema query request entries parts s z =
    let p = λ (d : Stamped DocumentValue). matches schema d.value query in
    let all = flat_map live_in entries in
    let found = hits schema query all in
    record {
      lists = hits_by schema query entries;
      cut = subst (λ ds. IsPermutation ds (hits schema query (content entries))) (sym (joined_hits schema query entries))
          (subst (λ ds. IsPermutation found ds) (sym (filter-in_stamp_order p all)) (permutation_in_order found));
      told = answers_told schema query request entries parts s z;
    }

-- no stamp stands twice among hits
pub once_among_hits : (schema : List Field) (query : QueryValue) (documents : List (Stamped DocumentValue)) → StampsRise documents →
    HasEachStampOnce (hits schema query documents)
once_among_hits schema query documents rise =
    let p = λ (d : Stamped DocumentValue). matches schema d.value query in
    let rising = AllPairs-filter (λ (x y : Stamped DocumentValue). x.stamp < y.stamp) p documents rise in
    λ i j d before within same. omega (arith, rising i j d before within, same)

-- there are no more hits than documents
pub length-hits : (schema : List Field) (query : QueryValue) (documents : List (Stamped DocumentValue)) →
    length (hits schema query documents) ≤ length documents
length-hits schema query [] = omega arith
length-hits schema query (d ∷ ds) =
    let rest = length-hits schema query ds in
    elim (matches schema d.value query) as (λ b. length (cond b (d ∷ hits schema query ds) (hits schema query ds)) ≤ length (d ∷ ds))
    [ true ↦ omega (arith, rest) | false ↦ omega (arith, rest) ]

abbrev opened_by : PartValue → ℕ
opened_by part = part.openings

-- the openings of all parts of a search for one term
pub openings-one_term : (query : QueryValue) (request : Request) (t : Term) (entries : List EntryValue) (parts : List PartValue) → IsOfOneTerm query t →
    AllZip (IsPartOf query request) entries parts →
    sum_by (λ part. part.openings) parts ≡ blocks_in entries t
openings-one_term query request t [] [] is z = refl
openings-one_term query request t [] (part ∷ parts) is z = absurd z
openings-one_term query request t (entry ∷ entries) [] is z = absurd z
openings-one_term query request t (entry ∷ entries) (part ∷ parts) is z =
    sum_by-cons opened_by part parts
    ∙ ap (λ n. n + sum_by opened_by parts) (z.0.openings.one_term t is)
    ∙ ap (λ n. blocks_with entry.segment t + n) (openings-one_term query request t entries parts is z.1)
    ∙ sym (sum_by-cons (λ e. blocks_with e.segment t) entry entries)

-- those of a search for a conjunction are at most these
pub openings-most : (query : QueryValue) (request : Request) (terms : List Term) (entries : List EntryValue) (parts : List PartValue) → HasMusts query terms →
    AllZip (IsPartOf query request) entries parts →
    sum_by (λ part. part.openings) parts ≤ most_in entries terms
openings-most query request terms [] [] is z = omega arith
openings-most query request terms [] (part ∷ parts) is z = absurd z
openings-most query request terms (entry ∷ entries) [] is z = absurd z
openings-most query request terms (entry ∷ entries) (part ∷ parts) is z =
    omega (
      arith,
      sum_by-cons opened_by part parts,
      sum_by-cons (λ (e : EntryValue). most_for_musts e.segment terms) entry entries,
      z.0.openings.musts terms is,
      openings-most query request terms entries parts is z.1,
    )

-- those of any search are at least and at most these
openings-from : (query : QueryValue) (request : Request) (entries : List EntryValue) (parts : List PartValue) → AllZip (IsPartOf query request) entries parts →
    fewest_in entries query ≤ sum_by (λ part. part.openings) parts
openings-from query request [] [] z = omega arith
openings-from query request [] (part ∷ parts) z = absurd z
openings-from query request (entry ∷ entries) [] z = absurd z
openings-from query request (entry ∷ entries) (part ∷ parts) z =
    omega (
      arith,
      sum_by-cons opened_by part parts,
      sum_by-cons (λ (e : EntryValue). least_for e.segment query) entry entries,
      z.0.openings.from,
      openings-from
          query request entries parts z.1,
    )

openings-up_to : (query : QueryValue) (request : Request) (entries : List EntryValue) (parts : List PartValue) → AllZip (IsPartOf query request) entries parts →
    sum_by (λ part. part.openings) parts ≤ greatest_in entries query
openings-up_to query request [] [] z = omega arith
openings-up_to query request [] (part ∷ parts) z = absurd z
openings-up_to query request (entry ∷ entries) [] z = absurd z
openings-up_to query request (entry ∷ entries) (part ∷ parts) z =
    omega (
      arith,
      sum_by-cons opened_by part parts,
      sum_by-cons (λ (e : EntryValue). most_for e.segment query) entry entries,
      z.0.openings.up_to,
      openings-up_to
          query request entries parts z.1,
    )

has-hits : (schema : List Field) (query : QueryValue) (documents : List (Stamped DocumentValue)) → list_any (λ d. matches schema d.value query) documents
    ≡ true → 0 < length (hits schema query documents)
has-hits schema query [] h = cc
has-hits schema query (d ∷ ds) h =
    elim (matches schema d.value query) as (λ b. (b || list_any (λ d. matches schema d.value query) ds) ≡ true →
    0 < length (cond b (d ∷ hits schema query ds) (hits schema query ds)))
    [ true ↦ λ _. omega arith | false ↦ λ k. has-hits schema query ds k ] h

-- a part opened a block for each term, if its segment has a hit
opened-part : (schema : List Field) (query : QueryValue) (request : Request) (terms : List Term) (entry : EntryValue) (part : PartValue) →
    HasMusts query terms → entry.segment.schema ≡ schema →
    IsPartOf query request entry part → length terms * cond (has_hit schema query entry) 1 0 ≤ part.openings
opened-part schema query request terms entry part is s z =
    elim (has_hit schema query entry) as (λ b. has_hit schema query entry ≡ b → length terms * cond b 1 0 ≤ part.openings) [
      | false ↦ λ _. omega arith
      | true ↦ λ e.
          let count : part.answer.count ≡ length (hits schema query (live_in entry)) =
          ap (λ a. a.count) z.answer ∙ ap (λ f. length (hits f query (live_in entry))) s in
          let some : 0 < part.answer.count = subst (λ n. 0 < n) (sym count) (has-hits schema query (live_in entry) e) in
          let each : length terms ≤ part.openings = rw (lt-ltb 0 part.answer.count some) at (z.openings.opened terms is) in
          omega (arith, each)
    ] refl

-- and at least these
pub openings-least : (schema : List Field) (query : QueryValue) (request : Request) (terms : List Term) (entries : List EntryValue) (parts : List PartValue) →
    HasMusts query terms →
    AllByRecursion (λ entry. entry.segment.schema ≡ schema) entries → AllZip (IsPartOf query request) entries parts →
    least_in schema query entries terms ≤ sum_by (λ part. part.openings) parts
openings-least schema query request terms [] [] is s z = omega arith
openings-least schema query request terms [] (part ∷ parts) is s z = absurd z
openings-least schema query request terms (entry ∷ entries) [] is s z = absurd z
openings-least schema query request terms (entry ∷ entries) (part ∷ parts) is s z =
    let first = opened-part schema query request terms entry part is s.0 z.0 in
    let rest = openings-least schema query request terms entries parts is s.1 z.1 in
    let one : EntryValue → ℕ = λ e. cond (has_hit schema query e) 1 0 in
    let n = length terms in
    omega (arith, first, rest, sum_by-cons opened_by part parts, ap (λ m. n * m) (sum_by-cons one entry entries))

-- a search of a snapshot, by the parts that its segments told
module _ (s : SnapshotValue) (query : QueryValue) (request : Request) (entries : List EntryValue) (parts : List PartValue) (whole : IsSnapshot s)
    (is : entries ≡ s.entries) (told : AllZip (IsPartOf query request) entries parts) where
  told_of : AllZip (IsPartOf query request) s.entries parts
  told_of = subst (λ (es : List EntryValue). AllZip (IsPartOf query request) es parts) is told

  schemas_of : AllByRecursion (λ entry. entry.segment.schema ≡ s.schema) s.entries
  schemas_of = recursion_from_All (λ (e : EntryValue). e.segment.schema ≡ s.schema) s.entries whole.schemas

  pub parts_of_snapshot : ArePartsOf request (hits s.schema query (content_of s)) parts
  parts_of_snapshot = parts_of_content s.schema query request s.entries parts schemas_of told_of

  pub opens_in_all : (openings : ℕ) → openings ≡ min (2 ^ 64 - 1) (sum_by (λ part. part.openings) parts) → OpensInAll s query openings
  opens_in_all openings sum = record {
    from = omega (arith, sum, openings-from query request s.entries parts told_of);
    up_to = omega (arith, sum, openings-up_to query request s.entries parts told_of);
    one_term = λ t one. sum ∙ ap (λ n. min (2 ^ 64 - 1) n) (openings-one_term query request t s.entries parts one told_of);
    opened = λ terms musts. omega (arith, sum, openings-least s.schema query request terms s.entries parts musts schemas_of told_of);
    musts = λ terms musts. omega (arith, sum, openings-most query request terms s.entries parts musts told_of);
  }

  pub of_parts : (openings : ℕ) → openings ≡ min (2 ^ 64 - 1) (sum_by (λ part. part.openings) parts) → AreOfParts query request s openings
  of_parts openings sum = record { parts = parts; each = told_of; sum = sum }
