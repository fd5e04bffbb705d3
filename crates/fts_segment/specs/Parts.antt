-- Term streams: the postings of a dictionary under new document numbers, and those that are left after some terms.
use Rattle.std.specs.Prelude.{◌≡◌, ◌≢◌, ◌+◌, ◌<◌, ◌^◌, ℕ, Bool, true, false, List, [], ◌∷◌, ◌++◌, All, Contains, Option}
use Rattle.std.specs.Prelude.{Some, None, count_by, drop, flat_map, length, map, slice_get, slice_index_or, sum}
use Rattle.std.specs.Prelude.{if◌then◌else◌}
use Rattle.std.specs.List.{AllByRecursion}
use Rattle.std.specs.Str.{bytes_eq}
use Rattle.std.specs.Ordering.{nat_cmp, is_gt}
use Rattle.std.specs.Cmp.Lexicographic.{slice_cmp}
use Rattle.std.specs.declared.cmp.Ordering.TheVariants.{Less}
use Rattle.fts_model.specs.declared.schema.Kind.{Kind}
use Rattle.fts_segment.specs.declared.dictionary.Dictionary.{Dictionary}
use Rattle.fts_positions.specs.declared.position_copier.PositionCopier.{PositionCopier}
use Rattle.fts_segment.specs.Occurrences.{OccurrenceValue, occurrences, values_in, docs_with}
use Rattle.fts_segment.specs.Positions.{position_lists_with}
use Rattle.fts_segment.specs.Postings.{Posting, postings_by, postings_of, documents, position_lists}
use Rattle.fts_segment.specs.Sources.{SourceValue}
use Rattle.fts_positions.specs.PositionCopiers.{lists_in}

-- the new number of each document: live ones are numbered from `next`, and a deleted one has none
abbrev pub renumbered : ℕ → List Bool → List (Option ℕ)
renumbered next [] = []
renumbered next (true ∷ bits) = Some next ∷ renumbered (next + 1) bits
renumbered next (false ∷ bits) = None ∷ renumbered next bits

-- the new numbers are consecutive: every document is live
pub record AreInARow (numbers : List (Option ℕ)) (first : ℕ) : Type 0 where
  pub are : (doc : ℕ) → doc < length numbers → slice_get numbers doc ≡ Some (Some (first + doc))
  pub fit : first + length numbers < 2 ^ 32

-- a posting in the document of its new number, if there is one
abbrev pub placed : Option (Option ℕ) → Posting → List Posting
placed (Some (Some doc)) posting = record { doc = doc; positions = posting.positions } ∷ []
placed (Some None) posting = []
placed None posting = []

-- the new number of a document, if it has one
abbrev pub number_in : Option (Option ℕ) → Option ℕ
number_in (Some (Some doc)) = Some doc
number_in (Some None) = None
number_in None = None

-- the postings of documents that have a new number, under that number
abbrev pub moved : List (Option ℕ) → List Posting → List Posting
moved numbers [] = []
moved numbers (p ∷ ps) = placed (slice_get numbers p.doc) p ++ moved numbers ps

-- a term stream: ascending terms, the postings of each, and new numbers for their documents
pub record TermStreamValue : Type 0 where
  pub names : List (List ℕ)
  pub postings : List (List Posting)
  pub numbers : List (Option ℕ)

-- the stream of a dictionary from a term
abbrev pub part_from : ℕ → Dictionary → List (Option ℕ) → TermStreamValue
part_from at dictionary numbers = record {
  names = drop at dictionary.names;
  postings = drop at (postings_by dictionary.lists dictionary.positions);
  numbers = numbers;
}

-- each term has its list, each of its documents has positions, and each document is in the map of new numbers
pub record IsWhole (dictionary : Dictionary) (numbers : List (Option ℕ)) : Type 0 where
  pub listed : length dictionary.names ≡ length dictionary.lists
  pub paired : sum (map length dictionary.lists) ≡ length dictionary.positions
  pub numbered : (i : ℕ) → i < length dictionary.names →
      All (λ doc. doc < length numbers) (slice_index_or dictionary.lists i [])

-- each term has its lists, the next term is that of the number `at`, and the position lists are those of the dictionary
pub record IsPartOf (at : ℕ) (dictionary : Dictionary) (numbers : List (Option ℕ)) (term : Option (List ℕ))
    (lists : PositionCopier) : Type 0 where
  pub whole : IsWhole dictionary numbers
  pub next : term ≡ slice_get (drop at dictionary.names) 0
  pub lists_are : lists_in lists ≡ dictionary.positions

-- the postings of a term among those of names, or none
abbrev pub found : List (List ℕ) → List (List Posting) → List ℕ → List Posting
found [] postings term = []
found (name ∷ names) [] term = []
found (name ∷ names) (here ∷ postings) term = if bytes_eq name term then here else found names postings term

-- the postings of streams for a term, under new document numbers, one stream after the other
abbrev pub joined : List TermStreamValue → List ℕ → List Posting
joined [] term = []
joined (part ∷ parts) term = moved part.numbers (found part.names part.postings term) ++ joined parts term

-- a name is before each of some names
abbrev pub IsBelow : List ℕ → List (List ℕ) → Type 0
IsBelow name names = AllByRecursion (λ other. slice_cmp nat_cmp name other ≡ Less) names

-- each name is before each one after it
abbrev pub Ascend : List (List ℕ) → Type 0
Ascend [] = Unit {0}
Ascend (name ∷ names) = IsBelow name names × Ascend names

-- the names ascend, and each has its postings
pub record IsSound (part : TermStreamValue) : Type 0 where
  pub ascend : Ascend part.names
  pub paired : length part.names ≡ length part.postings

-- the merged dictionary of streams: the terms that have a posting, in order, each with the postings of every stream
pub record IsJoined (parts : List TermStreamValue) (names lists positions : List (List ℕ)) : Type 0 where
  pub ascend : Ascend names
  pub listed : lists ≡ map (λ q. documents (joined parts q)) names
  pub positioned : positions ≡ flat_map (λ q. position_lists (joined parts q)) names
  pub some : AllByRecursion (λ q. joined parts q ≢ []) names
  pub whole : (q : List ℕ) → joined parts q ≢ [] → Contains names q

-- the next name of a stream is this one
abbrev pub begins : List ℕ → List (List ℕ) → Bool
begins term [] = false
begins term (name ∷ names) = bytes_eq name term

-- a stream after a term was taken from it, if the term is its next one
abbrev pub passed : List ℕ → TermStreamValue → TermStreamValue
passed term part = if begins term part.names
    then record { names = drop 1 part.names; postings = drop 1 part.postings; numbers = part.numbers } else part

-- the postings that a stream gives for a term, if the term is its next one
abbrev pub given : List ℕ → TermStreamValue → List Posting
given term part = if begins term part.names then moved part.numbers (slice_index_or part.postings 0 []) else []

-- the first in order of two optional names
abbrev pub lesser : Option (List ℕ) → Option (List ℕ) → Option (List ℕ)
lesser None b = b
lesser (Some a) None = Some a
lesser (Some a) (Some b) = if is_gt (slice_cmp nat_cmp a b) then Some b else Some a

-- the first in order of the streams' next names
abbrev pub least_of : Option (List ℕ) → List TermStreamValue → Option (List ℕ)
least_of least [] = least
least_of least (part ∷ parts) = least_of (lesser least (slice_get part.names 0)) parts

-- the postings of a term among occurrences
abbrev pub postings_with : List ℕ → List OccurrenceValue → List Posting
postings_with term os = postings_of (docs_with term os) (position_lists_with term os)

-- the term stream of a source in a field: its dictionary, and new numbers for its documents from `next`
pub record IsPart (kind : Kind) (field next : ℕ) (source : SourceValue) (part : TermStreamValue) : Type 0 where
  pub sound : IsSound part
  pub postings_are : (q : List ℕ) → found part.names part.postings q
      ≡ postings_with q (occurrences kind 0 (values_in field source.segment.documents))
  pub numbers_are : part.numbers ≡ renumbered next source.live

-- the term streams of sources
abbrev pub AreParts : Kind → ℕ → ℕ → List SourceValue → List TermStreamValue → Type 0
AreParts kind field next [] [] = Unit {0}
AreParts kind field next [] (p ∷ ps) = ⊥
AreParts kind field next (s ∷ ss) [] = ⊥
AreParts kind field next (s ∷ ss) (p ∷ ps) =
    IsPart kind field next s p × AreParts kind field (next + count_by (λ bit. bit) s.live) ss ps
