-- What a cursor is made of.
use Rattle.std.specs.Prelude.{◌≡◌, ℕ, Bool, List, [], slice_get, Option, None, Some, is_some}
use Rattle.fts_model.specs.declared.operation.Term.{Term}
use Rattle.fts_model.specs.declared.value.FieldValue.TheVariants as values
use Rattle.fts_model.specs.QueryValues.{QueryValue, QueryValues, boolean, no_queries, queries, term}
use Rattle.fts_segment.specs.ListIds.{documents_in}
use Rattle.fts_segment.specs.Segments.{SegmentValue, positions, postings}
use Rattle.fts_cursor.specs.declared.phrase.Member.{Member}
use Rattle.fts_cursor.specs.Leading.{IsOver}
use Rattle.fts_postings.specs.Posting.{Posting}

-- a text as a term
abbrev pub text_term : ℕ → List ℕ → Term
text_term field text = record { field = field; value = values.Text text }

-- a member of a pattern has no documents
abbrev pub LacksTerm : SegmentValue → ℕ → List (ℕ × List ℕ) → Type 0
LacksTerm segment field pattern =
    (k : ℕ) × (m : ℕ × List ℕ) × (slice_get pattern k ≡ Some m) × (postings segment (text_term field m.1) ≡ [])

-- the list and the positions of a member of a pattern, and its offset
pub record IsMemberFor (segment : SegmentValue) (field : ℕ) (wanted : ℕ × List ℕ) (member : Member) : Type 0 where
  pub offset : member.offset ≡ wanted.0
  pub documents : documents_in member.list ≡ postings segment (text_term field wanted.1)
  pub positions_are : member.positions ≡ positions segment (text_term field wanted.1)

-- a cursor over the list of a member, as it was made
abbrev pub IsCursorOf : Posting → Member → Type 0
IsCursorOf cursor member = IsOver cursor (documents_in member.list)

-- the term that is the only one of some queries
abbrev pub only_term_in : QueryValues → Option Term
only_term_in (queries (term t) no_queries) = Some t
only_term_in qs = None

-- the term that a query is, alone or as its only should
abbrev pub term_in : QueryValue → Option Term
term_in (term t) = Some t
term_in (boolean no_queries no_queries should) = only_term_in should
term_in query = None

-- whether a query is a term
abbrev pub is_term : QueryValue → Bool
is_term query = is_some (term_in query)
