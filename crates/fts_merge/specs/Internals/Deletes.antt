-- The steps of applying deletes.
use Rattle.std.specs.Prelude.{◌≡◌, ℕ, All, ◌&&◌, not, nat_lt, max, Bool, false, List, [], ◌∷◌, slice_get, slice_set}
use Rattle.std.specs.Prelude.{if◌then◌else◌}
use Rattle.std.specs.List.{list_any}
use Rattle.std.specs.Option.{option_map_or}
use Rattle.fts_model.specs.declared.schema.Field.{Field}
use Rattle.fts_model.specs.declared.operation.Op.{Op}
use Rattle.fts_model.specs.declared.operation.Op.TheVariants.{Add, Delete, DeleteAll}
use Rattle.fts_model.specs.declared.operation.Stamped.{Stamped}
use Rattle.fts_model.specs.Documents.{DocumentValue}
use Rattle.fts_model.specs.Operations.{has}
use Rattle.fts_pack.specs.ListRef.{listed}
use Rattle.fts_segment.specs.Segments.{SegmentValue, postings}
use Rattle.fts_merge.specs.declared.term_delete.TermDelete.{TermDelete}

-- the stamp below which an operation deletes every document
abbrev pub bound_by : ℕ → Op → ℕ
bound_by stamp (Add document) = 0
bound_by stamp (Delete term) = 0
bound_by stamp DeleteAll = stamp

-- the stamp below which operations delete every document
abbrev pub bound_of : List (Stamped Op) → ℕ
bound_of [] = 0
bound_of (op ∷ ops) = max (bound_by op.stamp op.value) (bound_of ops)

-- an operation deletes a document by a term that it has
abbrev pub strikes_by_term : List Field → ℕ → Op → Stamped DocumentValue → Bool
strikes_by_term schema stamp (Add added) document = false
strikes_by_term schema stamp (Delete term) document = nat_lt document.stamp stamp && has schema document.value term
strikes_by_term schema stamp DeleteAll document = false

-- no operation deletes a document by a term
abbrev pub survives_terms : List Field → List (Stamped Op) → Stamped DocumentValue → Bool
survives_terms schema ops document = not (list_any (λ op. strikes_by_term schema op.stamp op.value document) ops)

-- a delete that was looked up has the documents that have its term
abbrev pub IsFound : SegmentValue → TermDelete → Type 0
IsFound segment delete = listed delete.documents ≡ postings segment delete.term.now

-- a delete that was looked up applies to a document
abbrev pub strikes_found : List Field → TermDelete → Stamped DocumentValue → Bool
strikes_found schema delete document = nat_lt document.stamp delete.stamp && has schema document.value delete.term.now

-- no delete that was looked up applies to a document
abbrev pub survives_found : List Field → List TermDelete → Stamped DocumentValue → Bool
survives_found schema deletes document = not (list_any (λ delete. strikes_found schema delete document) deletes)

-- the document of this number has a smaller stamp
abbrev pub is_before : List (Stamped DocumentValue) → ℕ → ℕ → Bool
is_before documents stamp number =
    option_map_or (λ document. nat_lt document.stamp stamp) (slice_get documents number) false

-- live bits with that of a document cleared, if its stamp is smaller
abbrev pub cleared : List (Stamped DocumentValue) → ℕ → List Bool → ℕ → List Bool
cleared documents stamp live number = if is_before documents stamp number then slice_set live number false else live

-- deletes that were looked up apply to the same of these documents as operations do by a term
abbrev pub StrikeAlike : List Field → List TermDelete → List (Stamped Op) → List (Stamped DocumentValue) → Type 0
StrikeAlike schema deletes ops documents =
    All (λ d. list_any (λ delete. strikes_found schema delete d) deletes
    ≡ list_any (λ op. strikes_by_term schema op.stamp op.value d) ops) documents
