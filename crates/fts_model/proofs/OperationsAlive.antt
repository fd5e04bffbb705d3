-- The documents alive after operations that come in two parts.
use Rattle.std.proofs.Common.{◌≡◌, ℕ, Bool, true, false, cond, ◌||◌, not, List, [], ◌∷◌, ◌++◌, filter, refl, sym, ap, ◌∙◌, append_assoc, All, AllPairs}
use Rattle.std.specs.List.{list_any}
use Rattle.std.proofs.lemmas.List.Elements.{All-nil, All-cons, All-head, All-tail, filter-append, filter_agree}
use Rattle.std.proofs.lemmas.List.Kept.{AllPairs-cons}
use Rattle.std.proofs.lemmas.List.Folds.{list_any-append}
use Rattle.fts_model.proofs.Lists.{pairs_behind, pairs_front, pairs_none}
use Rattle.fts_model.specs.declared.schema.Field.{Field}
use Rattle.fts_model.specs.declared.operation.Op.{Op}
use Rattle.fts_model.specs.declared.operation.Op.TheVariants.{Add, Delete, DeleteAll}
use Rattle.fts_model.specs.declared.operation.Stamped.{Stamped}
use Rattle.fts_model.specs.Documents.{DocumentValue}
use Rattle.fts_model.specs.Operations.{strikes, is_struck, left_by, alive, adds}

-- the documents that none of these operations deletes
abbrev pub spared : List Field → List (Stamped Op) → List (Stamped DocumentValue) → List (Stamped DocumentValue)
spared schema later documents = filter (λ d. not (is_struck schema later d.value)) documents

-- an optional document is filtered as one that is not deleted
one_spared : (a b : Bool) (d : Stamped DocumentValue) (keep : Stamped DocumentValue → Bool) → keep d ≡ not b →
    cond (a || b) [] (d ∷ []) ≡ filter keep (cond a [] (d ∷ []))
one_spared true b d keep e = refl
one_spared false true d keep e = ap (λ k. cond k (d ∷ []) []) (sym e)
one_spared false false d keep e = ap (λ k. cond k (d ∷ []) []) (sym e)

-- the documents that an operation leaves before more operations: those that it left before and that these do not delete
left_by-append : (schema : List Field) (stamp : ℕ) (op : Op) (ops later : List (Stamped Op)) →
    left_by schema stamp op (ops ++ later) ≡ spared schema later (left_by schema stamp op ops)
left_by-append schema stamp (Add document) ops later =
    ap (λ b. cond b [] (record { stamp = stamp; value = document } ∷ [])) (list_any-append (λ op. strikes schema op.value document) ops later)
    ∙ one_spared (is_struck schema ops document) (is_struck schema later document) (record { stamp = stamp; value = document })
    (λ d. not (is_struck schema later d.value)) refl
left_by-append schema stamp (Delete term) ops later = refl
left_by-append schema stamp DeleteAll ops later = refl

-- the documents alive after more operations: those that were alive and are not deleted, and those that the operations
-- leave
pub alive-append : (schema : List Field) (ops later : List (Stamped Op)) → alive schema (ops ++ later) ≡ spared schema later (alive schema ops)
    ++ alive schema later
alive-append schema [] later = refl
alive-append schema (op ∷ ops) later =
    ap (λ xs. left_by schema op.stamp op.value (ops ++ later) ++ xs) (alive-append schema ops later)
    ∙ ap (λ xs. xs ++ (spared schema later (alive schema ops) ++ alive schema later)) (left_by-append schema op.stamp op.value ops later)
    ∙ sym (append_assoc (spared schema later (left_by schema op.stamp op.value ops)) (spared schema later (alive schema ops)) (alive schema later))
    ∙ ap (λ xs. xs ++ alive schema later)
    (sym (filter-append (λ d. not (is_struck schema later d.value)) (left_by schema op.stamp op.value ops) (alive schema ops)))

-- adds delete nothing
adds_spare : (schema : List Field) (documents : List (Stamped DocumentValue)) (document : DocumentValue) → is_struck schema (adds documents) document ≡ false
adds_spare schema [] document = refl
adds_spare schema (d ∷ ds) document = adds_spare schema ds document

-- after adds alone each added document is alive
alive-adds : (schema : List Field) (documents : List (Stamped DocumentValue)) → alive schema (adds documents) ≡ documents
alive-adds schema [] = refl
alive-adds schema (d ∷ ds) =
    ap (λ b. cond b [] (d ∷ []) ++ alive schema (adds ds)) (adds_spare schema ds d.value) ∙ ap (λ xs. d ∷ xs) (alive-adds schema ds)

-- the documents alive can replace the operations that left them
pub alive-history : (schema : List Field) (before later : List (Stamped Op)) →
    alive schema (before ++ later) ≡ alive schema (adds (alive schema before) ++ later)
alive-history schema before later =
    alive-append schema before later
    ∙ ap (λ xs. spared schema later xs ++ alive schema later) (sym (alive-adds schema (alive schema before)))
    ∙ sym (alive-append schema (adds (alive schema before)) later)

-- a property of a document and of others holds whether the document is in the list or not
All-if_kept : (b : Bool) (P : Stamped DocumentValue → Type 0) (d : Stamped DocumentValue) (ds : List (Stamped DocumentValue)) →
    P d → All P ds → All P (cond b [] (d ∷ []) ++ ds)
All-if_kept true P d ds p ps = ps
All-if_kept false P d ds p ps = All-cons P d ds p ps

-- the stamps of the documents alive are stamps of the operations
All-alive : (P : ℕ → Type 0) (schema : List Field) (ops : List (Stamped Op)) → All (λ op. P op.stamp) ops → All (λ d. P d.stamp) (alive schema ops)
All-alive P schema [] h = All-nil (λ d. P d.stamp)
All-alive P schema (op ∷ ops) h =
    let front : P op.stamp = All-head (λ op. P op.stamp) op ops h in
    let behind = All-alive P schema ops (All-tail (λ op. P op.stamp) op ops h) in
    elim op.value as (λ value. All (λ (d : Stamped DocumentValue). P d.stamp) (left_by schema op.stamp value ops ++ alive schema ops)) [
      | Add document ↦ All-if_kept (is_struck schema ops document) (λ d. P d.stamp) (record { stamp = op.stamp; value = document }) (alive schema ops) front
          behind
      | Delete term ↦ behind
      | DeleteAll ↦ behind
    ]

-- a relation of the stamps of documents, with one in front that may be there
pairs_if_kept : (R : ℕ → ℕ → Type 0) (b : Bool) (d : Stamped DocumentValue) (ds : List (Stamped DocumentValue)) →
    All (λ e. R d.stamp e.stamp) ds → AllPairs (λ x y. R x.stamp y.stamp) ds → AllPairs (λ x y. R x.stamp y.stamp) (cond b [] (d ∷ []) ++ ds)
pairs_if_kept R true d ds others pairs = pairs
pairs_if_kept R false d ds others pairs = AllPairs-cons (λ x y. R x.stamp y.stamp) d ds others pairs

-- a relation of the stamps of the operations is one of the stamps of the documents alive
pub alive-pairs : (R : ℕ → ℕ → Type 0) (schema : List Field) (ops : List (Stamped Op)) → AllPairs (λ x y. R x.stamp y.stamp) ops →
    AllPairs (λ x y. R x.stamp y.stamp) (alive schema ops)
alive-pairs R schema [] h = pairs_none (λ x y. R x.stamp y.stamp)
alive-pairs R schema (op ∷ ops) h =
    let others = All-alive (R op.stamp) schema ops (pairs_front (λ x y. R x.stamp y.stamp) op ops h) in
    let pairs = alive-pairs R schema ops (pairs_behind (λ x y. R x.stamp y.stamp) op ops h) in
    elim op.value as (λ value. AllPairs (λ x y. R x.stamp y.stamp) (left_by schema op.stamp value ops ++ alive schema ops)) [
      | Add document ↦ pairs_if_kept R (is_struck schema ops document) (record { stamp = op.stamp; value = document }) (alive schema ops) others pairs
      | Delete term ↦ pairs
      | DeleteAll ↦ pairs
    ]

-- a filter that all pass leaves the whole list
filter-whole : {X : Type 0} (xs : List X) → filter (λ x. true) xs ≡ xs
filter-whole [] = refl
filter-whole (x ∷ xs) = ap (λ ys. x ∷ ys) (filter-whole xs)

-- a filter that none passes leaves nothing
filter-nothing : {X : Type 0} (xs : List X) → filter (λ x. false) xs ≡ []
filter-nothing [] = refl
filter-nothing (x ∷ xs) = filter-nothing xs

-- a disjunction with false
or_nothing : (b : Bool) → not (b || false) ≡ not b
or_nothing true = refl
or_nothing false = refl

-- the documents alive after one more operation
pub alive-one : (schema : List Field) (ops : List (Stamped Op)) (op : Stamped Op) →
    alive schema (ops ++ op ∷ []) ≡ filter (λ d. not (strikes schema op.value d.value)) (alive schema ops) ++ alive schema (op ∷ [])
alive-one schema ops op =
    alive-append schema ops (op ∷ [])
    ∙ ap (λ xs. xs ++ alive schema (op ∷ []))
    (filter_agree (λ (d : Stamped DocumentValue). not (is_struck schema (op ∷ []) d.value)) (λ d. not (strikes schema op.value d.value))
    (λ d. or_nothing (strikes schema op.value d.value)) (alive schema ops))

-- the documents alive after one more add
pub alive-add : (schema : List Field) (op : Stamped Op) (document : DocumentValue) (documents : List (Stamped DocumentValue)) → op.value ≡ Add document →
    filter (λ (d : Stamped DocumentValue). not (strikes schema op.value d.value)) documents ++ alive schema (op ∷ []) ≡ documents
    ++ record { stamp = op.stamp; value = document } ∷ []
alive-add schema op document documents e =
    ap (λ value. filter (λ (d : Stamped DocumentValue). not (strikes schema value d.value)) documents ++ (left_by schema op.stamp value [] ++ [])) e
    ∙ ap (λ xs. xs ++ record { stamp = op.stamp; value = document } ∷ []) (filter-whole documents)

-- nothing is alive after a delete of all
pub alive-delete_all : (schema : List Field) (op : Stamped Op) (documents : List (Stamped DocumentValue)) → op.value ≡ DeleteAll →
    filter (λ (d : Stamped DocumentValue). not (strikes schema op.value d.value)) documents ++ alive schema (op ∷ []) ≡ []
alive-delete_all schema op documents e =
    ap (λ value. filter (λ (d : Stamped DocumentValue). not (strikes schema value d.value)) documents ++ (left_by schema op.stamp value [] ++ [])) e
    ∙ ap (λ xs. xs ++ []) (filter-nothing documents)
