-- The steps of applying deletes, together.
use Rattle.std.proofs.Common.{◌≡◌, ◌+◌, ◌<◌, ◌≤◌, ℕ, max, Bool, true, false, cond, not, ◌&&◌, ◌||◌, nat_lt, List, [], ◌∷◌, ◌++◌, length, refl, sym, ap, ap₂}
use Rattle.std.proofs.Common.{◌∙◌, arith, All, subst, add-one}
use Rattle.std.specs.Prelude.{slice_set, fold}
use Rattle.std.specs.List.{list_any, range_with_len}
use Rattle.std.specs.Option.{option_map_or}
use Rattle.std.proofs.lemmas.Bool.Decides.{nat_tests}
use Rattle.std.proofs.lemmas.List.{append_assoc, set_at, length_push, length-set, nil_from_length}
use Rattle.std.proofs.lemmas.List.Elements.{All-nil, All-cons}
use Rattle.std.proofs.Math.Bool.{and-false, and-true, or-false}
use Rattle.fts_model.specs.declared.schema.Field.{Field}
use Rattle.fts_model.specs.declared.operation.Op.{Op}
use Rattle.fts_model.specs.declared.operation.Op.TheVariants.{Add, Delete, DeleteAll}
use Rattle.fts_model.specs.declared.operation.Stamped.{Stamped}
use Rattle.fts_model.specs.Documents.{DocumentValue}
use Rattle.fts_model.specs.Operations.{has, strikes, strikes_later, survives}
use Rattle.fts_model.specs.declared.operation.Term.{Term}
use Rattle.fts_segment.specs.Segments.{SegmentValue, numbers_where, postings}
use Rattle.fts_merge.specs.Strikes.{bits_where, bits_after}
use Rattle.fts_merge.specs.Internals.Deletes.{bound_by, bound_of, strikes_by_term, survives_terms, is_before, cleared}
use Rattle.fts_merge.proofs.BitsLemmas.{not_or, bits_where-again, bits_where-same}
use Rattle.fts_segment.proofs.SourceLemmas.{get_behind}
use Rattle.fts_segment.proofs.HoldingLemmas.{numbers_where-cons}
use Rattle.fts_model.proofs.Lists.{range_with_len-push}

below_none : (n : ℕ) → nat_lt n 0 ≡ false
below_none n = grind (arith, nat_tests)

below_max : (n a b : ℕ) → nat_lt n (max a b) ≡ (nat_lt n a || nat_lt n b)
below_max n a b = grind (arith, nat_tests)

-- an operation deletes a document as a delete of all or by its term
strikes-cases : (schema : List Field) (stamp : ℕ) (op : Op) (d : Stamped DocumentValue) →
    (nat_lt d.stamp stamp && strikes schema op d.value) ≡ (nat_lt d.stamp (bound_by stamp op) || strikes_by_term schema stamp op d)
strikes-cases schema stamp (Add document) d = and-false (nat_lt d.stamp stamp) ∙ sym (ap (λ b. b || false) (below_none d.stamp))
strikes-cases schema stamp (Delete term) d = sym (ap (λ b. b || (nat_lt d.stamp stamp && has schema d.value term)) (below_none d.stamp))
strikes-cases schema stamp DeleteAll d = and-true (nat_lt d.stamp stamp) ∙ sym (or-false (nat_lt d.stamp stamp))

or_swapped : (a b c d : Bool) → ((a || b) || (c || d)) ≡ ((a || c) || (b || d))
or_swapped true b c d = refl
or_swapped false true true d = refl
or_swapped false true false d = refl
or_swapped false false c d = refl

struck-cases : (schema : List Field) (ops : List (Stamped Op)) (d : Stamped DocumentValue) →
    list_any (λ op. strikes_later schema op d) ops ≡ (nat_lt d.stamp (bound_of ops) || list_any (λ op. strikes_by_term schema op.stamp op.value d) ops)
struck-cases schema [] d = sym (ap (λ b. b || false) (below_none d.stamp))
struck-cases schema (op ∷ ops) d =
    let others = list_any (λ (o : Stamped Op). strikes_by_term schema o.stamp o.value d) ops in
    ap₂ (λ a b. a || b) (strikes-cases schema op.stamp op.value d) (struck-cases schema ops d)
    ∙ or_swapped (nat_lt d.stamp (bound_by op.stamp op.value)) (strikes_by_term schema op.stamp op.value d) (nat_lt d.stamp (bound_of ops)) others
    ∙ sym (ap (λ b. b || (strikes_by_term schema op.stamp op.value d || others)) (below_max d.stamp (bound_by op.stamp op.value) (bound_of ops)))

survives-cases : (schema : List Field) (ops : List (Stamped Op)) (d : Stamped DocumentValue) →
    survives schema ops d ≡ (not (nat_lt d.stamp (bound_of ops)) && survives_terms schema ops d)
survives-cases schema ops d =
    ap not (struck-cases schema ops d) ∙ not_or (nat_lt d.stamp (bound_of ops)) (list_any (λ op. strikes_by_term schema op.stamp op.value d) ops)

-- the live bits after the deletes of all documents, and then after those of terms
pub bits_after-steps : (schema : List Field) (ops : List (Stamped Op)) (ds : List (Stamped DocumentValue)) (bits : List Bool) →
    bits_where (survives_terms schema ops) ds (bits_where (λ d. not (nat_lt d.stamp (bound_of ops))) ds bits) ≡ bits_after schema ops ds bits
bits_after-steps schema ops ds bits =
    let p : Stamped DocumentValue → Bool = λ d. not (nat_lt d.stamp (bound_of ops)) in
    bits_where-again p (survives_terms schema ops) ds bits
    ∙ sym (bits_where-same (survives schema ops) (λ d. p d && survives_terms schema ops d) (survives-cases schema ops) ds bits)

-- the bound with one more operation
pub bound_of-push : (ops : List (Stamped Op)) (op : Stamped Op) → bound_of (ops ++ op ∷ []) ≡ max (bound_by op.stamp op.value) (bound_of ops)
bound_of-push [] op = refl
bound_of-push (o ∷ ops) op = ap (max (bound_by o.stamp o.value)) (bound_of-push ops op) ∙ omega arith

-- the bit of the document after others is cleared
cleared_here : (stamp : ℕ) (before : List (Stamped DocumentValue)) (d : Stamped DocumentValue) (ds : List (Stamped DocumentValue)) (kept : List Bool)
    (bit : Bool) (bits : List Bool) → length kept ≡ length before →
    cleared (before ++ d ∷ ds) stamp (kept ++ bit ∷ bits) (length before) ≡ kept ++ (bit && not (nat_lt d.stamp stamp)) ∷ bits
cleared_here stamp before d ds kept bit bits e =
    ap (λ o. cond (option_map_or (λ (d : Stamped DocumentValue). nat_lt d.stamp stamp) o false) (slice_set (kept ++ bit ∷ bits) (length before) false)
    (kept ++ bit ∷ bits)) (get_behind before d ds)
    ∙ ap (λ bs. cond (nat_lt d.stamp stamp) bs (kept ++ bit ∷ bits)) (set_at kept bit bits false (length before) e)
    ∙ elim (nat_lt d.stamp stamp) as (λ b. cond b (kept ++ false ∷ bits) (kept ++ bit ∷ bits) ≡ kept ++ (bit && not b) ∷ bits)
    [ true ↦ ap (λ b. kept ++ b ∷ bits) (sym (and-false bit)) | false ↦ ap (λ b. kept ++ b ∷ bits) (sym (and-true bit)) ]

-- the bits are cleared of those documents after others that pass
cleared_behind : (stamp : ℕ) (p : Stamped DocumentValue → Bool) (before ds : List (Stamped DocumentValue)) (kept bits : List Bool) →
    length kept ≡ length before → length bits ≡ length ds →
    fold (cleared (before ++ ds) stamp) (kept ++ bits) (numbers_where p (length before) ds) ≡ kept ++ bits_where (λ d. not (nat_lt d.stamp stamp && p d)) ds
    bits
cleared_behind stamp p before [] kept bits e f = ap (λ bs. kept ++ bs) (nil_from_length bits f)
cleared_behind stamp p before (d ∷ ds) kept [] e f = absurd (omega (arith, f))
cleared_behind stamp p before (d ∷ ds) kept (bit ∷ bits) e f =
    let n = length before in
    let all = before ++ d ∷ ds in
    let q : Stamped DocumentValue → Bool = λ d. not (nat_lt d.stamp stamp && p d) in
    let rest = numbers_where p (n + 1) ds in
    let step : fold (cleared all stamp) (kept ++ bit ∷ bits) (numbers_where p n (d ∷ ds)) ≡ fold (cleared all stamp) (kept ++ (bit && q d) ∷ bits) rest =
    ap (fold (cleared all stamp) (kept ++ bit ∷ bits)) (numbers_where-cons p n d ds)
    ∙ elim (p d) as (λ b. fold (cleared all stamp) (kept ++ bit ∷ bits) (cond b (n ∷ rest) rest) ≡ fold (cleared all stamp)
    (kept ++ (bit && not (nat_lt d.stamp stamp && b)) ∷ bits) rest) [
      | true ↦ ap (λ bs. fold (cleared all stamp) bs rest) (cleared_here stamp before d ds kept bit bits e ∙ ap (λ b. kept ++ (bit && not b) ∷ bits)
          (sym (and-true (nat_lt d.stamp stamp))))
      | false ↦ ap (λ b. fold (cleared all stamp) (kept ++ b ∷ bits) rest)
          (sym (and-true bit) ∙ ap (λ b. bit && not b) (sym (and-false (nat_lt d.stamp stamp))))
    ] in
    let next = cleared_behind stamp p (before ++ d ∷ []) ds (kept ++ (bit && q d) ∷ []) bits
    (omega (arith, e, length_push before d, length_push kept (bit && q d))) (omega (arith, f)) in
    step
    ∙ ap (λ ns. fold (cleared all stamp) (kept ++ (bit && q d) ∷ bits) (numbers_where p ns ds)) (sym (length_push before d))
    ∙ ap₂ (λ ds' bs. fold (cleared ds' stamp) bs (numbers_where p (length (before ++ d ∷ [])) ds)) (sym (append_assoc before (d ∷ []) ds))
    (sym (append_assoc kept ((bit && q d) ∷ []) bits))
    ∙ next
    ∙ append_assoc kept ((bit && q d) ∷ []) (bits_where q ds bits)

-- the bits are cleared of the documents that pass
pub cleared_where : (stamp : ℕ) (p : Stamped DocumentValue → Bool) (ds : List (Stamped DocumentValue)) (bits : List Bool) → length bits ≡ length ds →
    fold (cleared ds stamp) bits (numbers_where p 0 ds) ≡ bits_where (λ d. not (nat_lt d.stamp stamp && p d)) ds bits
cleared_where stamp p ds bits f = cleared_behind stamp p [] ds [] bits refl f

-- the numbers of members that pass a test that all pass are all numbers
numbers_all : {X : Type 0} (n : ℕ) (xs : List X) → numbers_where (λ x. true) n xs ≡ range_with_len n (length xs)
numbers_all n [] = refl
numbers_all n (x ∷ xs) = ap (λ ns. n ∷ ns) (numbers_all (n + 1) xs)

-- the bits of all documents are cleared if their stamps are smaller
pub cleared_all : (stamp : ℕ) (ds : List (Stamped DocumentValue)) (bits : List Bool) → length bits ≡ length ds →
    fold (cleared ds stamp) bits (range_with_len 0 (length ds)) ≡ bits_where (λ d. not (nat_lt d.stamp stamp)) ds bits
cleared_all stamp ds bits f =
    ap (fold (cleared ds stamp) bits) (sym (numbers_all 0 ds))
    ∙ cleared_where stamp (λ d. true) ds bits f
    ∙ bits_where-same (λ d. not (nat_lt d.stamp stamp && true)) (λ d. not (nat_lt d.stamp stamp)) (λ d. ap not (and-true (nat_lt d.stamp stamp))) ds bits

pub range_more : (n : ℕ) → range_with_len 0 (n + 1) ≡ range_with_len 0 n ++ n ∷ []
range_more n = ap (range_with_len 0) (add-one n) ∙ range_with_len-push 0 n ∙ ap (λ k. range_with_len 0 n ++ k ∷ []) (omega arith)

pub length-cleared : (ds : List (Stamped DocumentValue)) (stamp : ℕ) (bits : List Bool) (n : ℕ) → length (cleared ds stamp bits n) ≡ length bits
length-cleared ds stamp bits n = elim (is_before ds stamp n) as (λ b. length (cond b (slice_set bits n false) bits) ≡ length bits)
    [ true ↦ length-set bits n false | false ↦ refl ]

pub length-cleared_all : (ds : List (Stamped DocumentValue)) (stamp : ℕ) (bits : List Bool) (ns : List ℕ) →
    length (fold (cleared ds stamp) bits ns) ≡ length bits
length-cleared_all ds stamp bits [] = refl
length-cleared_all ds stamp bits (n ∷ ns) = length-cleared_all ds stamp (cleared ds stamp bits n) ns ∙ length-cleared ds stamp bits n

-- the numbers of members are below the end
numbers_where-within : {X : Type 0} (p : X → Bool) (n m : ℕ) (xs : List X) → n + length xs ≤ m → All (λ k. k < m) (numbers_where p n xs)
numbers_where-within p n m [] e = All-nil (λ (k : ℕ). k < m)
numbers_where-within p n m (x ∷ xs) e =
    let rest = numbers_where-within p (n + 1) m xs (omega (arith, e)) in
    subst (All (λ (k : ℕ). k < m)) (sym (numbers_where-cons p n x xs))
    (elim (p x) as (λ b. All (λ (k : ℕ). k < m) (cond b (n ∷ numbers_where p (n + 1) xs) (numbers_where p (n + 1) xs))) [
      | true ↦ All-cons (λ (k : ℕ). k < m) n (numbers_where p (n + 1) xs) (omega (arith, e)) rest
      | false ↦ rest
    ])

pub postings-within : (segment : SegmentValue) (term : Term) → All (λ k. k < length segment.documents) (postings segment term)
postings-within segment term = numbers_where-within (λ (d : Stamped DocumentValue). has segment.schema d.value term) 0 (length segment.documents)
    segment.documents (omega arith)
