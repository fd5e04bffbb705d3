-- Deletes that were looked up.
use Rattle.std.proofs.Common.{◌≡◌, ◌+◌, ◌-◌, ◌<◌, ◌≤◌, ℕ, Bool, true, false, cond, not, ◌&&◌, ◌||◌, nat_lt, List, [], ◌∷◌, ◌++◌, length, refl, sym, ap, ap₂}
use Rattle.std.proofs.Common.{◌∙◌, arith, All, get_or, take}
use Rattle.std.specs.Prelude.{Option, Some, None, IfNone}
use Rattle.std.specs.List.{list_any}
use Rattle.std.specs.List.Sorted.{IsPermutation}
use Rattle.std.proofs.lemmas.Bool.Decides.{nat_tests}
use Rattle.std.proofs.lemmas.List.{get_or-take, length-take-le}
use Rattle.std.proofs.lemmas.List.Elements.{All-nil, All-cons, All-head, All-tail}
use Rattle.std.proofs.lemmas.List.Folds.{list_any-append, list_any_at, list_any_more}
use Rattle.std.proofs.lemmas.List.Sorted.{list_any-IsPermutation}
use Rattle.std.proofs.Math.Bool.{and-false, or-false}
use Rattle.std.proofs.lemmas.Bool.{and_parts}
use Rattle.fts_model.specs.declared.schema.Field.{Field}
use Rattle.fts_model.specs.declared.operation.Op.{Op}
use Rattle.fts_model.specs.declared.operation.Op.TheVariants.{Delete}
use Rattle.fts_model.specs.declared.operation.Stamped.{Stamped}
use Rattle.fts_model.specs.declared.operation.Term.{Term}
use Rattle.fts_model.specs.Documents.{DocumentValue}
use Rattle.fts_model.specs.Operations.{has}
use Rattle.fts_segment.specs.Segments.{SegmentValue, numbers_where, postings}
use Rattle.fts_merge.specs.Strikes.{bits_where}
use Rattle.fts_merge.specs.declared.term_delete.TermDelete.{TermDelete}
use Rattle.fts_merge.specs.Internals.Deletes.{strikes_by_term, survives_terms, strikes_found, survives_found, StrikeAlike}
use Rattle.fts_merge.proofs.BitsLemmas.{not_or, bits_where-again, bits_where-same, bits_where-all}
use Rattle.fts_segment.proofs.HoldingLemmas.{numbers_where-cons}

-- two tests that agree on each member leave the same bits
bits_where-agree : {X : Type 0} (p q : X → Bool) (xs : List X) (bits : List Bool) → All (λ x. p x ≡ q x) xs → bits_where p xs bits ≡ bits_where q xs bits
bits_where-agree p q [] bits same = refl
bits_where-agree p q (x ∷ xs) [] same = refl
bits_where-agree p q (x ∷ xs) (bit ∷ bits) same =
    ap₂ (λ b bs. (bit && b) ∷ bs) (All-head (λ y. p y ≡ q y) x xs same) (bits_where-agree p q xs bits (All-tail (λ y. p y ≡ q y) x xs same))

-- if no member passes, each fails
none_chosen : (b : Bool) (n : ℕ) (ns : List ℕ) → cond b (n ∷ ns) ns ≡ [] → (b ≡ false) × (ns ≡ [])
none_chosen true n ns e = absurd (omega (arith, ap length e))
none_chosen false n ns e = (refl, e)

numbers_where-none : {X : Type 0} (p : X → Bool) (n : ℕ) (xs : List X) → numbers_where p n xs ≡ [] → All (λ x. p x ≡ false) xs
numbers_where-none p n [] none = All-nil (λ x. p x ≡ false)
numbers_where-none p n (x ∷ xs) none =
    let both = none_chosen (p x) n (numbers_where p (n + 1) xs) (sym (numbers_where-cons p n x xs) ∙ none) in
    All-cons (λ y. p y ≡ false) x xs both.0 (numbers_where-none p (n + 1) xs both.1)

-- a delete of a term that no document has applies to none
pub struck-none : (segment : SegmentValue) (stamp : ℕ) (term : Term) → postings segment term ≡ [] →
    All (λ d. strikes_by_term segment.schema stamp (Delete term) d ≡ false) segment.documents
struck-none segment stamp term none =
    let p : Stamped DocumentValue → Bool = λ d. has segment.schema d.value term in
    let lacks : All (λ d. p d ≡ false) segment.documents = numbers_where-none p 0 segment.documents none in
    λ k d h. ap (λ b. nat_lt (get_or segment.documents k d).stamp stamp && b) (lacks k d h) ∙ and-false (nat_lt (get_or segment.documents k d).stamp stamp)

-- one more operation, which is a delete that was looked up
pub alike-push : (schema : List Field) (ds : List (Stamped DocumentValue)) (deletes : List TermDelete) (ops : List (Stamped Op)) (op : Stamped Op) (delete : TermDelete) →
    ((d : Stamped DocumentValue) → strikes_found schema delete d ≡ strikes_by_term schema op.stamp op.value d) →
    StrikeAlike schema deletes ops ds → StrikeAlike schema (deletes ++ delete ∷ []) (ops ++ op ∷ []) ds
alike-push schema ds deletes ops op delete same alike = λ k x lt.
    let d = get_or ds k x in
    let f : TermDelete → Bool = λ found. strikes_found schema found d in
    let t : Stamped Op → Bool = λ o. strikes_by_term schema o.stamp o.value d in
    list_any-append f deletes (delete ∷ [])
    ∙ ap₂ (λ a b. a || b) (alike k x lt) (ap (λ b. b || false) (same d))
    ∙ sym (list_any-append t ops (op ∷ []))

-- one more operation, which deletes nothing by a term
pub alike-none : (schema : List Field) (ds : List (Stamped DocumentValue)) (deletes : List TermDelete) (ops : List (Stamped Op)) (op : Stamped Op) →
    All (λ d. strikes_by_term schema op.stamp op.value d ≡ false) ds → StrikeAlike schema deletes ops ds → StrikeAlike schema deletes (ops ++ op ∷ []) ds
alike-none schema ds deletes ops op none alike = λ k x lt.
    let d = get_or ds k x in
    let t : Stamped Op → Bool = λ o. strikes_by_term schema o.stamp o.value d in
    alike k x lt
    ∙ sym (or-false (list_any t ops))
    ∙ ap (λ b. list_any t ops || b) (sym (ap (λ b. b || false) (none k x lt)))
    ∙ sym (list_any-append t ops (op ∷ []))

-- deletes that apply alike leave the same bits in any order
pub bits_where-alike : (schema : List Field) (ds : List (Stamped DocumentValue)) (bits : List Bool) (deletes sorted : List TermDelete) (ops : List (Stamped Op)) →
    IsPermutation deletes sorted → StrikeAlike schema deletes ops ds →
    bits_where (survives_found schema sorted) ds bits ≡ bits_where (survives_terms schema ops) ds bits
bits_where-alike schema ds bits deletes sorted ops moved alike =
    bits_where-agree (survives_found schema sorted) (survives_terms schema ops) ds bits
    (λ k x lt. let f : TermDelete → Bool = λ found. strikes_found schema found (get_or ds k x) in
    ap not (sym (list_any-IsPermutation f deletes sorted moved) ∙ alike k x lt))

-- if there is no delete, all bits are left
pub survives_found-none : (schema : List Field) (ds : List (Stamped DocumentValue)) (bits : List Bool) → length bits ≡ length ds →
    bits_where (survives_found schema []) ds bits ≡ bits
survives_found-none schema ds bits e = bits_where-all (survives_found schema []) (λ d. refl) ds bits e

-- one more delete
pub survives_found-more : (schema : List Field) (ds : List (Stamped DocumentValue)) (bits : List Bool) (deletes : List TermDelete) (i : ℕ) (delete : TermDelete) →
    i < length deletes → delete ≡ get_or deletes i delete →
    bits_where (λ d. not (strikes_found schema delete d)) ds (bits_where (survives_found schema (take i deletes)) ds bits)
    ≡ bits_where (survives_found schema (take (i + 1) deletes)) ds bits
survives_found-more schema ds bits deletes i delete h e =
    let p : Stamped DocumentValue → Bool = survives_found schema (take i deletes) in
    let q : Stamped DocumentValue → Bool = λ d. not (strikes_found schema delete d) in
    bits_where-again p q ds bits
    ∙ bits_where-same (λ d. p d && q d) (survives_found schema (take (i + 1) deletes))
    (λ d. let f : TermDelete → Bool = λ found. strikes_found schema found d in
    sym (not_or (list_any f (take i deletes)) (f delete))
    ∙ ap not (ap (λ b. list_any f (take i deletes) || b) (ap f e) ∙ sym (list_any_more f deletes i delete h)))
    ds bits

absorbed : (a b : Bool) → (b ≡ true → a ≡ true) → (a || b) ≡ a
absorbed true b h = refl
absorbed false true h = sym (h refl)
absorbed false false h = refl

-- one more delete, which is covered by the one before it
pub survives_found-covered : (schema : List Field) (d : Stamped DocumentValue) (deletes : List TermDelete) (i : ℕ) (before delete : TermDelete) → 0 < i →
    i < length deletes →
    before ≡ get_or deletes (i - 1) before → delete ≡ get_or deletes i delete →
    (strikes_found schema delete d ≡ true → strikes_found schema before d ≡ true) →
    survives_found schema (take i deletes) d ≡ survives_found schema (take (i + 1) deletes) d
survives_found-covered schema d deletes i before delete positive h b e covers =
    let f : TermDelete → Bool = λ found. strikes_found schema found d in
    let taken : before ≡ get_or (take i deletes) (i - 1) before = b ∙ sym (get_or-take i deletes (i - 1) before (omega (arith, positive))) in
    let within : i - 1 < length (take i deletes) = omega (arith, positive, h, length-take-le i deletes (omega (arith, h))) in
    ap not (sym (absorbed (list_any f (take i deletes)) (f delete) (λ struck. list_any_at f (take i deletes) (i - 1) before within
    (ap f (sym taken) ∙ covers struck)))
    ∙ ap (λ c. list_any f (take i deletes) || c) (ap f e)
    ∙ sym (list_any_more f deletes i delete h))

below_later : (n a b : ℕ) → a ≤ b → nat_lt n a ≡ true → nat_lt n b ≡ true
below_later n a b h e = grind (arith, nat_tests)

-- a later delete of the same term applies to no fewer documents
pub later-strikes : (schema : List Field) (d : Stamped DocumentValue) (delete other : TermDelete) → other.stamp ≤ delete.stamp → delete.term.now ≡ other.term.now →
    strikes_found schema other d ≡ true → strikes_found schema delete d ≡ true
later-strikes schema d delete other later same struck =
    let parts = and_parts (nat_lt d.stamp other.stamp) (has schema d.value other.term.now) struck in
    ap₂ (λ a b. a && b) (below_later d.stamp other.stamp delete.stamp later parts.0) (ap (λ t. has schema d.value t) same ∙ parts.1)

-- a property holds whether an option is none or not
pub if_none : {X : Type 0} {P : Type 0} (r : Option X) → P → IfNone r P
if_none None p = p
if_none (Some x) p = tt
