-- The documents alive after operations whose stamps rise: those that are added and not deleted by a later stamp.
use Rattle.std.proofs.Common.{◌≡◌, ◌↔◌, ℕ, ◌<◌, ◌&&◌, ◌||◌, nat_lt, Bool, true, false, cond, not, List, [], ◌∷◌, ◌++◌, filter, refl, sym, ap, subst, ◌∙◌}
use Rattle.std.proofs.Common.{⊎_elim, arith, All, Contains, append_assoc}
use Rattle.std.specs.List.{list_any}
use Rattle.std.proofs.lemmas.Bool.{cases_Bool, or_parts, not-true}
use Rattle.std.proofs.lemmas.Bool.Decides.{nat_tests}
use Rattle.std.proofs.lemmas.List.Elements.{All-nil, All-cons, All-head, All-tail, All-weaker, filter-append}
use Rattle.std.proofs.lemmas.List.{append-nil}
use Rattle.fts_model.specs.declared.schema.Field.{Field}
use Rattle.fts_model.specs.declared.operation.Op.{Op}
use Rattle.fts_model.specs.declared.operation.Op.TheVariants.{Add, Delete, DeleteAll}
use Rattle.fts_model.specs.declared.operation.Stamped.{Stamped}
use Rattle.fts_model.specs.Documents.{DocumentValue}
use Rattle.fts_model.specs.Operations.{strikes, is_struck, left_by, alive, StampsRise, strikes_later, survives, added_by, added, adds}
use Rattle.fts_model.proofs.Lists.{pairs_behind, pairs_front, Contains-cases, Contains-first, Contains-behind, Contains-none, Contains-filter}
use Rattle.fts_model.proofs.Lists.{Contains-from_filter}

-- two tests that agree on a list's members filter it alike
filter_agree_on : {X : Type 0} (p q : X → Bool) (xs : List X) → All (λ x. p x ≡ q x) xs → filter p xs ≡ filter q xs
filter_agree_on p q [] h = refl
filter_agree_on p q (x ∷ xs) h =
    ap (λ b. cond b (x ∷ filter p xs) (filter p xs)) (All-head (λ x. p x ≡ q x) x xs h)
    ∙ ap (λ ys. cond (q x) (x ∷ ys) ys) (filter_agree_on p q xs (All-tail (λ x. p x ≡ q x) x xs h))

-- an operation of a later stamp deletes a document exactly if it does so by the test with stamps
struck_by_later : (schema : List Field) (d : Stamped DocumentValue) (ops : List (Stamped Op)) → All (λ op. d.stamp < op.stamp) ops →
    list_any (λ op. strikes_later schema op d) ops ≡ is_struck schema ops d.value
struck_by_later schema d [] later = refl
struck_by_later schema d (op ∷ ops) later =
    let here : d.stamp < op.stamp = All-head (λ (op : Stamped Op). d.stamp < op.stamp) op ops later in
    let e : nat_lt d.stamp op.stamp ≡ true = grind (arith, nat_tests) in
    ap (λ b. (b && strikes schema op.value d.value) || list_any (λ op. strikes_later schema op d) ops) e
    ∙ ap (λ b. strikes schema op.value d.value || b) (struck_by_later schema d ops (All-tail (λ (op : Stamped Op). d.stamp < op.stamp) op ops later))

-- an operation whose stamp is not later deletes nothing
survives-earlier : (schema : List Field) (op : Stamped Op) (ops : List (Stamped Op)) (d : Stamped DocumentValue) → nat_lt d.stamp op.stamp ≡ false →
    survives schema (op ∷ ops) d ≡ survives schema ops d
survives-earlier schema op ops d e = ap (λ b. not ((b && strikes schema op.value d.value) || list_any (λ op. strikes_later schema op d) ops)) e

-- a property of the stamps of an operation and of documents holds with the added document in front
All-added_by : (P : ℕ → Type 0) (stamp : ℕ) (op : Op) (ds : List (Stamped DocumentValue)) → P stamp → All (λ d. P d.stamp) ds →
    All (λ d. P d.stamp) (added_by stamp op ++ ds)
All-added_by P stamp (Add document) ds p ps = All-cons (λ d. P d.stamp) (record { stamp = stamp; value = document }) ds p ps
All-added_by P stamp (Delete term) ds p ps = ps
All-added_by P stamp DeleteAll ds p ps = ps

-- the stamps of the added documents are stamps of the operations
pub All-added : (P : ℕ → Type 0) (ops : List (Stamped Op)) → All (λ op. P op.stamp) ops → All (λ d. P d.stamp) (added ops)
All-added P [] ps = All-nil (λ d. P d.stamp)
All-added P (op ∷ ops) ps =
    All-added_by P op.stamp op.value (added ops) (All-head (λ op. P op.stamp) op ops ps) (All-added P ops (All-tail (λ op. P op.stamp) op ops ps))

-- a document is left unless it is deleted
left_or_not : (b : Bool) (d : Stamped DocumentValue) → cond b [] (d ∷ []) ≡ cond (not b) (d ∷ []) []
left_or_not true d = refl
left_or_not false d = refl

-- an operation leaves the document that it adds if that survives
left_by-survives : (schema : List Field) (op : Stamped Op) (value : Op) (ops : List (Stamped Op)) → All (λ later. op.stamp < later.stamp) ops →
    left_by schema op.stamp value ops ≡ filter (survives schema (op ∷ ops)) (added_by op.stamp value)
left_by-survives schema op (Add document) ops later =
    let d : Stamped DocumentValue = record { stamp = op.stamp; value = document } in
    left_or_not (is_struck schema ops document) d
    ∙ ap (λ b. cond (not b) (d ∷ []) []) (sym (struck_by_later schema d ops later))
    ∙ ap (λ b. cond b (d ∷ []) []) (sym (survives-earlier schema op ops d (grind (arith, nat_tests))))
left_by-survives schema op (Delete term) ops later = refl
left_by-survives schema op DeleteAll ops later = refl

-- the documents alive are those that are added and survive
pub alive-survives : (schema : List Field) (ops : List (Stamped Op)) → StampsRise ops → alive schema ops ≡ filter (survives schema ops) (added ops)
alive-survives schema [] rise = refl
alive-survives schema (op ∷ ops) rise =
    let later = pairs_front (λ x y. x.stamp < y.stamp) op ops rise in
    let same : All (λ d. survives schema (op ∷ ops) d ≡ survives schema ops d) (added ops) =
    All-weaker (λ d. op.stamp < d.stamp) (λ d. survives schema (op ∷ ops) d ≡ survives schema ops d)
    (λ d above. survives-earlier schema op ops d (grind (arith, nat_tests))) (added ops) (All-added (λ stamp. op.stamp < stamp) ops later) in
    ap (λ ds. left_by schema op.stamp op.value ops ++ ds) (alive-survives schema ops (pairs_behind (λ x y. x.stamp < y.stamp) op ops rise))
    ∙ ap (λ ds. ds ++ filter (survives schema ops) (added ops)) (left_by-survives schema op op.value ops later)
    ∙ ap (λ ds. filter (survives schema (op ∷ ops)) (added_by op.stamp op.value) ++ ds)
    (sym (filter_agree_on (survives schema (op ∷ ops)) (survives schema ops) (added ops) same))
    ∙ sym (filter-append (survives schema (op ∷ ops)) (added_by op.stamp op.value) (added ops))

-- the operation that adds a document
abbrev add_of : Stamped DocumentValue → Stamped Op
add_of d = record { stamp = d.stamp; value = Add d.value }

-- a document is added if an operation adds it, by the first operation's kind
added_at : (stamp : ℕ) (value : Op) (ops : List (Stamped Op)) (d : Stamped DocumentValue) → (Contains (added ops) d → Contains ops (add_of d)) →
    Contains (added_by stamp value ++ added ops) d → Contains (record { stamp = stamp; value = value } ∷ ops) (add_of d)
added_at stamp (Add document) ops d rest at =
    let op : Stamped Op = record { stamp = stamp; value = Add document } in
    ⊎_elim
    (λ (same : record { stamp = stamp; value = document } ≡ d). Contains-first op ops (add_of d) (ap add_of same))
    (λ (later : Contains (added ops) d). Contains-behind op ops (add_of d) (rest later))
    (Contains-cases (record { stamp = stamp; value = document }) (added ops) d at)
added_at stamp (Delete term) ops d rest at = Contains-behind (record { stamp = stamp; value = Delete term }) ops (add_of d) (rest at)
added_at stamp DeleteAll ops d rest at = Contains-behind (record { stamp = stamp; value = DeleteAll }) ops (add_of d) (rest at)

-- a document that an operation adds is added, by the first operation's kind
add_at : (stamp : ℕ) (value : Op) (ops : List (Stamped Op)) (d : Stamped DocumentValue) → (Contains ops (add_of d) → Contains (added ops) d) →
    Contains (record { stamp = stamp; value = value } ∷ ops) (add_of d) → Contains (added_by stamp value ++ added ops) d
add_at stamp (Add document) ops d rest at =
    let op : Stamped Op = record { stamp = stamp; value = Add document } in
    let here : Stamped DocumentValue = record { stamp = stamp; value = document } in
    ⊎_elim
    (λ (same : op ≡ add_of d).
    let add : Add document ≡ Add d.value = ap (λ (o : Stamped Op). o.value) same in
    let value : document ≡ d.value = cc in
    let stamps : stamp ≡ d.stamp = ap (λ (o : Stamped Op). o.stamp) same in
    let first : here ≡ d = ap (λ s. record { stamp = s; value = document }) stamps ∙ ap (λ v. record { stamp = d.stamp; value = v }) value in
    Contains-first here (added ops) d first)
    (λ (later : Contains ops (add_of d)). Contains-behind here (added ops) d (rest later))
    (Contains-cases op ops (add_of d) at)
add_at stamp (Delete term) ops d rest at =
    let op : Stamped Op = record { stamp = stamp; value = Delete term } in
    ⊎_elim
    (λ (same : op ≡ add_of d). let no : Delete term ≡ Add d.value = ap (λ (o : Stamped Op). o.value) same in cc)
    (λ (later : Contains ops (add_of d)). rest later)
    (Contains-cases op ops (add_of d) at)
add_at stamp DeleteAll ops d rest at =
    let op : Stamped Op = record { stamp = stamp; value = DeleteAll } in
    ⊎_elim
    (λ (same : op ≡ add_of d). let no : DeleteAll ≡ Add d.value = ap (λ (o : Stamped Op). o.value) same in cc)
    (λ (later : Contains ops (add_of d)). rest later)
    (Contains-cases op ops (add_of d) at)

-- a document is added exactly if an operation adds it
Contains-added : (ops : List (Stamped Op)) (d : Stamped DocumentValue) → Contains (added ops) d ↔ Contains ops (add_of d)
Contains-added [] d = (λ h. absurd (Contains-none d h), λ h. absurd (Contains-none (add_of d) h))
Contains-added (op ∷ ops) d =
    let rest = Contains-added ops d in (added_at op.stamp op.value ops d rest.0, add_at op.stamp op.value ops d rest.1)

-- no operation of a later stamp deletes the document
abbrev IsSpared : List Field → List (Stamped Op) → Stamped DocumentValue → Type 0
IsSpared schema ops d = All (λ op. d.stamp < op.stamp → strikes schema op.value d.value ≡ false) ops

-- if the test finds no operation that deletes, each of a later stamp does not
none_strikes : (schema : List Field) (ops : List (Stamped Op)) (d : Stamped DocumentValue) → list_any (λ op. strikes_later schema op d) ops ≡ false →
    IsSpared schema ops d
none_strikes schema [] d h = All-nil (λ op. d.stamp < op.stamp → strikes schema op.value d.value ≡ false)
none_strikes schema (op ∷ ops) d h =
    let both = or_parts (strikes_later schema op d) (list_any (λ op. strikes_later schema op d) ops) h in
    All-cons (λ op. d.stamp < op.stamp → strikes schema op.value d.value ≡ false) op ops
    (λ below. let e : nat_lt d.stamp op.stamp ≡ true = grind (arith, nat_tests) in ap (λ b. b && strikes schema op.value d.value) (sym e) ∙ both.0)
    (none_strikes schema ops d both.1)

-- an operation that would not delete at a later stamp passes the test
spared_now : (schema : List Field) (op : Stamped Op) (d : Stamped DocumentValue) → (d.stamp < op.stamp → strikes schema op.value d.value ≡ false) →
    strikes_later schema op d ≡ false
spared_now schema op d h =
    ⊎_elim
    (λ (later : nat_lt d.stamp op.stamp ≡ true). ap (λ b. b && strikes schema op.value d.value) later ∙ h (grind (arith, nat_tests)))
    (λ (not_later : nat_lt d.stamp op.stamp ≡ false). ap (λ b. b && strikes schema op.value d.value) not_later)
    (cases_Bool (nat_lt d.stamp op.stamp))

-- if no operation of a later stamp deletes, the test finds none
all_spare : (schema : List Field) (ops : List (Stamped Op)) (d : Stamped DocumentValue) → IsSpared schema ops d →
    list_any (λ op. strikes_later schema op d) ops ≡ false
all_spare schema [] d h = refl
all_spare schema (op ∷ ops) d h =
    let P : Stamped Op → Type 0 = λ op. d.stamp < op.stamp → strikes schema op.value d.value ≡ false in
    ap (λ b. b || list_any (λ op. strikes_later schema op d) ops) (spared_now schema op d (All-head P op ops h)) ∙ all_spare schema ops d (All-tail P op ops h)

-- a document is alive exactly if an operation adds it and none of a later stamp deletes it
pub Contains-alive : (schema : List Field) (ops : List (Stamped Op)) (d : Stamped DocumentValue) → StampsRise ops →
    Contains (alive schema ops) d ↔ (Contains ops (add_of d) × IsSpared schema ops d)
Contains-alive schema ops d rise =
    let e = alive-survives schema ops rise in
    let P : List (Stamped DocumentValue) → Type 0 = λ ds. Contains ds d in (
      λ at.
          let kept = Contains-from_filter (survives schema ops) (added ops) d (subst P e at) in
          ((Contains-added ops d).0 kept.0, none_strikes schema ops d (not-true (list_any (λ op. strikes_later schema op d) ops) kept.1)),
      λ h. subst P (sym e) (Contains-filter (survives schema ops) (added ops) d ((Contains-added ops d).1 h.0) (ap not (all_spare schema ops d h.1))),
    )

-- the adds of documents add these documents
pub added-adds : (documents : List (Stamped DocumentValue)) (ops : List (Stamped Op)) → added (adds documents ++ ops) ≡ documents ++ added ops
added-adds [] ops = refl
added-adds (d ∷ documents) ops = ap (λ ds. d ∷ ds) (added-adds documents ops)

-- the documents added by one more operation
pub added-push : (ops : List (Stamped Op)) (op : Stamped Op) → added (ops ++ op ∷ []) ≡ added ops ++ added_by op.stamp op.value
added-push [] op = append-nil (added_by op.stamp op.value)
added-push (o ∷ ops) op =
    ap (λ ds. added_by o.stamp o.value ++ ds) (added-push ops op)
    ∙ sym (append_assoc (added_by o.stamp o.value) (added ops) (added_by op.stamp op.value))
