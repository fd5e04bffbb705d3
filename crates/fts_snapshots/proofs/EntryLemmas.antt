-- The content of segments after operations; segments without a live document have none.
use Rattle.std.proofs.Common.{◌≡◌, ◌<◌, ◌≤◌, ◌+◌, ℕ, Bool, true, false, cond, nat_lt, List, [], ◌∷◌, ◌++◌, length, get_or, take, map, filter, count_by}
use Rattle.std.proofs.Common.{replicate, not, refl, sym, ap, ◌∙◌, arith}
use Rattle.std.specs.List.{flat_map, list_any, AllByRecursion}
use Rattle.std.proofs.lemmas.Bool.Decides.{nat_tests}
use Rattle.std.proofs.lemmas.List.{length-map, length-append}
use Rattle.std.proofs.lemmas.List.Sums.{sum_by-cons}
use Rattle.std.proofs.lemmas.List.Elements.{filter-append}
use Rattle.std.proofs.Math.Bool.{and-true}
use Rattle.fts_model.specs.declared.schema.Field.{Field}
use Rattle.fts_model.specs.declared.operation.Op.{Op}
use Rattle.fts_model.specs.declared.operation.Op.TheVariants.{Add, Delete, DeleteAll}
use Rattle.fts_model.specs.declared.operation.Stamped.{Stamped}
use Rattle.fts_model.specs.Documents.{DocumentValue}
use Rattle.fts_model.specs.Operations.{survives, added, added_by}
use Rattle.fts_segment.specs.Contents.{where_set}
use Rattle.fts_merge.specs.Strikes.{bits_after, bits_where}
use Rattle.fts_segment.specs.Segments.{BuilderValue, SegmentValue}
use Rattle.fts_snapshots.specs.Entries.{EntryValue, IsEntry, live_in, has_live}
use Rattle.fts_snapshots.specs.Commits.{deletes, struck, fresh, fresh_from}
use Rattle.fts_snapshots.specs.Groups.{built}
use Rattle.fts_merge.proofs.BitsLemmas.{where_set-bits_where, length-bits_where}
use Rattle.fts_model.proofs.OperationsByStamps.{added-push}
use Rattle.fts_model.proofs.Lists.{taken}

-- the members of groups, one group after the other
abbrev pub joined : {X : Type 0} → List (List X) → List X
joined groups = flat_map (λ group. group) groups

pub where_set-map : {X : Type 0} (p : X → Bool) (xs : List X) → where_set xs (map p xs) ≡ filter p xs
where_set-map p [] = refl
where_set-map p (x ∷ xs) = ap (λ ys. cond (p x) (x ∷ ys) ys) (where_set-map p xs)

-- if all bits are set, the bits of those that pass are left
pub bits_where-full : {X : Type 0} (p : X → Bool) (xs : List X) → bits_where p xs (replicate (length xs) true) ≡ map p xs
bits_where-full p [] = refl
bits_where-full p (x ∷ xs) = ap (λ bits. p x ∷ bits) (bits_where-full p xs)

-- if all pass, the bits are unchanged
pub bits_where-all : {X : Type 0} (xs : List X) (bits : List Bool) → length bits ≡ length xs → bits_where (λ x. true) xs bits ≡ bits
bits_where-all [] [] e = refl
bits_where-all [] (bit ∷ bits) e = absurd (omega (arith, e))
bits_where-all (x ∷ xs) [] e = refl
bits_where-all (x ∷ xs) (bit ∷ bits) e = ap (λ b. b ∷ bits_where (λ x. true) xs bits) (and-true bit)
    ∙ ap (λ bs. bit ∷ bs) (bits_where-all xs bits (omega (arith, e)))

-- whether some bit is set
pub some_counted : (bits : List Bool) → nat_lt 0 (count_by (λ bit. bit) bits) ≡ list_any (λ bit. bit) bits
some_counted [] = refl
some_counted (true ∷ bits) =
    let more = sum_by-cons (λ (bit : Bool). cond bit 1 0) true bits in
    let positive : 0 < count_by (λ bit. bit) (true ∷ bits) = omega (arith, more) in
    grind (arith, nat_tests, positive)
some_counted (false ∷ bits) = ap (nat_lt 0) (sum_by-cons (λ (bit : Bool). cond bit 1 0) false bits ∙ omega arith) ∙ some_counted bits

where_set-none : {X : Type 0} (xs : List X) (bits : List Bool) → list_any (λ bit. bit) bits ≡ false → where_set xs bits ≡ []
where_set-none [] bits e = refl
where_set-none (x ∷ xs) [] e = refl
where_set-none (x ∷ xs) (true ∷ bits) e = cc
where_set-none (x ∷ xs) (false ∷ bits) e = where_set-none xs bits e

-- segments without a live document can be dropped
pub live_in-filter : (es : List EntryValue) → flat_map live_in (filter has_live es) ≡ flat_map live_in es
live_in-filter [] = refl
live_in-filter (e ∷ es) =
    elim (has_live e) as (λ b. has_live e ≡ b → flat_map live_in (cond b (e ∷ filter has_live es) (filter has_live es)) ≡ live_in e ++ flat_map live_in es) [
      | true ↦ λ _. ap (λ ds. live_in e ++ ds) (live_in-filter es)
      | false ↦ λ h. live_in-filter es ∙ ap (λ ds. ds ++ flat_map live_in es) (sym (where_set-none e.segment.documents e.live h))
    ] refl

-- segments of one schema have the survivors of operations as their content
pub live_in-struck : (schema : List Field) (ops : List (Stamped Op)) (es : List EntryValue) → AllByRecursion (λ e. e.segment.schema ≡ schema) es →
    flat_map live_in (map (struck ops) es) ≡ filter (survives schema ops) (flat_map live_in es)
live_in-struck schema ops [] a = refl
live_in-struck schema ops (e ∷ es) a =
    ap (λ ds. live_in (struck ops e) ++ ds) (live_in-struck schema ops es a.1)
    ∙ ap (λ ds. ds ++ filter (survives schema ops) (flat_map live_in es)) (where_set-bits_where (survives e.segment.schema ops) e.segment.documents e.live
    ∙ ap (λ s. filter (survives s ops) (live_in e)) a.0)
    ∙ sym (filter-append (survives schema ops) (live_in e) (flat_map live_in es))

-- new segments have the survivors of their documents as their content
pub live_in-fresh : (schema : List Field) (ops : List (Stamped Op)) (id : ℕ) (groups : List (List (Stamped DocumentValue))) →
    flat_map live_in (fresh_from schema ops id groups) ≡ filter (survives schema ops) (joined groups)
live_in-fresh schema ops id [] = refl
live_in-fresh schema ops id (ds ∷ groups) =
    ap (λ xs. live_in (fresh schema ops id ds) ++ xs) (live_in-fresh schema ops (id + 1) groups)
    ∙ ap (λ xs. xs ++ filter (survives schema ops) (joined groups)) (where_set-map (survives schema ops) ds)
    ∙ sym (filter-append (survives schema ops) ds (joined groups))

-- a segment of a snapshot from its parts
abbrev pub entry_with : ℕ → SegmentValue → List Bool → EntryValue
entry_with id segment live = record { id = id; segment = segment; live = live }

pub same_entry : (id other : ℕ) (segment segments : SegmentValue) (live lives : List Bool) → id ≡ other → segment ≡ segments → live ≡ lives →
    entry_with id segment live ≡ entry_with other segments lives
same_entry id other segment segments live lives e f g =
    ap (λ n. entry_with n segment live) e ∙ ap (λ s. entry_with other s live) f ∙ ap (entry_with other segments) g

pub entry_struck : (ops : List (Stamped Op)) (e : EntryValue) → IsEntry e → IsEntry (struck ops e)
entry_struck ops e i = record { bits = length-bits_where (survives e.segment.schema ops) e.segment.documents e.live i.bits; few = i.few }

-- no operations delete nothing
pub struck_none : (e : EntryValue) → IsEntry e → struck [] e ≡ e
struck_none e i = ap (λ bits. record { id = e.id; segment = e.segment; live = bits }) (bits_where-all e.segment.documents e.live i.bits)

pub entry_fresh : (schema : List Field) (ops : List (Stamped Op)) (id : ℕ) (documents : List (Stamped DocumentValue)) → length documents ≤ 65536 →
    IsEntry (fresh schema ops id documents)
entry_fresh schema ops id documents l = record { bits = length-map documents (survives schema ops); few = omega (arith, l) }

-- a segment that is built, with the bits of the documents that operations leave
pub built_live : (ops : List (Stamped Op)) (id : ℕ) (b : BuilderValue) (segment : SegmentValue) (docs : ℕ) (all live : List Bool) → segment ≡ b.segment →
    docs ≡ length segment.documents → all ≡ replicate docs true → live ≡ bits_after segment.schema ops segment.documents all →
    entry_with id segment live ≡ built ops id b
built_live ops id b segment docs all live same count set left =
    let full = bits_where-full (survives b.segment.schema ops) b.segment.documents in
    cc

-- the document that one more operation adds
pub added_more : (ops : List (Stamped Op)) (i : ℕ) (op : Stamped Op) → i < length ops → op ≡ get_or ops i op → added (take i ops) ++ added_by op.stamp op.value
    ≡ added (take (i + 1) ops)
added_more ops i op l e = sym (added-push (take i ops) op) ∙ ap added (sym (taken ops i op l e))

length-added_by : (stamp : ℕ) (op : Op) → length (added_by stamp op) ≤ 1
length-added_by stamp (Add document) = omega arith
length-added_by stamp (Delete term) = omega arith
length-added_by stamp DeleteAll = omega arith

length-added_one : (stamp : ℕ) (op : Op) → length (added_by stamp op) ≡ cond (not (deletes op)) 1 0
length-added_one stamp (Add document) = omega arith
length-added_one stamp (Delete term) = omega arith
length-added_one stamp DeleteAll = omega arith

-- how many documents are added with one more operation
pub length-added_more : (ops : List (Stamped Op)) (i : ℕ) (op : Stamped Op) (is_add : Bool) → i < length ops → op ≡ get_or ops i op →
    not (deletes op.value) ≡ is_add → length (added (take (i + 1) ops)) ≡ length (added (take i ops)) + cond is_add 1 0
length-added_more ops i op is_add l e h =
    sym (ap length (added_more ops i op l e))
    ∙ length-append (added (take i ops)) (added_by op.stamp op.value)
    ∙ ap (λ n. length (added (take i ops)) + n) (length-added_one op.stamp op.value ∙ ap (λ b. cond b 1 0) h)

-- no more is added than there are operations
pub length-added : (ops : List (Stamped Op)) → length (added ops) ≤ length ops
length-added [] = omega arith
length-added (op ∷ ops) = omega (arith, length-append (added_by op.stamp op.value) (added ops), length-added_by op.stamp op.value, length-added ops)
