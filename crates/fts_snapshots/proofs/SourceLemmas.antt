-- The segments of a snapshot as the sources of a merge, and the refusals of a merge.
use Rattle.std.proofs.Common.{◌≡◌, ◌<◌, ◌≤◌, ◌+◌, ◌^◌, ◌↔◌, ℕ, true, false, cond, nat_lt, Option, Some, None, Result, Ok, Err, List, [], ◌∷◌, ◌++◌, length, map}
use Rattle.std.proofs.Common.{sum_by, count_by, All, refl, sym, ap, ◌∙◌, ⊎_elim, arith}
use Rattle.std.specs.List.{flat_map, AllByRecursion}
use Rattle.std.proofs.lemmas.Bool.{cases_lt}
use Rattle.std.proofs.lemmas.Bool.Decides.{nat_tests}
use Rattle.std.proofs.lemmas.List.Sums.{sum_by-cons}
use Rattle.std.proofs.lemmas.List.Elements.{All-from_recursion, recursion_from_All, All-weaker}
use Rattle.fts_model.specs.declared.schema.Field.{Field}
use Rattle.fts_base.specs.declared.refusal.Refusal.{Refusal}
use Rattle.fts_base.specs.declared.refusal.Refusal.TheVariants.{TooLarge, StampsUsedUp}
use Rattle.fts_base.specs.Results.{ok_unless, first_of}
use Rattle.fts_merge.specs.Merges.{SourceValue, MergedValue, AreOfOneSchema, schema_of, contents}
use Rattle.fts_segment.specs.Sources as sources
use Rattle.fts_snapshots.specs.Entries.{EntryValue, live_in, live_count}
use Rattle.fts_snapshots.specs.Commits.{numbers_fault}
use Rattle.fts_snapshots.specs.Merges.{entries_at, names_fault, size_fault}
use Rattle.fts_snapshots.specs.Sources.{source_of}
use Rattle.fts_snapshots.proofs.SnapshotLemmas.{all_entries_at, some_sources}

pub contents-sources : (es : List EntryValue) → contents (map source_of es) ≡ flat_map live_in es
contents-sources [] = refl
contents-sources (e ∷ es) = ap (λ ds. live_in e ++ ds) (contents-sources es)

pub live_count-sources : (es : List EntryValue) → sources.live_count (map source_of es) ≡ sum_by live_count es
live_count-sources [] = refl
live_count-sources (e ∷ es) =
    sum_by-cons (λ (s : SourceValue). count_by (λ bit. bit) s.live) (source_of e) (map source_of es)
    ∙ ap (λ n. live_count e + n) (live_count-sources es)
    ∙ sym (sum_by-cons live_count e es)

mapped : (schema : List Field) (es : List EntryValue) → AllByRecursion (λ e. e.segment.schema ≡ schema) es →
    AllByRecursion (λ (s : SourceValue). s.segment.schema ≡ schema) (map source_of es)
mapped schema [] a = tt
mapped schema (e ∷ es) a = (a.0, mapped schema es a.1)

unmapped : (schema : List Field) (es : List EntryValue) → AllByRecursion (λ (s : SourceValue). s.segment.schema ≡ schema) (map source_of es) →
    AllByRecursion (λ e. e.segment.schema ≡ schema) es
unmapped schema [] a = tt
unmapped schema (e ∷ es) a = (a.0, unmapped schema es a.1)

pub schema_of-sources : (schema : List Field) (es : List EntryValue) → AllByRecursion (λ e. e.segment.schema ≡ schema) es → 0 < length es →
    schema_of (map source_of es) ≡ schema
schema_of-sources schema [] a l = absurd (omega (arith, l))
schema_of-sources schema (e ∷ es) a l = a.0

-- segments of one schema are sources of one schema
one_schema : (schema : List Field) (es : List EntryValue) → AllByRecursion (λ e. e.segment.schema ≡ schema) es → 0 < length es →
    AreOfOneSchema (map source_of es)
one_schema schema es a l =
    let same = schema_of-sources schema es a l in
    All-weaker (λ (s : SourceValue). s.segment.schema ≡ schema) (λ s. s.segment.schema ≡ schema_of (map source_of es)) (λ s h. h ∙ sym same) (map source_of es)
    (All-from_recursion (λ (s : SourceValue). s.segment.schema ≡ schema) (map source_of es) (mapped schema es a))

-- all segments of a snapshot are sources of one schema
pub snapshot_schema : (schema : List Field) (es : List EntryValue) → All (λ e. e.segment.schema ≡ schema) es → AreOfOneSchema (map source_of es)
snapshot_schema schema [] a = λ k d l. absurd (omega (arith, l))
snapshot_schema schema (e ∷ es) a = one_schema schema (e ∷ es) (recursion_from_All (λ f. f.segment.schema ≡ schema) (e ∷ es) a) (omega arith)

-- the segments of some numbers are sources of the snapshot's schema
pub named_schema : (es : List EntryValue) (ids : List ℕ) → AreOfOneSchema (map source_of es) → names_fault es ids ≡ None →
    AreOfOneSchema (map source_of (entries_at es ids)) × (schema_of (map source_of (entries_at es ids)) ≡ schema_of (map source_of es))
named_schema es ids a h =
    let schema = schema_of (map source_of es) in
    let each = unmapped schema es (recursion_from_All (λ (s : SourceValue). s.segment.schema ≡ schema) (map source_of es) a) in
    let some = some_sources es ids h in
    let at = all_entries_at (λ e. e.segment.schema ≡ schema) es ids each in
    (one_schema schema (entries_at es ids) at some, schema_of-sources schema (entries_at es ids) at some)

-- a merge that succeeded was not too large
pub not_large : (result : Result MergedValue Refusal) (merged : MergedValue) (n : ℕ) → result ≡ Ok merged → (result ≡ Err TooLarge) ↔ (1048576 < n) →
    n ≤ 1048576
not_large result merged n e h = ⊎_elim (λ (l : 1048576 < n). let f : Ok merged ≡ Err TooLarge = sym e ∙ h.1 l in cc) (λ (l : n ≤ 1048576). l)
    (cases_lt 1048576 n)

pub size_none : (n : ℕ) → n ≤ 1048576 → size_fault n ≡ None
size_none n l = let e : nat_lt 1048576 n ≡ false = grind (arith, nat_tests) in ap (λ b. cond b (Some TooLarge) None) e

pub unless_ok : {X E : Type 0} (fault : Option E) (x y : X) → ok_unless fault x ≡ Ok y → (fault ≡ None) × (y ≡ x)
unless_ok None x y h = (refl, cc)
unless_ok (Some e) x y h = cc

pub room_left : (n : ℕ) → false ≡ nat_lt (2 ^ 62) n → n ≤ 2 ^ 62
room_left n e = grind (arith, nat_tests)

pub first_none : {X : Type 0} (a b : Option X) → first_of a b ≡ None → (a ≡ None) × (b ≡ None)
first_none None b h = (refl, h)
first_none (Some x) b h = cc

pub numbers_room : (n : ℕ) → numbers_fault n ≡ None → n ≤ 2 ^ 62
numbers_room n h =
    ⊎_elim (λ (l : 2 ^ 62 < n). let e : nat_lt (2 ^ 62) n ≡ true = grind (arith, nat_tests) in let f : Some StampsUsedUp ≡ None =
    ap (λ b. cond b (Some StampsUsedUp) None) (sym e) ∙ h in cc)
    (λ (l : n ≤ 2 ^ 62). l)
    (cases_lt (2 ^ 62) n)

-- there is a segment if the numbers have no fault
pub some_entries : (es : List EntryValue) (ids : List ℕ) → names_fault es ids ≡ None → 0 < length es
some_entries [] [] h = cc
some_entries [] (id ∷ ids) h = cc
some_entries (e ∷ es) ids h = omega arith
