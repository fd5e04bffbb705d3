-- The loops of the end of a merge.
use Rattle.std.proofs.Common.{◌≡◌, ◌<◌, ◌≤◌, ◌+◌, ◌==◌, ◌||◌, ℕ, zero, suc, Bool, true, false, cond, not, Option, Some, None, Err, List, [], ◌∷◌, ◌++◌, length}
use Rattle.std.proofs.Common.{get_or, map, take, drop, slice_get, set, replicate, refl, sym, ap, ◌∙◌, add-one, arith}
use Rattle.std.specs.List.{list_any}
use Rattle.std.specs.Option.{is_some, option_map}
use Rattle.std.proofs.lemmas.Bool.Decides.{nat_tests}
use Rattle.std.proofs.lemmas.List.{append-nil, map-append, get_or-map, drop_all}
use Rattle.std.proofs.lemmas.List.Folds.{list_any-append}
use Rattle.std.proofs.lemmas.Simd.{map-map}
use Rattle.std.proofs.Math.Bool.{or-true, or-false, not-not}
use Rattle.std.proofs.Math.Seq.{take-length}
use Rattle.std.proofs.lemmas.Option.{slice_get-get_or}
use Rattle.fts_model.specs.declared.operation.Stamped.{Stamped}
use Rattle.fts_model.specs.Documents.{DocumentValue}
use Rattle.fts_base.specs.Results.{ok_unless}
use Rattle.fts_segment.specs.Contents.{where_set}
use Rattle.fts_merge.specs.declared.origin.Origin.{Origin}
use Rattle.fts_snapshots.specs.Entries.{EntryValue}
use Rattle.fts_snapshots.specs.Merges.{is_among, is_there}
use Rattle.fts_snapshots.specs.MergedSegments.{MergedSegmentValue, IsMergedSegment, origins_of}
use Rattle.fts_snapshots.specs.LateMerges.{is_live_at}
use Rattle.fts_snapshots.specs.Lookups.{place_in, is_live_there}
use Rattle.fts_snapshots.proofs.LookupLemmas.{there_by_place, live_by_place}
use Rattle.fts_snapshots.proofs.LateContentLemmas.{got_mapped, all_got, sources_named, named_by}

-- the bits of the first members of a list by a test, followed by clear bits
abbrev pub marked : {X : Type 0} → (X → Bool) → List X → ℕ → List Bool
marked f [] i = []
marked f (x ∷ xs) zero = false ∷ marked f xs zero
marked f (x ∷ xs) (suc i) = f x ∷ marked f xs i

pub marked-none : {X : Type 0} (f : X → Bool) (xs : List X) → marked f xs 0 ≡ replicate (length xs) false
marked-none f [] = refl
marked-none f (x ∷ xs) = ap (λ bits. false ∷ bits) (marked-none f xs)

marked-whole : {X : Type 0} (f : X → Bool) (xs : List X) → marked f xs (length xs) ≡ map f xs
marked-whole f [] = refl
marked-whole f (x ∷ xs) = ap (λ bits. f x ∷ bits) (marked-whole f xs)

pub marked-all : {X : Type 0} (f : X → Bool) (xs : List X) (i : ℕ) → i ≡ length xs → marked f xs i ≡ map f xs
marked-all f xs i e = ap (marked f xs) e ∙ marked-whole f xs

pub length-marked : {X : Type 0} (f : X → Bool) (xs : List X) (i : ℕ) → length (marked f xs i) ≡ length xs
length-marked f [] i = refl
length-marked f (x ∷ xs) zero = ap suc (length-marked f xs zero)
length-marked f (x ∷ xs) (suc i) = ap suc (length-marked f xs i)

marked-next : {X : Type 0} (f : X → Bool) (xs : List X) (i : ℕ) (x : X) → slice_get xs i ≡ Some x → cond (f x) (set (marked f xs i) i true) (marked f xs i)
    ≡ marked f xs (suc i)
marked-next f [] i x h = cc
marked-next f (y ∷ xs) zero x h =
    let same : y ≡ x = cc in
    chosen (f x) (marked f xs zero) ∙ ap (λ z. f z ∷ marked f xs zero) (sym same) where
      chosen : (b : Bool) (bits : List Bool) → cond b (true ∷ bits) (false ∷ bits) ≡ b ∷ bits
      chosen true bits = refl
      chosen false bits = refl
marked-next f (y ∷ xs) (suc i) x h =
    through (f x) (f y) (set (marked f xs i) i true) (marked f xs i) ∙ ap (λ bits. f y ∷ bits) (marked-next f xs i x h) where
      through : (b c : Bool) (us vs : List Bool) → cond b (c ∷ us) (c ∷ vs) ≡ c ∷ cond b us vs
      through true c us vs = refl
      through false c us vs = refl

pub marked-more : {X : Type 0} (f : X → Bool) (xs : List X) (i : ℕ) (x : X) (b : Bool) → slice_get xs i ≡ Some x → b ≡ f x →
    cond b (set (marked f xs i) i true) (marked f xs i) ≡ marked f xs (i + 1)
marked-more f xs i x b h e =
    ap (λ c. cond c (set (marked f xs i) i true) (marked f xs i)) e ∙ marked-next f xs i x h ∙ ap (marked f xs) (sym (add-one i))

-- whether the document of an origin is live
abbrev pub bit_of : List EntryValue → List ℕ → Origin → Bool
bit_of es ids origin = is_live_at es (get_or ids origin.source 0) origin.document

pub bits_mapped : (es : List EntryValue) (m : MergedSegmentValue) → map (bit_of es m.ids) m.merged.origins ≡ map (λ o. is_live_at es o.0 o.1) (origins_of m)
bits_mapped es m = sym (map-map (λ (o : ℕ × ℕ). is_live_at es o.0 o.1) (named_by m.ids) m.merged.origins)

pub bit_by_place : (es : List EntryValue) (ids : List ℕ) (o : Origin) (p : Option ℕ) → p ≡ place_in es (get_or ids o.source 0) →
    is_live_there es p o.document ≡ bit_of es ids o
bit_by_place es ids o p h = ap (λ q. is_live_there es q o.document) h ∙ live_by_place es (get_or ids o.source 0) o.document

-- one more member whose bit is set
where_set-next : {X : Type 0} (xs : List X) (bits : List Bool) (i : ℕ) (x : X) (b : Bool) → slice_get xs i ≡ Some x → slice_get bits i ≡ Some b →
    where_set (take (suc i) xs) (take (suc i) bits) ≡ where_set (take i xs) (take i bits) ++ cond b (x ∷ []) []
where_set-next [] bits i x b h k = cc
where_set-next (y ∷ xs) [] i x b h k = cc
where_set-next (y ∷ xs) (c ∷ bits) zero x b h k =
    let same : y ≡ x = cc in
    let bit : c ≡ b = cc in
    ap (λ z. cond c (z ∷ []) []) same ∙ ap (λ a. cond a (x ∷ []) []) bit
where_set-next (y ∷ xs) (c ∷ bits) (suc i) x b h k =
    let rest = where_set-next xs bits i x b h k in
    elim c as (λ a. cond a (y ∷ where_set (take (suc i) xs) (take (suc i) bits)) (where_set (take (suc i) xs) (take (suc i) bits))
    ≡ cond a (y ∷ where_set (take i xs) (take i bits)) (where_set (take i xs) (take i bits)) ++ cond b (x ∷ []) [])
    [ true ↦ ap (λ ys. y ∷ ys) rest | false ↦ rest ]

-- the stamps of the first documents, of those whose bit is set
abbrev pub stamps_to : List (Stamped DocumentValue) → List Bool → ℕ → List ℕ
stamps_to ds bits i = map (λ d. d.stamp) (where_set (take i ds) (take i bits))

stamps_next : (ds : List (Stamped DocumentValue)) (bits : List Bool) (i : ℕ) (d : Stamped DocumentValue) (b : Bool) → slice_get ds i ≡ Some d →
    slice_get bits i ≡ Some b →
    stamps_to ds bits (i + 1) ≡ stamps_to ds bits i ++ cond b (d.stamp ∷ []) []
stamps_next ds bits i d b h k =
    ap (stamps_to ds bits) (add-one i) ∙ ap (map (λ (x : Stamped DocumentValue). x.stamp)) (where_set-next ds bits i d b h k)
    ∙ map-append (λ (x : Stamped DocumentValue). x.stamp) (where_set (take i ds) (take i bits)) (cond b (d ∷ []) [])
    ∙ ap (λ ss. stamps_to ds bits i ++ ss) (chosen b) where
      chosen : (b : Bool) → map (λ (x : Stamped DocumentValue). x.stamp) (cond b (d ∷ []) []) ≡ cond b (d.stamp ∷ []) []
      chosen true = refl
      chosen false = refl

pub stamps_skipped : (ds : List (Stamped DocumentValue)) (bits : List Bool) (i : ℕ) (d : Stamped DocumentValue) → slice_get ds i ≡ Some d →
    slice_get bits i ≡ Some false →
    stamps_to ds bits (i + 1) ≡ stamps_to ds bits i
stamps_skipped ds bits i d h k = stamps_next ds bits i d false h k ∙ append-nil (stamps_to ds bits i)

pub added_key : (stamp q : ℕ) (old : Bool) → cond (stamp == q) true old ≡ (old || ((q == stamp) || false))
added_key stamp q old =
    elim (stamp == q) as (λ b. (stamp == q) ≡ b → cond b true old ≡ (old || ((q == stamp) || false))) [
      | true ↦ λ t. let same : (q == stamp) ≡ true = grind (arith, nat_tests, t) in sym (ap (λ b. old || (b || false)) same ∙ or-true old)
      | false ↦ λ t. let other : (q == stamp) ≡ false = grind (arith, nat_tests, t) in sym (ap (λ b. old || (b || false)) other ∙ or-false old)
    ] refl

pub stamps_added : (ds : List (Stamped DocumentValue)) (bits : List Bool) (i : ℕ) (d : Stamped DocumentValue) (stamp q : ℕ) (old new : Bool) →
    slice_get ds i ≡ Some d → slice_get bits i ≡ Some true → stamp ≡ d.stamp →
    new ≡ cond (stamp == q) true old → old ≡ is_among (stamps_to ds bits i) q → new ≡ is_among (stamps_to ds bits (i + 1)) q
stamps_added ds bits i d stamp q old new h k at n o =
    n ∙ added_key stamp q old ∙ ap (λ b. b || ((q == stamp) || false)) o ∙ ap (λ s. is_among (stamps_to ds bits i) q || ((q == s) || false)) at
    ∙ sym (list_any-append (λ other. q == other) (stamps_to ds bits i) (d.stamp ∷ []))
    ∙ ap (λ ss. is_among ss q) (sym (stamps_next ds bits i d true h k))

-- whether the sources of the documents are gone
abbrev pub gone_bits : List EntryValue → MergedSegmentValue → List Bool
gone_bits es m = map (λ o. not (is_there es o.0)) (origins_of m)

pub gone_bit : (es : List EntryValue) (m : MergedSegmentValue) (i : ℕ) (o : Origin) (b : Bool) → slice_get m.merged.origins i ≡ Some o →
    b ≡ not (is_there es (get_or m.ids o.source 0)) →
    slice_get (gone_bits es m) i ≡ Some b
gone_bit es m i o b h e =
    got_mapped (λ (p : ℕ × ℕ). not (is_there es p.0)) (origins_of m) i (named_by m.ids o) (got_mapped (named_by m.ids) m.merged.origins i o h)
    ∙ ap (λ c. Some c) (sym e)

pub stamps_all : (ds : List (Stamped DocumentValue)) (bits : List Bool) (i : ℕ) → i ≡ length ds → length bits ≡ length ds →
    stamps_to ds bits i ≡ map (λ d. d.stamp) (where_set ds bits)
stamps_all ds bits i e l =
    ap (λ n. stamps_to ds bits n) e ∙ ap (λ xs. map (λ (d : Stamped DocumentValue). d.stamp) (where_set xs (take (length ds) bits))) (take-length ds)
    ∙ ap (λ n. map (λ (d : Stamped DocumentValue). d.stamp) (where_set ds (take n bits))) (sym l)
    ∙ ap (λ bs. map (λ (d : Stamped DocumentValue). d.stamp) (where_set ds bs)) (take-length bits)

-- a test of the live documents from an index
abbrev pub any_from : (Stamped DocumentValue → Bool) → List (Stamped DocumentValue) → List Bool → ℕ → Bool
any_from P ds bits i = list_any P (where_set (drop i ds) (drop i bits))

dropped : {X : Type 0} (xs : List X) (i : ℕ) (x : X) → slice_get xs i ≡ Some x → drop i xs ≡ x ∷ drop (suc i) xs
dropped [] i x h = cc
dropped (y ∷ xs) zero x h = let same : y ≡ x = cc in ap (λ z. z ∷ xs) same
dropped (y ∷ xs) (suc i) x h = dropped xs i x h

any_step : (P : Stamped DocumentValue → Bool) (ds : List (Stamped DocumentValue)) (bits : List Bool) (i : ℕ) (d : Stamped DocumentValue) (b : Bool) →
    slice_get ds i ≡ Some d → slice_get bits i ≡ Some b →
    any_from P ds bits i ≡ cond b (P d || any_from P ds bits (i + 1)) (any_from P ds bits (i + 1))
any_step P ds bits i d b h k =
    ap (λ xs. list_any P (where_set xs (drop i bits))) (dropped ds i d h) ∙ ap (λ bs. list_any P (where_set (d ∷ drop (suc i) ds) bs)) (dropped bits i b k)
    ∙ chosen b (where_set (drop (suc i) ds) (drop (suc i) bits)) ∙ ap (λ n. cond b (P d || any_from P ds bits n) (any_from P ds bits n)) (sym (add-one i)) where
      chosen : (b : Bool) (xs : List (Stamped DocumentValue)) → list_any P (cond b (d ∷ xs) xs) ≡ cond b (P d || list_any P xs) (list_any P xs)
      chosen true xs = refl
      chosen false xs = refl

pub any_here : (P : Stamped DocumentValue → Bool) (ds : List (Stamped DocumentValue)) (bits : List Bool) (i : ℕ) (d : Stamped DocumentValue) →
    slice_get ds i ≡ Some d → slice_get bits i ≡ Some true → P d ≡ true →
    any_from P ds bits i ≡ true
any_here P ds bits i d h k p = any_step P ds bits i d true h k ∙ ap (λ b. b || any_from P ds bits (i + 1)) p

pub any_next : (P : Stamped DocumentValue → Bool) (ds : List (Stamped DocumentValue)) (bits : List Bool) (i : ℕ) (d : Stamped DocumentValue) (b : Bool) →
    slice_get ds i ≡ Some d → slice_get bits i ≡ Some b →
    cond b (P d) false ≡ false → any_from P ds bits (i + 1) ≡ any_from P ds bits i
any_next P ds bits i d true h k p = sym (any_step P ds bits i d true h k ∙ ap (λ b. b || any_from P ds bits (i + 1)) p)
any_next P ds bits i d false h k p = sym (any_step P ds bits i d false h k)

pub any_end : (P : Stamped DocumentValue → Bool) (ds : List (Stamped DocumentValue)) (bits : List Bool) (i : ℕ) → length ds ≤ i → any_from P ds bits i ≡ false
any_end P ds bits i l = ap (λ xs. list_any P (where_set xs (drop i bits))) (drop_all i ds l)

-- the origin that a list gives past its end
abbrev pub no_origin : Origin
no_origin = record { source = 0; document = 0 }

-- the origin at an index, and the index of its source
pub record IsOriginAt (es : List EntryValue) (m : MergedSegmentValue) (i : ℕ) (o : Origin) (p : Option ℕ) : Type 0 where
  pub is : slice_get m.merged.origins i ≡ Some o
  pub place : p ≡ place_in es (get_or m.ids o.source 0)

pub origin_at : (es : List EntryValue) (m : MergedSegmentValue) (places : List (Option ℕ)) (i : ℕ) (o : Origin) (p : Option ℕ) → IsMergedSegment m →
    places ≡ map (place_in es) m.ids →
    i < length m.merged.origins → o ≡ get_or m.merged.origins i no_origin → p ≡ get_or places o.source None → IsOriginAt es m i o p
origin_at es m places i o p w are l h k =
    let is = slice_get-get_or m.merged.origins i no_origin l ∙ ap (λ q. Some q) (sym h) in
    let within = all_got (λ (q : Origin). q.source < length m.ids) m.merged.origins i o (sources_named m w) is in
    record { is = is; place = k ∙ ap (λ ps. get_or ps o.source None) are ∙ get_or-map (place_in es) m.ids o.source 0 None within }

pub bits_step : (es : List EntryValue) (m : MergedSegmentValue) (i : ℕ) (o : Origin) (p : Option ℕ) (live : List Bool) (b : Bool) → IsOriginAt es m i o p →
    b ≡ is_live_there es p o.document →
    live ≡ marked (bit_of es m.ids) m.merged.origins i → cond b (set live i true) live ≡ marked (bit_of es m.ids) m.merged.origins (i + 1)
bits_step es m i o p live b at h e =
    ap (λ bits. cond b (set bits i true) bits) e ∙ marked-more (bit_of es m.ids) m.merged.origins i o b at.is (h ∙ bit_by_place es m.ids o p at.place)

pub gone_step : (es : List EntryValue) (m : MergedSegmentValue) (i : ℕ) (o : Origin) (p : Option ℕ) (b : Bool) → IsOriginAt es m i o p → is_some p ≡ not b →
    slice_get (gone_bits es m) i ≡ Some b
gone_step es m i o p b at h =
    gone_bit es m i o b at.is (sym (not-not b) ∙ ap not (sym h ∙ ap is_some at.place ∙ there_by_place es (get_or m.ids o.source 0)))

-- the stamp that was read is that of the document at this index
pub stamp_at : (ds : List (Stamped DocumentValue)) (i stamp : ℕ) → option_map (λ d. d.stamp) (slice_get ds i) ≡ Some stamp →
    (d : Stamped DocumentValue) × (slice_get ds i ≡ Some d) × (stamp ≡ d.stamp)
stamp_at [] i stamp h = cc
stamp_at (d ∷ ds) zero stamp h = let same : d.stamp ≡ stamp = cc in (d, refl, sym same)
stamp_at (d ∷ ds) (suc i) stamp h = stamp_at ds i stamp h

pub document_at : (ds : List (Stamped DocumentValue)) (i : ℕ) → i < length ds → (d : Stamped DocumentValue) × (slice_get ds i ≡ Some d)
document_at [] i l = absurd (omega (arith, l))
document_at (d ∷ ds) zero l = (d, refl)
document_at (d ∷ ds) (suc i) l = document_at ds i (omega (arith, l))

-- two calls with the same fault are refused alike
pub unless_err : {X Y E : Type 0} (fault : Option E) (x : X) (y : Y) (e : E) → ok_unless fault x ≡ Err e → ok_unless fault y ≡ Err e
unless_err None x y e h = cc
unless_err (Some f) x y e h = let same : f ≡ e = cc in ap Err same

pub fault_of_err : {X E : Type 0} (fault : Option E) (x : X) (e : E) → ok_unless fault x ≡ Err e → fault ≡ Some e
fault_of_err None x e h = cc
fault_of_err (Some f) x e h = let same : f ≡ e = cc in ap (λ g. Some g) same
