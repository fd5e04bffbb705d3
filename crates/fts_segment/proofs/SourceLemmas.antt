-- The live documents of sources, source by source.
use Rattle.std.proofs.Common.{◌≡◌, ◌+◌, ◌<◌, ◌≤◌, ℕ, zero, suc, Bool, true, false, cond, List, [], ◌∷◌, ◌++◌, Option, Some, None, map, length, drop, get_or}
use Rattle.std.proofs.Common.{count_by, replicate, sum, refl, sym, ap, ap₂, subst, ◌∙◌, arith, All, append_assoc}
use Rattle.std.specs.Prelude.{slice_get}
use Rattle.std.specs.List.{AllByRecursion, list_any}
use Rattle.std.specs.List.Sorted.{IsStrictlyIncreasing}
use Rattle.std.proofs.lemmas.List.{append-nil, drop_all, drop_more, get_or-map, map-append, length-append, length-map, length-replicate}
use Rattle.std.proofs.lemmas.List.Elements.{All-head, All-tail, All-cons, All-nil, All-append}
use Rattle.std.proofs.lemmas.Grind.{flat_map-append}
use Rattle.std.proofs.lemmas.List.Sums.{sum_by-append, sum_by-cons}
use Rattle.fts_model.specs.declared.schema.Field.{Field}
use Rattle.fts_model.specs.declared.schema.Kind.{Kind}
use Rattle.fts_model.specs.declared.value.FieldValue.{FieldValue}
use Rattle.fts_model.specs.declared.operation.Stamped.{Stamped}
use Rattle.fts_model.specs.Documents.{DocumentValue, fits, value_in_field}
use Rattle.fts_model.specs.Schemas.{holds_numbers}
use Rattle.fts_segment.specs.declared.dictionary.Dictionary.{Dictionary}
use Rattle.fts_segment.specs.Contents.{where_set, content_of}
use Rattle.fts_segment.specs.FieldIndexes.{AreTerms, AreTermsOf}
use Rattle.fts_segment.specs.Occurrences.{occurrences, values_in, tokens_of, is_token, docs_with, HasFewTokens}
use Rattle.fts_segment.specs.Positions.{position_lists_with}
use Rattle.fts_segment.specs.Postings.{Posting, posting_at, documents}
use Rattle.fts_segment.specs.Segments.{AllFit, positions_among}
use Rattle.fts_segment.specs.Sources.{SourceValue, HasBits, live_count, contents}
use Rattle.fts_segment.specs.Parts.{TermStreamValue, renumbered, placed, moved, found, joined, part_from, postings_with, IsSound, IsWhole, IsPart, AreParts, IsJoined}
use Rattle.fts_segment.proofs.HoldingLemmas.{docs_with-rise}
use Rattle.fts_segment.proofs.MovingLemmas.{dropped_at, length-renumbered}
use Rattle.fts_segment.proofs.PostingsLemmas.{ArePaired, postings-cons, paired-occurrences, docs-within, documents-postings_of, found-dictionary, sound-dictionary}
use Rattle.fts_segment.proofs.PostingsLemmas.{dictionary-joined}
use Rattle.fts_segment.proofs.TermPositionsLemmas.{lengths-flat}

-- there are as many live members as bits are set
pub length-where_set : {X : Type 0} (xs : List X) (bits : List Bool) → length bits ≡ length xs → length (where_set xs bits) ≡ count_by (λ bit. bit) bits
length-where_set [] [] e = refl
length-where_set [] (b ∷ bits) e = absurd (omega (arith, e))
length-where_set (x ∷ xs) [] e = absurd (omega (arith, e))
length-where_set (x ∷ xs) (true ∷ bits) e = omega (arith, length-where_set xs bits (omega (arith, e)), sum_by-cons (λ (bit : Bool). cond bit 1 0) true bits)
length-where_set (x ∷ xs) (false ∷ bits) e = omega (arith, length-where_set xs bits (omega (arith, e)), sum_by-cons (λ (bit : Bool). cond bit 1 0) false bits)

-- the images of the live members
where_set-map : {X Y : Type 0} (f : X → Y) (xs : List X) (bits : List Bool) → map f (where_set xs bits) ≡ where_set (map f xs) bits
where_set-map f [] bits = refl
where_set-map f (x ∷ xs) [] = refl
where_set-map f (x ∷ xs) (true ∷ bits) = ap (λ ys. f x ∷ ys) (where_set-map f xs bits)
where_set-map f (x ∷ xs) (false ∷ bits) = where_set-map f xs bits

-- a property of all members holds of the live ones
pub All-where_set : {X : Type 0} (P : X → Type 0) (xs : List X) (bits : List Bool) → All P xs → All P (where_set xs bits)
All-where_set P [] bits h = h
All-where_set P (x ∷ xs) [] h = All-nil P
All-where_set P (x ∷ xs) (true ∷ bits) h = All-cons P x (where_set xs bits) (All-head P x xs h) (All-where_set P xs bits (All-tail P x xs h))
All-where_set P (x ∷ xs) (false ∷ bits) h = All-where_set P xs bits (All-tail P x xs h)

-- a property of the documents of all sources holds of the live ones
pub All-contents : (P : Stamped DocumentValue → Type 0) (ss : List SourceValue) → All (λ s. All P s.segment.documents) ss → All P (contents ss)
All-contents P [] h = All-nil P
All-contents P (s ∷ ss) h =
    let Q : SourceValue → Type 0 = λ s. All P s.segment.documents in
    All-append P (content_of s.segment s.live) (contents ss) (All-where_set P s.segment.documents s.live (All-head Q s ss h))
    (All-contents P ss (All-tail Q s ss h))

-- the values of a field in concatenated lists of documents
values_in-append : (field : ℕ) (xs ys : List (Stamped DocumentValue)) → values_in field (xs ++ ys) ≡ values_in field xs ++ values_in field ys
values_in-append field xs ys = map-append (λ (d : Stamped DocumentValue). value_in_field d.value field) xs ys

pub few-contents : (kind : Kind) (field : ℕ) (ss : List SourceValue) → All (λ s. All (HasFewTokens kind) (values_in field s.segment.documents)) ss →
    All (HasFewTokens kind) (values_in field (contents ss))
few-contents kind field [] h = All-nil (HasFewTokens kind)
few-contents kind field (s ∷ ss) h =
    let Q : SourceValue → Type 0 = λ s. All (HasFewTokens kind) (values_in field s.segment.documents) in
    let P : List (Option FieldValue) → Type 0 = All (HasFewTokens kind) in
    let value : Stamped DocumentValue → Option FieldValue = λ d. value_in_field d.value field in
    let here : P (values_in field (content_of s.segment s.live)) =
    subst P (sym (where_set-map value s.segment.documents s.live)) (All-where_set (HasFewTokens kind) (values_in field s.segment.documents) s.live
    (All-head Q s ss h)) in
    subst P (sym (values_in-append field (content_of s.segment s.live) (contents ss)))
    (All-append (HasFewTokens kind) (values_in field (content_of s.segment s.live)) (values_in field (contents ss)) here
    (few-contents kind field ss (All-tail Q s ss h)))

pub get_behind : {X : Type 0} (xs : List X) (y : X) (ys : List X) → slice_get (xs ++ y ∷ ys) (length xs) ≡ Some y
get_behind [] y ys = refl
get_behind (x ∷ xs) y ys = get_behind xs y ys

-- postings whose first is optional
moved-cond : (numbers : List (Option ℕ)) (b : Bool) (p : Posting) (ps : List Posting) →
    moved numbers (cond b (p ∷ ps) ps) ≡ cond b (placed (slice_get numbers p.doc) p ++ moved numbers ps) (moved numbers ps)
moved-cond numbers true p ps = refl
moved-cond numbers false p ps = refl

-- one more value
moved-step : (q : List ℕ) (kind : Kind) (ns : List (Option ℕ)) (m : Option ℕ) (ms : List (Option ℕ)) (v : Option FieldValue) (vs : List (Option FieldValue))
    (rest : List Posting) →
    moved ((ns ++ m ∷ []) ++ ms) (postings_with q (occurrences kind (length (ns ++ m ∷ [])) vs)) ≡ rest →
    moved (ns ++ m ∷ ms) (postings_with q (occurrences kind (length ns) (v ∷ vs)))
    ≡ cond (list_any (is_token q) (tokens_of kind v)) (placed (Some m) (posting_at (length ns) (positions_among q (tokens_of kind v))) ++ rest) rest
moved-step q kind ns m ms v vs rest h =
    let all = ns ++ m ∷ ms in
    let b = list_any (is_token q) (tokens_of kind v) in
    let here = posting_at (length ns) (positions_among q (tokens_of kind v)) in
    let others = postings_with q (occurrences kind (length ns + 1) vs) in
    let count : length (ns ++ m ∷ []) ≡ length ns + 1 = omega (arith, length-append ns (m ∷ [])) in
    let same : moved all others ≡ rest = ap₂ (λ a n. moved a (postings_with q (occurrences kind n vs))) (sym (append_assoc ns (m ∷ []) ms)) (sym count) ∙ h in
    ap (moved all) (postings-cons q kind (length ns) v vs) ∙ moved-cond all b here others
    ∙ ap₂ (λ o r. cond b (placed o here ++ r) r) (get_behind ns m ms) same

-- the postings in live documents are those in all of them, by the new numbers
postings-live : (q : List ℕ) (kind : Kind) (ns : List (Option ℕ)) (next : ℕ) (vs : List (Option FieldValue)) (bits : List Bool) → length bits ≡ length vs →
    moved (ns ++ renumbered next bits) (postings_with q (occurrences kind (length ns) vs)) ≡ postings_with q (occurrences kind next (where_set vs bits))
postings-live q kind ns next [] [] e = refl
postings-live q kind ns next [] (b ∷ bits) e = absurd (omega (arith, e))
postings-live q kind ns next (v ∷ vs) [] e = absurd (omega (arith, e))
postings-live q kind ns next (v ∷ vs) (true ∷ bits) e =
    moved-step q kind ns (Some next) (renumbered (next + 1) bits) v vs (postings_with q (occurrences kind (next + 1) (where_set vs bits)))
    (postings-live q kind (ns ++ Some next ∷ []) (next + 1) vs bits (omega (arith, e)))
    ∙ sym (postings-cons q kind next v (where_set vs bits))
postings-live q kind ns next (v ∷ vs) (false ∷ bits) e =
    let rest = postings_with q (occurrences kind next (where_set vs bits)) in
    moved-step q kind ns None (renumbered next bits) v vs rest (postings-live q kind (ns ++ None ∷ []) next vs bits (omega (arith, e)))
    ∙ elim (list_any (is_token q) (tokens_of kind v)) as (λ b. cond b rest rest ≡ rest) [ true ↦ refl | false ↦ refl ]

-- the postings in concatenated lists of values
postings-append : (q : List ℕ) (kind : Kind) (doc : ℕ) (xs ys : List (Option FieldValue)) →
    postings_with q (occurrences kind doc (xs ++ ys)) ≡ postings_with q (occurrences kind doc xs) ++ postings_with q (occurrences kind (doc + length xs) ys)
postings-append q kind doc [] ys = ap (λ n. postings_with q (occurrences kind n ys)) (let same : doc ≡ doc + 0 = omega arith in same)
postings-append q kind doc (x ∷ xs) ys =
    let b = list_any (is_token q) (tokens_of kind x) in
    let here = posting_at doc (positions_among q (tokens_of kind x)) in
    let some = postings_with q (occurrences kind (doc + 1) xs) in
    let others = postings_with q (occurrences kind (doc + suc (length xs)) ys) in
    let after : doc + 1 + length xs ≡ doc + suc (length xs) = omega arith in
    postings-cons q kind doc x (xs ++ ys)
    ∙ ap (λ ps. cond b (here ∷ ps) ps) (postings-append q kind (doc + 1) xs ys ∙ ap (λ n. some ++ postings_with q (occurrences kind n ys)) after)
    ∙ elim b as (λ b. cond b (here ∷ (some ++ others)) (some ++ others) ≡ cond b (here ∷ some) some ++ others) [ true ↦ refl | false ↦ refl ]
    ∙ ap (λ ps. ps ++ others) (sym (postings-cons q kind doc x xs))

-- the term stream of a source
pub part-is : (kind : Kind) (field next : ℕ) (source : SourceValue) (dictionary : Dictionary) (numbers : List (Option ℕ)) →
    AreTerms kind (values_in field source.segment.documents) dictionary →
    numbers ≡ renumbered next source.live → IsPart kind field next source (part_from 0 dictionary numbers)
part-is kind field next source dictionary numbers terms are =
    let vs = values_in field source.segment.documents in
    let os = occurrences kind 0 vs in
    let paired : ArePaired os = λ q. paired-occurrences q kind 0 vs in record {
      sound = sound-dictionary os dictionary.names dictionary.lists dictionary.positions numbers paired terms.dictionary_is;
      postings_are = found-dictionary os dictionary.names dictionary.lists dictionary.positions paired terms.dictionary_is;
      numbers_are = are;
    }

-- each term of a dictionary has its lists
pub terms-whole : (kind : Kind) (vs : List (Option FieldValue)) (dictionary : Dictionary) (numbers : List (Option ℕ)) → AreTerms kind vs dictionary →
    length numbers ≡ length vs → IsWhole dictionary numbers
terms-whole kind vs dictionary numbers terms count =
    let os = occurrences kind 0 vs in
    let names = dictionary.names in
    let d = terms.dictionary_is in
    let list : (i : ℕ) → i < length names → get_or dictionary.lists i [] ≡ docs_with (get_or names i []) os =
    λ i within. ap (λ ls. get_or ls i []) d.listed ∙ get_or-map (λ q. docs_with q os) names i [] [] within in
    record {
      listed = sym (ap length d.listed ∙ length-map names (λ q. docs_with q os));
      paired = ap (λ ls. sum (map length ls)) d.listed
          ∙ lengths-flat (λ q. position_lists_with q os) (λ q. docs_with q os) (λ q. paired-occurrences q kind 0 vs) names ∙ sym (ap length d.positioned);
      numbered = λ i within. let P : List ℕ → Type 0 = All (λ doc. doc < length numbers) in
          subst P (sym (list i within)) (docs-within (get_or names i []) kind 0 (length numbers) vs (omega (arith, count)));
    }

-- the number of live documents of a source
abbrev pub live_in : SourceValue → ℕ
live_in source = count_by (λ bit. bit) source.live

pub live_count-cons : (s : SourceValue) (ss : List SourceValue) → live_count (s ∷ ss) ≡ live_in s + live_count ss
live_count-cons s ss = sum_by-cons live_in s ss

pub live_count-push : (ss : List SourceValue) (s : SourceValue) → live_count (ss ++ s ∷ []) ≡ live_count ss + live_in s
live_count-push [] s = omega (arith, live_count-cons s [])
live_count-push (t ∷ ss) s = omega (arith, live_count-cons t (ss ++ s ∷ []), live_count-push ss s, live_count-cons t ss)

-- one more stream
pub AreParts-push : (kind : Kind) (field next : ℕ) (ss : List SourceValue) (ps : List TermStreamValue) (s : SourceValue) (p : TermStreamValue) →
    AreParts kind field next ss ps → IsPart kind field (next + live_count ss) s p →
    AreParts kind field next (ss ++ s ∷ []) (ps ++ p ∷ [])
AreParts-push kind field next [] [] s p are is =
    let P : ℕ → Type 0 = λ n. IsPart kind field n s p in
    (subst P (let same : next + 0 ≡ next = omega arith in same) is, tt)
AreParts-push kind field next [] (q ∷ ps) s p are is = absurd are
AreParts-push kind field next (t ∷ ss) [] s p are is = absurd are
AreParts-push kind field next (t ∷ ss) (q ∷ ps) s p are is =
    let P : ℕ → Type 0 = λ n. IsPart kind field n s p in (
      are.0,
      AreParts-push kind field (next + live_in t) ss ps s p are.1
          (subst P (let same : next + live_count (t ∷ ss) ≡ next + live_in t + live_count ss = omega (arith, live_count-cons t ss) in same) is),
    )

-- the postings of streams are those in the live documents of the sources
parts-joined : (q : List ℕ) (kind : Kind) (field next : ℕ) (ss : List SourceValue) (ps : List TermStreamValue) → All HasBits ss → AreParts kind field next ss ps →
    joined ps q ≡ postings_with q (occurrences kind next (values_in field (contents ss)))
parts-joined q kind field next [] [] bits are = refl
parts-joined q kind field next [] (p ∷ ps) bits are = absurd are
parts-joined q kind field next (s ∷ ss) [] bits are = absurd are
parts-joined q kind field next (s ∷ ss) (p ∷ ps) bits are =
    let here : HasBits s = All-head HasBits s ss bits in
    let value : Stamped DocumentValue → Option FieldValue = λ d. value_in_field d.value field in
    let vs = values_in field s.segment.documents in
    let live = where_set vs s.live in
    let others = values_in field (contents ss) in
    let long : length s.live ≡ length vs = here ∙ sym (length-map s.segment.documents value) in
    let first : moved p.numbers (found p.names p.postings q) ≡ postings_with q (occurrences kind next live) =
    ap₂ moved are.0.numbers_are (are.0.postings_are q) ∙ postings-live q kind [] next vs s.live long in
    let all : values_in field (contents (s ∷ ss)) ≡ live ++ others = values_in-append field (content_of s.segment s.live) (contents ss)
    ∙ ap (λ ws. ws ++ others) (where_set-map value s.segment.documents s.live) in
    ap₂ (λ a b. a ++ b) first (parts-joined q kind field (next + live_in s) ss ps (All-tail HasBits s ss bits) are.1)
    ∙ ap (λ n. postings_with q (occurrences kind next live) ++ postings_with q (occurrences kind (next + n) others)) (sym (length-where_set vs s.live long))
    ∙ sym (postings-append q kind next live others)
    ∙ ap (λ ws. postings_with q (occurrences kind next ws)) (sym all)

pub sound-parts : (kind : Kind) (field next : ℕ) (ss : List SourceValue) (ps : List TermStreamValue) → AreParts kind field next ss ps → AllByRecursion IsSound ps
sound-parts kind field next [] [] are = tt
sound-parts kind field next [] (p ∷ ps) are = absurd are
sound-parts kind field next (s ∷ ss) [] are = absurd are
sound-parts kind field next (s ∷ ss) (p ∷ ps) are = (are.0.sound, sound-parts kind field (next + live_in s) ss ps are.1)

pub parts-rise : (kind : Kind) (field : ℕ) (ss : List SourceValue) (ps : List TermStreamValue) → All HasBits ss → AreParts kind field 0 ss ps → (q : List ℕ) →
    IsStrictlyIncreasing (documents (joined ps q))
parts-rise kind field ss ps bits are q =
    let vs = values_in field (contents ss) in
    let os = occurrences kind 0 vs in
    let P : List ℕ → Type 0 = λ ds. IsStrictlyIncreasing ds in
    subst P (sym (ap documents (parts-joined q kind field 0 ss ps bits are) ∙ documents-postings_of (docs_with q os) (position_lists_with q os)
    (paired-occurrences q kind 0 vs))) (docs_with-rise q kind 0 vs)

-- the merged dictionary of streams is that of the live documents
pub terms-joined : (kind : Kind) (field : ℕ) (ss : List SourceValue) (ps : List TermStreamValue) (dictionary : Dictionary) → holds_numbers kind ≡ false →
    All HasBits ss → AreParts kind field 0 ss ps →
    All (λ s. All (HasFewTokens kind) (values_in field s.segment.documents)) ss →
    IsJoined ps dictionary.names dictionary.lists dictionary.positions →
    AreTerms kind (values_in field (contents ss)) dictionary
terms-joined kind field ss ps dictionary kind_is bits are few j = record {
  kind_is = kind_is;
  few = few-contents kind field ss few;
  dictionary_is = dictionary-joined kind (values_in field (contents ss)) ps dictionary.names dictionary.lists dictionary.positions
      (λ q. parts-joined q kind field 0 ss ps bits are) j;
}

-- one more document is taken, if it is live
pub taken-step : {X : Type 0} (xs : List X) (live : List Bool) (n : ℕ) (x : X) (bit : Bool) (taken new all : List X) → slice_get xs n ≡ Some x →
    slice_get live n ≡ Some bit →
    new ≡ taken ++ cond bit (x ∷ []) [] → taken ++ where_set (drop n xs) (drop n live) ≡ all → new ++ where_set (drop (n + 1) xs) (drop (n + 1) live) ≡ all
taken-step xs live n x bit taken new all at is put h =
    let rest = where_set (drop (n + 1) xs) (drop (n + 1) live) in
    ap (λ ys. ys ++ rest) put ∙ append_assoc taken (cond bit (x ∷ []) []) rest
    ∙ ap (λ ys. taken ++ ys) (elim bit as (λ b. cond b (x ∷ []) [] ++ rest ≡ where_set (x ∷ drop (n + 1) xs) (b ∷ drop (n + 1) live))
    [ true ↦ refl | false ↦ refl ])
    ∙ ap (λ ys. taken ++ ys) (sym (ap₂ where_set (dropped_at xs n x at) (dropped_at live n bit is))) ∙ h

-- all live documents are taken at the end
pub taken-end : {X : Type 0} (xs : List X) (live : List Bool) (n : ℕ) (taken all : List X) → length xs ≤ n →
    taken ++ where_set (drop n xs) (drop n live) ≡ all → taken ≡ all
taken-end xs live n taken all past h = sym (append-nil taken) ∙ ap (λ ys. taken ++ where_set ys (drop n live)) (sym (drop_all n xs past)) ∙ h

-- there is a member at each index
pub member_at : {X : Type 0} (xs : List X) (i : ℕ) → i < length xs → (x : X) × (slice_get xs i ≡ Some x)
member_at [] i h = absurd (omega (arith, h))
member_at (x ∷ xs) zero h = (x, refl)
member_at (x ∷ xs) (suc i) h = member_at xs i (omega (arith, h))

-- the rest of a list, with the first split off
pub dropped : {X : Type 0} (xs : List X) (i : ℕ) (x : X) → i < length xs → x ≡ get_or xs i x → drop i xs ≡ x ∷ drop (i + 1) xs
dropped xs i x h e = drop_more xs i x h ∙ ap (λ y. y ∷ drop (i + 1) xs) (sym e)

-- the documents of one more source are taken
pub contents-taken : (documents before : List (Stamped DocumentValue)) (ss : List SourceValue) (i : ℕ) (s : SourceValue) (all : List (Stamped DocumentValue)) →
    i < length ss → s ≡ get_or ss i s →
    documents ≡ before ++ content_of s.segment s.live → before ++ contents (drop i ss) ≡ all → documents ++ contents (drop (i + 1) ss) ≡ all
contents-taken documents before ss i s all h e new old =
    ap (λ ds. ds ++ contents (drop (i + 1) ss)) new ∙ append_assoc before (content_of s.segment s.live) (contents (drop (i + 1) ss))
    ∙ ap (λ xs. before ++ contents xs) (sym (dropped ss i s h e)) ∙ old

-- there are no more live documents than bits that are set
length-content : {X : Type 0} (xs : List X) (bits : List Bool) → length (where_set xs bits) ≤ count_by (λ bit. bit) bits
length-content [] bits = omega arith
length-content (x ∷ xs) [] = omega arith
length-content (x ∷ xs) (true ∷ bits) = omega (arith, length-content xs bits, sum_by-cons (λ (bit : Bool). cond bit 1 0) true bits)
length-content (x ∷ xs) (false ∷ bits) = omega (arith, length-content xs bits, sum_by-cons (λ (bit : Bool). cond bit 1 0) false bits)

pub length-contents : (ss : List SourceValue) → length (contents ss) ≤ live_count ss
length-contents [] = omega arith
length-contents (s ∷ ss) =
    omega (
      arith,
      length-contents ss,
      length-content s.segment.documents s.live,
      length-append (content_of s.segment s.live) (contents ss),
      live_count-cons s
          ss,
    )

-- the live documents of sources of one schema fit it
pub fit-contents : (schema : List Field) (ss : List SourceValue) → All (λ s. s.segment.schema ≡ schema) ss →
    All (λ s. AllFit s.segment.schema s.segment.documents) ss → AllFit schema (contents ss)
fit-contents schema [] same h = All-nil (λ d. fits schema d.value ≡ true)
fit-contents schema (s ∷ ss) same h =
    let Q : SourceValue → Type 0 = λ s. AllFit s.segment.schema s.segment.documents in
    let R : SourceValue → Type 0 = λ s. s.segment.schema ≡ schema in
    let P : Stamped DocumentValue → Type 0 = λ d. fits schema d.value ≡ true in
    let here : All P s.segment.documents = subst (λ fields. AllFit fields s.segment.documents) (All-head R s ss same) (All-head Q s ss h) in
    All-append P (content_of s.segment s.live) (contents ss) (All-where_set P s.segment.documents s.live here)
    (fit-contents schema ss (All-tail R s ss same) (All-tail Q s ss h))

-- all members are live if all bits are set
where_set-all : {X : Type 0} (xs : List X) → where_set xs (replicate (length xs) true) ≡ xs
where_set-all [] = refl
where_set-all (x ∷ xs) = ap (λ ys. x ∷ ys) (where_set-all xs)

pub all_set : (n : ℕ) → count_by (λ bit. bit) (replicate n true) ≡ n
all_set zero = refl
all_set (suc n) = omega (arith, all_set n, sum_by-cons (λ (bit : Bool). cond bit 1 0) true (replicate n true))

-- documents as a source, all of them live
abbrev pub whole_source : List (Stamped DocumentValue) → SourceValue
whole_source xs = record { segment = record { schema = []; documents = xs }; live = replicate (length xs) true }

-- the streams of two dictionaries, one after the other
abbrev pub halves : Dictionary → ℕ → Dictionary → ℕ → List TermStreamValue
halves front n back m = part_from 0 front (renumbered 0 (replicate n true)) ∷ part_from 0 back (renumbered n (replicate m true)) ∷ []

whole-part : (kind : Kind) (field next : ℕ) (xs : List (Stamped DocumentValue)) (docs : ℕ) (dictionary : Dictionary) →
    AreTermsOf kind field xs docs dictionary → IsPart kind field next (whole_source xs) (part_from 0 dictionary (renumbered next (replicate docs true)))
whole-part kind field next xs docs dictionary a =
    part-is kind field next (whole_source xs) dictionary (renumbered next (replicate docs true)) a.terms
    (ap (λ n. renumbered next (replicate n true)) (sym a.count))

-- each document of such a dictionary has a new number
pub whole-terms : (kind : Kind) (field next : ℕ) (xs : List (Stamped DocumentValue)) (docs : ℕ) (dictionary : Dictionary) →
    AreTermsOf kind field xs docs dictionary → IsWhole dictionary (renumbered next (replicate docs true))
whole-terms kind field next xs docs dictionary a =
    terms-whole kind (values_in field xs) dictionary (renumbered next (replicate docs true)) a.terms
    (length-renumbered next (replicate docs true) ∙ length-replicate docs true ∙ sym a.count
    ∙ sym (length-map xs (λ (d : Stamped DocumentValue). value_in_field d.value field)))

pub parts-halves : (kind : Kind) (field : ℕ) (xs ys : List (Stamped DocumentValue)) (front : Dictionary) (n : ℕ) (back : Dictionary) (m : ℕ) →
    AreTermsOf kind field xs n front → AreTermsOf kind field ys m back →
    AreParts kind field 0 (whole_source xs ∷ whole_source ys ∷ []) (halves front n back m)
parts-halves kind field xs ys front n back m a b =
    let P : ℕ → Type 0 = λ next. IsPart kind field next (whole_source ys) (part_from 0 back (renumbered n (replicate m true))) in
    let next : n ≡ 0 + live_in (whole_source xs) = omega (arith, a.count, all_set (length xs)) in
    (whole-part kind field 0 xs n front a, (subst P next (whole-part kind field n ys m back b), tt))

pub bits-halves : (xs ys : List (Stamped DocumentValue)) → All HasBits (whole_source xs ∷ whole_source ys ∷ [])
bits-halves xs ys =
    All-cons HasBits (whole_source xs) (whole_source ys ∷ []) (length-replicate (length xs) true)
    (All-cons HasBits (whole_source ys) [] (length-replicate (length ys) true) (All-nil HasBits))

-- the merged dictionary of two is that of the documents of both
pub terms-halves : (kind : Kind) (field : ℕ) (xs ys : List (Stamped DocumentValue)) (front : Dictionary) (n : ℕ) (back : Dictionary) (m : ℕ) (dictionary : Dictionary) →
    AreTermsOf kind field xs n front → AreTermsOf kind field ys m back →
    IsJoined (halves front n back m) dictionary.names dictionary.lists dictionary.positions → AreTerms kind (values_in field (xs ++ ys)) dictionary
terms-halves kind field xs ys front n back m dictionary a b joined =
    let ss = whole_source xs ∷ whole_source ys ∷ [] in
    let Few : SourceValue → Type 0 = λ s. All (HasFewTokens kind) (values_in field s.segment.documents) in
    let all : contents ss ≡ xs ++ ys = ap₂ (λ ds es. ds ++ es) (where_set-all xs)
    (append-nil (where_set ys (replicate (length ys) true)) ∙ where_set-all ys) in
    subst (λ ds. AreTerms kind (values_in field ds) dictionary) all
    (terms-joined kind field ss (halves front n back m) dictionary a.terms.kind_is (bits-halves xs ys) (parts-halves kind field xs ys front n back m a b)
    (All-cons Few (whole_source xs) (whole_source ys ∷ []) a.terms.few (All-cons Few (whole_source ys) [] b.terms.few (All-nil Few))) joined)

pub live_count-append : (front back : List SourceValue) → live_count (front ++ back) ≡ live_count front + live_count back
live_count-append front back = sum_by-append (λ (s : SourceValue). count_by (λ bit. bit) s.live) front back

pub contents-append : (front back : List SourceValue) → contents (front ++ back) ≡ contents front ++ contents back
contents-append front back = flat_map-append (λ (s : SourceValue). content_of s.segment s.live) front back

-- there are as many live documents as bits are set
pub length-live : (ss : List SourceValue) → All HasBits ss → length (contents ss) ≡ live_count ss
length-live [] h = omega arith
length-live (s ∷ ss) h =
    omega (
      arith,
      length-live ss (All-tail HasBits s ss h),
      length-where_set s.segment.documents s.live (All-head HasBits s ss h),
      length-append (content_of s.segment s.live) (contents ss),
      live_count-cons s
          ss,
    )
