-- New document numbers, and postings under them, one at a time.
use Rattle.std.proofs.Common.{◌≡◌, ◌+◌, ◌-◌, ◌*◌, ◌^◌, ◌<◌, ◌≤◌, ℕ, Bool, true, false, cond, List, [], ◌∷◌, ◌++◌, Option, Some, None, All, length, take, drop}
use Rattle.std.proofs.Common.{map, zero, suc, flat_map, count_by, get_or, refl, sym, ap, ◌∙◌, arith}
use Rattle.std.specs.Prelude.{slice_get, slice_set}
use Rattle.std.proofs.lemmas.List.{append_assoc, append-nil, drop-drop, drop_more, map-append, take_more, length-take-le}
use Rattle.std.proofs.lemmas.List.Elements.{All-head, All-tail}
use Rattle.std.proofs.lemmas.List.Sums.{sum_by-cons}
use Rattle.std.proofs.lemmas.Bool.{eqb-true}
use Rattle.std.specs.List.{list_all}
use Rattle.fts_pack.proofs.BitsLemmas.{all_counted}
use Rattle.std.proofs.lemmas.Option.{slice_get_within, get_or_from_slice_get}
use Rattle.fts_pack.specs.Documents.{block_at}
use Rattle.fts_pack.proofs.DocumentsLemmas.{take_block}
use Rattle.fts_segment.specs.Parts.{AreInARow, TermStreamValue, number_in, renumbered, placed, moved}
use Rattle.fts_segment.specs.Postings.{Posting, posting_at, postings_of, documents, position_lists}

-- the rest of a list from an index, with the first split off
pub dropped_at : {X : Type 0} (xs : List X) (i : ℕ) (x : X) → slice_get xs i ≡ Some x → drop i xs ≡ x ∷ drop (i + 1) xs
dropped_at xs i x h = drop_more xs i x (slice_get_within xs i x h) ∙ ap (λ y. y ∷ drop (i + 1) xs) (get_or_from_slice_get xs i x x h)

pub numbered-step : (ns : List (Option ℕ)) (next : ℕ) (live : List Bool) (i : ℕ) (bit : Bool) (all : List (Option ℕ)) → slice_get live i ≡ Some bit →
    ns ++ renumbered next (drop i live) ≡ all →
    (ns ++ cond bit (Some next) None ∷ []) ++ renumbered (cond bit (next + 1) next) (drop (i + 1) live) ≡ all
numbered-step ns next live i bit all is h =
    append_assoc ns (cond bit (Some next) None ∷ []) (renumbered (cond bit (next + 1) next) (drop (i + 1) live))
    ∙ ap (λ zs. ns ++ zs) (elim bit as (λ b. cond b (Some next) None ∷ renumbered (cond b (next + 1) next) (drop (i + 1) live) ≡ renumbered next
    (b ∷ drop (i + 1) live)) [ true ↦ refl | false ↦ refl ])
    ∙ ap (λ bits. ns ++ renumbered next bits) (sym (dropped_at live i bit is)) ∙ h

-- the number of bits set from a document
pub counted-step : (live : List Bool) (i : ℕ) (bit : Bool) → slice_get live i ≡ Some bit →
    count_by (λ bit. bit) (drop i live) ≡ cond bit 1 0 + count_by (λ bit. bit) (drop (i + 1) live)
counted-step live i bit is = ap (count_by (λ (bit : Bool). bit)) (dropped_at live i bit is) ∙ sum_by-cons (λ (bit : Bool). cond bit 1 0) bit (drop (i + 1) live)

-- the next number plus the bits that are set after it
pub counted-next : (next first i : ℕ) (live : List Bool) (bit : Bool) → slice_get live i ≡ Some bit →
    next + count_by (λ bit. bit) (drop i live) ≡ first + count_by (λ bit. bit) live →
    cond bit (next + 1) next + count_by (λ bit. bit) (drop (i + 1) live) ≡ first + count_by (λ bit. bit) live
counted-next next first i live true is h = omega (arith, counted-step live i true is, h)
counted-next next first i live false is h = omega (arith, counted-step live i false is, h)

-- a live document's number is below the end
pub counted-room : (next first i : ℕ) (live : List Bool) (bit : Bool) → slice_get live i ≡ Some bit → bit ≡ true →
    next + count_by (λ bit. bit) (drop i live) ≡ first + count_by (λ bit. bit) live →
    first + count_by (λ bit. bit) live < 2 ^ 32 → next + 1 < 2 ^ 32
counted-room next first i live true is set h room = omega (arith, counted-step live i true is, h, room)
counted-room next first i live false is set h room = absurd (let no : false ≡ true = set in cc)

-- there is a number for each document
pub length-renumbered : (next : ℕ) (live : List Bool) → length (renumbered next live) ≡ length live
length-renumbered next [] = refl
length-renumbered next (true ∷ live) = ap suc (length-renumbered (next + 1) live)
length-renumbered next (false ∷ live) = ap suc (length-renumbered next live)

-- if all documents are live, their numbers are consecutive
numbered_at : (next : ℕ) (live : List Bool) (doc : ℕ) → list_all (λ bit. bit) live ≡ true → doc < length live →
    slice_get (renumbered next live) doc ≡ Some (Some (next + doc))
numbered_at next [] doc all within = absurd (omega (arith, within))
numbered_at next (true ∷ live) zero all within = ap (λ n. Some (Some n)) (let same : next ≡ next + 0 = omega arith in same)
numbered_at next (true ∷ live) (suc doc) all within =
    numbered_at (next + 1) live doc all (omega (arith, within))
    ∙ ap (λ n. Some (Some n)) (let same : next + 1 + doc ≡ next + suc doc = omega arith in same)
numbered_at next (false ∷ live) doc all within = absurd (let no : false ≡ true = all in cc)

pub AreInARow-renumbered : (first : ℕ) (live : List Bool) → list_all (λ bit. bit) live ≡ true → first + count_by (λ bit. bit) live < 2 ^ 32 →
    AreInARow (renumbered first live) first
AreInARow-renumbered first live all fit = record {
  are = λ doc within. numbered_at first live doc all (omega (arith, within, length-renumbered first live));
  fit = omega (arith, eqb-true _ _ (all_counted live ∙ all), fit, length-renumbered first live);
}

-- a posting whose document has a new number is copied under it
pub placed-some : (o : Option (Option ℕ)) (number : ℕ) (posting : Posting) → Some number ≡ number_in o →
    placed o posting ≡ posting_at number posting.positions ∷ []
placed-some None number posting h = absurd (let no : Some number ≡ None = h in cc)
placed-some (Some None) number posting h = absurd (let no : Some number ≡ None = h in cc)
placed-some (Some (Some n)) number posting h = let same : n ≡ number = let e : Some number ≡ Some n = h in cc in
    ap (λ n. posting_at n posting.positions ∷ []) same

-- a posting whose document has no new number is not copied
pub placed-none : (o : Option (Option ℕ)) (posting : Posting) → None ≡ number_in o → placed o posting ≡ []
placed-none None posting h = refl
placed-none (Some None) posting h = refl
placed-none (Some (Some n)) posting h = absurd (let no : None ≡ Some n = h in cc)

moved-append : (numbers : List (Option ℕ)) (xs ys : List Posting) → moved numbers (xs ++ ys) ≡ moved numbers xs ++ moved numbers ys
moved-append numbers [] ys = refl
moved-append numbers (x ∷ xs) ys =
    ap (λ zs. placed (slice_get numbers x.doc) x ++ zs) (moved-append numbers xs ys)
    ∙ sym (append_assoc (placed (slice_get numbers x.doc) x) (moved numbers xs) (moved numbers ys))

postings_none : (docs : List ℕ) → postings_of docs [] ≡ []
postings_none [] = refl
postings_none (doc ∷ docs) = refl

pub postings_of-append : (docs others : List ℕ) (lists : List (List ℕ)) → postings_of (docs ++ others) lists ≡ postings_of docs lists
    ++ postings_of others (drop (length docs) lists)
postings_of-append [] others lists = refl
postings_of-append (doc ∷ docs) others [] = sym (postings_none others)
postings_of-append (doc ∷ docs) others (list ∷ lists) = ap (λ ps. posting_at doc list ∷ ps) (postings_of-append docs others lists)

-- position lists past the documents have no effect
pub postings_of-take : (docs : List ℕ) (n : ℕ) (lists : List (List ℕ)) → length docs ≤ n → postings_of docs (take n lists) ≡ postings_of docs lists
postings_of-take [] n lists h = refl
postings_of-take (doc ∷ docs) zero lists h = absurd (omega (arith, h))
postings_of-take (doc ∷ docs) (suc n) [] h = refl
postings_of-take (doc ∷ docs) (suc n) (list ∷ lists) h = ap (λ ps. posting_at doc list ∷ ps) (postings_of-take docs n lists (omega (arith, h)))

-- consecutive numbers leave out no posting
pub documents-shifted : (numbers : List (Option ℕ)) (first : ℕ) (docs : List ℕ) (lists : List (List ℕ)) → AreInARow numbers first → length docs ≤ length lists →
    All (λ doc. doc < length numbers) docs →
    documents (moved numbers (postings_of docs lists)) ≡ map (λ doc. first + doc) docs
documents-shifted numbers first [] lists row paired within = refl
documents-shifted numbers first (doc ∷ docs) [] row paired within = absurd (omega (arith, paired))
documents-shifted numbers first (doc ∷ docs) (list ∷ lists) row paired within =
    let Within : ℕ → Type 0 = λ doc. doc < length numbers in
    ap (λ o. documents (placed o (posting_at doc list) ++ moved numbers (postings_of docs lists))) (row.are doc (All-head Within doc docs within))
    ∙ ap (λ ds. (first + doc) ∷ ds) (documents-shifted numbers first docs lists row (omega (arith, paired)) (All-tail Within doc docs within))

pub lists-shifted : (numbers : List (Option ℕ)) (first : ℕ) (docs : List ℕ) (lists : List (List ℕ)) → AreInARow numbers first → length docs ≤ length lists →
    All (λ doc. doc < length numbers) docs →
    position_lists (moved numbers (postings_of docs lists)) ≡ take (length docs) lists
lists-shifted numbers first [] lists row paired within = refl
lists-shifted numbers first (doc ∷ docs) [] row paired within = absurd (omega (arith, paired))
lists-shifted numbers first (doc ∷ docs) (list ∷ lists) row paired within =
    let Within : ℕ → Type 0 = λ doc. doc < length numbers in
    ap (λ o. position_lists (placed o (posting_at doc list) ++ moved numbers (postings_of docs lists))) (row.are doc (All-head Within doc docs within))
    ∙ ap (λ ls. list ∷ ls) (lists-shifted numbers first docs lists row (omega (arith, paired)) (All-tail Within doc docs within))

-- the copied postings of more documents
moved-more : (numbers : List (Option ℕ)) (some more all : List ℕ) (lists : List (List ℕ)) → all ≡ some ++ more →
    moved numbers (postings_of all lists) ≡ moved numbers (postings_of some lists) ++ moved numbers (postings_of more (drop (length some) lists))
moved-more numbers some more all lists is =
    ap (λ ds. moved numbers (postings_of ds lists)) is ∙ ap (moved numbers) (postings_of-append some more lists)
    ∙ moved-append numbers (postings_of some lists) (postings_of more (drop (length some) lists))

-- the copied postings with one more
pub moved-one : (numbers : List (Option ℕ)) (lists : List (List ℕ)) (docs : List ℕ) (start i d e : ℕ) → i < length docs → d ≡ get_or docs i e →
    length docs ≤ length lists - start →
    moved numbers (postings_of (take (i + 1) docs) (drop start lists))
    ≡ moved numbers (postings_of (take i docs) (drop start lists)) ++ placed (slice_get numbers d) (posting_at d (get_or lists (start + i) []))
moved-one numbers lists docs start i d e within here room =
    let more : take (i + 1) docs ≡ take i docs ++ d ∷ [] = take_more docs i e within ∙ ap (λ (n : ℕ). take i docs ++ n ∷ []) (sym here) in
    let count : length (take i docs) ≡ i = length-take-le i docs (omega (arith, within)) in
    let there : drop (length (take i docs)) (drop start lists) ≡ get_or lists (start + i) [] ∷ drop (start + i + 1) lists =
    ap (λ n. drop n (drop start lists)) count ∙ drop-drop i start lists ∙ drop_more lists (start + i) [] (omega (arith, within, room)) in
    let one : moved numbers (postings_of (d ∷ []) (drop (length (take i docs)) (drop start lists)))
    ≡ placed (slice_get numbers d) (posting_at d (get_or lists (start + i) [])) =
    ap (λ ls. moved numbers (postings_of (d ∷ []) ls)) there ∙ append-nil (placed (slice_get numbers d) (posting_at d (get_or lists (start + i) []))) in
    moved-more numbers (take i docs) (d ∷ []) (take (i + 1) docs) (drop start lists) more
    ∙ ap (λ ps. moved numbers (postings_of (take i docs) (drop start lists)) ++ ps) one

-- the copied postings with one more block
pub moved-block : (numbers : List (Option ℕ)) (lists : List (List ℕ)) (docs : List ℕ) (start block : ℕ) → block * 128 ≤ length docs →
    moved numbers (postings_of (take ((block + 1) * 128) docs) (drop start lists))
    ≡ moved numbers (postings_of (take (block * 128) docs) (drop start lists))
    ++ moved numbers (postings_of (block_at docs block) (drop (start + block * 128) lists))
moved-block numbers lists docs start block within =
    let count : length (take (block * 128) docs) ≡ block * 128 = length-take-le (block * 128) docs within in
    let there : drop (length (take (block * 128) docs)) (drop start lists) ≡ drop (start + block * 128) lists =
    ap (λ n. drop n (drop start lists)) count ∙ drop-drop (block * 128) start lists in
    moved-more numbers (take (block * 128) docs) (block_at docs block) (take ((block + 1) * 128) docs) (drop start lists) (take_block docs block)
    ∙ ap (λ ls. moved numbers (postings_of (take (block * 128) docs) (drop start lists)) ++ moved numbers (postings_of (block_at docs block) ls)) there

-- documents with a number added, with one more block
pub shifted-block : (f : ℕ → ℕ) (docs : List ℕ) (block : ℕ) (before out new : List ℕ) → out ≡ before ++ map f (take (block * 128) docs) →
    new ≡ out ++ map f (block_at docs block) →
    new ≡ before ++ map f (take ((block + 1) * 128) docs)
shifted-block f docs block before out new so_far put =
    let old = take (block * 128) docs in
    put ∙ ap (λ zs. zs ++ map f (block_at docs block)) so_far ∙ append_assoc before (map f old) (map f (block_at docs block))
    ∙ ap (λ zs. before ++ zs) (sym (map-append f old (block_at docs block)) ∙ ap (map f) (sym (take_block docs block)))

-- a list whose first members were changed
pub at-front : {X : Type 0} (f : X → X) (xs : List X) (i : ℕ) → slice_get (map f (take i xs) ++ drop i xs) i ≡ slice_get xs i
at-front f [] zero = refl
at-front f [] (suc i) = refl
at-front f (x ∷ xs) zero = refl
at-front f (x ∷ xs) (suc i) = at-front f xs i

set-suc : {X : Type 0} (f : X → X) (xs : List X) (i : ℕ) (x : X) → slice_get xs i ≡ Some x → slice_set (map f (take i xs) ++ drop i xs) i (f x)
    ≡ map f (take (suc i) xs) ++ drop (suc i) xs
set-suc f [] i x h = absurd (let no : None ≡ Some x = h in cc)
set-suc f (y ∷ xs) zero x h = let e : y ≡ x = cc in ap (λ z. f z ∷ xs) (sym e)
set-suc f (y ∷ xs) (suc i) x h = ap (λ zs. f y ∷ zs) (set-suc f xs i x h)

-- a list with one more member changed
pub set-front : {X : Type 0} (f : X → X) (items xs : List X) (i : ℕ) (x y : X) → items ≡ map f (take i xs) ++ drop i xs → slice_get items i ≡ Some x → y ≡ f x →
    (slice_set items i y ≡ map f (take (i + 1) xs) ++ drop (i + 1) xs) × (slice_get xs i ≡ Some x)
set-front f items xs i x y is at new =
    let here : slice_get xs i ≡ Some x = sym (at-front f xs i) ∙ ap (λ zs. slice_get zs i) (sym is) ∙ at in
    let one : suc i ≡ i + 1 = omega arith in (
      ap (λ zs. slice_set zs i y) is ∙ ap (slice_set (map f (take i xs) ++ drop i xs) i) new ∙ set-suc f xs i x here ∙ ap (λ k. map f (take k xs) ++ drop k xs)
          one,
      here,
    )

given-suc : (f : TermStreamValue → List Posting) (xs : List TermStreamValue) (i : ℕ) (x : TermStreamValue) → slice_get xs i ≡ Some x →
    flat_map f (take (suc i) xs) ≡ flat_map f (take i xs) ++ f x
given-suc f [] i x at = absurd (let no : None ≡ Some x = at in cc)
given-suc f (y ∷ xs) zero x at = let same : y ≡ x = cc in append-nil (f y) ∙ ap f same
given-suc f (y ∷ xs) (suc i) x at = ap (λ ps. f y ++ ps) (given-suc f xs i x at) ∙ sym (append_assoc (f y) (flat_map f (take i xs)) (f x))

-- the postings that one more stream gives
pub given-front : (f : TermStreamValue → List Posting) (xs : List TermStreamValue) (i : ℕ) (x : TermStreamValue) → slice_get xs i ≡ Some x →
    flat_map f (take (i + 1) xs) ≡ flat_map f (take i xs) ++ f x
given-front f xs i x at = let one : i + 1 ≡ suc i = omega arith in ap (λ n. flat_map f (take n xs)) one ∙ given-suc f xs i x at
