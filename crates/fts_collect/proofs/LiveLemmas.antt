-- The hits among live documents, by their numbers.
use Rattle.std.proofs.Common.{◌≡◌, ℕ, suc, ◌+◌, ◌^◌, ◌<◌, ◌≤◌, Bool, true, false, cond, List, [], ◌∷◌, ◌++◌, length, map, filter, Option, Some, refl, sym, ap}
use Rattle.std.proofs.Common.{◌∙◌, arith, append_assoc, length-append, All, get_or}
use Rattle.std.specs.Prelude.{slice_get, slice_index_or}
use Rattle.std.specs.List.{filter_map, cons_option, enumerate_from}
use Rattle.std.proofs.lemmas.List.{get_or-append-add}
use Rattle.std.proofs.lemmas.List.Sums.{count_by-le-length, length-filter}
use Rattle.std.proofs.lemmas.List.Elements.{All-nil, All-cons, All-weaker, All-filter}
use Rattle.std.proofs.lemmas.List.Kept.{AllPairs-filter}
use Rattle.fts_model.specs.declared.operation.Stamped.{Stamped}
use Rattle.fts_model.specs.Documents.{DocumentValue}
use Rattle.fts_segment.specs.Contents.{where_set}
use Rattle.fts_segment.specs.Segments.{SegmentValue, numbers_where}
use Rattle.fts_parts.specs.Collected.{AreHits}
use Rattle.fts_segment.proofs.SourceLemmas.{get_behind}
use Rattle.fts_segment.proofs.HoldingLemmas.{numbers_apart, length-numbers_where}

-- whether the bit of a number is set
abbrev is_set : List Bool → ℕ → Bool
is_set bits n = slice_index_or bits n false

-- a number and nothing
plus_none : (n : ℕ) → n ≡ n + 0
plus_none n = omega arith

-- the bit behind others
bit_behind : (front : List Bool) (bit : Bool) (bits : List Bool) → is_set (front ++ bit ∷ bits) (length front) ≡ bit
bit_behind front bit bits = ap (λ n. get_or (front ++ bit ∷ bits) n false) (plus_none (length front)) ∙ get_or-append-add front (bit ∷ bits) 0 false

-- one element more, whether it passes and whether it is live
live_at : {X : Type 0} (p : X → Bool) (set : ℕ → Bool) (g : ℕ → Option X) (n : ℕ) (x : X) (live : List X) (others : List (ℕ × X)) (bit b : Bool) →
    p x ≡ b → set n ≡ bit → g n ≡ Some x → filter p live ≡ filter_map g (filter set (map (λ e. e.0) others)) →
    filter p (cond bit (x ∷ live) live) ≡ filter_map g (filter set (map (λ e. e.0) (cond b ((n, x) ∷ others) others)))
live_at p set g n x live others true true e is here rest =
    ap (λ c. cond c (x ∷ filter p live) (filter p live)) e
    ∙ ap (λ xs. x ∷ xs) rest
    ∙ sym (ap (λ c. filter_map g (cond c (n ∷ filter set (map (λ e. e.0) others)) (filter set (map (λ e. e.0) others)))) is
    ∙ ap (λ o. cons_option o (filter_map g (filter set (map (λ e. e.0) others)))) here)
live_at p set g n x live others true false e is here rest = ap (λ c. cond c (x ∷ filter p live) (filter p live)) e ∙ rest
live_at p set g n x live others false true e is here rest =
    rest ∙ sym (ap (λ c. filter_map g (cond c (n ∷ filter set (map (λ e. e.0) others)) (filter set (map (λ e. e.0) others)))) is)
live_at p set g n x live others false false e is here rest = rest

-- the live ones of those that pass, by their numbers, with others in front
live_behind : {X : Type 0} (p : X → Bool) (before : List X) (front : List Bool) (xs : List X) (bits : List Bool) → length before ≡ length front →
    length xs ≡ length bits →
    filter p (where_set xs bits) ≡ filter_map (slice_get (before ++ xs)) (filter (is_set (front ++ bits)) (numbers_where p (length before) xs))
live_behind p before front [] bits same fits = refl
live_behind p before front (x ∷ xs) [] same fits = absurd (omega (arith, fits))
live_behind p before front (x ∷ xs) (bit ∷ bits) same fits =
    let all = before ++ x ∷ xs in
    let set = is_set (front ++ bit ∷ bits) in
    let n = length before in
    let later : filter p (where_set xs bits) ≡ filter_map (slice_get all) (filter set (numbers_where p (n + 1) xs)) =
    live_behind p (before ++ x ∷ []) (front ++ bit ∷ []) xs bits (simp length-append (omega (arith, same))) (omega (arith, fits))
    ∙ ap (λ ys. filter_map (slice_get ys) (filter (is_set ((front ++ bit ∷ []) ++ bits)) (numbers_where p (length (before ++ x ∷ [])) xs)))
    (append_assoc before (x ∷ []) xs)
    ∙ ap (λ bs. filter_map (slice_get all) (filter (is_set bs) (numbers_where p (length (before ++ x ∷ [])) xs))) (append_assoc front (bit ∷ []) bits)
    ∙ ap (λ m. filter_map (slice_get all) (filter set (numbers_where p m xs))) (length-append before (x ∷ [])) in
    live_at p set (slice_get all) n x (where_set xs bits) (filter (λ e. p e.1) (enumerate_from (n + 1) xs)) bit (p x) refl
    (ap set same ∙ bit_behind front bit bits) (get_behind before x xs) later

-- the live ones of those that pass, by their numbers
pub live_hits-at : {X : Type 0} (p : X → Bool) (xs : List X) (bits : List Bool) → length bits ≡ length xs →
    filter p (where_set xs bits) ≡ filter_map (slice_get xs) (filter (is_set bits) (numbers_where p 0 xs))
live_hits-at p xs bits fits = live_behind p [] [] xs bits refl (sym fits)

-- numbers from one on, below another
abbrev Between : ℕ → ℕ → ℕ → Type 0
Between first end n = (first ≤ n) × (n < end)

-- the numbers of those that pass
where_between : {X : Type 0} (p : X → Bool) (first : ℕ) (xs : List X) → All (Between first (first + length xs)) (numbers_where p first xs)
where_between p first [] = All-nil (Between first (first + 0))
where_between p first (x ∷ xs) =
    let P = Between first (first + suc (length xs)) in
    let later = All-weaker (Between (first + 1) (first + 1 + length xs)) P (λ n h. (omega (arith, h.0), omega (arith, h.1))) (numbers_where p (first + 1) xs)
    (where_between p (first + 1) xs) in
    elim (p x) as (λ b. All P
    (map (λ e. e.0) (cond b ((first, x) ∷ filter (λ e. p e.1) (enumerate_from (first + 1) xs)) (filter (λ e. p e.1) (enumerate_from (first + 1) xs)))))
    [ true ↦ All-cons P first (numbers_where p (first + 1) xs) (omega arith, omega arith) later | false ↦ later ]

-- the live hits are numbers of documents, rising, and few
pub hits_are : (p : Stamped DocumentValue → Bool) (segment : SegmentValue) (bits : List Bool) → length segment.documents ≤ 2 ^ 32 →
    AreHits segment (filter (is_set bits) (numbers_where p 0 segment.documents))
hits_are p segment bits few =
    let xs = segment.documents in
    let numbers = numbers_where p 0 xs in
    record {
      within =
          All-filter (is_set bits) (λ n. n < length xs) numbers
          (All-weaker (Between 0 (0 + length xs)) (λ n. n < length xs) (λ n h. omega (arith, h.1)) numbers (where_between p 0 xs));
      rise = AllPairs-filter (λ a b. a < b) (is_set bits) numbers (numbers_apart p 0 xs);
      few = omega (arith, few, length-filter (is_set bits) numbers, count_by-le-length (is_set bits) numbers, length-numbers_where p 0 xs);
    }
