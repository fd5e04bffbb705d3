-- Term streams as terms are taken.
use Rattle.std.proofs.Common.{◌≡◌, ◌≢◌, ◌+◌, ◌<◌, ◌≤◌, inl, inr, ℕ, zero, suc, Bool, true, false, cond, List, [], ◌∷◌, ◌++◌, Option, Some, None, map, length}
use Rattle.std.proofs.Common.{flat_map, sum_by, take, drop, get_or, refl, sym, ap, ap₂, subst, ◌∙◌, arith, Less, Equal, Greater}
use Rattle.std.specs.Prelude.{slice_get}
use Rattle.std.specs.List.{AllByRecursion}
use Rattle.std.specs.Str.{bytes_eq}
use Rattle.std.specs.Ordering.{nat_cmp}
use Rattle.std.specs.Cmp.Lexicographic.{slice_cmp}
use Rattle.std.proofs.lemmas.Cmp.{nat_list_cmp_total, tied_itself}
use Rattle.std.proofs.lemmas.Slice.Eq.{bytes_eq-Decides}
use Rattle.std.proofs.lemmas.Bool.{cases_lt}
use Rattle.std.proofs.lemmas.List.{drop_all, drop_more, drop-drop}
use Rattle.std.proofs.lemmas.List.Sums.{sum_by-cons}
use Rattle.fts_pack.proofs.SumLemmas.{sum-cons}
use Rattle.fts_segment.specs.declared.dictionary.Dictionary.{Dictionary}
use Rattle.fts_segment.specs.Postings.{Posting, documents_before, postings_by, postings_of}
use Rattle.fts_segment.proofs.FindLemmas.{same_from_equal, turned}
use Rattle.fts_segment.specs.Parts.{TermStreamValue, IsWhole, part_from, found, joined, moved, IsBelow, Ascend, IsSound, begins, passed, given}

-- a name differs from one before it
less_differs : (a b : List ℕ) → slice_cmp nat_cmp a b ≡ Less → bytes_eq b a ≡ false
less_differs a b less = elim (bytes_eq b a) as (λ t. bytes_eq b a ≡ t → t ≡ false) [
  | true ↦ λ same.
      let one : b ≡ a = (bytes_eq-Decides b a).0 same in
      let clash : Less ≡ Equal = sym less ∙ ap (slice_cmp nat_cmp a) one ∙ tied_itself nat_list_cmp_total a in cc
  | false ↦ λ differ. refl
] refl

IsBelow-trans : (a b : List ℕ) (names : List (List ℕ)) → slice_cmp nat_cmp a b ≡ Less → IsBelow b names → IsBelow a names
IsBelow-trans a b [] less h = tt
IsBelow-trans a b (n ∷ names) less h = (nat_list_cmp_total.trans a b n less h.0, IsBelow-trans a b names less h.1)

-- no posting is found for a term that is before all names
pub found-below : (term : List ℕ) (names : List (List ℕ)) (postings : List (List Posting)) → IsBelow term names → found names postings term ≡ []
found-below term [] postings h = refl
found-below term (n ∷ names) [] h = refl
found-below term (n ∷ names) (l ∷ postings) h = ap (λ b. cond b l (found names postings term)) (less_differs term n h.0) ∙ found-below term names postings h.1

-- a term is not after the next name of a stream
abbrev pub IsFrom : List ℕ → List (List ℕ) → Type 0
IsFrom term [] = Unit {0}
IsFrom term (name ∷ names) = slice_cmp nat_cmp name term ≢ Less

-- the next name is the term, or after it
next_name : (term name : List ℕ) → slice_cmp nat_cmp name term ≢ Less → bytes_eq name term ≡ false → slice_cmp nat_cmp term name ≡ Less
next_name term name from differ =
    elim (slice_cmp nat_cmp name term) as (λ o. slice_cmp nat_cmp name term ≡ o → slice_cmp nat_cmp term name ≡ Less) [
      | Less ↦ λ h. absurd (from h)
      | Equal ↦ λ h.
          let one : name ≡ term = same_from_equal name term h in
          let clash : true ≡ false = sym ((bytes_eq-Decides name term).1 one) ∙ differ in cc
      | Greater ↦ λ h. turned name term Greater h
    ] refl

-- after a term is taken, a stream has only later names
pub below-passed : (term : List ℕ) (names : List (List ℕ)) (postings : List (List Posting)) (numbers : List (Option ℕ)) → Ascend names → IsFrom term names →
    IsBelow term (passed term (record { names = names; postings = postings; numbers = numbers })).names
below-passed term [] postings numbers up from = tt
below-passed term (n ∷ names) postings numbers up from =
    let next : TermStreamValue = record { names = names; postings = drop 1 postings; numbers = numbers } in
    let same_part : TermStreamValue = record { names = n ∷ names; postings = postings; numbers = numbers } in
    let P : Bool → Type 0 = λ b. IsBelow term (cond {A = TermStreamValue} b next same_part).names in
    elim (bytes_eq n term) as (λ b. bytes_eq n term ≡ b → P b) [
      | true ↦ λ same. let one : n ≡ term = (bytes_eq-Decides n term).0 same in let Q : List ℕ → Type 0 = λ x. IsBelow x names in subst Q one up.0
      | false ↦ λ differ. let less = next_name term n from differ in (less, IsBelow-trans term n names less up.0)
    ] refl

-- a stream gives the postings that it has
pub given-found : (term : List ℕ) (names : List (List ℕ)) (postings : List (List Posting)) (numbers : List (Option ℕ)) → Ascend names →
    length names ≡ length postings → IsFrom term names →
    moved numbers (found names postings term) ≡ given term (record { names = names; postings = postings; numbers = numbers })
given-found term [] postings numbers up paired from = refl
given-found term (n ∷ names) [] numbers up paired from = absurd (omega (arith, paired))
given-found term (n ∷ names) (l ∷ postings) numbers up paired from =
    elim (bytes_eq n term) as (λ b. bytes_eq n term ≡ b → moved numbers (cond b l (found names postings term)) ≡ cond b (moved numbers l) []) [
      | true ↦ λ same. refl
      | false ↦ λ differ. ap (moved numbers) (found-below term names postings (IsBelow-trans term n names (next_name term n from differ) up.0))
    ] refl

-- nothing is left of a term after it is taken
pub found-passed : (term : List ℕ) (p : TermStreamValue) → IsSound p → IsFrom term p.names → found (passed term p).names (passed term p).postings term ≡ []
found-passed term p sound from =
    found-below term (passed term p).names (passed term p).postings (below-passed term p.names p.postings p.numbers sound.ascend from)

-- the postings of other terms are unchanged
pub found-other : (term other : List ℕ) (names : List (List ℕ)) (postings : List (List Posting)) (numbers : List (Option ℕ)) → length names ≡ length postings →
    bytes_eq term other ≡ false →
    let p : TermStreamValue = record { names = names; postings = postings; numbers = numbers } in
    moved (passed term p).numbers (found (passed term p).names (passed term p).postings other) ≡ moved numbers (found names postings other)
found-other term other [] postings numbers paired differ = refl
found-other term other (n ∷ names) [] numbers paired differ = absurd (omega (arith, paired))
found-other term other (n ∷ names) (l ∷ postings) numbers paired differ =
    let all : TermStreamValue = record { names = n ∷ names; postings = l ∷ postings; numbers = numbers } in
    let rest : TermStreamValue = record { names = names; postings = postings; numbers = numbers } in
    elim (bytes_eq n term) as (λ b. bytes_eq n term ≡ b → moved (cond b rest all).numbers (found (cond b rest all).names (cond b rest all).postings other)
    ≡ moved numbers (cond (bytes_eq n other) l (found names postings other))) [
      | true ↦ λ same.
          let one : n ≡ term = (bytes_eq-Decides n term).0 same in
          let apart : bytes_eq n other ≡ false = ap (λ x. bytes_eq x other) one ∙ differ in
          ap (λ b. moved numbers (cond b l (found names postings other))) (sym apart)
      | false ↦ λ apart. refl
    ] refl

-- streams after a term are sound
pub sound-passed : (term : List ℕ) (names : List (List ℕ)) (postings : List (List Posting)) (numbers : List (Option ℕ)) →
    IsSound (record { names = names; postings = postings; numbers = numbers }) →
    IsSound (passed term (record { names = names; postings = postings; numbers = numbers }))
sound-passed term [] postings numbers s = s
sound-passed term (n ∷ names) [] numbers s = absurd (omega (arith, s.paired))
sound-passed term (n ∷ names) (l ∷ postings) numbers s =
    elim (bytes_eq n term) as
    (λ b. IsSound (cond b (record { names = names; postings = postings; numbers = numbers })
    (record { names = n ∷ names; postings = l ∷ postings; numbers = numbers }))) [
      | true ↦ record { ascend = s.ascend.1; paired = omega (arith, s.paired) }
      | false ↦ s
    ]

-- a name below a stream stays below it
pub below-after : (name term : List ℕ) (names : List (List ℕ)) (postings : List (List Posting)) (numbers : List (Option ℕ)) → IsBelow name names →
    IsBelow name (passed term (record { names = names; postings = postings; numbers = numbers })).names
below-after name term [] postings numbers h = tt
below-after name term (n ∷ names) postings numbers h =
    elim (bytes_eq n term) as (λ b. IsBelow name (cond {A = TermStreamValue} b (record { names = names; postings = drop 1 postings; numbers = numbers })
    (record { names = n ∷ names; postings = postings; numbers = numbers })).names) [
      | true ↦ h.1
      | false ↦ h
    ]

-- all parts are from a term on
abbrev pub AreFrom : List ℕ → List TermStreamValue → Type 0
AreFrom term ps = AllByRecursion (λ p. IsFrom term p.names) ps

pub joined-given : (term : List ℕ) (ps : List TermStreamValue) → AllByRecursion IsSound ps → AreFrom term ps → joined ps term ≡ flat_map (given term) ps
joined-given term [] sound from = refl
joined-given term (p ∷ ps) sound from =
    ap₂ (λ a b. a ++ b) (given-found term p.names p.postings p.numbers sound.0.ascend sound.0.paired from.0) (joined-given term ps sound.1 from.1)

pub joined-passed : (term : List ℕ) (ps : List TermStreamValue) → AllByRecursion IsSound ps → AreFrom term ps → joined (map (passed term) ps) term ≡ []
joined-passed term [] sound from = refl
joined-passed term (p ∷ ps) sound from =
    ap₂ (λ a b. moved (passed term p).numbers a ++ b) (found-passed term p sound.0 from.0) (joined-passed term ps sound.1 from.1)

pub joined-other : (term other : List ℕ) (ps : List TermStreamValue) → AllByRecursion IsSound ps → bytes_eq term other ≡ false →
    joined (map (passed term) ps) other ≡ joined ps other
joined-other term other [] sound differ = refl
joined-other term other (p ∷ ps) sound differ =
    ap₂ (λ a b. a ++ b) (found-other term other p.names p.postings p.numbers sound.0.paired differ) (joined-other term other ps sound.1 differ)

pub sound-all : (term : List ℕ) (ps : List TermStreamValue) → AllByRecursion IsSound ps → AllByRecursion IsSound (map (passed term) ps)
sound-all term [] h = tt
sound-all term (p ∷ ps) h = (sound-passed term p.names p.postings p.numbers h.0, sound-all term ps h.1)

-- a name is before all names of parts
abbrev pub IsBelowAll : List ℕ → List TermStreamValue → Type 0
IsBelowAll name ps = AllByRecursion (λ p. IsBelow name p.names) ps

pub below-all-after : (name term : List ℕ) (ps : List TermStreamValue) → IsBelowAll name ps → IsBelowAll name (map (passed term) ps)
below-all-after name term [] h = tt
below-all-after name term (p ∷ ps) h = (below-after name term p.names p.postings p.numbers h.0, below-all-after name term ps h.1)

pub below-all-passed : (term : List ℕ) (ps : List TermStreamValue) → AllByRecursion IsSound ps → AreFrom term ps → IsBelowAll term (map (passed term) ps)
below-all-passed term [] sound from = tt
below-all-passed term (p ∷ ps) sound from = (below-passed term p.names p.postings p.numbers sound.0.ascend from.0, below-all-passed term ps sound.1 from.1)

-- a name below a stream is below its next term
pub begins-below : (name term : List ℕ) (names : List (List ℕ)) → begins term names ≡ true → IsBelow name names → slice_cmp nat_cmp name term ≡ Less
begins-below name term [] h below = absurd (let no : false ≡ true = h in cc)
begins-below name term (n ∷ names) h below = ap (slice_cmp nat_cmp name) (sym ((bytes_eq-Decides n term).0 h)) ∙ below.0

abbrev pub IsMet : List ℕ → List TermStreamValue → Type 0
IsMet term ps = (p : TermStreamValue) × (i : ℕ) × (slice_get ps i ≡ Some p) × (begins term p.names ≡ true)

below_at : (name : List ℕ) (ps : List TermStreamValue) (i : ℕ) (p : TermStreamValue) → IsBelowAll name ps → slice_get ps i ≡ Some p → IsBelow name p.names
below_at name [] i p h e = absurd (let no : None ≡ Some p = e in cc)
below_at name (q ∷ ps) zero p h e = let same : q ≡ p = cc in let P : TermStreamValue → Type 0 = λ r. IsBelow name r.names in subst P same h.0
below_at name (q ∷ ps) (suc i) p h e = below_at name ps i p h.1 e

pub met-below : (name term : List ℕ) (ps : List TermStreamValue) → IsMet term ps → IsBelowAll name ps → slice_cmp nat_cmp name term ≡ Less
met-below name term ps met h = begins-below name term met.0.names met.3 (below_at name ps met.1 met.0 h met.2)

-- the number of names that are left
abbrev pub left : List TermStreamValue → ℕ
left ps = sum_by (λ p. length p.names) ps

fewer-part : (term : List ℕ) (p : TermStreamValue) (names : List (List ℕ)) → p.names ≡ names → length (passed term p).names ≤ length names
fewer-part term p [] e = let P : List (List ℕ) → Type 0 =
    λ ns. length (cond (begins term ns) (record { names = drop 1 p.names; postings = drop 1 p.postings; numbers = p.numbers }) p).names ≤ 0 in
    subst P (sym e) (omega (arith, ap length e))
fewer-part term p (n ∷ names) e =
    elim (begins term p.names) as (λ b. length (cond b (record { names = drop 1 p.names; postings = drop 1 p.postings; numbers = p.numbers }) p).names
    ≤ suc (length names)) [
      | true ↦ let P : List (List ℕ) → Type 0 = λ ns. length (drop 1 ns) ≤ suc (length names) in
          subst P (sym e) (let k : length names ≤ suc (length names) = omega arith in k)
      | false ↦ omega (arith, ap length e)
    ]

fewer-begun : (term : List ℕ) (p : TermStreamValue) (names : List (List ℕ)) → p.names ≡ names → begins term p.names ≡ true →
    length (passed term p).names < length p.names
fewer-begun term p [] e h = absurd (let no : false ≡ true = ap (begins term) (sym e) ∙ h in cc)
fewer-begun term p (n ∷ names) e h =
    let P : Bool → Type 0 = λ b. length (cond b (record { names = drop 1 p.names; postings = drop 1 p.postings; numbers = p.numbers }) p).names
    < length p.names in
    let Q : List (List ℕ) → Type 0 = λ ns. length (drop 1 ns) < length ns in
    subst P (sym h) (subst Q (sym e) (let k : length names < suc (length names) = omega arith in k))

fewer-all : (term : List ℕ) (ps : List TermStreamValue) → left (map (passed term) ps) ≤ left ps
fewer-all term [] = omega arith
fewer-all term (p ∷ ps) =
    omega (
      arith,
      fewer-part term p p.names refl,
      fewer-all term ps,
      sum_by-cons (λ (p : TermStreamValue). length p.names) p ps,
      sum_by-cons
          (λ (p : TermStreamValue). length p.names) (passed term p) (map (passed term) ps),
    )

fewer-at : (term : List ℕ) (ps : List TermStreamValue) (i : ℕ) (p : TermStreamValue) → slice_get ps i ≡ Some p → begins term p.names ≡ true →
    left (map (passed term) ps) < left ps
fewer-at term [] i p e h = absurd (let no : None ≡ Some p = e in cc)
fewer-at term (q ∷ ps) zero p e h =
    let same : q ≡ p = cc in
    let begun : begins term q.names ≡ true = ap (λ (r : TermStreamValue). begins term r.names) same ∙ h in
    omega (
      arith,
      fewer-begun term q q.names refl begun,
      fewer-all term ps,
      sum_by-cons (λ (p : TermStreamValue). length p.names) q ps,
      sum_by-cons
          (λ (p : TermStreamValue). length p.names) (passed term q) (map (passed term) ps),
    )
fewer-at term (q ∷ ps) (suc i) p e h =
    omega (
      arith,
      fewer-part term q q.names refl,
      fewer-at term ps i p e h,
      sum_by-cons (λ (p : TermStreamValue). length p.names) q ps,
      sum_by-cons
          (λ (p : TermStreamValue). length p.names) (passed term q) (map (passed term) ps),
    )

pub fewer : (term : List ℕ) (ps : List TermStreamValue) → IsMet term ps → left (map (passed term) ps) < left ps
fewer term ps met = fewer-at term ps met.1 met.0 met.2 met.3

length-postings_by : (lists positions : List (List ℕ)) → length (postings_by lists positions) ≡ length lists
length-postings_by [] positions = refl
length-postings_by (l ∷ lists) positions = ap suc (length-postings_by lists (drop (length l) positions))

postings_by-at : (lists positions : List (List ℕ)) (i : ℕ) → i < length lists →
    get_or (postings_by lists positions) i [] ≡ postings_of (get_or lists i []) (drop (documents_before lists i) positions)
postings_by-at [] positions i within = absurd (omega (arith, within))
postings_by-at (l ∷ lists) positions zero within = refl
postings_by-at (l ∷ lists) positions (suc i) within =
    postings_by-at lists (drop (length l) positions) i (omega (arith, within))
    ∙ ap (postings_of (get_or lists i [])) (drop-drop (documents_before lists i) (length l) positions
    ∙ ap (λ n. drop n positions) (sym (sum-cons (length l) (take i (map length lists)))))

-- a stream that begins with a term has a name left
pub begins-within : (term : List ℕ) (names : List (List ℕ)) (at : ℕ) → begins term (drop at names) ≡ true → at < length names
begins-within term names at h = elim (cases_lt at (length names)) [
  | inl within ↦ within
  | inr past ↦ absurd (let no : false ≡ true = sym (ap (begins term) (drop_all at names past)) ∙ h in cc)
]

-- the postings that the stream gives for its next name, and the rest of the stream
pub given-here : (term : List ℕ) (at : ℕ) (d : Dictionary) (numbers : List (Option ℕ)) → IsWhole d numbers → begins term (drop at d.names) ≡ true →
    given term (part_from at d numbers) ≡ moved numbers (postings_of (get_or d.lists at []) (drop (documents_before d.lists at) d.positions))
given-here term at d numbers is h =
    let postings = postings_by d.lists d.positions in
    let there : at < length d.lists = omega (arith, begins-within term d.names at h, is.listed) in
    ap (λ b. cond b (moved numbers (get_or (drop at postings) 0 [])) []) h
    ∙ ap (λ ps. moved numbers (get_or ps 0 [])) (drop_more postings at [] (omega (arith, there, length-postings_by d.lists d.positions)))
    ∙ ap (moved numbers) (postings_by-at d.lists d.positions at there)

pub passed-here : (term : List ℕ) (at : ℕ) (d : Dictionary) (numbers : List (Option ℕ)) → IsWhole d numbers → begins term (drop at d.names) ≡ true →
    passed term (part_from at d numbers) ≡ part_from (at + 1) d numbers
passed-here term at d numbers is h =
    let within = begins-within term d.names at h in
    let postings = postings_by d.lists d.positions in
    let many : at < length postings = omega (arith, within, is.listed, length-postings_by d.lists d.positions) in
    let part : List (List ℕ) → List (List Posting) → TermStreamValue = λ ns ps. record { names = ns; postings = ps; numbers = numbers } in
    ap (λ b. cond b (part (drop 1 (drop at d.names)) (drop 1 (drop at postings))) (part_from at d numbers)) h
    ∙ ap₂ part (ap (drop 1) (drop_more d.names at [] within)) (ap (drop 1) (drop_more postings at [] many))
