-- The merged terms of streams, and the terms that are left.
use Rattle.std.proofs.Common.{◌≡◌, ◌≢◌, ◌⊎◌, inl, inr, ⊎_elim, ℕ, suc, true, false, cond, List, [], ◌∷◌, ◌++◌, Option, Some, None, map, flat_map, Contains}
use Rattle.std.proofs.Common.{refl, sym, ap, ap₂, subst, ◌∙◌, Less, Equal, Greater}
use Rattle.std.specs.Prelude.{slice_get}
use Rattle.std.specs.List.{AllByRecursion}
use Rattle.std.specs.List.Sorted.{IsStrictlyIncreasing}
use Rattle.std.specs.Str.{bytes_eq}
use Rattle.std.specs.Ordering.{nat_cmp, is_gt}
use Rattle.std.specs.Cmp.Lexicographic.{slice_cmp}
use Rattle.std.proofs.lemmas.Cmp.{nat_list_cmp_total, tied_itself}
use Rattle.std.proofs.lemmas.Slice.Eq.{bytes_eq-Decides}
use Rattle.std.proofs.lemmas.List.{append-nil, flat_map_more, map_push}
use Rattle.std.proofs.lemmas.List.Elements.{Contains-append_left, Contains-append_right}
use Rattle.fts_segment.specs.Dictionaries.{unless_none}
use Rattle.fts_segment.specs.Postings.{Posting, documents, position_lists}
use Rattle.fts_segment.specs.Parts.{TermStreamValue, found, joined, moved, IsBelow, Ascend, IsSound, IsJoined, begins, passed, given, lesser, least_of}
use Rattle.fts_segment.proofs.FindLemmas.{same_from_equal, turned}
use Rattle.fts_segment.proofs.KeywordsLemmas.{here, either, none}
use Rattle.fts_segment.proofs.PartLemmas.{IsFrom, AreFrom, IsMet, IsBelowAll, joined-given, joined-passed, joined-other, sound-all, below-all-after}
use Rattle.fts_segment.proofs.PartLemmas.{below-all-passed, met-below}

-- postings without documents are empty
pub no_documents : (postings : List Posting) → documents postings ≡ [] → postings ≡ []
no_documents [] h = refl
no_documents (p ∷ postings) h = absurd (let no : p.doc ∷ documents postings ≡ [] = h in cc)

-- nothing is appended for no posting
pub none_put : {X : Type 0} (xs : List X) (x : X) (postings : List Posting) → postings ≡ [] → xs ≡ xs ++ unless_none postings x
none_put {X} xs x postings none = sym (let P : List Posting → List X = λ ps. xs ++ unless_none ps x in ap P none ∙ append-nil xs)

-- one element is appended for some postings
pub some_put : {X : Type 0} (xs new : List X) (x : X) (postings : List Posting) → postings ≢ [] → new ≡ xs ++ x ∷ [] → new ≡ xs ++ unless_none postings x
some_put xs new x [] some put = absurd (some refl)
some_put xs new x (p ∷ postings) some put = put

-- each name is before a term
abbrev pub AreBefore : List ℕ → List (List ℕ) → Type 0
AreBefore term names = AllByRecursion (λ name. slice_cmp nat_cmp name term ≡ Less) names

below-push : (name term : List ℕ) (names : List (List ℕ)) → IsBelow name names → slice_cmp nat_cmp name term ≡ Less → IsBelow name (names ++ term ∷ [])
below-push name term [] h less = (less, tt)
below-push name term (n ∷ names) h less = (h.0, below-push name term names h.1 less)

ascend-push : (term : List ℕ) (names : List (List ℕ)) → Ascend names → AreBefore term names → Ascend (names ++ term ∷ [])
ascend-push term [] h before = (tt, tt)
ascend-push term (n ∷ names) h before = (below-push n term names h.0 before.0, ascend-push term names h.1 before.1)

all-push : {X : Type 0} (P : X → Type 0) (xs : List X) (x : X) → AllByRecursion P xs → P x → AllByRecursion P (xs ++ x ∷ [])
all-push P [] x h p = (p, tt)
all-push P (y ∷ xs) x h p = (h.0, all-push P xs x h.1 p)

-- the progress of a merge: the names have all postings of the streams, and every other term is left
pub record IsJoining (all rest : List TermStreamValue) (names lists positions : List (List ℕ)) : Type 0 where
  pub sound : AllByRecursion IsSound rest
  pub ascend : Ascend names
  pub below : AllByRecursion (λ name. IsBelowAll name rest) names
  pub listed : lists ≡ map (λ q. documents (joined all q)) names
  pub positioned : positions ≡ flat_map (λ q. position_lists (joined all q)) names
  pub some : AllByRecursion (λ q. joined all q ≢ []) names
  pub left : (q : List ℕ) → Contains names q ⊎ (joined rest q ≡ joined all q)

pub IsJoining-start : (ps : List TermStreamValue) (names lists positions : List (List ℕ)) → AllByRecursion IsSound ps → names ≡ [] →
    lists ≡ [] → positions ≡ [] → IsJoining ps ps names lists positions
IsJoining-start ps names lists positions sound no_names no_lists no_positions =
    let P : List (List ℕ) → List (List ℕ) → List (List ℕ) → Type 0 = λ ns ls qs. IsJoining ps ps ns ls qs in
    let none_yet : P [] [] [] = record { sound = sound; ascend = tt; below = tt; listed = refl; positioned = refl; some = tt; left = λ q. inr refl } in
    subst (λ ns. P ns lists positions) (sym no_names) (subst (λ ls. P [] ls positions) (sym no_lists) (subst (P [] []) (sym no_positions) none_yet))

are-before : (term : List ℕ) (rest : List TermStreamValue) (names : List (List ℕ)) → IsMet term rest → AllByRecursion (λ name. IsBelowAll name rest) names →
    AreBefore term names
are-before term rest [] met h = tt
are-before term rest (n ∷ names) met h = (met-below n term rest met h.0, are-before term rest names met h.1)

all-below-after : (term : List ℕ) (rest : List TermStreamValue) (names : List (List ℕ)) → AllByRecursion (λ name. IsBelowAll name rest) names →
    AllByRecursion (λ name. IsBelowAll name (map (passed term) rest)) names
all-below-after term rest [] h = tt
all-below-after term rest (n ∷ names) h = (below-all-after n term rest h.0, all-below-after term rest names h.1)

-- a term that is left is none of the names
not-among : (term : List ℕ) (names : List (List ℕ)) → AreBefore term names → Contains names term → ⊥
not-among term [] h c = none term c
not-among term (n ∷ names) h c = ⊎_elim
    (λ (same : n ≡ term). let clash : Less ≡ Equal = sym h.0 ∙ ap (λ x. slice_cmp nat_cmp x term) same ∙ tied_itself nat_list_cmp_total term in cc)
    (λ behind. not-among term names h.1 behind) (either n term names c)

-- the postings that the streams give for the next term are all that they had
pub all-given : (term : List ℕ) (postings : List Posting) (all rest : List TermStreamValue) (names lists positions : List (List ℕ)) →
    IsJoining all rest names lists positions →
    AreFrom term rest → IsMet term rest → postings ≡ flat_map (given term) rest → joined all term ≡ postings
all-given term postings all rest names lists positions j from met is = ⊎_elim
    (λ (among : Contains names term). absurd (not-among term names (are-before term rest names met j.below) among))
    (λ (same : joined rest term ≡ joined all term). sym same ∙ joined-given term rest j.sound from ∙ sym is) (j.left term)

-- the postings of the next term rise
pub postings-rise : (term : List ℕ) (postings : List Posting) (all rest : List TermStreamValue) (names lists positions : List (List ℕ)) →
    IsJoining all rest names lists positions →
    AreFrom term rest → IsMet term rest → postings ≡ flat_map (given term) rest → ((q : List ℕ) → IsStrictlyIncreasing (documents (joined all q))) →
    IsStrictlyIncreasing (documents postings)
postings-rise term postings all rest names lists positions j from met is rise =
    let P : List Posting → Type 0 = λ ps. IsStrictlyIncreasing (documents ps) in
    subst P (all-given term postings all rest names lists positions j from met is) (rise term)

-- the merge goes past a term that has no posting
pass-none : (term : List ℕ) (all rest : List TermStreamValue) (names lists positions : List (List ℕ)) →
    IsJoining all rest names lists positions →
    AreFrom term rest → joined all term ≡ [] → IsJoining all (map (passed term) rest) names lists positions
pass-none term all rest names lists positions j from no_posting = record {
  sound = sound-all term rest j.sound;
  ascend = j.ascend;
  below = all-below-after term rest names j.below;
  listed = j.listed;
  positioned = j.positioned;
  some = j.some;
  left = λ q. elim (bytes_eq term q) as (λ b. bytes_eq term q ≡ b → Contains names q ⊎ (joined (map (passed term) rest) q ≡ joined all q)) [
    | true ↦ λ same.
        let one : term ≡ q = (bytes_eq-Decides term q).0 same in
        let Q : List ℕ → Type 0 = λ t. joined (map (passed term) rest) t ≡ joined all t in
        inr (subst Q one (joined-passed term rest j.sound from ∙ sym no_posting))
    | false ↦ λ differ. ⊎_elim (λ among. inl among) (λ same. inr (joined-other term q rest j.sound differ ∙ same)) (j.left q)
  ] refl;
}

-- the merge goes past a term that has postings
pass-some : (term : List ℕ) (all rest : List TermStreamValue) (names lists positions : List (List ℕ)) →
    IsJoining all rest names lists positions →
    AreFrom term rest → IsMet term rest → joined all term ≢ [] →
    IsJoining all (map (passed term) rest) (names ++ term ∷ []) (lists ++ documents (joined all term) ∷ []) (positions ++ position_lists (joined all term))
pass-some term all rest names lists positions j from met some_posting = record {
  sound = sound-all term rest j.sound;
  ascend = ascend-push term names j.ascend (are-before term rest names met j.below);
  below = all-push (λ name. IsBelowAll name (map (passed term) rest)) names term (all-below-after term rest names j.below)
      (below-all-passed term rest j.sound from);
  listed = ap (λ ls. ls ++ documents (joined all term) ∷ []) j.listed ∙ sym (map_push (λ q. documents (joined all q)) names term);
  positioned = ap (λ ps. ps ++ position_lists (joined all term)) j.positioned ∙ flat_map_more (λ q. position_lists (joined all q)) [] names term;
  some = all-push (λ q. joined all q ≢ []) names term j.some some_posting;
  left = λ q. elim (bytes_eq term q) as (λ b. bytes_eq term q ≡ b → Contains (names ++ term ∷ []) q ⊎ (joined (map (passed term) rest) q ≡ joined all q)) [
    | true ↦ λ same.
        let one : term ≡ q = (bytes_eq-Decides term q).0 same in
        let Q : List ℕ → Type 0 = λ t. Contains (names ++ term ∷ []) t in
        inl (subst Q one (Contains-append_right names (term ∷ []) term (here term [])))
    | false ↦ λ differ. ⊎_elim (λ among. inl (Contains-append_left names (term ∷ []) q among)) (λ same. inr (joined-other term q rest j.sound differ ∙ same))
        (j.left q)
  ] refl;
}

-- the merge goes past a term
pub IsJoining-next : (term : List ℕ) (postings : List Posting) (all rest : List TermStreamValue) (names lists positions : List (List ℕ)) →
    IsJoining all rest names lists positions →
    AreFrom term rest → IsMet term rest → joined all term ≡ postings →
    IsJoining all (map (passed term) rest) (names ++ unless_none postings term) (lists ++ unless_none postings (documents postings))
    (positions ++ position_lists postings)
IsJoining-next term [] all rest names lists positions j from met is =
    let P : List (List ℕ) → List (List ℕ) → List (List ℕ) → Type 0 = λ ns ls qs. IsJoining all (map (passed term) rest) ns ls qs in
    subst (λ ns. P ns (lists ++ []) (positions ++ [])) (sym (append-nil names)) (subst (λ ls. P names ls (positions ++ [])) (sym (append-nil lists))
    (subst (P names lists) (sym (append-nil positions)) (pass-none term all rest names lists positions j from is)))
IsJoining-next term (p ∷ postings) all rest names lists positions j from met is =
    let P : List Posting → Type 0 =
    λ ps. IsJoining all (map (passed term) rest) (names ++ term ∷ []) (lists ++ documents ps ∷ []) (positions ++ position_lists ps) in
    subst P is (pass-some term all rest names lists positions j from met (λ no. let clash : p ∷ postings ≡ [] = sym is ∙ no in cc))

-- a stream without a name has no posting
nothing : (p : TermStreamValue) (term : List ℕ) → p.names ≡ [] → moved p.numbers (found p.names p.postings term) ≡ []
nothing p term e = ap (λ ns. moved p.numbers (found ns p.postings term)) e

none-first : (o : Option (List ℕ)) (names : List (List ℕ)) → lesser o (slice_get names 0) ≡ None → (o ≡ None) × (names ≡ [])
none-first None [] h = (refl, refl)
none-first None (n ∷ names) h = absurd (let no : Some n ≡ None = h in cc)
none-first (Some a) [] h = absurd (let no : Some a ≡ None = h in cc)
none-first (Some a) (n ∷ names) h =
    elim (is_gt (slice_cmp nat_cmp a n)) as (λ b. cond b (Some n) (Some a) ≡ None → (Some a ≡ None) × (n ∷ names ≡ [])) [
      | true ↦ λ no. absurd (let e : Some n ≡ None = no in cc)
      | false ↦ λ no. absurd (let e : Some a ≡ None = no in cc)
    ] h

-- if there is no least name, no stream has a name left
pub least-none : (o : Option (List ℕ)) (ps : List TermStreamValue) → least_of o ps ≡ None → (o ≡ None) × ((term : List ℕ) → joined ps term ≡ [])
least-none o [] h = (h, λ term. refl)
least-none o (p ∷ ps) h =
    let rest = least-none (lesser o (slice_get p.names 0)) ps h in
    let first = none-first o p.names rest.0 in
    (first.0, λ term. ap₂ (λ a b. a ++ b) (nothing p term first.1) (rest.1 term))

-- an optional name is not before the term
abbrev pub NotBefore : List ℕ → Option (List ℕ) → Type 0
NotBefore term None = Unit {0}
NotBefore term (Some a) = slice_cmp nat_cmp a term ≢ Less

first-from : (o : Option (List ℕ)) (names : List (List ℕ)) (term : List ℕ) → NotBefore term (lesser o (slice_get names 0)) →
    NotBefore term o × IsFrom term names
first-from None [] term h = (tt, tt)
first-from None (n ∷ names) term h = (tt, h)
first-from (Some a) [] term h = (h, tt)
first-from (Some a) (n ∷ names) term h =
    elim (slice_cmp nat_cmp a n) as (λ c. slice_cmp nat_cmp a n ≡ c → NotBefore term (cond (is_gt c) (Some n) (Some a)) → (slice_cmp nat_cmp a term ≢ Less)
    × (slice_cmp nat_cmp n term ≢ Less)) [
      | Less ↦ λ less from. (from, λ no. from (nat_list_cmp_total.trans a n term less no))
      | Equal ↦ λ equal from. let one = same_from_equal a n equal in (from, let P : List ℕ → Type 0 = λ x. slice_cmp nat_cmp x term ≢ Less in subst P one from)
      | Greater ↦ λ greater from. (λ no. from (nat_list_cmp_total.trans n a term (turned a n Greater greater) no), from)
    ] refl h

first-met : (o : Option (List ℕ)) (names : List (List ℕ)) (term : List ℕ) → lesser o (slice_get names 0) ≡ Some term →
    (o ≡ Some term) ⊎ (begins term names ≡ true)
first-met None [] term h = absurd (let no : None ≡ Some term = h in cc)
first-met None (n ∷ names) term h = let e : n ≡ term = let f : Some n ≡ Some term = h in cc in inr ((bytes_eq-Decides n term).1 e)
first-met (Some a) [] term h = inl h
first-met (Some a) (n ∷ names) term h =
    elim (is_gt (slice_cmp nat_cmp a n)) as (λ b. cond b (Some n) (Some a) ≡ Some term → (Some a ≡ Some term) ⊎ (bytes_eq n term ≡ true)) [
      | true ↦ λ f. let e : n ≡ term = let g : Some n ≡ Some term = f in cc in inr ((bytes_eq-Decides n term).1 e)
      | false ↦ λ f. inl f
    ] h

-- no stream has a name before the least of the next names
pub least-from : (o : Option (List ℕ)) (ps : List TermStreamValue) (term : List ℕ) → least_of o ps ≡ Some term → NotBefore term o × AreFrom term ps
least-from o [] term h =
    let P : Option (List ℕ) → Type 0 = λ x. NotBefore term x in
    let itself : slice_cmp nat_cmp term term ≢ Less = λ no. let clash : Less ≡ Equal = sym no ∙ tied_itself nat_list_cmp_total term in cc in
    (subst P (sym h) itself, tt)
least-from o (p ∷ ps) term h =
    let rest = least-from (lesser o (slice_get p.names 0)) ps term h in
    let first = first-from o p.names term rest.0 in
    (first.0, (first.1, rest.1))

-- some stream begins with the least of the next names
pub least-met : (o : Option (List ℕ)) (ps : List TermStreamValue) (term : List ℕ) → least_of o ps ≡ Some term → (o ≡ Some term) ⊎ IsMet term ps
least-met o [] term h = inl h
least-met o (p ∷ ps) term h =
    elim (least-met (lesser o (slice_get p.names 0)) ps term h) as (λ w. (o ≡ Some term) ⊎ IsMet term (p ∷ ps)) [
      | inl same ↦ elim (first-met o p.names term same) as (λ w. (o ≡ Some term) ⊎ IsMet term (p ∷ ps)) [
        | inl e ↦ inl e
        | inr b ↦ inr (p, 0, refl, b)
      ]
      | inr met ↦ inr (met.0, suc met.1, met.2, met.3)
    ]

pub met-of-least : (ps : List TermStreamValue) (term : List ℕ) → least_of None ps ≡ Some term → IsMet term ps
met-of-least ps term h = elim (least-met None ps term h) as (λ w. IsMet term ps) [
  | inl other ↦ absurd (let e : None ≡ Some term = other in cc)
  | inr met ↦ met
]

-- a merge that is finished has all postings
pub IsJoined-end : (all rest : List TermStreamValue) (names lists positions : List (List ℕ)) → IsJoining all rest names lists positions →
    least_of None rest ≡ None → IsJoined all names lists positions
IsJoined-end all rest names lists positions j h = record {
  ascend = j.ascend;
  listed = j.listed;
  positioned = j.positioned;
  some = j.some;
  whole = λ q some_posting. ⊎_elim (λ among. among) (λ (same : joined rest q ≡ joined all q). absurd (some_posting (sym same ∙ (least-none None rest h).1 q)))
      (j.left q);
}
