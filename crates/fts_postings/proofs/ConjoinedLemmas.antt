-- The cursors of a conjunction, step by step.
use Rattle.std.proofs.Common.{◌≡◌, ◌≢◌, ℕ, zero, suc, ◌+◌, ◌-◌, ◌*◌, ◌<◌, ◌≤◌, nat_le, cond, true, false, ◌&&◌, Option, Some, None, List, [], ◌∷◌, ◌++◌, length}
use Rattle.std.proofs.Common.{get_or, set, drop, refl, sym, ap, ap₂, subst, ◌∙◌, inl, inr, arith}
use Rattle.std.specs.List.{All, AllZip, filter, flat_map, slice_get}
use Rattle.std.specs.List.Sorted.{IsStrictlyIncreasing}
use Rattle.std.proofs.lemmas.Bool.{cases_lt, le-leb, lt-leb}
use Rattle.std.proofs.lemmas.List.{get_or-set_same, get_or-set_other, length-set, length-map, get_or_default, length-append, length-drop}
use Rattle.std.proofs.lemmas.List.Sums.{count_by-le-length, length-filter, sum_by-le}
use Rattle.std.proofs.lemmas.Nat.{mul-le}
use Rattle.std.proofs.lemmas.List.Elements.{All-nil, All-head, All-tail, AllZip-get_or, length_all_zip}
use Rattle.fts_pack.specs.Documents.{Rises}
use Rattle.fts_postings.specs.Bounds.{Bound, most_at, reached}
use Rattle.fts_postings.specs.Posting.{Follows, Posting, members_of, remaining_of}
use Rattle.fts_postings.specs.Remaining.{at_least}
use Rattle.fts_postings.specs.Sets.{FirstPasses, has, in_all, common}
use Rattle.fts_postings.specs.Conjoined.{AllFollow, Conjoined, Sought, StandAt, StandTogether, Brought, IsAhead, IsConjoined, MayBeBrought, AreFew, common_of}
use Rattle.fts_postings.specs.Conjoined.{bound_of, each_remaining, members_reached, openings_of}
use Rattle.fts_postings.proofs.RemainingLemmas.{at_least-at_least, first-at_least, fewer-at_least}
use Rattle.fts_postings.proofs.SetLemmas.{has-before_first, has-first, has-none, in_all-lacking, in_all-each, has-at_least, filter-first, filter-same}
use Rattle.fts_postings.proofs.SetLemmas.{filter-ahead, filter-none, Rises-from_first}
use Rattle.fts_postings.proofs.PostingLemmas.{Follows-same, Follows-trans, members-split, remaining_within}
use Rattle.fts_pack.proofs.DocumentsLemmas.{Rises-from_increasing}

-- the first cursors were brought to the document, and have it
pub record BroughtUpTo (doc : ℕ) (initial now : List Posting) (index : ℕ) : Type 0 where
  pub size : length now ≡ length initial
  pub moved : (k : ℕ) (d : Posting) → k < index → Sought doc (get_or initial k d) (get_or now k d)
  pub stand : (k : ℕ) (d : Posting) → k < index → slice_get (remaining_of (get_or now k d)) 0 ≡ Some doc
  pub rest : (k : ℕ) (d : Posting) → index ≤ k → get_or now k d ≡ get_or initial k d

Sought-same : (doc : ℕ) (p : Posting) → Sought doc p p
Sought-same doc p = record { follows = Follows-same p; same = refl; once = omega arith }

pub Sought-seek : (doc : ℕ) (p q : Posting) → remaining_of q ≡ at_least doc (remaining_of p) → Follows p q → q.opened ≤ p.opened + 1 → Sought doc p q
Sought-seek doc p q is follows once = record {
  follows = follows;
  same = ap (at_least doc) is ∙ at_least-at_least doc (remaining_of p);
  once = once;
}

pub AllZip-from_places : {X : Type 0} (R : X → X → Type 0) (xs ys : List X) → length ys ≡ length xs →
    ((k : ℕ) (d : X) → k < length xs → R (get_or xs k d) (get_or ys k d)) → AllZip R xs ys
AllZip-from_places R [] [] size h = tt
AllZip-from_places R [] (y ∷ ys) size h = absurd (omega (arith, size))
AllZip-from_places R (x ∷ xs) [] size h = absurd (omega (arith, size))
AllZip-from_places R (x ∷ xs) (y ∷ ys) size h =
    (h 0 x (omega arith), AllZip-from_places R xs ys (omega (arith, size)) (λ k d inside. h (suc k) d (omega (arith, inside))))

-- what holds of what remains of a cursor holds at its place in the list of these
each_at : (now : List Posting) (k : ℕ) (xs : List ℕ) → k < length now → (P : List ℕ → Type 0) → ((d : Posting) → P (remaining_of (get_or now k d))) →
    P (get_or (each_remaining now) k xs)
each_at [] k xs inside P h = absurd (omega arith)
each_at (p ∷ ps) zero xs inside P h = h p
each_at (p ∷ ps) (suc k) xs inside P h = each_at ps k xs (omega (arith, inside)) P h

module _ (doc : ℕ) (initial now : List Posting) (index : ℕ) (h : BroughtUpTo doc initial now index) where
  -- all were brought to it
  pub Brought-all : length now ≤ index → Brought doc initial now
  Brought-all all = AllZip-from_places (Sought doc) initial now h.size (λ k d inside. h.moved k d (omega (arith, inside, all, h.size)))

  pub IsAhead-all : length now ≤ index → in_all (each_remaining now) doc ≡ true
  IsAhead-all all = in_all-each (each_remaining now) doc (λ k inside. each_at now k [] (omega (arith, inside, length-map now remaining_of))
      (λ xs. has xs doc ≡ true)
      (λ d. has-first (remaining_of (get_or now k d)) doc (sym (h.stand k d (omega (arith, inside, all, length-map now remaining_of))))))

  pub StandAt-all : length now ≤ index → StandAt doc now
  StandAt-all all = λ k d inside. h.stand k d (omega (arith, inside, all))

  module _ (d₀ q : Posting) (inside : index < length now) (sought : Sought doc (get_or now index d₀) q) where
    moved_next : (k : ℕ) (d : Posting) → k < index + 1 → Sought doc (get_or initial k d) (get_or (set now index q) k d)
    moved_next k d low = elim (cases_lt k index) [
      | inl before ↦
          let other : k ≢ index = omega arith in
          rw get_or-set_other (h.moved k d before)
      | inr here ↦
          let same : k ≡ index = omega (arith, low, here) in
          rw (same, get_or-set_same, ← h.rest index d (omega arith), get_or_default now index d d₀ inside) sought
    ]

    rest_next : (k : ℕ) (d : Posting) → index + 1 ≤ k → get_or (set now index q) k d ≡ get_or initial k d
    rest_next k d high =
        let other : k ≢ index = omega arith in
        get_or-set_other now index k q d other ∙ h.rest k d (omega arith)

    pub Brought-next : Brought doc initial (set now index q)
    Brought-next = AllZip-from_places (Sought doc) initial (set now index q) (length-set now index q ∙ h.size) (λ k d within. elim (cases_lt k (index + 1)) [
      | inl before ↦ moved_next k d before
      | inr after ↦ rw (rest_next k d after) (Sought-same doc (get_or initial k d))
    ])

    pub BroughtUpTo-next : Some doc ≡ slice_get (remaining_of q) 0 → BroughtUpTo doc initial (set now index q) (index + 1)
    BroughtUpTo-next first = record {
      size = length-set now index q ∙ h.size;
      moved = moved_next;
      stand = λ k d low. elim (cases_lt k index) [
        | inl before ↦
            let other : k ≢ index = omega arith in
            rw get_or-set_other (h.stand k d before)
        | inr here ↦
            let same : k ≡ index = omega (arith, low, here) in
            rw (same, get_or-set_same) (sym first)
      ];
      rest = rest_next;
    }

-- the one that was brought last has nothing before its first document
module _ (now : List Posting) (index : ℕ) (q : Posting) (inside : index < length now) where
  lacking : (d : ℕ) → has (remaining_of q) d ≡ false → in_all (each_remaining (set now index q)) d ≡ false
  lacking d lacks =
      let there : index < length (set now index q) = omega (arith, inside, length-set now index q) in
      in_all-lacking (each_remaining (set now index q)) index d (omega (arith, there, length-map (set now index q) remaining_of))
      (each_at (set now index q) index [] there (λ xs. has xs d ≡ false) (λ e. rw get_or-set_same lacks))

  pub IsAhead-none : (doc : ℕ) → None ≡ slice_get (remaining_of q) 0 → IsAhead doc (each_remaining (set now index q)) None
  IsAhead-none doc none d high = lacking d (has-none (remaining_of q) d none)

  pub IsAhead-later : (doc next : ℕ) (xs : List ℕ) → remaining_of q ≡ at_least doc xs → IsStrictlyIncreasing (remaining_of q) →
      Some next ≡ slice_get (remaining_of q) 0 → next ≢ doc → IsAhead doc (each_remaining (set now index q)) (Some next)
  IsAhead-later doc next xs is rises first other = (
    first-at_least doc xs next (first ∙ ap (λ ys. slice_get ys 0) is),
    λ same. absurd (other same),
    λ d high low. lacking d (has-before_first (remaining_of q) next d rises first low),
  )

-- on the way from two states of the cursors to what they have in common
pub record Aligning (lead : Posting) (others : List Posting) (lead_now : Posting) (now : List Posting) : Type 0 where
  pub same : common (remaining_of lead_now) (each_remaining now) ≡ common (remaining_of lead) (each_remaining others)
  pub few : MayBeBrought lead_now now
  pub lead_follows : Follows lead lead_now
  pub others_follow : AllZip Follows others now

pub all_follow-same : (ps : List Posting) → AllZip Follows ps ps
all_follow-same [] = tt
all_follow-same (p ∷ ps) = (Follows-same p, all_follow-same ps)

pub all_follow-trans : (ps qs rs : List Posting) → AllZip Follows ps qs → AllZip Follows qs rs → AllZip Follows ps rs
all_follow-trans [] [] rs h k = k
all_follow-trans [] (q ∷ qs) rs h k = absurd h
all_follow-trans (p ∷ ps) [] rs h k = absurd h
all_follow-trans (p ∷ ps) (q ∷ qs) [] h k = absurd k
all_follow-trans (p ∷ ps) (q ∷ qs) (r ∷ rs) h k = (Follows-trans p q r h.0 k.0, all_follow-trans ps qs rs h.1 k.1)

all_follow-brought : (doc : ℕ) (ps qs : List Posting) → Brought doc ps qs → AllZip Follows ps qs
all_follow-brought doc [] [] h = tt
all_follow-brought doc [] (q ∷ qs) h = absurd h
all_follow-brought doc (p ∷ ps) [] h = absurd h
all_follow-brought doc (p ∷ ps) (q ∷ qs) h = (h.0.follows, all_follow-brought doc ps qs h.1)

in_all-brought : (doc : ℕ) (ps qs : List Posting) → Brought doc ps qs → (d : ℕ) → doc ≤ d → in_all (each_remaining qs) d ≡ in_all (each_remaining ps) d
in_all-brought doc [] [] h d high = refl
in_all-brought doc [] (q ∷ qs) h d high = absurd h
in_all-brought doc (p ∷ ps) [] h d high = absurd h
in_all-brought doc (p ∷ ps) (q ∷ qs) h d high =
    ap₂ (λ a b. a && b) (sym (has-at_least doc (remaining_of q) d high) ∙ ap (λ xs. has xs d) h.0.same ∙ has-at_least doc (remaining_of p) d high)
    (in_all-brought doc ps qs h.1 d high)

few-brought : (doc : ℕ) (lead : Posting) (ps qs : List Posting) → All (λ p. p.opened ≤ members_reached lead) ps → Brought doc ps qs → AreFew lead qs
few-brought doc lead ps qs few h k d inside =
    let same = length_all_zip (Sought doc) ps qs h in
    let at = AllZip-get_or (Sought doc) ps qs k d d h (omega (arith, inside, same)) in
    omega (arith, at.once, few k d (omega (arith, inside, same)))

-- the leading cursor moved on: each of the others may open one block more
pub MayBeBrought-moved : (lead moved : Posting) (others : List Posting) → moved.blocks ≡ lead.blocks →
    length (remaining_of moved) < length (remaining_of lead) → AreFew lead others → MayBeBrought moved others
MayBeBrought-moved lead moved others blocks less few =
    let whole : length (members_of moved) ≡ length (members_of lead) = ap (λ bs. length (flat_map (λ block. block) bs)) blocks in
    let within = remaining_within lead in
    record {
      few = λ k d inside. omega (arith, whole, within, less, few k d inside);
      fewer = λ some k d inside. omega (arith, some, whole, within, less, few k d inside);
    }

module _ (lead : Posting) (others : List Posting) (now next : Posting) (before after : List Posting) (doc : ℕ) (h : Aligning lead others now before)
    (rises : IsStrictlyIncreasing (remaining_of now)) (first : Some doc ≡ slice_get (remaining_of now) 0) (brought : Brought doc before after) where
  up : Rises doc (remaining_of now)
  up = Rises-from_first (remaining_of now) doc rises first

  some_left : (xs : List ℕ) → Some doc ≡ slice_get xs 0 → 0 < length xs
  some_left [] is = absurd (let e : Some doc ≡ None = is in cc)
  some_left (x ∷ xs) is = omega arith

  pub common-brought : common (remaining_of now) (each_remaining after) ≡ common (remaining_of lead) (each_remaining others)
  common-brought = filter-same doc (in_all (each_remaining after)) (in_all (each_remaining before)) (remaining_of now) up
      (in_all-brought doc before after brought) ∙ h.same

  pub AreFew-brought : AreFew now after
  AreFew-brought = few-brought doc now before after (h.few.fewer (some_left (remaining_of now) first)) brought

  pub others-brought : AllZip Follows others after
  others-brought = all_follow-trans others before after h.others_follow (all_follow-brought doc before after brought)

  pub fewer_left : (target : ℕ) → IsAhead doc (each_remaining after) (Some target) → target ≢ doc → remaining_of next ≡ at_least target (remaining_of now) →
      length (remaining_of next) < length (remaining_of now)
  fewer_left target ahead other is = rw is (fewer-at_least target (remaining_of now) doc first (omega (arith, ahead.0, other)))

  pub Aligning-sought : (target : ℕ) → IsAhead doc (each_remaining after) (Some target) → target ≢ doc →
      remaining_of next ≡ at_least target (remaining_of now) → Follows now next → Aligning lead others next after
  Aligning-sought target ahead other is follows = record {
    same = ap (λ xs. common xs (each_remaining after)) is ∙ filter-ahead doc target (in_all (each_remaining after)) (remaining_of now) up ahead.2
        ∙ common-brought;
    few = MayBeBrought-moved now next after follows.blocks (fewer_left target ahead other is) AreFew-brought;
    lead_follows = Follows-trans lead now next h.lead_follows follows;
    others_follow = others-brought;
  }

  pub Aligning-finished : IsAhead doc (each_remaining after) None → remaining_of next ≡ [] → Follows now next → Aligning lead others next after
  Aligning-finished none is follows = record {
    same = ap (λ xs. common xs (each_remaining after)) is ∙ sym (filter-none doc (in_all (each_remaining after)) (remaining_of now) up none) ∙ common-brought;
    few = MayBeBrought-moved now next after follows.blocks (let less : length (remaining_of next) < length (remaining_of now) =
        omega (arith, ap length is, some_left (remaining_of now) first) in less) AreFew-brought;
    lead_follows = Follows-trans lead now next h.lead_follows follows;
    others_follow = others-brought;
  }

pub Aligning-start : (lead : Posting) (others : List Posting) → MayBeBrought lead others → Aligning lead others lead others
Aligning-start lead others few = record {
  same = refl;
  few = few;
  lead_follows = Follows-same lead;
  others_follow = all_follow-same others;
}

-- each of the others may be brought to the leading cursor's first document, where it opened its first block alone
pub MayBeBrought-fresh : (lead : Posting) (others : List Posting) → All (λ p. p.opened ≤ 1) others → MayBeBrought lead others
MayBeBrought-fresh lead others fresh = record {
  few = λ k d inside. omega (arith, fresh k d inside);
  fewer = λ some k d inside. omega (arith, some, fresh k d inside, remaining_within lead);
}

fewer_stepped : (xs ys : List ℕ) → ys ≡ drop 1 xs → 0 < length xs → length ys < length xs
fewer_stepped [] ys is some = absurd (omega arith)
fewer_stepped (x ∷ xs) ys is some = omega (arith, ap length is)

pub MayBeBrought-advanced : (lead moved : Posting) (others : List Posting) → AreFew lead others → Follows lead moved →
    remaining_of moved ≡ drop 1 (remaining_of lead) → MayBeBrought moved others
MayBeBrought-advanced lead moved others few follows is = elim (cases_lt 0 (length (remaining_of lead))) [
  | inl some ↦ MayBeBrought-moved lead moved others follows.blocks (fewer_stepped (remaining_of lead) (remaining_of moved) is some) few
  | inr none ↦
      let whole : length (members_of moved) ≡ length (members_of lead) = ap (λ bs. length (flat_map (λ block. block) bs)) follows.blocks in
      let nothing : length (remaining_of moved) ≡ 0 = omega (arith, ap length is, length-drop 1 (remaining_of lead), none) in
      record {
        few = λ k d inside. omega (arith, few k d inside, whole, nothing, none);
        fewer = λ some. absurd (omega (arith, some, nothing));
      }
]

pub MayBeBrought-sought : (lead moved : Posting) (others : List Posting) (first target : ℕ) → AreFew lead others → Follows lead moved →
    remaining_of moved ≡ at_least target (remaining_of lead) → Some first ≡ slice_get (remaining_of lead) 0 → first < target → MayBeBrought moved others
MayBeBrought-sought lead moved others first target few follows is first_is low =
    MayBeBrought-moved lead moved others follows.blocks (rw is (fewer-at_least target (remaining_of lead) first first_is low)) few

pub AllFollow-same : (c : Conjoined) → AllFollow c c
AllFollow-same c = record { lead = Follows-same c.lead; others = all_follow-same c.others }

-- cursors that stand at a document have it
in_all-stand : (doc : ℕ) (others : List Posting) → StandAt doc others → in_all (each_remaining others) doc ≡ true
in_all-stand doc [] h = refl
in_all-stand doc (p ∷ ps) h =
    ap₂ (λ a b. a && b) (has-first (remaining_of p) doc (sym (All-head (λ q. slice_get (remaining_of q) 0 ≡ Some doc) p ps h)))
    (in_all-stand doc ps (All-tail (λ q. slice_get (remaining_of q) 0 ≡ Some doc) p ps h))

-- if all are at the same document, the first document is one of all
first_passes : (others : List Posting) (xs : List ℕ) → ((doc : ℕ) → slice_get xs 0 ≡ Some doc → StandAt doc others) →
    FirstPasses (in_all (each_remaining others)) xs
first_passes others [] h = tt
first_passes others (x ∷ xs) h = in_all-stand x others (h x refl)

pub together-passes : (lead : Posting) (others : List Posting) → StandTogether lead others → FirstPasses (in_all (each_remaining others)) (remaining_of lead)
together-passes lead others h = first_passes others (remaining_of lead) h

-- if something is left in common, all are at its first
standing_at : (others : List Posting) (xs : List ℕ) → ((doc : ℕ) → slice_get xs 0 ≡ Some doc → StandAt doc others) →
    0 < length (common xs (each_remaining others)) → (doc : ℕ) × (slice_get (common xs (each_remaining others)) 0 ≡ Some doc) × StandAt doc others
standing_at others [] h some = absurd (omega (arith, some))
standing_at others (x ∷ xs) h some = (x, sym (filter-first (in_all (each_remaining others)) (x ∷ xs) (in_all-stand x others (h x refl))), h x refl)

pub stand_at : (lead : Posting) (others : List Posting) → StandTogether lead others → 0 < length (common_of (record { lead = lead; others = others })) →
    (doc : ℕ) × (slice_get (common_of (record { lead = lead; others = others })) 0 ≡ Some doc) × StandAt doc others
stand_at lead others h some = standing_at others (remaining_of lead) h some

pub AllFollow-trans : (c d e : Conjoined) → AllFollow c d → AllFollow d e → AllFollow c e
AllFollow-trans c d e h k =
    record { lead = Follows-trans c.lead d.lead e.lead h.lead k.lead; others = all_follow-trans c.others d.others e.others h.others k.others }

-- the members up to the first that remains
reached_front : (next : ℕ) (front : List ℕ) (r : ℕ) (rest : List ℕ) → Rises next (front ++ r ∷ rest) →
    (next ≤ r) × (reached (front ++ r ∷ rest) (Some r) ≡ length front + 1)
reached_front next [] r rest h =
    let none : filter (λ d. nat_le d r) rest ≡ [] = filter-none (suc r) (λ d. nat_le d r) rest h.1 (λ d high. lt-leb d r high) in (
      h.0,
      ap (λ b. length (cond b (r ∷ filter (λ d. nat_le d r) rest) (filter (λ d. nat_le d r) rest))) (le-leb r r (omega arith))
          ∙ omega (arith, ap length none),
    )
reached_front next (f ∷ front) r rest h =
    let below = filter (λ d. nat_le d r) (front ++ r ∷ rest) in
    let later = reached_front (suc f) front r rest h.1 in
    (omega (arith, h.0, later.0), ap (λ b. length (cond b (f ∷ below) below)) (le-leb f r (omega (arith, later.0))) ∙ omega (arith, later.1))

reached_split : (front rest : List ℕ) → Rises 0 (front ++ rest) → length (front ++ rest) - (length rest - 1) ≡ reached (front ++ rest) (slice_get rest 0)
reached_split front [] h = omega arith
reached_split front (r ∷ rest) h = omega (arith, (reached_front 0 front r rest h).1, length-append front (r ∷ rest))

-- the leading cursor reached the members up to the first document of all
reached_first : (lead : Posting) (others : List Posting) → IsStrictlyIncreasing (members_of lead) → StandTogether lead others →
    members_reached lead ≡ reached (members_of lead) (slice_get (common_of (record { lead = lead; others = others })) 0)
reached_first lead others rises together =
    let split = members-split lead in
    let first = filter-first (in_all (each_remaining others)) (remaining_of lead) (together-passes lead others together) in
    ap (λ xs. length xs - (length (remaining_of lead) - 1)) split.1
    ∙ reached_split split.0 (remaining_of lead) (subst (Rises 0) split.1 (Rises-from_increasing (members_of lead) rises))
    ∙ ap₂ reached (sym split.1) first

-- the bound on the openings of all
pub openings_bound : (lead : Posting) (others : List Posting) → IsStrictlyIncreasing (members_of lead) → StandTogether lead others → AreFew lead others →
    lead.opened ≤ length lead.blocks →
    openings_of (record { lead = lead; others = others }) ≤ most_at (bound_of (record { lead = lead; others = others }))
    (slice_get (common_of (record { lead = lead; others = others })) 0)
openings_bound lead others rises together few within =
    let all : openings_of (record { lead = lead; others = others }) ≤ length lead.blocks + length others * (members_reached lead + 1) =
    omega (arith, within, sum_by-le (λ p. p.opened) (members_reached lead + 1) others few) in
    subst (λ n. openings_of (record { lead = lead; others = others }) ≤ length lead.blocks + length others * (n + 1)) (reached_first lead others rises together)
    all

-- no more are reached anywhere than at the end
pub most-at_end : (b : Bound) (doc : Option ℕ) → most_at b doc ≤ most_at b None
most-at_end b None = omega arith
most-at_end b (Some doc) =
    let le : reached b.lead (Some doc) + 1 ≤ length b.lead + 1 =
    omega (arith, length-filter (λ d. nat_le d doc) b.lead, count_by-le-length (λ d. nat_le d doc) b.lead) in
    let times = mul-le b.others (reached b.lead (Some doc) + 1) b.others (length b.lead + 1) (omega arith) le in
    omega (arith, times)

-- a leading list alone
all_kept : (xs : List ℕ) → filter (in_all []) xs ≡ xs
all_kept [] = refl
all_kept (x ∷ xs) = ap (λ ys. x ∷ ys) (all_kept xs)

module _ (lead : Posting) (others : List Posting) (none : others ≡ []) where
  pub common_alone : common (remaining_of lead) (each_remaining others) ≡ remaining_of lead
  common_alone = ap (λ ps. common (remaining_of lead) (each_remaining ps)) none ∙ all_kept (remaining_of lead)

  pub IsConjoined-alone : IsConjoined lead others
  IsConjoined-alone = subst (IsConjoined lead) (sym none) (record {
    together = λ doc first. All-nil (λ p. slice_get (remaining_of p) 0 ≡ Some doc);
    few =
        All-nil (λ p. p.opened ≤ members_reached lead + 1);
  })
