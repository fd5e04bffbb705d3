-- The parts of a cursor, one after the other.
use Rattle.std.proofs.Common.{◌≡◌, ◌≢◌, ℕ, zero, suc, ◌+◌, ◌<◌, ◌≤◌, Option, Some, None, true, false, ◌&&◌, List, [], ◌∷◌, ◌++◌, length, get_or, set, take}
use Rattle.std.proofs.Common.{refl, sym, ap, ap₂, ◌∙◌, inl, inr, arith}
use Rattle.std.specs.List.{AllZip, slice_get}
use Rattle.std.specs.List.Sorted.{IsStrictlyIncreasing}
use Rattle.std.proofs.lemmas.Bool.{cases_lt}
use Rattle.std.proofs.lemmas.List.{get_or-set_same, get_or-set_other, length-set, length-map, get_or_default, map-append, take_more_set}
use Rattle.fts_postings.specs.Bounds.{Bound, most_at}
use Rattle.fts_postings.specs.Remaining.{at_least}
use Rattle.fts_postings.specs.Sets.{IsLeast, has, in_all, union, with_all}
use Rattle.fts_postings.specs.Conjoined.{IsAhead}
use Rattle.fts_cursor.specs.Standing.{at_most}
use Rattle.fts_cursor.specs.TreeValues.{Left, Narrowed, TreeContinues, TreeValue, beside, heights, remains, together}
use Rattle.fts_postings.proofs.RemainingLemmas.{at_least-at_least, first-at_least}
use Rattle.fts_postings.proofs.SetLemmas.{has-before_first, has-first, has-none, in_all-lacking, in_all-each, has-at_least}
use Rattle.fts_postings.proofs.UnionLemmas.{at_least-with_all}
use Rattle.fts_postings.proofs.ConjoinedLemmas.{AllZip-from_places}

-- the first parts stand in a relation to what they were, and the others are as they were
pub record UpTo (R : TreeValue → TreeValue → Type 0) (initial now : List TreeValue) (index : ℕ) : Type 0 where
  pub size : length now ≡ length initial
  pub moved : (k : ℕ) (d : TreeValue) → k < index → R (get_or initial k d) (get_or now k d)
  pub rest : (k : ℕ) (d : TreeValue) → index ≤ k → get_or now k d ≡ get_or initial k d

pub UpTo-none : (R : TreeValue → TreeValue → Type 0) (parts : List TreeValue) → UpTo R parts parts 0
UpTo-none R parts = record { size = refl; moved = λ k d low. absurd (omega (arith, low)); rest = λ k d high. refl }

module _ (R : TreeValue → TreeValue → Type 0) (initial now : List TreeValue) (index : ℕ) (h : UpTo R initial now index) where
  pub UpTo-all : length now ≤ index → AllZip R initial now
  UpTo-all all = AllZip-from_places R initial now h.size (λ k d inside. h.moved k d (omega (arith, inside, all, h.size)))

  module _ (d₀ q : TreeValue) (inside : index < length now) (step : R (get_or now index d₀) q) where
    pub UpTo-next : UpTo R initial (set now index q) (index + 1)
    UpTo-next = record {
      size = length-set now index q ∙ h.size;
      moved = λ k d low. elim (cases_lt k index) [
        | inl before ↦
            let other : k ≢ index = omega arith in
            rw get_or-set_other (h.moved k d before)
        | inr here ↦
            let same : k ≡ index = omega (arith, low, here) in
            rw (same, get_or-set_same, ← h.rest index d (omega arith), get_or_default now index d d₀ inside) step
      ];
      rest = λ k d high.
          let other : k ≢ index = omega arith in
          get_or-set_other now index k q d other ∙ h.rest k d (omega arith);
    }

    pub UpTo-exit : ((s : TreeValue) → R s s) → AllZip R initial (set now index q)
    UpTo-exit same =
        let next = UpTo-next in
        AllZip-from_places R initial (set now index q) next.size (λ k d within. elim (cases_lt k (index + 1)) [
          | inl before ↦ next.moved k d before
          | inr after ↦ rw (next.rest k d after) (same (get_or initial k d))
        ])

pub height_within : (parts : List TreeValue) (k : ℕ) (d : TreeValue) → k < length parts → (get_or parts k d).height ≤ heights parts
height_within [] k d inside = absurd (omega arith)
height_within (p ∷ ps) zero d inside = omega arith
height_within (p ∷ ps) (suc k) d inside = omega (arith, height_within ps k d (omega (arith, inside)))

-- a part that wasn't reached yet is as deep as it was
pub height_ahead : (R : TreeValue → TreeValue → Type 0) (initial now : List TreeValue) (index : ℕ) (d : TreeValue) → UpTo R initial now index →
    index < length now → (get_or now index d).height ≤ heights initial
height_ahead R initial now index d h inside =
    rw (h.rest index d (omega arith)) (height_within initial index d (omega (arith, inside, h.size)))

pub TreeContinues-same : (s : TreeValue) → TreeContinues s s
TreeContinues-same s = record { continues = record { bound = refl; list = refl; more = omega arith }; height = refl }

pub TreeContinues-trans : (s t u : TreeValue) → TreeContinues s t → TreeContinues t u → TreeContinues s u
TreeContinues-trans s t u h k = record {
  continues = record { bound = k.bound ∙ h.bound; list = k.list ∙ h.list; more = omega (arith, h.more, k.more) };
  height = k.height ∙ h.height;
}

pub TreeContinues-beside : (a b s t : TreeValue) (before after : List ℕ) → TreeContinues a s → TreeContinues b t →
    TreeContinues (beside a b before) (beside s t after)
TreeContinues-beside a b s t before after h k = record {
  continues = record {
    bound = ap₂ (λ (x : Bound) (y : Bound). at_most (most_at x None + most_at y None)) h.bound k.bound;
    list = refl;
    more = omega (arith, h.more, k.more);
  };
  height = omega (arith, h.height, k.height);
}

pub TreeContinues-together : (R : TreeValue → TreeValue → Type 0) → ((s t : TreeValue) → R s t → TreeContinues s t) → (xs ys : List TreeValue) →
    AllZip R xs ys → TreeContinues (together xs) (together ys)
TreeContinues-together R at [] [] h = TreeContinues-same (together [])
TreeContinues-together R at [] (y ∷ ys) h = absurd h
TreeContinues-together R at (x ∷ xs) [] h = absurd h
TreeContinues-together R at (x ∷ xs) (y ∷ ys) h =
    let first = at x y h.0 in
    let rest = TreeContinues-together R at xs ys h.1 in
    record {
      continues = record {
        bound = ap₂ (λ (b : Bound) (n : ℕ). at_most (most_at b None + n)) first.bound (ap (λ (b : Bound). b.blocks) rest.bound);
        list = refl;
        more =
            omega (arith, first.more, rest.more);
      };
      height = omega (arith, first.height, rest.height);
    }

-- one search of each: how far it came
pub record NarrowedUpTo (doc : ℕ) (initial now : List TreeValue) (index : ℕ) : Type 0 where
  pub up_to : UpTo (Narrowed doc) initial now index
  pub stand : (k : ℕ) (d : TreeValue) → k < index → has (get_or now k d).remaining doc ≡ true

pub Narrowed-same : (doc : ℕ) (s : TreeValue) → Narrowed doc s s
Narrowed-same doc s = record { same = refl; continues = TreeContinues-same s }

pub Narrowed-seek : (doc : ℕ) (s t : TreeValue) → t.remaining ≡ at_least doc s.remaining → TreeContinues s t → Narrowed doc s t
Narrowed-seek doc s t is continues = record { same = ap (at_least doc) is ∙ at_least-at_least doc s.remaining; continues = continues }

each_at : (now : List TreeValue) (k : ℕ) (xs : List ℕ) → k < length now → (P : List ℕ → Type 0) → ((d : TreeValue) → P (get_or now k d).remaining) →
    P (get_or (remains now) k xs)
each_at [] k xs inside P h = absurd (omega arith)
each_at (p ∷ ps) zero xs inside P h = h p
each_at (p ∷ ps) (suc k) xs inside P h = each_at ps k xs (omega (arith, inside)) P h

pub all_stand : (doc : ℕ) (initial now : List TreeValue) (index : ℕ) → NarrowedUpTo doc initial now index → length now ≤ index → in_all (remains now) doc ≡ true
all_stand doc initial now index h all = in_all-each (remains now) doc (λ k inside.
    let within : k < length now = omega (arith, inside, length-map now (λ s. s.remaining)) in
    each_at now k [] within (λ xs. has xs doc ≡ true) (λ d. h.stand k d (omega (arith, within, all))))

pub NarrowedUpTo-next : (doc : ℕ) (initial now : List TreeValue) (index : ℕ) → NarrowedUpTo doc initial now index → (d₀ q : TreeValue) → index < length now →
    Narrowed doc (get_or now index d₀) q → Some doc ≡ slice_get q.remaining 0 → NarrowedUpTo doc initial (set now index q) (index + 1)
NarrowedUpTo-next doc initial now index h d₀ q inside step first = record {
  up_to = UpTo-next (Narrowed doc) initial now index h.up_to d₀ q inside step;
  stand = λ k d low. elim (cases_lt k index) [
    | inl before ↦
        let other : k ≢ index = omega arith in
        rw get_or-set_other (h.stand k d before)
    | inr here ↦
        let same : k ≡ index = omega (arith, low, here) in
        rw (same, get_or-set_same) (has-first q.remaining doc first)
  ];
}

module _ (now : List TreeValue) (index : ℕ) (q : TreeValue) (inside : index < length now) where
  lacking : (d : ℕ) → has q.remaining d ≡ false → in_all (remains (set now index q)) d ≡ false
  lacking d lacks =
      let there : index < length (set now index q) = omega (arith, inside, length-set now index q) in
      in_all-lacking (remains (set now index q)) index d (omega (arith, there, length-map (set now index q) (λ s. s.remaining)))
      (each_at (set now index q) index [] there (λ xs. has xs d ≡ false) (λ e. rw get_or-set_same lacks))

  pub ahead-none : (doc : ℕ) → None ≡ slice_get q.remaining 0 → IsAhead doc (remains (set now index q)) None
  ahead-none doc none d high = lacking d (has-none q.remaining d none)

  pub ahead-later : (doc next : ℕ) (xs : List ℕ) → q.remaining ≡ at_least doc xs → IsStrictlyIncreasing q.remaining → Some next ≡ slice_get q.remaining 0 →
      next ≢ doc → IsAhead doc (remains (set now index q)) (Some next)
  ahead-later doc next xs is rises first other = (
    first-at_least doc xs next (first ∙ ap (λ ys. slice_get ys 0) is),
    λ same. absurd (other same),
    λ d high low. lacking d (has-before_first q.remaining next d rises first low),
  )

pub in_all-narrowed : (doc : ℕ) (ps qs : List TreeValue) → AllZip (Narrowed doc) ps qs → (d : ℕ) → doc ≤ d → in_all (remains qs) d ≡ in_all (remains ps) d
in_all-narrowed doc [] [] h d high = refl
in_all-narrowed doc [] (q ∷ qs) h d high = absurd h
in_all-narrowed doc (p ∷ ps) [] h d high = absurd h
in_all-narrowed doc (p ∷ ps) (q ∷ qs) h d high =
    ap₂ (λ a b. a && b) (sym (has-at_least doc q.remaining d high) ∙ ap (λ xs. has xs d) h.0.same ∙ has-at_least doc p.remaining d high)
    (in_all-narrowed doc ps qs h.1 d high)

-- one search of each for a target, and the least of the documents found
pub record LeftUpTo (target : ℕ) (initial now : List TreeValue) (least : Option ℕ) (index : ℕ) : Type 0 where
  pub up_to : UpTo (Left target) initial now index
  pub least_is : IsLeast least (remains (take index now))

pub union-left : (t : ℕ) (ps qs : List TreeValue) → AllZip (Left t) ps qs → union (remains qs) ≡ at_least t (union (remains ps))
union-left t [] [] h = refl
union-left t [] (q ∷ qs) h = absurd h
union-left t (p ∷ ps) [] h = absurd h
union-left t (p ∷ ps) (q ∷ qs) h =
    ap₂ with_all h.0.remaining (union-left t ps qs h.1) ∙ sym (at_least-with_all t p.remaining (union (remains ps)))

-- the parts up to one that was written, with what remains of it
pub remains-more : (now : List TreeValue) (index : ℕ) (q : TreeValue) → index < length now →
    remains (take (index + 1) (set now index q)) ≡ remains (take index now) ++ q.remaining ∷ []
remains-more now index q inside = ap remains (take_more_set now index q inside) ∙ map-append (λ s. s.remaining) (take index now) (q ∷ [])
