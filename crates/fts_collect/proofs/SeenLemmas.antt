-- How the hits of a cursor are seen, some at a time.
use Rattle.std.proofs.Common.{◌≡◌, ℕ, zero, suc, ◌<◌, List, [], ◌∷◌, ◌++◌, take, drop, arith}
use Rattle.std.proofs.Common.{refl, sym, ap, subst, ◌∙◌, append_assoc}
use Rattle.std.proofs.Common.{All}
use Rattle.std.proofs.lemmas.List.{take-append-drop}
use Rattle.std.proofs.lemmas.List.Elements.{All-tail}
use Rattle.itertools.proofs.KMergeLemmas.{All-front}
use Rattle.fts_model.specs.declared.query.Request.{Request}
use Rattle.fts_postings.specs.Takes.{Takes}
use Rattle.fts_segment.specs.Segments.{SegmentValue}
use Rattle.fts_parts.specs.declared.seen.Seen.{Seen}
use Rattle.fts_parts.specs.Collected.{HasSeen}
use Rattle.fts_collect.specs.Internals.Taken.{IsUnderWay}

-- where nothing was taken, nothing was left
pub none_taken : (left next written : List ℕ) (n : ℕ) → Takes left next written n → n ≡ 0 → left ≡ []
none_taken [] next written n taken none = refl
none_taken (x ∷ xs) next written n taken none = absurd (let some : 0 < n = taken.some (omega arith) in omega (arith, some, none))

-- where none of the first hits is at hand, there are no hits
no_first : (n : ℕ) (xs : List ℕ) → (n ≡ 0 → xs ≡ []) → take n xs ≡ [] → drop n xs ≡ []
no_first zero xs some none = some refl
no_first (suc n) [] some none = refl
no_first (suc n) (x ∷ xs) some none = cc

-- the first hits are at hand, and none were seen
pub under_way-first : (segment : SegmentValue) (request : Request) (all docs remaining : List ℕ) (seen : Seen) (n : ℕ) → HasSeen segment request [] seen →
    docs ≡ take n all → remaining ≡ drop n all → (n ≡ 0 → all ≡ []) → IsUnderWay segment request all docs remaining seen
under_way-first segment request all docs remaining seen n none at rest some = record {
  before = [];
  seen_is = none;
  rest = ap (λ xs. xs ++ remaining) at ∙ ap (λ xs. take n all ++ xs) rest ∙ take-append-drop n all;
  end = λ empty. rest ∙ no_first n all some (sym at ∙ empty);
}

-- those at hand were seen, and the next are at hand
pub under_way-next : (segment : SegmentValue) (request : Request) (all docs remaining more others : List ℕ) (old new : Seen) (n : ℕ) →
    IsUnderWay segment request all docs remaining old →
    ((before : List ℕ) → HasSeen segment request before old → HasSeen segment request (before ++ docs) new) →
    more ≡ take n remaining → others ≡ drop n remaining → (n ≡ 0 → remaining ≡ []) → IsUnderWay segment request all more others new
under_way-next segment request all docs remaining more others old new n under taken at rest some = record {
  before = under.before ++ docs;
  seen_is = taken under.before under.seen_is;
  rest =
      ap (λ xs. (under.before ++ docs) ++ xs) (ap (λ xs. xs ++ others) at ∙ ap (λ xs. take n remaining ++ xs) rest ∙ take-append-drop n remaining)
      ∙ append_assoc under.before docs remaining
      ∙ under.rest;
  end = λ empty. rest ∙ no_first n remaining some (sym at ∙ empty);
}

-- what holds of elements holds of those behind the first
All-behind : (P : ℕ → Type 0) (xs ys : List ℕ) → All P (xs ++ ys) → All P ys
All-behind P [] ys ps = ps
All-behind P (x ∷ xs) ys ps = All-behind P xs ys (All-tail P x (xs ++ ys) ps)

-- what holds of all hits holds of those at hand
pub under_way-all : (P : ℕ → Type 0) (segment : SegmentValue) (request : Request) (all docs remaining : List ℕ) (seen : Seen) →
    IsUnderWay segment request all docs remaining seen →
    All P all → All P docs
under_way-all P segment request all docs remaining seen under ps =
    let Q : List ℕ → Type 0 = All P in
    All-front P docs remaining (All-behind P under.before (docs ++ remaining) (subst Q (sym under.rest) ps))
