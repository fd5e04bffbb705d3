-- The origins of the documents of a merged segment.
use Rattle.std.proofs.Common.{◌≡◌, ◌≢◌, ◌+◌, ◌<◌, ◌≤◌, ℕ, suc, Bool, true, false, cond, List, [], ◌∷◌, ◌++◌, length, count_by, refl, sym, ap, subst, ◌∙◌, arith}
use Rattle.std.proofs.Common.{All, AllPairs}
use Rattle.std.proofs.lemmas.List.{length-append}
use Rattle.std.proofs.lemmas.List.Elements.{All-nil, All-cons, All-append, All-weaker, All-head, All-tail}
use Rattle.std.proofs.lemmas.List.Kept.{AllPairs-cons}
use Rattle.std.proofs.lemmas.List.Sums.{sum_by-cons}
use Rattle.fts_merge.specs.declared.origin.Origin.{Origin}
use Rattle.fts_segment.specs.Contents.{content_of}
use Rattle.fts_merge.specs.Merges.{SourceValue, HasBits, IsMerged, live_count, contents, origins_in, origins_from, merge_of}
use Rattle.fts_segment.proofs.SourceLemmas.{length-where_set}
use Rattle.fts_merge.proofs.MergeLemmas.{count_of, origins_behind, origins-cons}

-- each set bit has an origin
pub length-origins_behind : (source n : ℕ) (bits : List Bool) → length (origins_behind source n bits) ≡ count_by (λ bit. bit) bits
length-origins_behind source n [] = refl
length-origins_behind source n (true ∷ bits) =
    ap length (origins-cons source n true bits) ∙ omega (arith, length-origins_behind source (n + 1) bits, sum_by-cons (λ (bit : Bool). cond bit 1 0) true bits)
length-origins_behind source n (false ∷ bits) =
    ap length (origins-cons source n false bits) ∙ omega (
      arith,
      length-origins_behind source (n + 1) bits,
      sum_by-cons (λ (bit : Bool). cond bit 1 0) false
          bits,
    )

length-origins_from : (n : ℕ) (ss : List SourceValue) → length (origins_from n ss) ≡ live_count ss
length-origins_from n [] = refl
length-origins_from n (s ∷ ss) =
    omega (
      arith,
      length-append (origins_in n s.live) (origins_from (n + 1) ss),
      length-origins_behind n 0 s.live,
      length-origins_from (n + 1) ss,
      sum_by-cons
          count_of s ss,
    )

-- the sources' content has each live document once
pub length-contents_of : (ss : List SourceValue) → All HasBits ss → length (contents ss) ≡ live_count ss
length-contents_of [] bits = refl
length-contents_of (s ∷ ss) bits =
    let here : HasBits s = All-head HasBits s ss bits in
    omega (
      arith,
      length-append (content_of s.segment s.live) (contents ss),
      length-where_set s.segment.documents s.live here,
      length-contents_of ss
          (All-tail HasBits s ss bits),
      sum_by-cons count_of s ss,
    )

-- the origins in a source have its index, and numbers from the first on
abbrev IsFrom : ℕ → ℕ → Origin → Type 0
IsFrom source n o = (o.source ≡ source) × (n ≤ o.document)

from_source : (source n : ℕ) (bits : List Bool) → All (IsFrom source n) (origins_behind source n bits)
from_source source n [] = All-nil (IsFrom source n)
from_source source n (bit ∷ bits) =
    let rest = All-weaker (IsFrom source (n + 1)) (IsFrom source n) (λ o h. (h.0, omega (arith, h.1))) (origins_behind source (n + 1) bits)
    (from_source source (n + 1) bits) in
    subst (All (IsFrom source n)) (sym (origins-cons source n bit bits))
    (elim bit as (λ b. All (IsFrom source n) (cond b (record { source = source; document = n } ∷ origins_behind source (n + 1) bits)
    (origins_behind source (n + 1) bits))) [
      | true ↦ All-cons (IsFrom source n) (record { source = source; document = n }) (origins_behind source (n + 1) bits) (refl, omega arith) rest
      | false ↦ rest
    ])

-- no two origins in a source are equal
once_in : (source n : ℕ) (bits : List Bool) → AllPairs (λ a b. a ≢ b) (origins_behind source n bits)
once_in source n [] = λ i j d lt within. absurd (omega (arith, within))
once_in source n (bit ∷ bits) =
    let R : Origin → Origin → Type 0 = λ a b. a ≢ b in
    let first : Origin = record { source = source; document = n } in
    let others = All-weaker (IsFrom source (n + 1)) (R first) (λ o h e. omega (arith, h.1, ap (λ (p : Origin). p.document) e))
    (origins_behind source (n + 1) bits) (from_source source (n + 1) bits) in
    subst (AllPairs R) (sym (origins-cons source n bit bits))
    (elim bit as (λ b. AllPairs R (cond b (first ∷ origins_behind source (n + 1) bits) (origins_behind source (n + 1) bits))) [
      | true ↦ AllPairs-cons R first (origins_behind source (n + 1) bits) others (once_in source (n + 1) bits)
      | false ↦ once_in source (n + 1) bits
    ])

-- appended lists are pairwise related if each is, and the members of both are
pairs_append : {X : Type 0} (R : X → X → Type 0) (xs ys : List X) → AllPairs R xs → AllPairs R ys → All (λ x. All (R x) ys) xs → AllPairs R (xs ++ ys)
pairs_append R [] ys p q apart = q
pairs_append R (x ∷ xs) ys p q apart =
    let behind : AllPairs R xs = λ i j d lt within. p (suc i) (suc j) d (omega (arith, lt)) (omega (arith, within)) in
    let front : All (R x) xs = λ k d within. p 0 (suc k) d (omega arith) (omega (arith, within)) in
    AllPairs-cons R x (xs ++ ys) (All-append (R x) xs ys front (All-head (λ x. All (R x) ys) x xs apart))
    (pairs_append R xs ys behind q (All-tail (λ x. All (R x) ys) x xs apart))

-- the origins are in the sources from the first to the last
abbrev IsAmong : ℕ → ℕ → Origin → Type 0
IsAmong first end o = (first ≤ o.source) × (o.source < end)

among_sources : (n end : ℕ) (ss : List SourceValue) → n + length ss ≡ end → All (IsAmong n end) (origins_from n ss)
among_sources n end [] e = All-nil (IsAmong n end)
among_sources n end (s ∷ ss) e =
    All-append (IsAmong n end) (origins_in n s.live) (origins_from (n + 1) ss)
    (All-weaker (IsFrom n 0) (IsAmong n end) (λ o h. (omega (arith, h.0), omega (arith, h.0, e))) (origins_in n s.live) (from_source n 0 s.live))
    (All-weaker (IsAmong (n + 1) end) (IsAmong n end) (λ o h. (omega (arith, h.0), h.1)) (origins_from (n + 1) ss)
    (among_sources (n + 1) end ss (omega (arith, e))))

once_from : (n : ℕ) (ss : List SourceValue) → AllPairs (λ a b. a ≢ b) (origins_from n ss)
once_from n [] = λ i j d lt within. absurd (omega (arith, within))
once_from n (s ∷ ss) =
    let R : Origin → Origin → Type 0 = λ a b. a ≢ b in
    let later = among_sources (n + 1) (n + 1 + length ss) ss refl in
    pairs_append R (origins_in n s.live) (origins_from (n + 1) ss) (once_in n 0 s.live) (once_from (n + 1) ss)
    (All-weaker (IsFrom n 0) (λ o. All (R o) (origins_from (n + 1) ss))
    (λ o h. All-weaker (IsAmong (n + 1) (n + 1 + length ss)) (R o) (λ p l e. omega (arith, h.0, l.0, ap (λ (q : Origin). q.source) e)) (origins_from (n + 1) ss)
    later)
    (origins_in n s.live) (from_source n 0 s.live))

pub IsMerged-merge_of : (ss : List SourceValue) → All HasBits ss → IsMerged (merge_of ss)
IsMerged-merge_of ss bits = record {
  paired = length-origins_from 0 ss ∙ sym (length-contents_of ss bits);
  once = once_from 0 ss;
  named = All-weaker (IsAmong 0 (length ss)) (λ (o : Origin). o.source < length ss) (λ o h. h.1) (origins_from 0 ss)
      (among_sources 0 (length ss) ss (omega arith));
}
