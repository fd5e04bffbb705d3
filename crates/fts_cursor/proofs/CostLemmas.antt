-- How many documents remain of several cursors at most, and that what leads doesn't change what cursors have in common.
use Rattle.std.proofs.Common.{◌≡◌, ℕ, zero, suc, ◌+◌, ◌<◌, ◌≤◌, ◌&&◌, List, [], ◌∷◌, All, length, get_or, take, drop, refl, sym, ap, subst, ◌∙◌, inl, inr}
use Rattle.std.proofs.Common.{arith, add-one}
use Rattle.std.specs.List.{remove}
use Rattle.std.specs.List.Sorted.{IsStrictlyIncreasing}
use Rattle.std.proofs.lemmas.Bool.{cases_lt}
use Rattle.std.proofs.lemmas.List.{get_or_default}
use Rattle.fts_postings.specs.Sets.{common, has, in_all, union}
use Rattle.fts_cursor.specs.TreeValues.{TreeValue, remains}
use Rattle.fts_sets.proofs.SetLemmas.{has-filter, same_members}
use Rattle.fts_postings.proofs.SetLemmas.{Rises-filter}
use Rattle.fts_postings.proofs.CostLemmas.{length-with_all}
use Rattle.fts_pack.proofs.DocumentsLemmas.{Rises-from_increasing}
use Rattle.fts_cursor.proofs.PhraseLeads.{and_swap}

-- how many documents remain of all, each counted as often as it does
abbrev pub all_remaining : List TreeValue → ℕ
all_remaining [] = 0
all_remaining (s ∷ parts) = length s.remaining + all_remaining parts

pub length-union : (parts : List TreeValue) → length (union (remains parts)) ≤ all_remaining parts
length-union [] = omega arith
length-union (s ∷ parts) = omega (arith, length-with_all s.remaining (union (remains parts)), length-union parts)

remaining-suc : (parts : List TreeValue) (index : ℕ) (d : TreeValue) → index < length parts →
    all_remaining (take (suc index) parts) ≡ all_remaining (take index parts) + length (get_or parts index d).remaining
remaining-suc [] index d inside = absurd (omega arith)
remaining-suc (p ∷ ps) zero d inside = omega arith
remaining-suc (p ∷ ps) (suc index) d inside = omega (arith, remaining-suc ps index d (omega (arith, inside)))

pub all_remaining-more : (parts : List TreeValue) (index : ℕ) (d : TreeValue) → index < length parts →
    all_remaining (take (index + 1) parts) ≡ all_remaining (take index parts) + length (get_or parts index d).remaining
all_remaining-more parts index d inside = ap (λ n. all_remaining (take n parts)) (add-one index) ∙ remaining-suc parts index d inside

-- one of some lists and the others have in common what all have
in_all-led : (parts : List TreeValue) (k : ℕ) (e : TreeValue) (d : ℕ) → k < length parts →
    (has (get_or parts k e).remaining d && in_all (remains (remove parts k)) d) ≡ in_all (remains parts) d
in_all-led [] k e d inside = absurd (omega (arith, inside))
in_all-led (p ∷ ps) zero e d inside = refl
in_all-led (p ∷ ps) (suc k) e d inside =
    and_swap (has (get_or ps k e).remaining d) (has p.remaining d) (in_all (remains (remove ps k)) d)
    ∙ ap (λ b. has p.remaining d && b) (in_all-led ps k e d (omega (arith, inside)))

-- which of them leads doesn't matter
pub common-led : (parts : List TreeValue) (k : ℕ) (e : TreeValue) (first : TreeValue) (rest : List TreeValue) →
    All (λ part. IsStrictlyIncreasing part.remaining) parts → k < length parts → parts ≡ first ∷ rest →
    common (get_or parts k e).remaining (remains (remove parts k)) ≡ common first.remaining (remains rest)
common-led [] k e first rest rise inside are = absurd (omega (arith, inside))
common-led (p ∷ ps) k e first rest rise inside are =
    let lead = (get_or (p ∷ ps) k e).remaining in
    let others = remains (remove (p ∷ ps) k) in
    same_members 0 (common lead others) (common p.remaining (remains ps))
    (Rises-filter 0 (in_all others) lead (Rises-from_increasing lead (rise k e inside)))
    (Rises-filter 0 (in_all (remains ps)) p.remaining (Rises-from_increasing p.remaining (rise 0 e (omega arith))))
    (λ d. has-filter (in_all others) lead d ∙ in_all-led (p ∷ ps) k e d inside ∙ sym (has-filter (in_all (remains ps)) p.remaining d))
    ∙ ap (λ parts. common (get_or parts 0 e).remaining (remains (drop 1 parts))) are

-- one part more that rises
pub rise_more : (parts : List TreeValue) (index : ℕ) (s : TreeValue) →
    ((k : ℕ) (d : TreeValue) → k < index → IsStrictlyIncreasing (get_or parts k d).remaining) → index < length parts → s ≡ get_or parts index s →
    IsStrictlyIncreasing s.remaining →
    (k : ℕ) (d : TreeValue) → k < index + 1 → IsStrictlyIncreasing (get_or parts k d).remaining
rise_more parts index s before inside is rises k d low = elim (cases_lt k index) [
  | inl less ↦ before k d less
  | inr here ↦
      let same : k ≡ index = omega (arith, low, here) in
      let at : s ≡ get_or parts k d = is ∙ get_or_default parts index s d inside ∙ ap (λ n. get_or parts n d) (sym same) in
      subst (λ (t : TreeValue). IsStrictlyIncreasing t.remaining) at rises
]
