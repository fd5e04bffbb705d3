-- The origins of the live documents of sources, one at a time.
use Rattle.std.proofs.Common.{◌≡◌, ◌+◌, ◌<◌, ◌≤◌, ℕ, Bool, true, false, cond, List, [], ◌∷◌, ◌++◌, Some, map, length, count_by, drop, get_or, refl, sym, ap}
use Rattle.std.proofs.Common.{ap₂, ◌∙◌}
use Rattle.std.specs.Prelude.{slice_get}
use Rattle.std.proofs.lemmas.List.{append_assoc}
use Rattle.fts_segment.specs.Segments.{SegmentValue, numbers_where}
use Rattle.fts_segment.specs.Sources.{SourceValue, joined_segment, live_count}
use Rattle.fts_segment.proofs.MovingLemmas.{dropped_at}
use Rattle.fts_segment.proofs.SourceLemmas.{dropped}
use Rattle.fts_merge.specs.declared.origin.Origin.{Origin}
use Rattle.fts_merge.specs.Merges.{made_of, merge_of, origins_in, origins_from}
use Rattle.fts_segment.proofs.HoldingLemmas.{numbers_where-cons}

-- the number of set bits of a source
abbrev pub count_of : SourceValue → ℕ
count_of source = count_by (λ bit. bit) source.live

-- the origins of the documents from a number
abbrev pub origins_behind : ℕ → ℕ → List Bool → List Origin
origins_behind source n bits = map (λ document. record { source = source; document = document }) (numbers_where (λ bit. bit) n bits)

pub origins-cons : (source n : ℕ) (bit : Bool) (bits : List Bool) →
    origins_behind source n (bit ∷ bits) ≡ cond bit (record { source = source; document = n } ∷ origins_behind source (n + 1) bits)
    (origins_behind source (n + 1) bits)
origins-cons source n true bits = ap (map (λ document. record { source = source; document = document })) (numbers_where-cons (λ bit. bit) n true bits)
origins-cons source n false bits = ap (map (λ document. record { source = source; document = document })) (numbers_where-cons (λ bit. bit) n false bits)

-- the origin of one more document is appended, if it is live
pub origins-told : (origins new : List Origin) (number n : ℕ) (bit : Bool) (live : List Bool) (all : List Origin) → slice_get live n ≡ Some bit →
    new ≡ origins ++ cond bit (record { source = number; document = n } ∷ []) [] → origins ++ origins_behind number n (drop n live) ≡ all →
    new ++ origins_behind number (n + 1) (drop (n + 1) live) ≡ all
origins-told origins new number n bit live all is told h =
    let rest = origins_behind number (n + 1) (drop (n + 1) live) in
    let one : Origin = record { source = number; document = n } in
    ap (λ os. os ++ rest) told ∙ append_assoc origins (cond bit (one ∷ []) []) rest
    ∙ ap (λ os. origins ++ os) (elim bit as (λ b. cond b (one ∷ []) [] ++ rest ≡ cond b (one ∷ rest) rest) [ true ↦ refl | false ↦ refl ])
    ∙ ap (λ os. origins ++ os) (sym (ap (origins_behind number n) (dropped_at live n bit is) ∙ origins-cons number n bit (drop (n + 1) live))) ∙ h

-- the origins of one more source are appended
pub origins-taken : (origins before : List Origin) (ss : List SourceValue) (i : ℕ) (s : SourceValue) (all : List Origin) → i < length ss → s ≡ get_or ss i s →
    origins ≡ before ++ origins_in i s.live → before ++ origins_from i (drop i ss) ≡ all → origins ++ origins_from (i + 1) (drop (i + 1) ss) ≡ all
origins-taken origins before ss i s all h e new old =
    ap (λ os. os ++ origins_from (i + 1) (drop (i + 1) ss)) new ∙ append_assoc before (origins_in i s.live) (origins_from (i + 1) (drop (i + 1) ss))
    ∙ ap (λ xs. before ++ origins_from i xs) (sym (dropped ss i s h e)) ∙ old

-- a segment with origins is the merge, if the segment and the origins are
pub merged_is : (segment : SegmentValue) (origins : List Origin) (ss : List SourceValue) → segment ≡ joined_segment ss → origins ≡ origins_from 0 ss →
    made_of segment origins (length ss) ≡ merge_of ss
merged_is segment origins ss same told = ap₂ (λ s os. made_of s os (length ss)) same told
