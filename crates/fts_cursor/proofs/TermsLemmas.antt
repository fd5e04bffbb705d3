-- Cursors over lists, and what a conjunction of them stands for in a tree.
use Rattle.std.proofs.Common.{◌≡◌, ℕ, ◌+◌, ◌≤◌, List, [], ◌∷◌, length, refl, sym, ap, ap₂, ◌∙◌, arith}
use Rattle.std.specs.List.{All, AllZip, flat_map, sum_by}
use Rattle.std.proofs.lemmas.List.Elements.{All-cons, All-head, All-tail}
use Rattle.std.proofs.lemmas.List.Sums.{sum_by-cons}
use Rattle.fts_postings.specs.Bounds.{Bound}
use Rattle.fts_postings.specs.Conjoined.{AllFollow, Conjoined, counts_of, openings_of}
use Rattle.fts_postings.specs.Posting.{Follows, Posting}
use Rattle.fts_cursor.specs.Standing.{Continues, with_opened}
use Rattle.fts_cursor.specs.Terms.{AreTied, IsTied, of_terms}

-- lists that follow on
tied-follows : (p q : Posting) → Follows p q → IsTied p → IsTied q
tied-follows p q h tied = let e : q.count ≡ q.opened = omega (arith, h.counted, tied) in e

counts-follow : (ps qs : List Posting) → AllZip Follows ps qs → All IsTied ps → sum_by (λ p. p.count) ps ≤ sum_by (λ p. p.count) qs × All IsTied qs
    × (length qs ≡ length ps)
counts-follow [] [] h tied = (omega arith, tied, refl)
counts-follow [] (q ∷ qs) h tied = absurd h
counts-follow (p ∷ ps) [] h tied = absurd h
counts-follow (p ∷ ps) (q ∷ qs) h tied =
    let first = All-head IsTied p ps tied in
    let now = tied-follows p q h.0 first in
    let rest = counts-follow ps qs h.1 (All-tail IsTied p ps tied) in (
      omega (arith, rest.0, h.0.more, first, now, sum_by-cons (λ r. r.count) p ps, sum_by-cons (λ r. r.count) q qs),
      All-cons IsTied q qs now rest.1,
      omega (arith, rest.2),
    )

pub terms-continue : (c d : Conjoined) → AllFollow c d → AreTied c → ((before after : List ℕ) → Continues (of_terms c before) (of_terms d after)) × AreTied d
terms-continue c d h tied =
    let lead = tied-follows c.lead d.lead h.lead tied.0 in
    let rest = counts-follow c.others d.others h.others tied.1 in
    let bound : List (List ℕ) → ℕ → Bound = λ bs n. record { blocks = length bs; lead = flat_map (λ block. block) bs; others = n } in (
      λ before after. record {
        bound = ap₂ bound h.lead.blocks rest.2;
        list = refl;
        more = omega (arith, rest.0, h.lead.more, lead, tied.0);
      },
      (lead, rest.1),
    )

-- conjoined cursors continue each other, also with blocks that were opened before
pub opened-continue : (c d : Conjoined) (opened : ℕ) (before after : List ℕ) → AllFollow c d → AreTied c →
    Continues (with_opened opened (of_terms c before)) (with_opened opened (of_terms d after))
opened-continue c d opened before after follows tied =
    let on = (terms-continue c d follows tied).0 before after in
    record {
      bound = ap (λ (b : Bound). let m : Bound = record b { blocks = b.blocks + opened } in m) on.bound;
      list = refl;
      more = omega (arith, on.more);
    }

-- each opening was counted by its source
counts-tied : (ps : List Posting) → All IsTied ps → sum_by (λ p. p.count) ps ≡ sum_by (λ p. p.opened) ps
counts-tied [] tied = refl
counts-tied (p ∷ ps) tied =
    sum_by-cons (λ q. q.count) p ps ∙ ap₂ (λ (m : ℕ) (n : ℕ). m + n) (All-head IsTied p ps tied) (counts-tied ps (All-tail IsTied p ps tied))
    ∙ sym (sum_by-cons (λ q. q.opened) p ps)

pub terms-tied : (c : Conjoined) → AreTied c → counts_of c ≡ openings_of c
terms-tied c tied = ap₂ (λ (m : ℕ) (n : ℕ). m + n) tied.0 (counts-tied c.others tied.1)
