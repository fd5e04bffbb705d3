-- Each turn passes the rest of the open block.
use Rattle.std.proofs.Common.{◌≡◌, ℕ, ◌-◌, ◌<◌, ◌≤◌, List, [], ◌∷◌, length, suc, get_or, drop, refl, ap, sym, ◌∙◌, arith}
use Rattle.std.proofs.lemmas.List.{length-append, length-drop}
use Rattle.std.specs.List.{flat_map}
use Rattle.fts_postings.specs.Posting.{Posting, remaining_of}
use Rattle.fts_postings.proofs.PostingLemmas.{Walks-trans, stands_within}
use Rattle.fts_postings.proofs.posting.PostingCursor.count.Goals as goal

-- the rest of the open block remains
within : (g : _) (c : goal.After-saturating_add-count g) → c.self.inside.len - c.self.inside.at ≤ length (remaining_of c.loop-self.self)
within g c =
    let s = c.self.inside in
    let blocks = g.B.Blocks.contents s.source in
    let block = get_or blocks s.block [] in
    omega (
      arith,
      ap (λ p. length (remaining_of p)) c.self.view_is,
      length-append (drop s.at block) (flat_map (λ b. b) (drop (suc s.block) blocks)),
      length-drop s.at block,
      c.self.invariant.size,
    )

-- a list without a first
empty : (xs : List ℕ) → (0 < length xs → ⊥) → xs ≡ []
empty [] none = refl
empty (x ∷ xs) none = absurd (none (omega arith))

-- behind the last block nothing remains
behind : (g : _) (c : goal.After-loop-self g) → remaining_of c.loop-self.self ≡ []
behind g c =
    let s = c.self.inside in
    let p : Posting = record { blocks = g.B.Blocks.contents s.source; block = s.block; at = s.at; opened = s.opened; count = g.B.Blocks.openings s.source } in
    sym (ap remaining_of c.self.view_is)
    ∙ empty (remaining_of p) (λ some. omega (arith, c.self.invariant.stands (stands_within p some), c.loop-self-test.false))

pub loop-self-preserved : goal.loop-self-preserved
loop-self-preserved g c = record {
  sum = omega (
    arith,
    c.loop-self.invariant.sum,
    within g c,
    ap length c.leave.ensures.remaining,
    length-drop (c.self.inside.len - c.self.inside.at) (remaining_of c.loop-self.self),
    c.saturating_add-count.ensures,
  );
  fits = omega (arith, c.saturating_add-count.ensures);
  walks = Walks-trans _ _ _ c.loop-self.invariant.walks c.leave.ensures.walks;
}

pub loop-self-smaller : goal.loop-self-smaller
loop-self-smaller g c = omega (
  arith,
  within g c,
  ap length c.leave.ensures.remaining,
  length-drop (c.self.inside.len - c.self.inside.at) (remaining_of c.loop-self.self),
  c.loop-self-test.true,
)

pub returns-clause-count : goal.returns-clause-count
returns-clause-count g c = omega (arith, c.loop-self.invariant.sum, ap length (behind g c), c.loop-self.invariant.fits)

pub returns-clause-none : goal.returns-clause-none
returns-clause-none g c = behind g c
