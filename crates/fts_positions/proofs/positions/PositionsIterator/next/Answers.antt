-- The later positions fit as all do.
use Rattle.std.proofs.Common.{◌+◌, ◌^◌, ◌<◌, ℕ, All, Bor, List, Option, subst, sym}
use Rattle.std.specs.Prelude.{slice_range}
use Rattle.std.proofs.lemmas.List.Elements.{All-tail}
use Rattle.fts_pack.specs.Documents.{documents_at}
use Rattle.fts_positions.specs.PositionLists.{positions_from}
use Rattle.fts_positions.proofs.positions.PositionsIterator.next.Goals as goal

pub between-requires-clause-fit : goal.between-requires-clause-fit
between-requires-clause-fit c =
    let s = c.args.self.now in
    let rest : ℕ → List ℕ = λ first. documents_at (first + 1) (slice_range c.in_ok-first.gaps.now s.at s.end) in
    let P : Option (ℕ × Bor (List ℕ)) → Type 0 = λ f. All (λ p. p < 2 ^ 32) (positions_from f s.at s.end) in
    let Q : ℕ → Type 0 = λ first. All (λ p. p < 2 ^ 32) (rest first) in
    subst Q (sym c.from.ensures) (All-tail (λ p. p < 2 ^ 32) c.in_ok-first.first (rest c.in_ok-first.first) (subst P c.in_ok-first.was s.fit))
