use Rattle.std.proofs.Common.{◌≡◌, ◌∙◌, ℕ, nat_eq}
use Rattle.std.specs.List.{dedup}
use Rattle.std.proofs.lemmas.List.Filters.{dedup_is, All-dedup}
use Rattle.std.proofs.lemmas.List.Kept.{Contains-dedup_nat}
use Rattle.std.proofs.lemmas.List.Sorted.{All-permutation, Contains-permutation}
use Rattle.std.proofs.lemmas.Map.Keys.{IsStrictlyIncreasing-dedup}
use Rattle.fts_segment.specs.Segments.{column}
use Rattle.fts_collect.specs.Internals.Walks.{IsBetween}
use Rattle.fts_collect.proofs.BetweenLemmas.{all-between}
use Rattle.fts_collect.proofs.walk.hits_between.Goals as goal

pub returns : goal.returns
returns c =
    let numbers = column c.args.segment.now c.args.field in
    let hits = c.args.hits.now in
    let P : ℕ → Type 0 = IsBetween numbers hits c.args.low c.args.high in
    let raw = c.in_ok-found.found.items in
    let sorted = c.sort_unstable.new.self.items in
    let left : c.dedup.new.self.items ≡ dedup nat_eq sorted = dedup_is nat_eq sorted c.dedup.new.self.items c.dedup.ensures.filtered in
    left ∙ all-between numbers hits c.args.low c.args.high (dedup nat_eq sorted) (IsStrictlyIncreasing-dedup sorted c.sort_unstable.ensures.sorted)
    c.requires.hits.rise
    (All-dedup nat_eq P sorted (All-permutation P raw sorted c.sort_unstable.ensures.permutation c.in_ok-found.ensures.sound))
    (λ doc is. Contains-dedup_nat sorted doc (Contains-permutation raw sorted doc c.sort_unstable.ensures.permutation (c.in_ok-found.ensures.whole doc is)))
