-- What remains begins with the rest of the open block.
use Rattle.std.proofs.Common.{◌≡◌, ◌-◌, ◌≤◌, ◌||◌, All, drop, length, take, ap, subst, ◌∙◌, arith, rules}
use Rattle.std.proofs.lemmas.List.{length-take}
use borrow.Rule.Slice.PartMut.{mid_of}
use Rattle.fts_postings.specs.Sets.{has}
use Rattle.fts_postings.specs.Posting.{Posting}
use Rattle.fts_postings.proofs.MarkingLemmas.{open_first, open_inside, open_low, open_rises, open_some, open_taken, open_within}
use Rattle.fts_postings.proofs.WindowLemmas.{found}
use Rattle.fts_postings.proofs.posting.PostingCursor.mark_open.Goals as goal

pub offset_bounds-self-inside-self-inside : goal.offset_bounds-self-inside-self-inside
offset_bounds-self-inside-self-inside g c =
    let s = c.self.inside in
    let p : Posting = record { blocks = g.B.Blocks.contents s.source; block = s.block; at = s.at; opened = s.opened; count = g.B.Blocks.openings s.source } in
    let mid = mid_of s.at (s.len - s.at) s.numbers in
    let mid_is : mid ≡ take (s.len - s.at) (drop s.at s.numbers) = search rules in
    let within = open_inside p c.args.self.now c.self.view_is s.len s.numbers mid c.self.invariant c.requires.some mid_is in
    omega (arith, within, length-take s.len s.numbers, ap length c.self.invariant.numbers_are, c.self.invariant.size, c.self.told)

pub mark_some-count-requires-clause-low : goal.mark_some-count-requires-clause-low
mark_some-count-requires-clause-low g c =
    let s = c.self.inside in
    let p : Posting = record { blocks = g.B.Blocks.contents s.source; block = s.block; at = s.at; opened = s.opened; count = g.B.Blocks.openings s.source } in
    let mid = mid_of s.at (s.len - s.at) s.numbers in
    let mid_is : mid ≡ take (s.len - s.at) (drop s.at s.numbers) = search rules in
    open_low p c.args.self.now c.self.view_is s.len s.numbers mid c.self.invariant c.requires.some mid_is c.args.window.now.from c.requires.low

pub mark_some-count-requires-clause-rises : goal.mark_some-count-requires-clause-rises
mark_some-count-requires-clause-rises g c =
    let s = c.self.inside in
    let p : Posting = record { blocks = g.B.Blocks.contents s.source; block = s.block; at = s.at; opened = s.opened; count = g.B.Blocks.openings s.source } in
    let mid = mid_of s.at (s.len - s.at) s.numbers in
    let mid_is : mid ≡ take (s.len - s.at) (drop s.at s.numbers) = search rules in
    open_rises p c.args.self.now c.self.view_is s.len s.numbers mid c.self.invariant c.requires.some mid_is (g.met.B.Blocks.rises s.source)

pub leave-requires-clause-some : goal.leave-requires-clause-some
leave-requires-clause-some g c =
    let s = c.self.inside in
    let p : Posting = record { blocks = g.B.Blocks.contents s.source; block = s.block; at = s.at; opened = s.opened; count = g.B.Blocks.openings s.source } in
    let mid = mid_of s.at (s.len - s.at) s.numbers in
    let mid_is : mid ≡ take (s.len - s.at) (drop s.at s.numbers) = search rules in
    c.mark_some-count.ensures.some (open_some p c.args.self.now c.self.view_is s.len s.numbers mid c.self.invariant c.requires.some mid_is)
    (open_first p c.args.self.now c.self.view_is s.len s.numbers mid c.self.invariant c.requires.some mid_is c.args.window.now.last c.requires.place)

pub returns-clause-some : goal.returns-clause-some
returns-clause-some g c =
    let s = c.self.inside in
    let p : Posting = record { blocks = g.B.Blocks.contents s.source; block = s.block; at = s.at; opened = s.opened; count = g.B.Blocks.openings s.source } in
    let mid = mid_of s.at (s.len - s.at) s.numbers in
    let mid_is : mid ≡ take (s.len - s.at) (drop s.at s.numbers) = search rules in
    c.mark_some-count.ensures.some (open_some p c.args.self.now c.self.view_is s.len s.numbers mid c.self.invariant c.requires.some mid_is)
    (open_first p c.args.self.now c.self.view_is s.len s.numbers mid c.self.invariant c.requires.some mid_is c.args.window.now.last c.requires.place)

pub returns-clause-within : goal.returns-clause-within
returns-clause-within g c =
    let s = c.self.inside in
    let p : Posting = record { blocks = g.B.Blocks.contents s.source; block = s.block; at = s.at; opened = s.opened; count = g.B.Blocks.openings s.source } in
    let mid = mid_of s.at (s.len - s.at) s.numbers in
    let mid_is : mid ≡ take (s.len - s.at) (drop s.at s.numbers) = search rules in
    open_within p c.args.self.now c.self.view_is s.len s.numbers mid c.self.invariant c.requires.some mid_is c.mark_some-count.result
    c.mark_some-count.ensures.within

pub returns-clause-places : goal.returns-clause-places
returns-clause-places g c =
    let s = c.self.inside in
    let p : Posting = record { blocks = g.B.Blocks.contents s.source; block = s.block; at = s.at; opened = s.opened; count = g.B.Blocks.openings s.source } in
    let mid = mid_of s.at (s.len - s.at) s.numbers in
    let mid_is : mid ≡ take (s.len - s.at) (drop s.at s.numbers) = search rules in
    subst (λ xs. All (λ d. d ≤ c.args.window.now.last) xs) (open_taken p c.args.self.now c.self.view_is s.len s.numbers mid c.self.invariant c.requires.some
    mid_is c.mark_some-count.result c.mark_some-count.ensures.within) c.mark_some-count.ensures.places

pub returns-clause-marked : goal.returns-clause-marked
returns-clause-marked g c d =
    let s = c.self.inside in
    let p : Posting = record { blocks = g.B.Blocks.contents s.source; block = s.block; at = s.at; opened = s.opened; count = g.B.Blocks.openings s.source } in
    let mid = mid_of s.at (s.len - s.at) s.numbers in
    let mid_is : mid ≡ take (s.len - s.at) (drop s.at s.numbers) = search rules in
    c.mark_some-count.ensures.marked d ∙ ap (λ xs. has (found c.args.window.now) d || has xs d) (open_taken p c.args.self.now c.self.view_is s.len s.numbers mid
    c.self.invariant c.requires.some mid_is c.mark_some-count.result c.mark_some-count.ensures.within)
