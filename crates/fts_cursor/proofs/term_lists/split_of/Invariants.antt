-- The lists so far, by whether they have bits.
use Rattle.std.proofs.Common.{◌^◌, ◌≤◌, length, take}
use Rattle.std.specs.Prelude.{All}
use Rattle.fts_cursor.proofs.LeadingLemmas.{lists_of}
use Rattle.fts_cursor.specs.Splits.{IsSplit}
use Rattle.fts_cursor.proofs.term_lists.split_of.Given as goal

abbrev pub invariant-loop-list : goal.invariant-loop-list
invariant-loop-list l = record {
  split : IsSplit (lists_of (take l.list-index l.lists)) l.bits.items (lists_of l.rest.items) l.opened;
  few : All (λ b. length b.now ≤ 2 ^ 32) l.bits.items;
}
