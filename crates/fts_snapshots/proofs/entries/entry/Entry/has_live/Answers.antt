-- The rest of the proof of `entries::entry::Entry::has_live`.
use Rattle.std.proofs.Common.{ap, nat_lt, ◌∙◌}
use Rattle.std.specs.List.{list_any}
use Rattle.fts_snapshots.proofs.EntryLemmas.{some_counted}
use Rattle.fts_snapshots.proofs.entries.entry.Entry.has_live.Goals as goal

pub returns : goal.returns
returns c = ap (nat_lt 0) c.count_ones.ensures ∙ some_counted c.live-bits.result.now ∙ ap (list_any (λ bit. bit)) c.live-bits.ensures.live
