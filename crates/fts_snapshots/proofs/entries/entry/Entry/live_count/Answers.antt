-- The rest of the proof of `entries::entry::Entry::live_count`.
use Rattle.std.proofs.Common.{Bool, length, ap, arith}
use Rattle.std.proofs.lemmas.List.Sums.{count_by-le-length}
use Rattle.fts_snapshots.proofs.entries.entry.Entry.live_count.Goals as goal

pub returns-clause-few : goal.returns-clause-few
returns-clause-few c =
    omega (
      arith,
      count_by-le-length (λ (bit : Bool). bit) c.live.result.now,
      ap length c.live.ensures.live,
      c.live.ensures.bits.bits,
      c.live.ensures.bits.few,
      c.count_ones.ensures,
    )
