use Rattle.std.proofs.Common.{◌≡◌, drop}
use Rattle.fts_query.specs.Meanings.{default_clauses}
use Rattle.fts_query.specs.Gathering.{gathered_of, gather_all}
use Rattle.fts_query.proofs.GatheringLemmas.{nothing_gathered}
use Rattle.fts_query.proofs.meaning.literal_anywhere.Given as goal

-- the clauses so far, and those of the fields that are left
abbrev pub invariant-loop-i : goal.invariant-loop-i
invariant-loop-i l = gather_all (gathered_of l.clauses) (default_clauses l.i (drop l.i l.schema) l.text)
    ≡ gather_all nothing_gathered (default_clauses 0 l.schema l.text)
