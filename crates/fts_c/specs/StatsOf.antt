-- What a call leaves that returns the size of an index.
use Rattle.std.specs.Prelude.{◌≡◌, ◌≤◌, ℤ, length, IfSome, Option, Some, None}
use Rattle.fts_engine.specs.Indexes.{Index}
use Rattle.fts_engine_local.specs.LocalIndexes.{LocalValue}
use Rattle.fts_engine_local.specs.declared.stats.Stats.{Stats}
use Rattle.fts_c.specs.declared.codes.TheConstants.{OK, CLOSED}
use Rattle.fts_c.specs.declared.state.State.{State}

-- The size of an index is that of its segments at the last commit: the live documents are those of the commit, and each
-- segment has one. Without a schema all numbers are 0.
abbrev pub AreStatsOf : Option LocalValue → Option Index → Stats → Type 0
AreStatsOf engine None stats = stats ≡ record { segments = 0; documents = 0; live = 0 }
AreStatsOf engine (Some index) stats =
    IfSome engine (λ e. stats ≡ e.stats)
    × (stats.live ≡ length index.documents) × (stats.segments ≤ stats.live) × (stats.live ≤ stats.documents)

-- The size of the index of an open place was returned, and nothing changed. For a closed place nothing is returned.
abbrev pub TellsStats : Option State → Option State → Stats → Stats → ℤ → Type 0
TellsStats None new before told code = (new ≡ None) × (told ≡ before) × (code ≡ CLOSED)
TellsStats (Some state) new before told code =
    (new ≡ Some state) × AreStatsOf state.session.engine state.session.script.index told × (code ≡ OK)
