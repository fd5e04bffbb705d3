-- What a call leaves of a place that may be closed.
use Rattle.std.specs.Prelude.{◌≡◌, ℕ, ℤ, List, Option, Some, None, MatchOption}
use Rattle.fts_script.specs.session.Searches.{at_commit}
use Rattle.fts_c.specs.declared.codes.TheConstants.{OK, CLOSED, NO_REPLY}
use Rattle.fts_c.specs.declared.state.State.{State}
use Rattle.fts_c.specs.Calls.{Opens, TellsReply}

-- the call did this to the session of an open place; a closed one stays closed, and the code says so
abbrev pub IfOpen : Option State → Option State → ℤ → (State → State → Type 0) → Type 0
IfOpen None new code Did = (new ≡ None) × (code ≡ CLOSED)
IfOpen (Some old) new code Did = MatchOption new ⊥ (λ s. Did old s)

-- The last reply of an open place was returned. A closed place has none, and nothing was copied.
abbrev pub TellsIfOpen : Option State → Option State → List ℕ → List ℕ → ℕ → Type 0
TellsIfOpen None new out after told = (new ≡ None) × (after ≡ out) × (told ≡ NO_REPLY)
TellsIfOpen (Some old) new out after told = MatchOption new ⊥ (λ s. TellsReply old s out after told)

-- A searcher of the last commit of an open place was opened in another, and the first is as it was. If the first is
-- closed, it stays closed, and the other is as it was.
abbrev pub OpensSearcher : {P : Type 0} → Option State → Option State → Option State → P → P → ℤ → Type 0
OpensSearcher None new held slot after code = (new ≡ None) × (after ≡ slot) × (code ≡ CLOSED)
OpensSearcher (Some old) new held slot after code =
    (new ≡ Some old) × Opens (at_commit old.session.script) held slot after code

-- a place is closed, and the code says whether it was before
abbrev pub Closes : Option State → Option State → ℤ → Type 0
Closes None new code = (new ≡ None) × (code ≡ CLOSED)
Closes (Some old) new code = (new ≡ None) × (code ≡ OK)
