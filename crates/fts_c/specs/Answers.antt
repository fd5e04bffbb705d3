-- What a call leaves of a place that is open, and its code: as the definition of what it does says.
use Rattle.std.specs.Prelude.{ℤ}
use Rattle.std.specs.Option.{option_copied}
use Rattle.fts_c.specs.declared.state.Call.{Call}
use Rattle.fts_c.specs.declared.state.Call.TheVariants as calls
use Rattle.fts_c.specs.declared.state.State.{State}
use Rattle.fts_c.specs.Calls.{Executes, Searches, SearchesGroups}
use Rattle.fts_c.specs.Merges.{EndsMerge, LimitsMerges, RunsMerge}
use Rattle.fts_c.specs.Pairs.{Replaces}

-- What a call did to a state that was open, and the code that it answered.
abbrev pub Answers : Call → State → State → ℤ → Type 0
Answers (calls.Execute line) old new code = Executes old line.now new code
Answers (calls.Replace delete add) old new code = Replaces old delete.now add.now new code
Answers (calls.Search line names) old new code = Searches old line.now (option_copied names) new code
Answers (calls.SearchGroups line limit) old new code = SearchesGroups old line.now limit new code
Answers (calls.LimitMerges limit) old new code = LimitsMerges limit old new code
Answers calls.RunMerge old new code = RunsMerge old new code
Answers calls.EndMerge old new code = EndsMerge old new code
