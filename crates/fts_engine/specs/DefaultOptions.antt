-- How a run works if no options are given, and the policy by which one merges.
use Rattle.std.specs.Prelude.{◌≡◌, Option, None, Some}
use Rattle.fts_model.specs.Limits.{most_built}
use Rattle.fts_model.specs.declared.cut.Cut.TheVariants.{Runs}
use Rattle.fts_engine.specs.declared.options.Options.{Options}
use Rattle.fts_engine.specs.declared.options.Merge.{Merge}
use Rattle.fts_engine.specs.declared.options.Merge.TheVariants.{Off, Policy}

-- one worker, segments of up to 65,536 documents, and no merges; a tenth of a millisecond of work is worth a thread
abbrev pub AreDefault : Options → Type 0
AreDefault options = (options.workers ≡ 1) × (options.cut ≡ Runs most_built) × (options.merge ≡ Off)
    × (options.worth_a_thread ≡ 100000)

-- a policy, if merges go by one
abbrev pub if_policy : {P : Type 0} → Merge → P → Option P
if_policy Off policy = None
if_policy Policy policy = Some policy
