-- When an engine of one thread merges.
use Rattle.std.specs.Prelude.{ℕ, min, Option, Some, None}
use Rattle.fts_merge.specs.declared.merge_policy.MergePolicy.{MergePolicy}

-- the policy; and the part of it that commits carry out under a limit: they merge no segment of more live documents,
-- and none by itself
abbrev pub local_policy : Option ℕ → MergePolicy
local_policy None = record { floor = 30; members = 7; most = 1000000; dead = 33 }
local_policy (Some limit) = record { floor = 30; members = 7; most = min limit 1000000; dead = 100 }
