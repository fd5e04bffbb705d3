-- The invariant of the loop of `commits::commit_job::push_builds`.
use Rattle.std.proofs.Common.{◌≡◌, ◌+◌, ◌++◌, map, take}
use Rattle.std.specs.List.{enumerate_from}
use Rattle.fts_snapshots.specs.Groups.{built}
use Rattle.fts_snapshots.specs.Jobs.{entry_of}
use Rattle.fts_snapshots.proofs.commits.commit_job.push_builds.Given as goal

abbrev pub invariant-loop-builder : goal.invariant-loop-builder
invariant-loop-builder l = record {
  made : map entry_of l.jobs.items ≡ map entry_of l.fn.jobs.items ++ map (λ b. built l.ops b.0 b.1) (take l.builder-index (enumerate_from l.first l.groups));
  next : l.id ≡ l.first + l.builder-index;
}
