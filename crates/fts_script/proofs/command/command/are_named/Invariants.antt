use Rattle.std.proofs.Common.{◌≡◌, map}
use Rattle.serde_json.specs.View.{members_view}
use Rattle.fts_script.specs.command.Commands.{are_named}
use Rattle.fts_script.proofs.command.command.are_named.Given as goal

-- the answer is in the members that are left
abbrev pub invariant-loop-name : goal.invariant-loop-name
invariant-loop-name l = are_named (map (λ n. n.now) l.names) (members_view l.members.entries) ≡ are_named (map (λ n. n.now) l.names) (members_view l.name-iterator)
