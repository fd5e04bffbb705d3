use Rattle.std.proofs.Common.{◌≡◌, ◌++◌, [], drop}
use Rattle.json.specs.Tree.{items_tokens, json_tokens}
use Rattle.serde_json.specs.Data.{array}
use Rattle.serde_json.specs.Written.{items_outline, outline}
use Rattle.fts_script.specs.command.AnswerData.{groups_data}
use Rattle.fts_script.proofs.command.answer.groups_text.Given as goal

-- the groups so far, and those that are left
abbrev pub invariant-loop-group : goal.invariant-loop-group
invariant-loop-group l =
    (l.out.tokens ++ items_tokens (items_outline (groups_data (drop l.group-index l.groups))) ≡ json_tokens (outline (array (groups_data l.groups))))
    × (l.out.before ≡ [])
