use Rattle.std.proofs.Common.{◌+◌, ◌<◌, ◌≤◌, ◌++◌, ℕ, List, ◌∷◌, length, drop, sym, ap, ◌∙◌, arith}
use Rattle.std.proofs.lemmas.List.{append_assoc, drop_more, drop_all}
use Rattle.json.specs.Token.{Token}
use Rattle.json.specs.Print.{print}
use Rattle.json.specs.Tree.{items_tokens, json_tokens}
use Rattle.serde_json.specs.Data.{array}
use Rattle.serde_json.specs.Written.{items_outline, outline}
use Rattle.serde_json.proofs.Texts.{print-outline}
use Rattle.fts_model.specs.declared.value.GroupValue.{GroupValue}
use Rattle.fts_script.specs.command.AnswerData.{group_data, groups_data}
use Rattle.fts_script.proofs.command.answer.groups_text.Goals as goal

-- the tokens of some groups, with the closing bracket
abbrev tokens_of : List (GroupValue × ℕ) → List Token
tokens_of groups = items_tokens (items_outline (groups_data groups))

pub loop-group-preserved : goal.loop-group-preserved
loop-group-preserved c =
    let groups = c.args.groups.now in
    let i = c.loop-group.group-index in
    let before = c.loop-group.out.tokens in
    let written = c.in_ok-write_group.ensures.ok in
    let left = drop (i + 1) groups in
    let within : i < length groups = omega arith in (
      ap (λ (ts : List Token). ts ++ tokens_of left) written.tokens
          ∙ append_assoc before (json_tokens (outline (group_data c.group-item.result))) (tokens_of left)
          ∙ ap (λ (g : GroupValue × ℕ). before ++ tokens_of (g ∷ left)) c.group-item.is
          ∙ ap (λ (xs : List (GroupValue × ℕ)). before ++ tokens_of xs) (sym (drop_more groups i c.group-item.result within))
          ∙ c.loop-group.invariant.0,
      written.before ∙ c.loop-group.invariant.1,
    )

pub returns : goal.returns
returns c =
    let groups = c.args.groups.now in
    let before = c.loop-group.out.tokens in
    let done : length groups ≤ c.loop-group.group-index = omega arith in
    let ended = c.in_ok-end_array.ensures in
    ap (λ v. v.items) c.from_utf8_unchecked.ensures.value
    ∙ c.into_inner.ensures.items
    ∙ ap (λ (start : List ℕ). start ++ print c.end_array.new.self.tokens) (ended.room.0 ∙ c.loop-group.invariant.1)
    ∙ ap print
    (ended.ok ∙ ap (λ (xs : List (GroupValue × ℕ)). before ++ tokens_of xs) (sym (drop_all c.loop-group.group-index groups done)) ∙ c.loop-group.invariant.0)
    ∙ print-outline (array (groups_data groups))
