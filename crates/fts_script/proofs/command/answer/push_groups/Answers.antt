use Rattle.std.proofs.Common.{◌∙◌, ◌++◌, List, ℕ, ap, sym, option_map, string_bytes}
use Rattle.std.proofs.lemmas.List.{append_assoc}
use Rattle.std.specs.Option.{option_copied}
use Rattle.fts_script.specs.command.AnswerData.{groups_data}
use Rattle.fts_script.specs.command.AnswerTexts.{groups_label, list_text}
use Rattle.fts_script.proofs.command.answer.push_groups.Goals as goal

pub returns : goal.returns
returns c =
    let old = string_bytes c.args.text.now in
    c.in_ok-push_str-2.ensures.bytes
    ∙ ap (λ (xs : List ℕ). xs ++ c.as_str.result.now) c.in_ok-push_str.ensures.bytes
    ∙ append_assoc old groups_label c.as_str.result.now
    ∙ ap (λ (xs : List ℕ). old ++ (groups_label ++ xs)) (c.as_str.ensures.value ∙ c.in_ok-groups.ensures)
    ∙ ap (λ groups. old ++ list_text groups_label (option_map groups_data (option_copied groups))) (sym c.in-Some.is)
