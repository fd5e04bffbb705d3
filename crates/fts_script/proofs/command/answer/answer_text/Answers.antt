use Rattle.std.proofs.Common.{◌∙◌, ap, decimal, string_bytes}
use Rattle.std.specs.Option.{option_copied}
use Rattle.fts_model.specs.Answers.{AnswerValue}
use Rattle.fts_script.proofs.AnswerLemmas.{text_made}
use Rattle.fts_script.proofs.command.answer.answer_text.Goals as goal

pub returns : goal.returns
returns c =
    text_made (option_copied c.args.names) c.args.answer.now (option_copied c.as_deref.result) (option_copied c.as_deref-2.result)
    (string_bytes c.in_ok-text.text) c.format.result.now (string_bytes c.push_str.new.self) (string_bytes c.push_groups.new.text) (string_bytes c.push_top.new.text)
    (string_bytes c.push_str-2.new.self)
    (c.as_deref.ensures.value ∙ ap (λ (a : AnswerValue). a.groups) c.answer.view_is)
    (c.as_deref-2.ensures.value ∙ ap (λ (a : AnswerValue). a.top) c.answer.view_is)
    c.in_ok-text.ensures.ok (c.format.ensures.text ∙ ap (λ (a : AnswerValue). decimal a.count) c.answer.view_is) c.in_ok-push_str.ensures.bytes
    c.in_ok-push_groups.ensures c.in_ok-push_top.ensures c.in_ok-push_str-2.ensures.bytes
