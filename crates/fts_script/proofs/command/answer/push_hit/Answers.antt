use Rattle.std.proofs.Common.{◌≡◌, ◌∙◌, ◌++◌, List, ℕ, Option, Some, None, ap, decimal, refl, string_bytes}
use Rattle.std.specs.Option.{option_copied}
use Rattle.serde_json.specs.Written.{compact_text, has_float}
use Rattle.fts_model.specs.declared.answer.Hit.{Hit}
use Rattle.fts_script.specs.command.AnswerData.{number_data}
use Rattle.fts_script.specs.command.Cuts.{cut_hit}
use Rattle.fts_script.proofs.AnswerLemmas.{document_plain, hit_made}
use Rattle.fts_script.proofs.command.answer.push_hit.Goals as goal

-- a hit that is cut keeps its stamp and its value
same_stamp : (names : Option (List (List ℕ))) (hit : Hit) → hit.stamp ≡ (cut_hit names hit).stamp
same_stamp None hit = refl
same_stamp (Some names) hit = refl

same_value : (names : Option (List (List ℕ))) (hit : Hit) → hit.value ≡ (cut_hit names hit).value
same_value None hit = refl
same_value (Some names) hit = refl

pub returns : goal.returns
returns c =
    let names = option_copied c.args.names in
    let whole = c.args.hit.now in
    let hit = cut_hit names whole in
    let document = c.in_ok-document_value.ensures in
    hit_made hit (string_bytes c.args.text.now) c.as_str.result.now c.format.result.now (string_bytes c.push_str.new.self)
    (string_bytes c.push_str-2.new.self) (string_bytes c.push_str-3.new.self) (string_bytes c.push_str-4.new.self) (string_bytes c.push_str-5.new.self)
    (string_bytes c.push_value.new.text) (string_bytes c.push_str-6.new.self)
    (c.as_str.ensures.value ∙ c.in_ok-document.ensures.text (ap has_float document ∙ document_plain hit.document) ∙ ap compact_text document)
    (c.format.ensures.text ∙ ap decimal (same_stamp names whole))
    c.in_ok-push_str.ensures.bytes c.in_ok-push_str-2.ensures.bytes c.in_ok-push_str-3.ensures.bytes
    c.in_ok-push_str-4.ensures.bytes c.in_ok-push_str-5.ensures.bytes
    (c.in_ok-push_value.ensures ∙ ap (λ n. string_bytes c.push_str-5.new.self ++ compact_text (number_data n)) (same_value names whole))
    c.in_ok-push_str-6.ensures.bytes
