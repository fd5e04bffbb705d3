use Rattle.std.proofs.Common.{◌∙◌, ◌++◌, List, ℕ, ap, sym, option_map, string_bytes}
use Rattle.std.proofs.lemmas.List.{append_assoc}
use Rattle.std.specs.Option.{option_copied}
use Rattle.serde_json.specs.Data.{array}
use Rattle.serde_json.specs.Written.{compact_text}
use Rattle.fts_script.specs.command.AnswerData.{hits_data}
use Rattle.fts_script.specs.command.AnswerTexts.{list_text, top_label}
use Rattle.fts_script.specs.command.Cuts.{cut_hits}
use Rattle.fts_script.proofs.command.answer.push_top.Goals as goal

pub returns : goal.returns
returns c =
    let old = string_bytes c.args.text.now in
    let hits = compact_text (array (hits_data (cut_hits (option_copied c.args.names) c.in-Some.hits.now))) in
    c.in_ok-push_hits.ensures
    ∙ ap (λ (xs : List ℕ). xs ++ hits) c.in_ok-push_str.ensures.bytes
    ∙ append_assoc old top_label hits
    ∙ ap (λ hits. old ++ list_text top_label (option_map hits_data (option_map (cut_hits (option_copied c.args.names)) (option_copied hits)))) (sym c.in-Some.is)
