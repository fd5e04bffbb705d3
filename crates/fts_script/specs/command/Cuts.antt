-- Answers cut to some fields, and the names of these.
use Rattle.std.specs.Prelude.{ℕ, List, [], ◌∷◌, map, Option, Some, None, Result, option_map, option_and_then}
use Rattle.std.specs.Option.{ok_or}
use Rattle.serde_json.specs.Data.{Items, no_items, item}
use Rattle.serde_json.specs.Find.{as_array, as_str}
use Rattle.fts_base.specs.declared.refusal.Refusal.{Refusal}
use Rattle.fts_base.specs.declared.refusal.Refusal.TheVariants.{BadJson, BadCommand}
use Rattle.fts_base.specs.Results.{result_and_then}
use Rattle.fts_model.specs.declared.answer.Hit.{Hit}
use Rattle.fts_model.specs.Answers.{AnswerValue}
use Rattle.fts_model.specs.Restricted.{restrict}
use Rattle.fts_script.specs.command.Commands.{json_in}

-- a hit with its document cut to the fields of these names, if there are names
abbrev pub cut_hit : Option (List (List ℕ)) → Hit → Hit
cut_hit None hit = hit
cut_hit (Some names) hit = record hit { document = restrict names hit.document }

abbrev pub cut_hits : Option (List (List ℕ)) → List Hit → List Hit
cut_hits None hits = hits
cut_hits (Some names) hits = map (cut_hit (Some names)) hits

-- an answer with the documents of its hits cut to some fields
abbrev pub cut_answer : Option (List (List ℕ)) → AnswerValue → AnswerValue
cut_answer None a = a
cut_answer (Some names) a = record a { top = option_map (cut_hits (Some names)) a.top }

-- the texts that a list's items are, if each is one
abbrev pub texts_in : Items → Option (List (List ℕ))
texts_in no_items = Some []
texts_in (item d ds) = option_and_then (λ text. option_map (λ texts. text ∷ texts) (texts_in ds)) (as_str d)

-- the names that a line lists: an array of strings
abbrev pub names_in : List ℕ → Result (List (List ℕ)) Refusal
names_in line =
    result_and_then (λ value. ok_or (option_and_then texts_in (as_array value)) BadCommand)
    (ok_or (json_in line) BadJson)
