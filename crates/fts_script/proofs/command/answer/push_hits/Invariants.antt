use Rattle.std.proofs.Common.{◌≡◌, ◌++◌, drop, false, nat_lt, string_bytes}
use Rattle.std.specs.Option.{option_copied}
use Rattle.serde_json.specs.Written.{items_text}
use Rattle.fts_script.specs.command.AnswerData.{hits_data}
use Rattle.fts_script.specs.command.Cuts.{cut_hits}
use Rattle.fts_script.proofs.command.answer.push_hits.Given as goal

-- the hits so far, and those that are left
abbrev pub invariant-loop-index : goal.invariant-loop-index
invariant-loop-index l =
    string_bytes l.text ++ items_text (nat_lt 0 l.index) (hits_data (cut_hits (option_copied l.fn.names) (drop l.index l.hits)))
    ≡ string_bytes l.initial.text ++ items_text false (hits_data (cut_hits (option_copied l.fn.names) l.hits))
