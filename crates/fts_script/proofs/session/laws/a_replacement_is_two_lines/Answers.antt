use Rattle.fts_script.proofs.ReplaceLemmas.{replace-done, replace-none}
use Rattle.fts_script.proofs.session.laws.a_replacement_is_two_lines.Goals as goal

pub returns : goal.returns
returns c = record { done = replace-done; none = replace-none }
