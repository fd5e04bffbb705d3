-- What is left of the proof of `commit::assemble`.
use Rattle.std.proofs.Common.{◌≡◌, ◌<◌, length, get_or, map, filter, take, sym, ap, ◌∙◌, rules}
use Rattle.std.proofs.lemmas.List.{length_push}
use Rattle.std.proofs.lemmas.Iterator.Adapters.{YieldsList-from_vec}
use Rattle.std.proofs.lemmas.Iterator.Consumers.{YieldsList-turn}
use Rattle.fts_snapshots.specs.Entries.{has_live}
use Rattle.fts_snapshots.specs.Jobs.{entry_of}
use Rattle.fts_index.proofs.CommitJobLemmas.{memory_only, kept_more}
use Rattle.fts_index.proofs.commit.assemble.Goals as goal

pub loop-answer-preserved : goal.loop-answer-preserved
loop-answer-preserved c = λ jobs answers.
    let results = c.args.answers.items in
    let k = length c.loop-answer.yielded in
    let answer = c.in-Some.answer in
    let turn : (k < length results) × (answer ≡ get_or results k answer) =
    YieldsList-turn (YieldsList-from_vec results (search rules) (search rules)) c.loop-answer.yielded c.loop-answer.answer-iterator c.loop-answer.yielded_by
    c.next.result c.next.new.self answer c.in-Some.is c.next.ensures.steps in
    c.in_ok-push_live-in-Ok.ensures
    ∙ kept_more jobs results k answer c.in-Ok.entry c.loop-answer.entries.items answers turn.0 turn.1 c.in-Ok.is (c.loop-answer.invariant jobs answers)
    ∙ ap (λ n. filter has_live (map entry_of (take n jobs))) (sym (length_push c.loop-answer.yielded answer))

pub returns-in-Err-clause-memory : goal.returns-in-Err-clause-memory
returns-in-Err-clause-memory c = λ jobs answers.
    let results = c.args.answers.items in
    let k = length c.loop-answer.yielded in
    let answer = c.in-Some.answer in
    let turn : (k < length results) × (answer ≡ get_or results k answer) =
    YieldsList-turn (YieldsList-from_vec results (search rules) (search rules)) c.loop-answer.yielded c.loop-answer.answer-iterator c.loop-answer.yielded_by
    c.next.result c.next.new.self answer c.in-Some.is c.next.ensures.steps in
    memory_only jobs results k answer c.in-Err.refusal answers turn.0 turn.1 c.in-Err.is
