-- Whatever carries an index, a script writes the same.
use Rattle.std.proofs.Common.{◌≡◌, ℕ, ◌+◌, Bool, true, false, cond, List, [], ◌∷◌, ◌++◌, length, nat_lt, codes, Result, Ok, Err, Option, Some, None, option_map}
use Rattle.std.proofs.Common.{refl, sym, ap, ◌∙◌}
use Rattle.serde_json.specs.Data.{Data}
use Rattle.fts_base.specs.declared.refusal.Refusal.{Refusal}
use Rattle.fts_base.specs.declared.refusal.Refusal.TheVariants.{TooLarge, LaneFull}
use Rattle.fts_model.specs.declared.schema.Field.{Field}
use Rattle.fts_model.specs.declared.operation.Op.{Op}
use Rattle.fts_model.specs.declared.operation.Op.TheVariants as ops
use Rattle.fts_model.specs.declared.operation.Stamped.{Stamped}
use Rattle.fts_model.specs.declared.query.Request.{Request}
use Rattle.fts_model.specs.QueryValues.{QueryValue}
use Rattle.fts_base.specs.Results.{ok_unless, result_and_then, result_map}
use Rattle.fts_model.specs.Schemas.{schema_fault}
use Rattle.fts_model.specs.Documents.{DocumentValue, document_of}
use Rattle.fts_model.specs.Operations.{term_of}
use Rattle.fts_model.specs.Queries.{request_of}
use Rattle.fts_model.specs.Answers.{answer}
use Rattle.fts_query.specs.Answers.{answer as query_of}
use Rattle.fts_script.specs.session.Text.{lines_of, is_blank}
use Rattle.fts_script.specs.command.Commands.{Command, Schema, Add, Delete, DeleteAll, Commit, Rollback, Merge, Find, Search, command}
use Rattle.fts_engine.specs.Carriers.{Carrier}
use Rattle.fts_model.specs.Limits.{most_merged}
use Rattle.fts_engine.specs.Steps.{most_uncommitted, next_stamp, submit, commit, rollback, merge, search_commit}
use Rattle.fts_script.specs.session.Replies.{number_reply, Outcome, replied, answer_search, execute, execute_line, index_after, text_of, Carried, carried_over}
use Rattle.fts_script.specs.session.Replies.{reply_on, replies_on, output_on}
use Rattle.fts_script.specs.command.AnswerData.{answer_data}

-- a map leads from what one carrier holds to what another holds, step by step
pub record Simulates {S T : Type 0} (from : Carrier S) (to : Carrier T) (f : S → T) : Type 0 where
  pub opened : (schema : List Field) → f (from.opened schema) ≡ to.opened schema
  pub submitted : (op : Op) (s : S) → f (from.submitted op s) ≡ to.submitted op (f s)
  pub committed : (s : S) → f (from.committed s) ≡ to.committed (f s)
  pub rolled_back : (s : S) → f (from.rolled_back s) ≡ to.rolled_back (f s)
  pub schema : (s : S) → to.schema (f s) ≡ from.schema s
  pub documents : (s : S) → to.documents (f s) ≡ from.documents s
  pub commit_stamp : (s : S) → to.commit_stamp (f s) ≡ from.commit_stamp s
  pub uncommitted : (s : S) → to.uncommitted (f s) ≡ from.uncommitted s

-- the outcome of a step, with a map applied to the carrier
abbrev step_seen : {S T X : Type 0} → (S → T) → Result (S × X) Refusal → Result (T × X) Refusal
step_seen f = result_map (λ done. (f done.0, done.1))

-- an outcome, with a map applied to the carrier
abbrev outcome_seen : {S T : Type 0} → (S → T) → Outcome S → Outcome T
outcome_seen f o = record { index = option_map f o.index; reply = o.reply }

abbrev command_value : {S T : Type 0} → (S → T) → Result (Outcome S) Refusal → Result (Outcome T) Refusal
command_value f = result_map (outcome_seen f)

pair : {T : Type 0} (x y : T) (n m : ℕ) → x ≡ y → n ≡ m → let p : T × ℕ = (x, n) in let q : T × ℕ = (y, m) in p ≡ q
pair x y n m e h = ap (λ z. (z, n)) e ∙ ap (λ k. (y, k)) h

stamp_same : {S T : Type 0} (from : Carrier S) (to : Carrier T) (f : S → T) → Simulates from to f → (s : S) → next_stamp to (f s) ≡ next_stamp from s
stamp_same from to f sim s = ap (λ n. n + to.uncommitted (f s) + 1) (sim.commit_stamp s) ∙ ap (λ n. from.commit_stamp s + n + 1) (sim.uncommitted s)

submit_same : {S T : Type 0} (from : Carrier S) (to : Carrier T) (f : S → T) → Simulates from to f → (op : Op) (s : S) →
    submit to op (f s) ≡ step_seen f (submit from op s)
submit_same {S} {T} from to f sim op s =
    ap (λ n. cond (nat_lt n most_uncommitted) (Ok (to.submitted op (f s), next_stamp to (f s))) (Err LaneFull)) (sim.uncommitted s)
    ∙ room (nat_lt (from.uncommitted s) most_uncommitted) where
      room : (b : Bool) → cond b (Ok (to.submitted op (f s), next_stamp to (f s))) (Err LaneFull)
          ≡ step_seen f (cond b (Ok (from.submitted op s, next_stamp from s)) (Err LaneFull))
      room true = ap Ok (pair _ _ _ _ (sym (sim.submitted op s)) (stamp_same from to f sim s))
      room false = refl

commit_same : {S T : Type 0} (from : Carrier S) (to : Carrier T) (f : S → T) → Simulates from to f → (s : S) →
    commit to (f s) ≡ step_seen f (commit from s)
commit_same from to f sim s = ap Ok (pair _ _ _ _ (sym (sim.committed s)) (stamp_same from to f sim s))

rollback_same : {S T : Type 0} (from : Carrier S) (to : Carrier T) (f : S → T) → Simulates from to f → (s : S) →
    rollback to (f s) ≡ step_seen f (rollback from s)
rollback_same from to f sim s = ap Ok (pair _ _ _ _ (sym (sim.rolled_back s)) (sim.commit_stamp s))

merge_same : {S T : Type 0} (from : Carrier S) (to : Carrier T) (f : S → T) → Simulates from to f → (s : S) →
    merge to (f s) ≡ step_seen f (merge from s)
merge_same {S} {T} from to f sim s =
    ap (λ (ds : List (Stamped DocumentValue)). cond (nat_lt most_merged (length ds)) (Err TooLarge) (Ok (f s, length ds))) (sim.documents s)
    ∙ room (nat_lt most_merged (length (from.documents s))) where
      room : (b : Bool) → cond b (Err TooLarge) (Ok (f s, length (from.documents s))) ≡ step_seen f (cond b (Err TooLarge) (Ok (s, length (from.documents s))))
      room true = refl
      room false = refl

search_same : {S T : Type 0} (from : Carrier S) (to : Carrier T) (f : S → T) → Simulates from to f → (query : QueryValue) (request : Request) (s : S) →
    search_commit to query request (f s) ≡ step_seen f (search_commit from query request s)
search_same from to f sim query request s =
    ap (λ schema. Ok (f s, answer schema query request (to.documents (f s)))) (sim.schema s)
    ∙ ap (λ ds. Ok (f s, answer (from.schema s) query request ds)) (sim.documents s)

replied_same : {S T X : Type 0} (f : S → T) (print : X → Data) (step : Result (S × X) Refusal) →
    replied print (step_seen f step) ≡ command_value f (replied print step)
replied_same f print (Ok done) = refl
replied_same f print (Err e) = refl

then_same : {S T A : Type 0} (f : S → T) (r : Result A Refusal) (g : A → Result (Outcome T) Refusal) (h : A → Result (Outcome S) Refusal) →
    ((a : A) → g a ≡ command_value f (h a)) → result_and_then g r ≡ command_value f (result_and_then h r)
then_same f (Ok a) g h e = e a
then_same f (Err x) g h e = refl

unless_same : {S T : Type 0} (f : S → T) (o : Option Refusal) (x : Outcome S) → ok_unless o (outcome_seen f x) ≡ command_value f (ok_unless o x)
unless_same f None x = refl
unless_same f (Some e) x = refl

op_same : {S T : Type 0} (from : Carrier S) (to : Carrier T) (f : S → T) → Simulates from to f → (op : Op) (s : S) →
    replied (number_reply (codes "stamp")) (submit to op (f s)) ≡ command_value f (replied (number_reply (codes "stamp")) (submit from op s))
op_same from to f sim op s = ap (replied (number_reply (codes "stamp"))) (submit_same from to f sim op s)
    ∙ replied_same f (number_reply (codes "stamp")) (submit from op s)

answer_same : {S T : Type 0} (from : Carrier S) (to : Carrier T) (f : S → T) → Simulates from to f → (asked : Search) (s : S) →
    answer_search to asked (f s) ≡ command_value f (answer_search from asked s)
answer_same from to f sim asked s =
    ap (λ schema. result_and_then (λ query. result_and_then (λ request. replied answer_data (search_commit to query request (f s)))
    (request_of schema asked.groups asked.top)) (query_of schema asked.query)) (sim.schema s)
    ∙ then_same f (query_of (from.schema s) asked.query) _ _ (λ query. then_same f (request_of (from.schema s) asked.groups asked.top) _ _ (λ request.
    ap (replied answer_data) (search_same from to f sim query request s) ∙ replied_same f answer_data (search_commit from query request s)))

execute_same : {S T : Type 0} (from : Carrier S) (to : Carrier T) (f : S → T) → Simulates from to f → (index : Option S) (c : Command) →
    execute to (option_map f index) c ≡ command_value f (execute from index c)
execute_same {S} {T} from to f sim None (Schema fields) =
    ap (λ i. ok_unless (schema_fault fields) (let o : Outcome T = record { index = Some i; reply = number_reply (codes "fields") (length fields) } in o))
    (sym (sim.opened fields))
    ∙ unless_same f (schema_fault fields) _
execute_same from to f sim None (Add value) = refl
execute_same from to f sim None (Delete name value) = refl
execute_same from to f sim None DeleteAll = refl
execute_same from to f sim None Commit = refl
execute_same from to f sim None Rollback = refl
execute_same from to f sim None Merge = refl
execute_same from to f sim None (Find asked) = refl
execute_same from to f sim (Some s) (Schema fields) = refl
execute_same from to f sim (Some s) (Add value) =
    ap (λ schema. result_and_then (λ document. replied (number_reply (codes "stamp")) (submit to (ops.Add document) (f s))) (document_of schema value))
    (sim.schema s)
    ∙ then_same f (document_of (from.schema s) value) _ _ (λ document. op_same from to f sim (ops.Add document) s)
execute_same from to f sim (Some s) (Delete name value) =
    ap (λ schema. result_and_then (λ term. replied (number_reply (codes "stamp")) (submit to (ops.Delete term) (f s))) (term_of schema name value))
    (sim.schema s)
    ∙ then_same f (term_of (from.schema s) name value) _ _ (λ term. op_same from to f sim (ops.Delete term) s)
execute_same from to f sim (Some s) DeleteAll = op_same from to f sim ops.DeleteAll s
execute_same from to f sim (Some s) Commit = ap (replied (number_reply (codes "commit"))) (commit_same from to f sim s)
    ∙ replied_same f (number_reply (codes "commit")) (commit from s)
execute_same from to f sim (Some s) Rollback = ap (replied (number_reply (codes "rollback"))) (rollback_same from to f sim s)
    ∙ replied_same f (number_reply (codes "rollback")) (rollback from s)
execute_same from to f sim (Some s) Merge = ap (replied (number_reply (codes "merged"))) (merge_same from to f sim s)
    ∙ replied_same f (number_reply (codes "merged")) (merge from s)
execute_same from to f sim (Some s) (Find asked) = answer_same from to f sim asked s

line_same : {S T : Type 0} (from : Carrier S) (to : Carrier T) (f : S → T) → Simulates from to f → (index : Option S) (line : List ℕ) →
    execute_line to (option_map f index) line ≡ command_value f (execute_line from index line)
line_same from to f sim index line = then_same f (command line) _ _ (execute_same from to f sim index)

text_same : {S T : Type 0} (f : S → T) (n : ℕ) (r : Result (Outcome S) Refusal) → text_of n (command_value f r) ≡ text_of n r
text_same f n (Ok done) = refl
text_same f n (Err e) = refl

after_same : {S T : Type 0} (f : S → T) (index : Option S) (r : Result (Outcome S) Refusal) → index_after (option_map f index) (command_value f r)
    ≡ option_map f (index_after index r)
after_same f index (Ok done) = refl
after_same f index (Err e) = refl

cond_map : {S T : Type 0} (f : S → T) (b : Bool) (x y : Option S) → cond b (option_map f x) (option_map f y) ≡ option_map f (cond b x y)
cond_map f true x y = refl
cond_map f false x y = refl

abbrev carried_seen : {S T : Type 0} → (S → T) → Carried S → Carried T
carried_seen f s = record { number = s.number; index = option_map f s.index }

reply_same : {S T : Type 0} (from : Carrier S) (to : Carrier T) (f : S → T) → Simulates from to f → (s : Carried S) (line : List ℕ) →
    reply_on to (carried_seen f s) line ≡ reply_on from s line
unfolding reply_on
reply_same from to f sim s line =
    ap (cond (is_blank line) []) (ap (text_of (s.number + 1)) (line_same from to f sim s.index line) ∙ text_same f (s.number + 1)
    (execute_line from s.index line))

next_same : {S T : Type 0} (from : Carrier S) (to : Carrier T) (f : S → T) → Simulates from to f → (s : Carried S) (line : List ℕ) →
    carried_over to (carried_seen f s) line ≡ carried_seen f (carried_over from s line)
unfolding carried_over
next_same {S} {T} from to f sim s line =
    ap (λ (i : Option T). let c : Carried T = record { number = s.number + 1; index = i } in c)
    (ap (cond (is_blank line) (option_map f s.index)) (ap (index_after (option_map f s.index)) (line_same from to f sim s.index line) ∙ after_same f s.index
    (execute_line from s.index line))
    ∙ cond_map f (is_blank line) s.index (index_after s.index (execute_line from s.index line)))

replies_same : {S T : Type 0} (from : Carrier S) (to : Carrier T) (f : S → T) → Simulates from to f → (s : Carried S) (lines : List (List ℕ)) →
    replies_on to (carried_seen f s) lines ≡ replies_on from s lines
replies_same from to f sim s [] = refl
replies_same from to f sim s (line ∷ lines) =
    ap (λ c. reply_on to (carried_seen f s) line ++ replies_on to c lines) (next_same from to f sim s line)
    ∙ ap (λ r. reply_on to (carried_seen f s) line ++ r) (replies_same from to f sim (carried_over from s line) lines)
    ∙ ap (λ r. r ++ replies_on from (carried_over from s line) lines) (reply_same from to f sim s line)

-- the output doesn't depend on what carries the index
pub output_same : {S T : Type 0} (from : Carrier S) (to : Carrier T) (f : S → T) → Simulates from to f → (input : List ℕ) →
    output_on to input ≡ output_on from input
output_same from to f sim input = replies_same from to f sim (record { number = 0; index = None }) (lines_of input)
