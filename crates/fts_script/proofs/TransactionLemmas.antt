-- Operations, and what takes them back.
use Rattle.std.proofs.Common.{◌≡◌, ◌+◌, ◌≤◌, ℕ, Bool, true, false, cond, List, [], ◌∷◌, ◌++◌, length, refl, sym, ap, subst, ◌∙◌, arith}
use Rattle.std.proofs.Common.{Option, Some, None, Result, Ok, Err, IfOk, is_ok, option_map}
use Rattle.std.specs.Prelude.{codes, nat_lt}
use Rattle.std.proofs.lemmas.List.{length-append, take-append-le}
use Rattle.fts_base.specs.declared.refusal.Refusal.{Refusal}
use Rattle.fts_base.specs.declared.refusal.Refusal.TheVariants.{BadCommand, LaneFull}
use Rattle.fts_base.specs.Results.{result_and_then}
use Rattle.fts_model.specs.declared.operation.Op.{Op}
use Rattle.fts_model.specs.declared.operation.Op.TheVariants as ops
use Rattle.fts_model.specs.declared.operation.Stamped.{Stamped}
use Rattle.fts_model.specs.Documents.{document_of}
use Rattle.fts_model.specs.Operations.{term_of}
use Rattle.fts_engine.specs.Indexes.{Index, indexes, stamp_after}
use Rattle.fts_engine.specs.Steps.{most_uncommitted, next_stamp, submit}
use Rattle.fts_engine.specs.TakeBack.{keep_first}
use Rattle.fts_script.specs.command.Commands.{Command, Schema, Add, Delete, DeleteAll, Commit, Rollback, Merge, Find, command}
use Rattle.fts_script.specs.declared.session.savepoint.Savepoint.{Savepoint}
use Rattle.fts_script.specs.session.Replies.{Outcome, execute, index_after, line_of, number_reply, replied, text_of}
use Rattle.fts_script.specs.session.Outputs.{SessionValue, after_line, reply_to}
use Rattle.fts_script.specs.session.Transactions.{count_uncommitted, is_operation, is_taken, operate, rolled_back_to}
use Rattle.fts_script.proofs.ReplaceLemmas.{after_done, reply_done}

-- an index with one more uncommitted operation
abbrev pub Grows : Index → Index → Type 0
Grows i j = (x : Stamped Op)
    × (j ≡ record { schema = i.schema; documents = i.documents; commit_stamp = i.commit_stamp; uncommitted = i.uncommitted ++ x ∷ [] })

abbrev pub GrowsFrom : Option Index → Option Index → Type 0
GrowsFrom (Some i) (Some j) = Grows i j
GrowsFrom (Some i) None = ⊥
GrowsFrom None j = ⊥

submitted-grows : (i : Index) (op : Op) (b : Bool) → IfOk (replied (number_reply (codes "stamp")) (cond b (Ok (indexes.submitted op i, next_stamp indexes i))
    (Err LaneFull))) (λ d. GrowsFrom (Some i) d.index)
submitted-grows i op true = (record { stamp = stamp_after i; value = op }, refl)
submitted-grows i op false = tt

submit-grows : (i : Index) (op : Op) → IfOk (replied (number_reply (codes "stamp")) (submit indexes op i)) (λ d. GrowsFrom (Some i) d.index)
submit-grows i op = submitted-grows i op (nat_lt (length i.uncommitted) most_uncommitted)

made-grows : {X : Type 0} (i : Index) (f : X → Op) (r : Result X Refusal) →
    IfOk (result_and_then (λ x. replied (number_reply (codes "stamp")) (submit indexes (f x) i)) r) (λ d. GrowsFrom (Some i) d.index)
made-grows i f (Ok x) = submit-grows i (f x)
made-grows i f (Err e) = tt

-- an operation that is done is one more
execute-grows : (index : Option Index) (c : Command) →
    IfOk (cond (is_operation c) (execute indexes index c) (Err BadCommand)) (λ d. GrowsFrom index d.index)
execute-grows (Some i) (Add value) = made-grows i (λ d. ops.Add d) (document_of i.schema value)
execute-grows (Some i) (Delete name value) = made-grows i (λ t. ops.Delete t) (term_of i.schema name value)
execute-grows (Some i) DeleteAll = submit-grows i ops.DeleteAll
execute-grows (Some i) (Schema fields) = tt
execute-grows (Some i) Commit = tt
execute-grows (Some i) Rollback = tt
execute-grows (Some i) Merge = tt
execute-grows (Some i) (Find asked) = tt
execute-grows None (Add value) = tt
execute-grows None (Delete name value) = tt
execute-grows None DeleteAll = tt
execute-grows None (Schema fields) = tt
execute-grows None Commit = tt
execute-grows None Rollback = tt
execute-grows None Merge = tt
execute-grows None (Find asked) = tt

operate-grows : (index : Option Index) (r : Result Command Refusal) →
    IfOk (result_and_then (λ c. cond (is_operation c) (execute indexes index c) (Err BadCommand)) r) (λ d. GrowsFrom index d.index)
operate-grows index (Ok c) = execute-grows index c
operate-grows index (Err e) = tt

-- the operation that a line is, and that it was executed
record Executed (s : SessionValue) (line : List ℕ) (d : Outcome Index) : Type 0 where
  it : Command
  is : command line ≡ Ok it
  done : execute indexes s.index it ≡ Ok d

by_kind : (r : Result (Outcome Index) Refusal) (d : Outcome Index) (b : Bool) → cond b r (Err BadCommand) ≡ Ok d → r ≡ Ok d
by_kind r d true e = e
by_kind r d false e = cc

executed : (s : SessionValue) (line : List ℕ) (d : Outcome Index) (r : Result Command Refusal) → command line ≡ r →
    result_and_then (λ c. cond (is_operation c) (execute indexes s.index c) (Err BadCommand)) r ≡ Ok d → Executed s line d
executed s line d (Ok c) is e = record { it = c; is = is; done = by_kind (execute indexes s.index c) d (is_operation c) e }
executed s line d (Err x) is e = absurd (let bad : Err x ≡ Ok d = e in cc)

-- what a line that is taken leaves, and its reply
pub record Taken (s : SessionValue) (line : List ℕ) : Type 0 where
  pub outcome : Outcome Index
  pub operated : operate indexes s.index line ≡ Ok outcome
  pub after : after_line s line ≡ record { number = s.number + 1; index = outcome.index }
  pub reply : reply_to s line ≡ line_of outcome.reply
  pub grows : GrowsFrom s.index outcome.index

taken_by : (s : SessionValue) (line : List ℕ) (r : Result (Outcome Index) Refusal) → operate indexes s.index line ≡ r → is_ok r ≡ true → Taken s line
taken_by s line (Ok d) is ok =
    let x : Executed s line d = executed s line d (command line) refl is in record {
      outcome = d;
      operated = is;
      after = after_done s line x.it d x.is x.done;
      reply = reply_done s line x.it d x.is x.done;
      grows = subst (λ r. IfOk r (λ d. GrowsFrom s.index d.index)) is (operate-grows s.index (command line));
    }
taken_by s line (Err e) is ok = absurd (let bad : false ≡ true = ok in cc)

pub taken_of : (s : SessionValue) (line : List ℕ) → is_taken s line ≡ true → Taken s line
taken_of s line ok = taken_by s line (operate indexes s.index line) refl ok

-- the reply to a line that is taken, and what it leaves
pub taken_reply : (s now : SessionValue) (line : List ℕ) (n : ℕ) (taken : Bool) (old out : List ℕ) → s ≡ now → taken ≡ true →
    taken ≡ is_ok (operate indexes s.index line) → out ≡ cond taken old [] ++ text_of n (operate indexes s.index line) → out ≡ old ++ reply_to now line
taken_reply s now line n taken old out same ok is e =
    let t : Taken s line = taken_of s line (sym is ∙ ok) in
    e ∙ ap (λ b. cond b old [] ++ text_of n (operate indexes s.index line)) ok ∙ ap (λ r. old ++ text_of n r) t.operated
    ∙ ap (λ r. old ++ r) (sym t.reply) ∙ ap (λ v. old ++ reply_to v line) same

pub taken_state : (s now : SessionValue) (line : List ℕ) (taken : Bool) (index : Option Index) → s ≡ now → taken ≡ true →
    taken ≡ is_ok (operate indexes s.index line) → index ≡ index_after s.index (operate indexes s.index line) →
    record { number = s.number + 1; index = index } ≡ after_line now line
taken_state s now line taken index same ok is e =
    let t : Taken s line = taken_of s line (sym is ∙ ok) in
    ap (λ i. record { number = s.number + 1; index = i }) (e ∙ ap (index_after s.index) t.operated) ∙ sym t.after ∙ ap (λ v. after_line v line) same

kept_back : (n : ℕ) (i j : Option Index) → GrowsFrom i j → n ≤ count_uncommitted i → option_map (keep_first n) j ≡ option_map (keep_first n) i
kept_back n (Some i) (Some j) g within =
    ap (λ k. Some (keep_first n k)) g.1
    ∙ ap (λ us. Some (record { schema = i.schema; documents = i.documents; commit_stamp = i.commit_stamp; uncommitted = us }))
    (take-append-le n i.uncommitted (g.0 ∷ []) within)
kept_back n (Some i) None g within = absurd g
kept_back n None j g within = absurd g

counts_more : (i j : Option Index) → GrowsFrom i j → count_uncommitted i ≤ count_uncommitted j
counts_more (Some i) (Some j) g = omega (arith, ap (λ k. length k.uncommitted) g.1, length-append i.uncommitted (g.0 ∷ []))
counts_more (Some i) None g = absurd g
counts_more None j g = absurd g

-- a line that is taken is taken back with the others
pub taken_back : (at : Savepoint) (s : SessionValue) (line : List ℕ) → is_taken s line ≡ true → at.uncommitted ≤ count_uncommitted s.index →
    rolled_back_to at (after_line s line) ≡ rolled_back_to at s
taken_back at s line ok within =
    let t : Taken s line = taken_of s line ok in
    ap (rolled_back_to at) t.after ∙ ap (λ o. record { number = at.number; index = o }) (kept_back at.uncommitted s.index t.outcome.index t.grows within)

pub taken_more : (s : SessionValue) (line : List ℕ) → is_taken s line ≡ true → count_uncommitted s.index ≤ count_uncommitted (after_line s line).index
taken_more s line ok =
    let t : Taken s line = taken_of s line ok in
    subst (λ (v : SessionValue). count_uncommitted s.index ≤ count_uncommitted v.index) (sym t.after) (counts_more s.index t.outcome.index t.grows)
