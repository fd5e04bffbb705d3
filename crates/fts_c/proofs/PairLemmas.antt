-- Two lines that are done as one are a transaction of the two.
use Rattle.std.proofs.Common.{◌≡◌, ◌+◌, ℕ, true, false, cond, List, [], ◌∷◌, ◌++◌, refl, sym, ap, subst, ◌∙◌, append-nil, Option, Some, None}
use Rattle.std.proofs.Common.{Result, Ok, Err, OnOk, OnErr, is_ok}
use Rattle.fts_base.specs.declared.refusal.Refusal.{Refusal}
use Rattle.fts_base.specs.declared.refusal.Refusal.TheVariants.{BadCommand}
use Rattle.fts_base.specs.Results.{result_and_then}
use Rattle.fts_script.specs.command.Commands.{Command, Add, Delete, command}
use Rattle.fts_engine.specs.Indexes.{Index, indexes}
use Rattle.fts_script.specs.session.Replies.{Outcome, execute, text_of}
use Rattle.fts_script.specs.session.Outputs.{SessionValue, after_line, reply_to}
use Rattle.fts_script.specs.session.Replaces.{AreDone, addition, after_replace, deletion, execute_two, replace, reply_to_replace}
use Rattle.fts_script.specs.session.Transactions.{first_refusal, is_operation, operate, refusal_or, replies_unless_refused, unless_refused}
use Rattle.fts_script.proofs.ReplaceLemmas.{after_done, replace-done, replace-none}
use Rattle.fts_c.specs.Pairs.{ArePair, IsTransaction}

-- a line was read, as an operation that a pair has in its place
record IsRead (line : List ℕ) (wanted : Command → Result Command Refusal) (c : Command) : Type 0 where
  is : command line ≡ Ok c
  fits : result_and_then wanted (command line) ≡ Ok c
  operation : is_operation c ≡ true

-- an operation that was read has the outcome of its command
operated : (index : Option Index) (line : List ℕ) (c : Command) (r : Result (Outcome Index) Refusal) → command line ≡ Ok c → is_operation c ≡ true →
    execute indexes index c ≡ r → operate indexes index line ≡ r
operated index line c r is op done =
    ap (result_and_then (λ c. cond (is_operation c) (execute indexes index c) (Err BadCommand))) is
    ∙ ap (λ b. cond b (execute indexes index c) (Err BadCommand)) op ∙ done

-- both lines were read
replaced : (s : SessionValue) (delete add : List ℕ) (first second : Command) → result_and_then deletion (command delete) ≡ Ok first →
    result_and_then addition (command add) ≡ Ok second → replace indexes s.index delete add ≡ execute_two indexes s.index first second
replaced s delete add first second deletes adds =
    ap (λ r. result_and_then (λ a. result_and_then (λ b. execute_two indexes s.index a b) (result_and_then addition (command add))) r) deletes
    ∙ ap (λ r. result_and_then (λ b. execute_two indexes s.index first b) r) adds

-- neither was done, and each definition tells the same refusal
refused : (s : SessionValue) (delete add : List ℕ) (x : Refusal) → replace indexes s.index delete add ≡ Err x →
    first_refusal s (delete ∷ add ∷ []) ≡ Some x → IsTransaction s delete add
refused s delete add x whole first = record {
  after = subst (λ r. OnErr r (after_replace s delete add ≡ s)) whole (replace-none s delete add) ∙ sym (ap (unless_refused s (delete ∷ add ∷ [])) first);
  reply = ap (replies_unless_refused s (delete ∷ add ∷ [])) first ∙ sym (ap (text_of (s.number + 1)) whole)
      ∙ sym (ap (λ r. cond (is_ok r) (reply_to s delete ++ reply_to_replace s delete add) (reply_to_replace s delete add)) whole);
}

-- both were done
done : (s : SessionValue) (delete add : List ℕ) (e : Outcome Index) → replace indexes s.index delete add ≡ Ok e →
    first_refusal s (delete ∷ add ∷ []) ≡ None → IsTransaction s delete add
done s delete add e whole none =
    let both : AreDone s delete add = subst (λ r. OnOk r (AreDone s delete add)) whole (replace-done s delete add) in record {
      after = both.after ∙ sym (ap (unless_refused s (delete ∷ add ∷ [])) none);
      reply = ap (replies_unless_refused s (delete ∷ add ∷ [])) none
          ∙ ap (λ r. reply_to s delete ++ r) (append-nil (reply_to (after_line s delete) add) ∙ sym both.reply)
          ∙ sym (ap (λ r. cond (is_ok r) (reply_to s delete ++ reply_to_replace s delete add) (reply_to_replace s delete add)) whole);
    }

ended : (s : SessionValue) (delete add : List ℕ) (r : Result (Outcome Index) Refusal) → replace indexes s.index delete add ≡ r →
    first_refusal s (delete ∷ add ∷ []) ≡ refusal_or r None → IsTransaction s delete add
ended s delete add (Ok e) whole refusal = done s delete add e whole refusal
ended s delete add (Err x) whole refusal = refused s delete add x whole refusal

by_first : (s : SessionValue) (delete add : List ℕ) (first second : Command) (r : Result (Outcome Index) Refusal) → IsRead delete deletion first →
    IsRead add addition second → execute indexes s.index first ≡ r → IsTransaction s delete add
by_first s delete add first second (Ok d) a b executed =
    let r : Result (Outcome Index) Refusal = execute indexes d.index second in
    let taken : operate indexes s.index delete ≡ Ok d = operated s.index delete first (Ok d) a.is a.operation executed in
    let behind : after_line s delete ≡ record { number = s.number + 1; index = d.index } = after_done s delete first d a.is executed in
    let last : operate indexes (after_line s delete).index add ≡ r =
    ap (λ (v : SessionValue). operate indexes v.index add) behind ∙ operated d.index add second r b.is b.operation refl in
    let whole : replace indexes s.index delete add ≡ r = replaced s delete add first second a.fits b.fits
    ∙ ap (λ r. result_and_then (λ done. execute indexes done.index second) r) executed in
    let refusal : first_refusal s (delete ∷ add ∷ []) ≡ refusal_or r None =
    ap (λ v. refusal_or v (refusal_or (operate indexes (after_line s delete).index add) None)) taken ∙ ap (λ v. refusal_or v None) last in
    ended s delete add r whole refusal
by_first s delete add first second (Err x) a b executed =
    refused s delete add x (replaced s delete add first second a.fits b.fits
    ∙ ap (λ r. result_and_then (λ done. execute indexes done.index second) r) executed)
    (ap (λ v. refusal_or v (first_refusal (after_line s delete) (add ∷ []))) (operated s.index delete first (Err x) a.is a.operation executed))

by_add : (s : SessionValue) (delete add : List ℕ) (first : Command) (r : Result Command Refusal) → IsRead delete deletion first →
    command add ≡ r → is_ok (result_and_then addition r) ≡ true → IsTransaction s delete add
by_add s delete add first (Ok (Add document)) a is read =
    by_first s delete add first (Add document) (execute indexes s.index first) a
    (record { is = is; fits = ap (result_and_then addition) is; operation = refl }) refl
by_add s delete add first _ a is read = absurd (let bad : false ≡ true = read in cc)

by_delete : (s : SessionValue) (delete add : List ℕ) (r : Result Command Refusal) → command delete ≡ r → is_ok (result_and_then deletion r) ≡ true →
    is_ok (result_and_then addition (command add)) ≡ true → IsTransaction s delete add
by_delete s delete add (Ok (Delete name value)) is read read-add =
    by_add s delete add (Delete name value) (command add)
    (record { is = is; fits = ap (result_and_then deletion) is; operation = refl }) refl read-add
by_delete s delete add _ is read read-add = absurd (let bad : false ≡ true = read in cc)

pub pair-transaction : (s : SessionValue) (delete add : List ℕ) → ArePair delete add → IsTransaction s delete add
pair-transaction s delete add read = by_delete s delete add (command delete) refl read.is_deletion read.is_addition
