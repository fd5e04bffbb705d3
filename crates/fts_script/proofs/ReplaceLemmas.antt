-- Two lines as one, and one after the other.
use Rattle.std.proofs.Common.{◌≡◌, ◌+◌, ℕ, Bool, true, false, cond, ltb, List, [], length, refl, sym, ap, ◌∙◌, append-nil, arith, None, Result, Ok, Err, OnOk}
use Rattle.std.proofs.Common.{OnErr}
use Rattle.std.specs.Str.{is_utf8, chars}
use Rattle.std.specs.Char.{encode_utf8}
use Rattle.std.specs.Option.{ok_or}
use Rattle.std.proofs.lemmas.Bool.{false_from_ne_true}
use Rattle.json.specs.Json.{value}
use Rattle.json.specs.Lex.{lex, punctuate}
use Rattle.serde_json.specs.Data.{Data}
use Rattle.fts_base.specs.declared.refusal.Refusal.{Refusal}
use Rattle.fts_base.specs.declared.refusal.Refusal.TheVariants.{BadCommand, BadJson, LineTooLong}
use Rattle.fts_base.specs.Results.{result_and_then}
use Rattle.fts_script.specs.command.Commands.{Command, Add, Delete, command, command_in, json_in, longest}
use Rattle.fts_engine.specs.Indexes.{Index, indexes}
use Rattle.fts_script.specs.session.Text.{is_blank}
use Rattle.fts_script.proofs.WhiteLemmas.{json_in-blank}
use Rattle.fts_script.specs.session.Replies.{Outcome, execute, execute_line, index_after, line_of, carried_over, reply_on}
use Rattle.fts_script.specs.session.Outputs.{SessionValue, after_line, reply_to}
use Rattle.fts_script.specs.session.Replaces.{AreDone, addition, after_replace, deletion, execute_two, lines_done, replace}

-- a blank line is no command
json_in-none : (line : List ℕ) → is_blank line ≡ true → json_in line ≡ None
unfolding json_in is_utf8 chars encode_utf8 lex punctuate value
json_in-none line h = ap json_in (sym (append-nil line)) ∙ json_in-blank line [] h ∙ refl

unread : (t : Bool) (line : List ℕ) (c : Command) → json_in line ≡ None →
    cond t (Err LineTooLong) (result_and_then (λ value. ok_or (command_in value) BadCommand) (ok_or (json_in line) BadJson)) ≡ Ok c → ⊥
unread true line c none e = cc
unread false line c none e =
    let bad : Err BadJson ≡ Ok c = sym (ap (λ v. result_and_then (λ value. ok_or (command_in value) BadCommand) (ok_or v BadJson)) none) ∙ e in cc

command-not_blank : (line : List ℕ) (c : Command) → command line ≡ Ok c → is_blank line ≡ false
command-not_blank line c e = false_from_ne_true (is_blank line) (λ blank. unread (ltb longest (length line)) line c (json_in-none line blank) e)

-- what a command leaves that is done, and its reply
pub after_done : (s : SessionValue) (line : List ℕ) (c : Command) (d : Outcome Index) → command line ≡ Ok c → execute indexes s.index c ≡ Ok d →
    after_line s line ≡ record { number = s.number + 1; index = d.index }
unfolding carried_over
after_done s line c d e f =
    let whole : execute_line indexes s.index line ≡ Ok d = ap (result_and_then (execute indexes s.index)) e ∙ f in
    rw (command-not_blank line c e, whole) refl

pub reply_done : (s : SessionValue) (line : List ℕ) (c : Command) (d : Outcome Index) → command line ≡ Ok c → execute indexes s.index c ≡ Ok d →
    reply_to s line ≡ line_of d.reply
unfolding reply_on
reply_done s line c d e f =
    let whole : execute_line indexes s.index line ≡ Ok d = ap (result_and_then (execute indexes s.index)) e ∙ f in
    rw (command-not_blank line c e, whole) refl

-- what two lines leave that are done
both_done : (s : SessionValue) (delete add : List ℕ) (name : List ℕ) (value document : Data) (d e : Outcome Index) →
    command delete ≡ Ok (Delete name value) → command add ≡ Ok (Add document) →
    execute indexes s.index (Delete name value) ≡ Ok d → execute indexes d.index (Add document) ≡ Ok e → AreDone s delete add
both_done s delete add name value document d e is-delete is-add first second =
    let next : SessionValue = record { number = s.number + 1; index = d.index } in
    let behind : after_line s delete ≡ next = after_done s delete (Delete name value) d is-delete first in
    let both : replace indexes s.index delete add ≡ Ok e =
    ap (λ r. result_and_then (λ a. result_and_then (λ b. execute_two indexes s.index a b) (result_and_then addition (command add)))
    (result_and_then deletion r)) is-delete
    ∙ ap (λ r. result_and_then (λ b. execute_two indexes s.index (Delete name value) b) (result_and_then addition r)) is-add
    ∙ ap (λ r. result_and_then (λ done. execute indexes done.index (Add document)) r) first ∙ second in
    let two : s.number + 1 + 1 ≡ s.number + 2 = omega arith in
    record {
      after = rw (both, behind, after_done next add (Add document) e is-add second, two) refl;
      reply = rw (both, behind, reply_done next add (Add document) e is-add second) refl;
    }

by_last : (s : SessionValue) (delete add : List ℕ) (name : List ℕ) (value document : Data) (d : Outcome Index) (r : Result (Outcome Index) Refusal) →
    command delete ≡ Ok (Delete name value) → command add ≡ Ok (Add document) →
    execute indexes s.index (Delete name value) ≡ Ok d → execute indexes d.index (Add document) ≡ r → OnOk r (AreDone s delete add)
by_last s delete add name value document d (Ok e) is-delete is-add first second = both_done s delete add name value document d e is-delete is-add first second
by_last s delete add name value document d (Err e) is-delete is-add first second = tt

by_first : (s : SessionValue) (delete add : List ℕ) (name : List ℕ) (value document : Data) (r : Result (Outcome Index) Refusal) →
    command delete ≡ Ok (Delete name value) → command add ≡ Ok (Add document) →
    execute indexes s.index (Delete name value) ≡ r → OnOk (result_and_then (λ done. execute indexes done.index (Add document)) r) (AreDone s delete add)
by_first s delete add name value document (Ok d) is-delete is-add first =
    by_last s delete add name value document d (execute indexes d.index (Add document)) is-delete is-add first refl
by_first s delete add name value document (Err e) is-delete is-add first = tt

by_add : (s : SessionValue) (delete add : List ℕ) (name : List ℕ) (value : Data) (r : Result Command Refusal) →
    command delete ≡ Ok (Delete name value) → command add ≡ r →
    OnOk (result_and_then (λ second. execute_two indexes s.index (Delete name value) second) (result_and_then addition r)) (AreDone s delete add)
by_add s delete add name value (Ok (Add document)) is-delete is-add =
    by_first s delete add name value document (execute indexes s.index (Delete name value)) is-delete is-add refl
by_add s delete add name value _ is-delete is-add = tt

by_delete : (s : SessionValue) (delete add : List ℕ) (r : Result Command Refusal) → command delete ≡ r →
    OnOk (result_and_then (λ first. result_and_then (λ second. execute_two indexes s.index first second) (result_and_then addition (command add)))
    (result_and_then deletion r)) (AreDone s delete add)
by_delete s delete add (Ok (Delete name value)) is-delete = by_add s delete add name value (command add) is-delete refl
by_delete s delete add _ is-delete = tt

pub replace-done : (s : SessionValue) (delete add : List ℕ) → OnOk (replace indexes s.index delete add) (AreDone s delete add)
replace-done s delete add = by_delete s delete add (command delete) refl

none_of : (s : SessionValue) (r : Result (Outcome Index) Refusal) → OnErr r (record { number = s.number + lines_done r; index = index_after s.index r } ≡ s)
none_of s (Ok d) = tt
none_of s (Err e) = let same : s.number + 0 ≡ s.number = omega arith in rw same refl

pub replace-none : (s : SessionValue) (delete add : List ℕ) → OnErr (replace indexes s.index delete add) (after_replace s delete add ≡ s)
replace-none s delete add = none_of s (replace indexes s.index delete add)
