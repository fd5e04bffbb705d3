-- The index of the commands that were accepted.
use Rattle.std.proofs.Common.{◌≡◌, ℕ, ◌+◌, ◌||◌, Bool, true, false, not, cond, List, [], ◌∷◌, ◌++◌, length, refl, sym, ap, ◌∙◌, add-zero, arith, length-append}
use Rattle.std.proofs.lemmas.List.{append-nil}
use Rattle.std.specs.List.{list_any}
use Rattle.std.proofs.Math.Bool.{or-true}
use Rattle.fts_model.specs.declared.schema.Field.{Field}
use Rattle.fts_model.specs.declared.operation.Op.{Op}
use Rattle.fts_model.specs.declared.operation.Stamped.{Stamped}
use Rattle.fts_model.specs.Documents.{DocumentValue}
use Rattle.fts_model.specs.Operations.{alive, adds}
use Rattle.fts_model.proofs.OperationsAlive.{alive-history}
use Rattle.fts_engine.specs.Indexes.{Index, indexes, stamp_after}
use Rattle.fts_engine.specs.Histories.{Accepted, Submitted, Committed, RolledBack, take_back, Kept, Operation, CommitPoint, kept, is_commit, up_to_commit}
use Rattle.fts_engine.specs.Histories.{since_commit, stamped_from, History, and_then, histories}
use Rattle.fts_script.proofs.CarrierLemmas.{Simulates}

-- ---- commits among the members of `kept`

any-Operation : (cs : List Kept) (op : Op) → list_any is_commit (cs ++ Operation op ∷ []) ≡ list_any is_commit cs
any-Operation [] op = refl
any-Operation (c ∷ cs) op = ap (λ b. is_commit c || b) (any-Operation cs op)

any-CommitPoint : (cs : List Kept) → list_any is_commit (cs ++ CommitPoint ∷ []) ≡ true
any-CommitPoint [] = refl
any-CommitPoint (c ∷ cs) = ap (λ b. is_commit c || b) (any-CommitPoint cs) ∙ or-true (is_commit c)

up_to-Operation : (cs : List Kept) (op : Op) → up_to_commit (cs ++ Operation op ∷ []) ≡ up_to_commit cs
up_to-Operation [] op = refl
up_to-Operation (c ∷ cs) op =
    ap (λ b. cond (is_commit c || b) (c ∷ up_to_commit (cs ++ Operation op ∷ [])) []) (any-Operation cs op)
    ∙ ap (λ us. cond (is_commit c || list_any is_commit cs) (c ∷ us) []) (up_to-Operation cs op)

up_to-CommitPoint : (cs : List Kept) → up_to_commit (cs ++ CommitPoint ∷ []) ≡ cs ++ CommitPoint ∷ []
up_to-CommitPoint [] = refl
up_to-CommitPoint (c ∷ cs) =
    ap (λ b. cond b (c ∷ up_to_commit (cs ++ CommitPoint ∷ [])) []) (any-CommitPoint (c ∷ cs))
    ∙ ap (λ us. c ∷ us) (up_to-CommitPoint cs)

one_since : (b : Bool) (c : Kept) (bs cs ds : List Kept) → cond b (bs ++ ds) (c ∷ (cs ++ ds)) ≡ cond b bs (c ∷ cs) ++ ds
one_since true c bs cs ds = refl
one_since false c bs cs ds = refl

since-Operation : (cs : List Kept) (op : Op) → since_commit (cs ++ Operation op ∷ []) ≡ since_commit cs ++ Operation op ∷ []
since-Operation [] op = refl
since-Operation (c ∷ cs) op =
    ap (λ b. cond (is_commit c || b) (since_commit (cs ++ Operation op ∷ [])) (c ∷ (cs ++ Operation op ∷ []))) (any-Operation cs op)
    ∙ ap (λ bs. cond (is_commit c || list_any is_commit cs) bs (c ∷ (cs ++ Operation op ∷ []))) (since-Operation cs op)
    ∙ one_since (is_commit c || list_any is_commit cs) c (since_commit cs) cs (Operation op ∷ [])

since-CommitPoint : (cs : List Kept) → since_commit (cs ++ CommitPoint ∷ []) ≡ []
since-CommitPoint [] = refl
since-CommitPoint (c ∷ cs) =
    ap (λ b. cond b (since_commit (cs ++ CommitPoint ∷ [])) (c ∷ (cs ++ CommitPoint ∷ []))) (any-CommitPoint (c ∷ cs))
    ∙ since-CommitPoint cs

one_part : (b : Bool) (c : Kept) (cs us bs : List Kept) → cs ≡ us ++ bs → c ∷ cs ≡ cond b (c ∷ us) [] ++ cond b bs (c ∷ cs)
one_part true c cs us bs e = ap (λ xs. c ∷ xs) e
one_part false c cs us bs e = refl

parts : (cs : List Kept) → cs ≡ up_to_commit cs ++ since_commit cs
parts [] = refl
parts (c ∷ cs) = one_part (is_commit c || list_any is_commit cs) c cs (up_to_commit cs) (since_commit cs) (parts cs)

one_any : (b d : Bool) (c : Kept) (us : List Kept) → is_commit c ≡ b → list_any is_commit us ≡ d → list_any is_commit (cond (b || d) (c ∷ us) []) ≡ (b || d)
one_any true d c us e f = ap (λ x. x || list_any is_commit us) e
one_any false true c us e f = ap (λ x. is_commit c || x) f ∙ or-true (is_commit c)
one_any false false c us e f = refl

any-up_to : (cs : List Kept) → list_any is_commit (up_to_commit cs) ≡ list_any is_commit cs
any-up_to [] = refl
any-up_to (c ∷ cs) = one_any (is_commit c) (list_any is_commit cs) c (up_to_commit cs) refl (any-up_to cs)

one_up : (b : Bool) (c : Kept) (us vs : List Kept) → (is_commit c || list_any is_commit us) ≡ b → up_to_commit us ≡ vs →
    up_to_commit (cond b (c ∷ us) []) ≡ cond b (c ∷ vs) []
one_up true c us vs e f = ap (λ x. cond x (c ∷ up_to_commit us) []) e ∙ ap (λ xs. c ∷ xs) f
one_up false c us vs e f = refl

up_to-up_to : (cs : List Kept) → up_to_commit (up_to_commit cs) ≡ up_to_commit cs
up_to-up_to [] = refl
up_to-up_to (c ∷ cs) =
    one_up (is_commit c || list_any is_commit cs) c (up_to_commit cs) (up_to_commit cs) (ap (λ x. is_commit c || x) (any-up_to cs)) (up_to-up_to cs)

none_left : (b : Bool) (c : Kept) (us : List Kept) → (is_commit c || list_any is_commit us) ≡ b → since_commit us ≡ [] →
    since_commit (cond b (c ∷ us) []) ≡ []
none_left true c us e f = ap (λ x. cond x (since_commit us) (c ∷ us)) e ∙ f
none_left false c us e f = refl

since-up_to : (cs : List Kept) → since_commit (up_to_commit cs) ≡ []
since-up_to [] = refl
since-up_to (c ∷ cs) =
    none_left (is_commit c || list_any is_commit cs) c (up_to_commit cs) (ap (λ x. is_commit c || x) (any-up_to cs)) (since-up_to cs)

-- ---- the members of `kept`

abbrev is_committed : Accepted → Bool
is_committed (Submitted op) = false
is_committed Committed = true
is_committed RolledBack = false

take_back-Submitted : (cs : List Accepted) (op : Op) → take_back (cs ++ Submitted op ∷ []) ≡ take_back cs
take_back-Submitted [] op = refl
take_back-Submitted (Submitted o ∷ cs) op = take_back-Submitted cs op
take_back-Submitted (Committed ∷ cs) op = refl
take_back-Submitted (RolledBack ∷ cs) op = refl

take_back-Committed : (cs : List Accepted) → take_back (cs ++ Committed ∷ []) ≡ take_back cs
take_back-Committed [] = refl
take_back-Committed (Submitted o ∷ cs) = take_back-Committed cs
take_back-Committed (Committed ∷ cs) = refl
take_back-Committed (RolledBack ∷ cs) = refl

take_back-RolledBack : (cs : List Accepted) → take_back (cs ++ RolledBack ∷ []) ≡ (take_back cs || not (list_any is_committed cs))
take_back-RolledBack [] = refl
take_back-RolledBack (Submitted o ∷ cs) = take_back-RolledBack cs
take_back-RolledBack (Committed ∷ cs) = refl
take_back-RolledBack (RolledBack ∷ cs) = refl

one_kept : (b : Bool) (k : Kept) (ks ds : List Kept) → cond b (ks ++ ds) (k ∷ (ks ++ ds)) ≡ cond b ks (k ∷ ks) ++ ds
one_kept true k ks ds = refl
one_kept false k ks ds = refl

kept-Submitted : (cs : List Accepted) (op : Op) → kept (cs ++ Submitted op ∷ []) ≡ kept cs ++ Operation op ∷ []
kept-Submitted [] op = refl
kept-Submitted (Submitted o ∷ cs) op =
    ap (λ b. cond b (kept (cs ++ Submitted op ∷ [])) (Operation o ∷ kept (cs ++ Submitted op ∷ []))) (take_back-Submitted cs op)
    ∙ ap (λ ks. cond (take_back cs) ks (Operation o ∷ ks)) (kept-Submitted cs op)
    ∙ one_kept (take_back cs) (Operation o) (kept cs) (Operation op ∷ [])
kept-Submitted (Committed ∷ cs) op = ap (λ ks. CommitPoint ∷ ks) (kept-Submitted cs op)
kept-Submitted (RolledBack ∷ cs) op = kept-Submitted cs op

kept-Committed : (cs : List Accepted) → kept (cs ++ Committed ∷ []) ≡ kept cs ++ CommitPoint ∷ []
kept-Committed [] = refl
kept-Committed (Submitted o ∷ cs) =
    ap (λ b. cond b (kept (cs ++ Committed ∷ [])) (Operation o ∷ kept (cs ++ Committed ∷ []))) (take_back-Committed cs)
    ∙ ap (λ ks. cond (take_back cs) ks (Operation o ∷ ks)) (kept-Committed cs)
    ∙ one_kept (take_back cs) (Operation o) (kept cs) (CommitPoint ∷ [])
kept-Committed (Committed ∷ cs) = ap (λ ks. CommitPoint ∷ ks) (kept-Committed cs)
kept-Committed (RolledBack ∷ cs) = kept-Committed cs

one_commit : (b : Bool) (op : Op) (ks : List Kept) → list_any is_commit (cond b ks (Operation op ∷ ks)) ≡ list_any is_commit ks
one_commit true op ks = refl
one_commit false op ks = refl

any-kept : (cs : List Accepted) → list_any is_commit (kept cs) ≡ list_any is_committed cs
any-kept [] = refl
any-kept (Submitted op ∷ cs) = one_commit (take_back cs) op (kept cs) ∙ any-kept cs
any-kept (Committed ∷ cs) = refl
any-kept (RolledBack ∷ cs) = any-kept cs

-- without a commit there is nothing up to one
up_to-none : (ks : List Kept) → list_any is_commit ks ≡ false → up_to_commit ks ≡ []
up_to-none [] h = refl
up_to-none (k ∷ ks) h = ap (λ b. cond b (k ∷ up_to_commit ks) []) h

one_taken : (b a : Bool) (op : Op) (ks : List Kept) → list_any is_commit ks ≡ a →
    cond (b || not a) (up_to_commit ks) (Operation op ∷ up_to_commit ks) ≡ up_to_commit (cond b ks (Operation op ∷ ks))
one_taken true a op ks e = refl
one_taken false true op ks e = ap (λ x. cond x (Operation op ∷ up_to_commit ks) []) (sym e)
one_taken false false op ks e = up_to-none ks e ∙ ap (λ x. cond x (Operation op ∷ up_to_commit ks) []) (sym e)

kept-RolledBack : (cs : List Accepted) → kept (cs ++ RolledBack ∷ []) ≡ up_to_commit (kept cs)
kept-RolledBack [] = refl
kept-RolledBack (Submitted op ∷ cs) =
    ap (λ b. cond b (kept (cs ++ RolledBack ∷ [])) (Operation op ∷ kept (cs ++ RolledBack ∷ []))) (take_back-RolledBack cs)
    ∙ ap (λ ks. cond (take_back cs || not (list_any is_committed cs)) ks (Operation op ∷ ks)) (kept-RolledBack cs)
    ∙ one_taken (take_back cs) (list_any is_committed cs) op (kept cs) (any-kept cs)
kept-RolledBack (Committed ∷ cs) = ap (λ ks. CommitPoint ∷ ks) (kept-RolledBack cs)
kept-RolledBack (RolledBack ∷ cs) = kept-RolledBack cs

-- ---- stamps

none_since-one : (b : Bool) (k : Kept) (ks bs : List Kept) → list_any is_commit (k ∷ ks) ≡ b → list_any is_commit bs ≡ false →
    list_any is_commit (cond b bs (k ∷ ks)) ≡ false
none_since-one true k ks bs e h = h
none_since-one false k ks bs e h = e

none_since : (ks : List Kept) → list_any is_commit (since_commit ks) ≡ false
none_since [] = refl
none_since (k ∷ ks) = none_since-one (is_commit k || list_any is_commit ks) k ks (since_commit ks) refl (none_since ks)

stamped-append : (n : ℕ) (ks ls : List Kept) → stamped_from n (ks ++ ls) ≡ stamped_from n ks ++ stamped_from (n + length ks) ls
stamped-append n [] ls = ap (λ m. stamped_from m ls) (sym (add-zero n))
stamped-append n (Operation op ∷ ks) ls =
    ap (λ os. record { stamp = n; value = op } ∷ os)
    (stamped-append (n + 1) ks ls ∙ ap (λ m. stamped_from (n + 1) ks ++ stamped_from m ls) (omega arith))
stamped-append n (CommitPoint ∷ ks) ls = stamped-append (n + 1) ks ls ∙ ap (λ m. stamped_from (n + 1) ks ++ stamped_from m ls) (omega arith)

length-stamped : (n : ℕ) (ks : List Kept) → list_any is_commit ks ≡ false → length (stamped_from n ks) ≡ length ks
length-stamped n [] h = refl
length-stamped n (Operation op ∷ ks) h = let e = length-stamped (n + 1) ks h in omega (arith, e)
length-stamped n (CommitPoint ∷ ks) h = cc

-- ---- the index of a history

-- the index that the commands up to the last commit and those since make
abbrev index_by : List Field → List Kept → List Kept → Index
index_by schema us bs = record {
  schema = schema;
  documents = alive schema (stamped_from 1 us);
  commit_stamp = length us;
  uncommitted = stamped_from (length us + 1) bs;
}

abbrev pub index_of : History → Index
index_of h = index_by h.schema (up_to_commit (kept h.accepted)) (since_commit (kept h.accepted))

stamp_by : (schema : List Field) (ks us bs : List Kept) → ks ≡ us ++ bs → list_any is_commit bs ≡ false → stamp_after (index_by schema us bs) ≡ length ks + 1
stamp_by schema ks us bs e h = omega (arith, length-stamped (length us + 1) bs h, ap length e, length-append us bs)

-- the index of a history whose `kept` is this list
index_kept : (schema : List Field) (ks ls : List Kept) → ks ≡ ls → index_by schema (up_to_commit ks) (since_commit ks)
    ≡ index_by schema (up_to_commit ls) (since_commit ls)
index_kept schema ks ls e = ap (λ xs. index_by schema (up_to_commit xs) (since_commit xs)) e

one_pending : (schema : List Field) (us bs : List Kept) (op : Op) → list_any is_commit bs ≡ false →
    index_by schema us (bs ++ Operation op ∷ []) ≡ indexes.submitted op (index_by schema us bs)
one_pending schema us bs op h =
    let old = stamped_from (length us + 1) bs in
    let here : (length us + 1) + length bs ≡ stamp_after (index_by schema us bs) = omega (arith, length-stamped (length us + 1) bs h) in
    ap (λ (uncommitted : List (Stamped Op)). let i : Index = record {
      schema = schema;
      documents = alive schema (stamped_from 1 us);
      commit_stamp =
          length us;
      uncommitted = uncommitted;
    } in i)
    (stamped-append (length us + 1) bs (Operation op ∷ [])
    ∙ ap (λ n. let o : Stamped Op = record { stamp = n; value = op } in old ++ o ∷ []) here)

index-submitted : (op : Op) (h : History) → index_of (and_then (Submitted op) h) ≡ indexes.submitted op (index_of h)
index-submitted op h =
    let ks = kept h.accepted in
    index_kept h.schema _ _ (kept-Submitted h.accepted op)
    ∙ ap (λ us. index_by h.schema us (since_commit (ks ++ Operation op ∷ []))) (up_to-Operation ks op)
    ∙ ap (index_by h.schema (up_to_commit ks)) (since-Operation ks op)
    ∙ one_pending h.schema (up_to_commit ks) (since_commit ks) op (none_since ks)

all_committed : (schema : List Field) (ks us bs : List Kept) → ks ≡ us ++ bs →
    alive schema (stamped_from 1 (ks ++ CommitPoint ∷ [])) ≡ alive schema (adds (alive schema (stamped_from 1 us)) ++ stamped_from (length us + 1) bs)
all_committed schema ks us bs e =
    ap (alive schema)
    (stamped-append 1 ks (CommitPoint ∷ []) ∙ append-nil (stamped_from 1 ks) ∙ ap (stamped_from 1) e ∙ stamped-append 1 us bs
    ∙ ap (λ n. stamped_from 1 us ++ stamped_from n bs) (omega arith))
    ∙ alive-history schema (stamped_from 1 us) (stamped_from (length us + 1) bs)

whole_index : (schema : List Field) (ds es : List (Stamped DocumentValue)) (n m : ℕ) → ds ≡ es → n ≡ m →
    let i : Index = record { schema = schema; documents = ds; commit_stamp = n; uncommitted = [] } in
    let j : Index = record { schema = schema; documents = es; commit_stamp = m; uncommitted = [] } in i ≡ j
whole_index schema ds es n m d e =
    ap (λ (xs : List (Stamped DocumentValue)). let i : Index = record { schema = schema; documents = xs; commit_stamp = n; uncommitted = [] } in i) d
    ∙ ap (λ (k : ℕ). let i : Index = record { schema = schema; documents = es; commit_stamp = k; uncommitted = [] } in i) e

index-committed : (h : History) → index_of (and_then Committed h) ≡ indexes.committed (index_of h)
index-committed h =
    let ks = kept h.accepted in
    index_kept h.schema _ _ (kept-Committed h.accepted)
    ∙ ap (λ us. index_by h.schema us (since_commit (ks ++ CommitPoint ∷ []))) (up_to-CommitPoint ks)
    ∙ ap (index_by h.schema (ks ++ CommitPoint ∷ [])) (since-CommitPoint ks)
    ∙ whole_index h.schema _ _ _ _ (all_committed h.schema ks (up_to_commit ks) (since_commit ks) (parts ks))
    (omega (arith, stamp_by h.schema ks (up_to_commit ks) (since_commit ks) (parts ks) (none_since ks), length-append ks (CommitPoint ∷ [])))

index-rolled_back : (h : History) → index_of (and_then RolledBack h) ≡ indexes.rolled_back (index_of h)
index-rolled_back h =
    let ks = kept h.accepted in
    index_kept h.schema _ _ (kept-RolledBack h.accepted)
    ∙ ap (λ us. index_by h.schema us (since_commit (up_to_commit ks))) (up_to-up_to ks)
    ∙ ap (index_by h.schema (up_to_commit ks)) (since-up_to ks)

-- each step on a history is the step on its index
pub histories-indexes : Simulates histories indexes index_of
histories-indexes = record {
  opened = λ schema. refl;
  submitted = index-submitted;
  committed = index-committed;
  rolled_back = index-rolled_back;
  schema = λ h. refl;
  documents = λ h. refl;
  commit_stamp = λ h. refl;
  uncommitted = λ h. length-stamped (length (up_to_commit (kept h.accepted)) + 1) (since_commit (kept h.accepted)) (none_since (kept h.accepted));
}
