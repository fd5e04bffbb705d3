-- Clauses that come one by one make the node of all of them.
use Rattle.std.proofs.Common.{◌≡◌, List, [], ◌∷◌, ◌++◌, Ok, Err, Result, refl, sym, ap, ◌∙◌, append_assoc}
use Rattle.std.proofs.lemmas.List.{append-nil}
use Rattle.fts_query.specs.declared.error.QueryError.{QueryError}
use Rattle.fts_query.specs.declared.clauses.Occur.{Occur}
use Rattle.fts_query.specs.declared.clauses.Occur.TheVariants.{Must, MustNot, Should}
use Rattle.fts_base.specs.Results.{result_map}
use Rattle.fts_model.specs.QueryValues.{QueryValue}
use Rattle.fts_query.specs.Meanings.{Meaning, Clause, members, musts, must_nots, shoulds, boolean_of, node}
use Rattle.fts_query.specs.Gathering.{Gathered, gather_all, gathered_node}

-- no clauses are collected
abbrev pub nothing_gathered : Gathered
nothing_gathered = Ok ([], [], [])

-- the node of what was collected and of the members of the clauses that are left
finished : List QueryValue → List QueryValue → List QueryValue → Result (List (Occur × QueryValue)) QueryError → Meaning
finished ms ns ss (Err error) = Err error
finished ms ns ss (Ok qs) = boolean_of (ms ++ musts qs) (ns ++ must_nots qs) (ss ++ shoulds qs)

-- a must is collected among the musts
goes_must : (m n s : List QueryValue) (q : QueryValue) (r : Result (List (Occur × QueryValue)) QueryError) →
    finished m n s (result_map (λ qs. (Must, q) ∷ qs) r) ≡ finished (m ++ q ∷ []) n s r
unfolding finished
goes_must m n s q (Ok qs) = ap (λ (x : List QueryValue). boolean_of x (n ++ must_nots qs) (s ++ shoulds qs)) (sym (append_assoc m (q ∷ []) (musts qs)))
goes_must m n s q (Err f) = refl

-- a must-not is collected among the must-nots
goes_must_not : (m n s : List QueryValue) (q : QueryValue) (r : Result (List (Occur × QueryValue)) QueryError) →
    finished m n s (result_map (λ qs. (MustNot, q) ∷ qs) r) ≡ finished m (n ++ q ∷ []) s r
unfolding finished
goes_must_not m n s q (Ok qs) = ap (λ (x : List QueryValue). boolean_of (m ++ musts qs) x (s ++ shoulds qs)) (sym (append_assoc n (q ∷ []) (must_nots qs)))
goes_must_not m n s q (Err f) = refl

-- a should is collected among the shoulds
goes_should : (m n s : List QueryValue) (q : QueryValue) (r : Result (List (Occur × QueryValue)) QueryError) →
    finished m n s (result_map (λ qs. (Should, q) ∷ qs) r) ≡ finished m n (s ++ q ∷ []) r
unfolding finished
goes_should m n s q (Ok qs) = ap (λ (x : List QueryValue). boolean_of (m ++ musts qs) (n ++ must_nots qs) x) (sym (append_assoc s (q ∷ []) (shoulds qs)))
goes_should m n s q (Err f) = refl

-- an error stays the result
faulty : (error : QueryError) (cs : List Clause) → gathered_node (gather_all (Err error) cs) ≡ Err error
faulty error [] = refl
faulty error (c ∷ cs) = faulty error cs

-- the clauses that are left are collected in their lists
finishes : (ms ns ss : List QueryValue) (cs : List Clause) → finished ms ns ss (members cs) ≡ gathered_node (gather_all (Ok (ms, ns, ss)) cs)
unfolding finished
finishes ms ns ss [] = rw (append-nil ms, append-nil ns, append-nil ss) refl
finishes ms ns ss ((occur, Err error) ∷ cs) = sym (faulty error cs)
finishes ms ns ss ((Must, Ok q) ∷ cs) = goes_must ms ns ss q (members cs) ∙ finishes (ms ++ q ∷ []) ns ss cs
finishes ms ns ss ((MustNot, Ok q) ∷ cs) = goes_must_not ms ns ss q (members cs) ∙ finishes ms (ns ++ q ∷ []) ss cs
finishes ms ns ss ((Should, Ok q) ∷ cs) = goes_should ms ns ss q (members cs) ∙ finishes ms ns (ss ++ q ∷ []) cs

-- a node from its members
node_from : (cs : List Clause) (r : Result (List (Occur × QueryValue)) QueryError) → members cs ≡ r → node cs ≡ finished [] [] [] r
unfolding node finished
node_from cs (Ok qs) e = rw e refl
node_from cs (Err f) e = rw e refl

-- the node of clauses that came one by one
pub gathered_node-all : (cs : List Clause) → gathered_node (gather_all nothing_gathered cs) ≡ node cs
gathered_node-all cs = sym (node_from cs (members cs) refl ∙ finishes [] [] [] cs)
