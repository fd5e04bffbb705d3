-- Lists of publications: beginnings of one list, and one publication more.
use Rattle.std.proofs.Common.{◌≡◌, ℕ, ◌<◌, ◌≤◌, List, [], ◌∷◌, ◌++◌, length, slice_index_or, fold, Some, refl, ap, sym, ◌∙◌, subst, arith, length-append}
use Rattle.std.proofs.Common.{append-nil, ⊎_elim}
use Rattle.std.specs.Prelude.{AllPairs}
use Rattle.std.proofs.Math.ListN.{get_or-append}
use Rattle.std.proofs.Math.Nat.{eq-or-lt_of_le}
use Rattle.std.proofs.lemmas.Bool.{cases_lt}
use Rattle.std.proofs.lemmas.List.{append-nil}
use Rattle.std.proofs.lemmas.List.Quantifiers.{all_pairs_push}
use mathlib.Core.List.{IsPrefix}
use Rattle.fts_model.specs.declared.query.Request.{Request}
use Rattle.fts_model.specs.QueryValues.{QueryValue}
use Rattle.fts_model.specs.Answers.{answer}
use Rattle.fts_snapshots.specs.Snapshots.{content_of}
use Rattle.fts_index.specs.declared.publications.publication.Publication.{Publication}
use Rattle.fts_index.specs.Publications.{opening, Follows, ArePublications, newest, schema_of, FrontValue, IsFront, IsOneCommit}

-- each list begins itself
pub prefix_self : {A : Type 0} (xs : List A) → IsPrefix xs xs
prefix_self xs = ([], append-nil xs)

-- the shorter of two beginnings of one list begins the longer
pub prefix_shorter : {A : Type 0} (xs ys zs : List A) → IsPrefix xs zs → IsPrefix ys zs → length xs ≤ length ys → IsPrefix xs ys
prefix_shorter [] ys zs p q le = (ys, refl)
prefix_shorter (x ∷ xs) [] zs p q le = absurd (omega arith)
prefix_shorter (x ∷ xs) (y ∷ ys) [] p q le = absurd (cc (p.1))
prefix_shorter (x ∷ xs) (y ∷ ys) (z ∷ zs) p q le =
    let rest = prefix_shorter xs ys zs (p.0, cc (p.1)) (q.0, cc (q.1)) (omega arith) in
    (rest.0, cc (p.1, q.1, rest.1))

-- a beginning as long as the whole is the whole
pub prefix_whole : {A : Type 0} (xs ys : List A) → IsPrefix xs ys → length ys ≤ length xs → xs ≡ ys
prefix_whole [] [] p le = refl
prefix_whole [] (y ∷ ys) p le = absurd (omega arith)
prefix_whole (x ∷ xs) [] p le = absurd (cc (p.1))
prefix_whole (x ∷ xs) (y ∷ ys) p le = let rest = prefix_whole xs ys (p.0, cc (p.1)) (omega arith) in cc (p.1, rest)

-- the last member of a list that ends with y
pub fold_last : {A : Type 0} (x : A) (xs : List A) (y : A) → fold (λ before z. z) x (xs ++ y ∷ []) ≡ y
fold_last x [] y = refl
fold_last x (z ∷ zs) y = fold_last z zs y

-- the newest is the last member
newest_at : (p : Publication) (ps : List Publication) (d : Publication) → slice_index_or (p ∷ ps) (length ps) d ≡ newest (p ∷ ps)
newest_at p [] d = refl
newest_at p (q ∷ qs) d = newest_at q qs d

follows_self : (p : Publication) → Follows p p
follows_self p = record { schema = refl; stamp = omega arith; content = λ e. refl }

follows_trans : (p q r : Publication) → Follows p q → Follows q r → Follows p r
follows_trans p q r a b = record {
  schema = a.schema ∙ b.schema;
  stamp = omega (arith, a.stamp, b.stamp);
  content = λ e. a.content (omega (arith, a.stamp, b.stamp, e)) ∙ b.content (omega (arith, a.stamp, b.stamp, e));
}

-- the newest follows each member
newest_after : (list : List Publication) (k : ℕ) (d : Publication) → AllPairs Follows list → k < length list → Follows (slice_index_or list k d) (newest list)
newest_after [] k d pairs at = absurd (omega arith)
newest_after (p ∷ ps) k d pairs at =
    ⊎_elim
    (λ (same : k ≡ length ps). subst (λ (q : Publication). Follows q (newest (p ∷ ps))) (sym (ap (λ i. slice_index_or (p ∷ ps) i d) same ∙ newest_at p ps d))
    (follows_self (newest (p ∷ ps))))
    (λ (less : k < length ps). subst (λ (q : Publication). Follows (slice_index_or (p ∷ ps) k d) q) (newest_at p ps d)
    (pairs k (length ps) d less (omega arith)))
    (eq-or-lt_of_le (omega arith))

-- what follows the newest may be published
pub published_snoc : (list : List Publication) (q : Publication) → ArePublications list → Follows (newest list) q → ArePublications (list ++ q ∷ [])
published_snoc [] q are next = absurd (cc (are.opens))
published_snoc (p ∷ ps) q are next = record {
  opens = are.opens ∙ ap (λ s. Some (opening s)) (next.schema ∙ sym (ap (λ (n : Publication). n.schema) (fold_last (opening []) (p ∷ ps) q)));
  follow = all_pairs_push Follows (p ∷ ps) q are.follow (λ k d at. follows_trans _ _ q (newest_after (p ∷ ps) k d are.follow at) next);
}

rest_follows : (x : Publication) (xs rest : List Publication) → ArePublications ((x ∷ xs) ++ rest) → Follows (newest (x ∷ xs)) (newest ((x ∷ xs) ++ rest))
rest_follows x xs rest are =
    let here : slice_index_or ((x ∷ xs) ++ rest) (length xs) x ≡ newest (x ∷ xs) = get_or-append (x ∷ xs) rest x (length xs) (omega arith) ∙ newest_at x xs x in
    subst (λ (q : Publication). Follows q (newest ((x ∷ xs) ++ rest))) here (newest_after ((x ∷ xs) ++ rest) (length xs) x are.follow
    (omega (arith, length-append xs rest)))

-- if a list begins another, the newest of the whole follows the newest of the beginning
pub newest_follows : (known more : List Publication) → IsPrefix known more → ArePublications known → ArePublications more → Follows (newest known) (newest more)
newest_follows [] more p begun are = absurd (cc (begun.opens))
newest_follows (x ∷ xs) more p begun are =
    subst (λ (l : List Publication). Follows (newest (x ∷ xs)) (newest l)) p.1 (rest_follows x xs p.0 (subst ArePublications (sym p.1) are))

-- two beginnings of one list end with the same schema, and with the same content if they end with the same stamp
pub newest_alike : (xs ys both : List Publication) → IsPrefix xs both → IsPrefix ys both → ArePublications xs → ArePublications ys →
    ((newest xs).schema ≡ (newest ys).schema) × ((newest xs).stamp ≡ (newest ys).stamp → (newest xs).content ≡ (newest ys).content)
newest_alike xs ys both p q are others =
    ⊎_elim
    (λ (less : length xs < length ys). let f = newest_follows xs ys (prefix_shorter xs ys both p q (omega arith)) are others in (f.schema, f.content))
    (λ (least : length ys ≤ length xs). let f = newest_follows ys xs (prefix_shorter ys xs both q p least) others are in
    (sym f.schema, λ same. sym (f.content (sym same))))
    (cases_lt (length xs) (length ys))

-- the last publication has the schema of the snapshot
pub front_schema : (f : FrontValue) → IsFront f → f.snapshot.schema ≡ schema_of f.seen
front_schema f is = sym (ap (λ (n : Publication). n.schema) is.last)

-- two fronts of one list are of one commit if their stamps are equal
pub one_commit : (a b : FrontValue) (both : List Publication) → IsPrefix a.seen.list both → IsPrefix b.seen.list both → IsFront a → IsFront b →
    a.stamp ≡ b.stamp → IsOneCommit a b
one_commit a b both p q mine other same =
    let alike = newest_alike a.seen.list b.seen.list both p q mine.legal other.legal in
    record {
      stamp = same;
      schema = sym (ap (λ (n : Publication). n.schema) mine.last) ∙ alike.0 ∙ ap (λ (n : Publication). n.schema) other.last;
      content = sym (ap (λ (n : Publication). n.content) mine.last)
          ∙ alike.1 (ap (λ (n : Publication). n.stamp) mine.last ∙ same ∙ sym (ap (λ (n : Publication). n.stamp) other.last))
          ∙ ap (λ (n : Publication). n.content) other.last;
    }

-- one commit has one answer
pub answers_alike : (a b : FrontValue) (query : QueryValue) (request : Request) → IsOneCommit a b →
    answer a.snapshot.schema query request (content_of a.snapshot) ≡ answer b.snapshot.schema query request (content_of b.snapshot)
answers_alike a b query request one = λ i. answer (one.schema i) query request (one.content i)
