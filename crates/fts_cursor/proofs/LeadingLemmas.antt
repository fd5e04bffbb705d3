-- Lists of which the shortest leads: what a conjunction over them finds, and what it opens.
use Rattle.std.proofs.Common.{◌≡◌, ◌≢◌, ℕ, zero, suc, ◌+◌, ◌<◌, ◌≤◌, Bool, true, false, cond, ◌&&◌, ◌||◌, nat_lt, List, [], ◌∷◌, ◌++◌, length, map, take}
use Rattle.std.proofs.Common.{get_or, refl, sym, ap, ap₂, subst, ◌∙◌, inl, inr, arith}
use Rattle.std.specs.List.{All, AllZip, list_all, slice_get, sum_by}
use Rattle.std.proofs.lemmas.Bool.{and_parts, cases_lt, false≢true, le-ltb, lt-ltb}
use Rattle.std.proofs.lemmas.List.{length-append, map-append, take_more}
use Rattle.std.proofs.lemmas.List.Elements.{All-cons, All-nil}
use Rattle.std.proofs.lemmas.List.Folds.{list_all-append}
use Rattle.std.proofs.lemmas.List.Sums.{fold-append, sum_by-cons}
use Rattle.std.proofs.Math.Bool.{and-false, and-true}
use Rattle.std.specs.Prelude.{if◌then◌else◌}
use Rattle.fts_pack.specs.declared.list_ref.ListRef.{ListRef}
use Rattle.fts_pack.specs.ListRef.{listed}
use Rattle.fts_model.specs.declared.query.Query.{Query}
use Rattle.fts_model.proofs.QueriesBoolean.{matches_in}
use Rattle.fts_pack.specs.Documents.{Rises, blocks_of}
use Rattle.fts_pack.specs.SourceLaws.{blocks_joined, length-blocks_of}
use Rattle.fts_segment.specs.Segments.{SegmentValue, numbers_where}
use Rattle.fts_postings.specs.Conjoined.{AllFollow, Conjoined, bound_of, common_of, counts_of, each_remaining}
use Rattle.fts_postings.specs.Bounds.{Bound}
use Rattle.fts_cursor.specs.Openings.{bound_of_all, shortest_of}
use Rattle.fts_cursor.specs.Leading.{IsLed, IsOver}
use Rattle.fts_cursor.specs.Splits.{bound_over}
use Rattle.fts_postings.specs.Sets.{common, has, in_all}
use Rattle.fts_postings.specs.Posting.{Posting, remaining_of}
use Rattle.fts_cursor.specs.Terms.{AreTied, IsTied}
use Rattle.fts_cursor.proofs.HitsLemmas.{Rises-hits, at_all, hits_of, in_all-hits, numbers_are}
use Rattle.fts_sets.proofs.SetLemmas.{has-filter}
use Rattle.fts_postings.proofs.SetLemmas.{Rises-filter, is_itself}
use Rattle.fts_cursor.proofs.TermsLemmas.{terms-continue}

and_last : (a b c : Bool) → (a && (b && (c && true))) ≡ ((a && b) && c)
and_last true true true = refl
and_last true true false = refl
and_last true false c = refl
and_last false b c = refl

and_around : (a b c : Bool) → (c && (b && (a && true))) ≡ ((a && b) && c)
and_around true true true = refl
and_around true true false = refl
and_around true false true = refl
and_around true false false = refl
and_around false true true = refl
and_around false true false = refl
and_around false false true = refl
and_around false false false = refl

-- one list alone
pub IsLed-one : (xs : List ℕ) → Rises 0 xs → IsLed (xs ∷ []) xs []
IsLed-one xs rises = record { count = refl; same = λ d. refl; least = refl; rises = rises }

-- one list more
pub IsLed-more : (lists : List (List ℕ)) (shortest x shorter longer : List ℕ) (others : List (List ℕ)) → IsLed lists shortest others → Rises 0 x →
    shorter ≡ (if nat_lt (length x) (length shortest) then x else shortest) → longer ≡ (if nat_lt (length x) (length shortest) then shortest else x) →
    IsLed (lists ++ x ∷ []) shorter (others ++ longer ∷ [])
IsLed-more [] shortest x shorter longer others h rises is other = absurd (omega (arith, h.count))
IsLed-more (y ∷ lists) shortest x shorter longer others h rises is other =
    let count : length ((y ∷ lists) ++ x ∷ []) ≡ suc (length (others ++ longer ∷ [])) =
    omega (arith, h.count, length-append (y ∷ lists) (x ∷ []), length-append others (longer ∷ [])) in
    let before : (d : ℕ) → in_all ((y ∷ lists) ++ x ∷ []) d ≡ ((has shortest d && in_all others d) && has x d) = λ d.
    list_all-append (λ documents. has documents d) (y ∷ lists) (x ∷ []) ∙ ap₂ (λ a b. a && b) (sym (h.same d)) (and-true (has x d)) in
    let least : shortest_of ((y ∷ lists) ++ x ∷ []) ≡ shorter =
    fold-append (λ (zs : List ℕ) (ys : List ℕ). if nat_lt (length ys) (length zs) then ys else zs) y lists (x ∷ [])
    ∙ ap (λ zs. if nat_lt (length x) (length zs) then x else zs) h.least ∙ sym is in
    let rest : (zs : List ℕ) (d : ℕ) → in_all (others ++ zs ∷ []) d ≡ (in_all others d && (has zs d && true)) =
    λ zs d. list_all-append (λ documents. has documents d) others (zs ∷ []) in
    elim (cases_lt (length x) (length shortest)) [
      | inl less ↦
          let test : nat_lt (length x) (length shortest) ≡ true = lt-ltb (length x) (length shortest) less in
          let first : shorter ≡ x = is ∙ ap (λ b. cond b x shortest) test in
          let second : longer ≡ shortest = other ∙ ap (λ b. cond b shortest x) test in
          record {
            count = count;
            same = λ d. ap₂ (λ a b. has a d && in_all (others ++ b ∷ []) d) first second ∙ ap (λ b. has x d && b) (rest shortest d)
                ∙ and_around (has shortest d) (in_all others d) (has x d) ∙ sym (before d);
            least = least;
            rises = subst (Rises 0) (sym first) rises;
          }
      | inr high ↦
          let test : nat_lt (length x) (length shortest) ≡ false = le-ltb (length x) (length shortest) high in
          let first : shorter ≡ shortest = is ∙ ap (λ b. cond b x shortest) test in
          let second : longer ≡ x = other ∙ ap (λ b. cond b shortest x) test in
          record {
            count = count;
            same = λ d. ap₂ (λ a b. has a d && in_all (others ++ b ∷ []) d) first second ∙ ap (λ b. has shortest d && b) (rest x d)
                ∙ and_last (has shortest d) (in_all others d) (has x d) ∙ sym (before d);
            least = least;
            rises = subst (Rises 0) (sym first) h.rises;
          }
    ]

-- 1 where there are blocks
abbrev pub one_where : List (List ℕ) → ℕ
one_where blocks = if nat_lt 0 (length blocks) then 1 else 0

pub one_where_some : (n : ℕ) (documents : List ℕ) → n ≡ one_where (blocks_of documents) → 0 < length documents → n ≡ 1
one_where_some n documents is some =
    let blocks : 0 < length (blocks_of documents) = omega (arith, length-blocks_of documents, some) in
    is ∙ ap (λ b. cond b 1 0) (lt-ltb 0 (length (blocks_of documents)) blocks)

-- the documents that all queries find
abbrev pub all_hits : SegmentValue → List Query → List ℕ
all_hits segment queries = numbers_where (λ e. list_all (matches_in segment.schema e.value) queries) 0 segment.documents

pub led_hits : (segment : SegmentValue) (queries : List Query) (shortest : List ℕ) (others : List (List ℕ)) →
    IsLed (map (hits_of segment) queries) shortest others → common shortest others ≡ all_hits segment queries
led_hits segment [] shortest others h = absurd (omega (arith, h.count))
led_hits segment (q ∷ qs) shortest others h =
    numbers_are _ segment.documents (common shortest others) (Rises-filter 0 (in_all others) shortest h.rises)
    (λ d. has-filter (in_all others) shortest d ∙ h.same d ∙ in_all-hits segment (q ∷ qs) d ∙ at_all segment.schema (slice_get segment.documents d) q qs)

pub no_hits : (segment : SegmentValue) (queries : List Query) → 0 < length queries → ((d : ℕ) → in_all (map (hits_of segment) queries) d ≡ false) →
    [] ≡ all_hits segment queries
no_hits segment [] some none = absurd (omega (arith, some))
no_hits segment (q ∷ qs) some none =
    numbers_are _ segment.documents [] tt (λ d. sym (none d) ∙ in_all-hits segment (q ∷ qs) d ∙ at_all segment.schema (slice_get segment.documents d) q qs)

-- the lists of cursors
abbrev pub lists_of : List ListRef → List (List ℕ)
lists_of ls = map listed ls

some_in : (xs : List ℕ) (d : ℕ) → has xs d ≡ true → 0 < length xs
some_in [] d h = absurd (false≢true h)
some_in (x ∷ xs) d h = omega arith

first_in : (xs : List ℕ) → xs ≢ [] → (d : ℕ) × (has xs d ≡ true)
first_in [] some = absurd (some refl)
first_in (x ∷ xs) some = (x, ap (λ b. b || has xs x) (is_itself x))

-- cursors over lists, as they were made
record AreOver (ps : List Posting) (lists : List (List ℕ)) : Type 0 where
  pub remaining : each_remaining ps ≡ lists
  pub opened : All (λ p. p.opened ≤ 1) ps
  pub tied : All IsTied ps
  pub enters : (d : ℕ) → in_all lists d ≡ true → length ps ≤ sum_by (λ p. p.count) ps

are_over : (ps : List Posting) (ls : List ListRef) → AllZip (λ p l. IsOver p (listed l)) ps ls → AreOver ps (lists_of ls)
are_over [] [] h = record { remaining = refl; opened = All-nil (λ p. p.opened ≤ 1); tied = All-nil IsTied; enters = λ d at. omega arith }
are_over [] (l ∷ ls) h = absurd h
are_over (p ∷ ps) [] h = absurd h
are_over (p ∷ ps) (l ∷ ls) h =
    let rest = are_over ps ls h.1 in
    record {
      remaining = ap₂ (λ x xs. x ∷ xs) h.0.remaining rest.remaining;
      opened = All-cons (λ q. q.opened ≤ 1) p ps (omega (arith, h.0.opened, h.0.tied)) rest.opened;
      tied = All-cons IsTied p ps h.0.tied rest.tied;
      enters = λ d at.
          let both = and_parts (has (listed l) d) (in_all (lists_of ls) d) at in
          omega (arith, h.0.enters (some_in (listed l) d both.0), h.0.tied, rest.enters d both.1, sum_by-cons (λ q. q.count) p ps);
    }

-- a conjunction of cursors over lists, as they were made
pub record IsFresh (lists : List (List ℕ)) (shortest : List ℕ) (others : List (List ℕ)) (c : Conjoined) : Type 0 where
  pub fresh : All (λ p. p.opened ≤ 1) c.others
  pub tied : AreTied c
  pub remaining : common_of c ≡ common shortest others
  pub bound : bound_of c ≡ bound_of_all lists
  pub opened : common shortest others ≢ [] → length lists ≤ counts_of c

pub length_zip : {A B : Type 0} (R : A → B → Type 0) (xs : List A) (ys : List B) → AllZip R xs ys → length xs ≡ length ys
length_zip R [] [] h = refl
length_zip R [] (y ∷ ys) h = absurd h
length_zip R (x ∷ xs) [] h = absurd h
length_zip R (x ∷ xs) (y ∷ ys) h = omega (arith, length_zip R xs ys h.1)

length_lists : (ls : List ListRef) → length (lists_of ls) ≡ length ls
length_lists [] = refl
length_lists (l ∷ ls) = omega (arith, length_lists ls)

-- the lists of queries, one after the other
pub led_first : (segment : SegmentValue) (queries : List Query) (q : Query) (xs : List ℕ) → 0 < length queries → q ≡ get_or queries 0 q →
    xs ≡ hits_of segment q → IsLed (map (hits_of segment) (take 1 queries)) xs []
led_first segment [] q xs some is hits = absurd (omega (arith, some))
led_first segment (w ∷ ws) q xs some is hits =
    subst (λ ys. IsLed (ys ∷ []) xs []) (hits ∙ ap (hits_of segment) is) (IsLed-one xs (subst (Rises 0) (sym hits) (Rises-hits segment q)))

pub led_next : (segment : SegmentValue) (queries : List Query) (k : ℕ) (q : Query) (shortest x shorter longer : List ℕ) (others : List (List ℕ)) →
    IsLed (map (hits_of segment) (take k queries)) shortest others →
    k < length queries → q ≡ get_or queries k q → x ≡ hits_of segment q →
    shorter ≡ (if nat_lt (length x) (length shortest) then x else shortest) → longer ≡ (if nat_lt (length x) (length shortest) then shortest else x) →
    IsLed (map (hits_of segment) (take (k + 1) queries)) shorter (others ++ longer ∷ [])
led_next segment queries k q shortest x shorter longer others h inside is hits first second =
    let more : map (hits_of segment) (take k queries) ++ x ∷ [] ≡ map (hits_of segment) (take (k + 1) queries) =
    ap (λ ys. map (hits_of segment) (take k queries) ++ ys ∷ []) hits ∙ sym (map-append (hits_of segment) (take k queries) (q ∷ []))
    ∙ ap (map (hits_of segment)) (ap (λ z. take k queries ++ z ∷ []) is ∙ sym (take_more queries k q inside)) in
    subst (λ lists. IsLed lists shorter (others ++ longer ∷ [])) more
    (IsLed-more (map (hits_of segment) (take k queries)) shortest x shorter longer others h (subst (Rises 0) (sym hits) (Rises-hits segment q)) first second)

pub none_in : (segment : SegmentValue) (queries : List Query) (k : ℕ) (q : Query) → k < length queries → q ≡ get_or queries k q → hits_of segment q ≡ [] →
    (d : ℕ) → in_all (map (hits_of segment) queries) d ≡ false
none_in segment [] k q inside is none d = absurd (omega (arith, inside))
none_in segment (w ∷ ws) zero q inside is none d = ap (λ xs. has xs d && in_all (map (hits_of segment) ws) d) (ap (hits_of segment) (sym is) ∙ none)
none_in segment (w ∷ ws) (suc k) q inside is none d =
    ap (λ b. has (hits_of segment w) d && b) (none_in segment ws k q (omega (arith, inside)) is none d) ∙ and-false (has (hits_of segment w) d)

-- a conjunction over a list and others, as it was made or later on
pub record IsConjoinedOver (shortest : List ℕ) (others : List (List ℕ)) (c : Conjoined) : Type 0 where
  pub fresh : AreTied c
  pub remaining : common_of c ≡ common shortest others
  pub bound : bound_of c ≡ bound_over shortest (length others)
  pub opened : (d : ℕ) → has shortest d ≡ true → in_all others d ≡ true → suc (length others) ≤ counts_of c

pub fresh_others : (ps : List Posting) (ls : List ListRef) → AllZip (λ p l. IsOver p (listed l)) ps ls → All (λ p. p.opened ≤ 1) ps
fresh_others ps ls zip = (are_over ps ls zip).opened

pub conjoined_over : (shortest : List ℕ) (ls : List ListRef) (lead : Posting) (ps : List Posting) (c : Conjoined) → IsOver lead shortest →
    AllZip (λ p l. IsOver p (listed l)) ps ls →
    AllFollow (record { lead = lead; others = ps }) c → common_of c ≡ common (remaining_of lead) (each_remaining ps) → IsConjoinedOver shortest (lists_of ls) c
conjoined_over shortest ls lead ps c over zip follows same =
    let rest = are_over ps ls zip in
    let on = terms-continue (record { lead = lead; others = ps }) c follows (over.tied, rest.tied) in
    let continues = on.0 [] [] in
    let many : length ps ≡ length (lists_of ls) = omega (arith, length_zip (λ (p : Posting) (l : ListRef). IsOver p (listed l)) ps ls zip, length_lists ls) in
    let lead_is : bound_of (record { lead = lead; others = ps }) ≡ bound_over shortest (length ps) =
    ap (λ (bs : List (List ℕ)). bound_of (record { lead = record lead { blocks = bs }; others = ps })) over.blocks
    ∙ ap₂ (λ (n : ℕ) (xs : List ℕ). let b : Bound = record { blocks = n; lead = xs; others = length ps } in b) (length-blocks_of shortest)
    (blocks_joined shortest) in
    record {
      fresh = on.1;
      remaining = same ∙ ap₂ common over.remaining rest.remaining;
      bound = continues.bound ∙ lead_is ∙ ap (bound_over shortest) many;
      opened = λ d first at. omega (arith, continues.more, over.enters (some_in shortest d first), over.tied, rest.enters d at, many);
    }
