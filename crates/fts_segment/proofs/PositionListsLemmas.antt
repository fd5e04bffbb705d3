-- The positions of places, one list for each document.
use Rattle.std.proofs.Common.{◌≡◌, ◌+◌, ◌<◌, ◌≤◌, ◌==◌, ℕ, suc, Bool, true, false, cond, List, [], ◌∷◌, ◌++◌, map, length, get_or, drop, refl, sym, ap, subst}
use Rattle.std.proofs.Common.{◌∙◌, inl, inr, arith, All, append_assoc, append-nil, nat_lt}
use Rattle.std.proofs.lemmas.Bool.{cases_Bool, eqb-true}
use Rattle.std.proofs.lemmas.Bool.Decides.{nat_tests}
use Rattle.std.proofs.lemmas.List.{drop_more, drop_all}
use Rattle.std.proofs.lemmas.List.Elements.{All-head, All-tail}
use Rattle.fts_segment.specs.declared.term_groups.DocPosition.{DocPosition}
use Rattle.fts_segment.specs.Positions.{position_lists_from, position_lists_of}
use Rattle.fts_positions.specs.PositionLists.{IsPositionList}

-- one more place
pub position_lists-step : (whole lists after : List (List ℕ)) (doc : ℕ) (list next : List ℕ) (places : List DocPosition) (i : ℕ) (d p : DocPosition) → i < length places →
    p ≡ get_or places i d →
    after ≡ lists ++ cond (p.doc == doc) [] (list ∷ []) → next ≡ cond (p.doc == doc) list [] ++ p.position ∷ [] →
    lists ++ position_lists_from doc list (drop i places) ≡ whole →
    after ++ position_lists_from p.doc next (drop (i + 1) places) ≡ whole
position_lists-step whole lists after doc list next places i d p within here put grown so_far =
    let ps = drop (i + 1) places in
    let first : drop i places ≡ p ∷ ps = drop_more places i d within ∙ ap (λ x. x ∷ ps) (sym here) in
    let P : Bool → Type 0 = λ b. (lists ++ cond b [] (list ∷ [])) ++ position_lists_from p.doc (cond b list [] ++ p.position ∷ []) ps ≡ lists
    ++ cond b (position_lists_from doc (list ++ p.position ∷ []) ps) (list ∷ position_lists_from p.doc (p.position ∷ []) ps) in
    let step : P (p.doc == doc) = elim (cases_Bool (p.doc == doc)) [
      | inl same ↦ subst P (sym same) (ap (λ rs. rs ++ position_lists_from p.doc (list ++ p.position ∷ []) ps) (append-nil lists)
          ∙ ap (λ n. lists ++ position_lists_from n (list ++ p.position ∷ []) ps) (eqb-true p.doc doc same))
      | inr other ↦ subst P (sym other) (append_assoc lists (list ∷ []) (position_lists_from p.doc (p.position ∷ []) ps))
    ] in
    ap (λ rs. rs ++ position_lists_from p.doc next ps) put ∙ ap (λ r. (lists ++ cond (p.doc == doc) [] (list ∷ [])) ++ position_lists_from p.doc r ps) grown
    ∙ step ∙ ap (λ xs. lists ++ position_lists_from doc list xs) (sym first) ∙ so_far

-- the lists that are left are position lists
pub ArePositionLists-step : (doc : ℕ) (list next : List ℕ) (places : List DocPosition) (i : ℕ) (d p : DocPosition) → i < length places → p ≡ get_or places i d →
    next ≡ cond (p.doc == doc) list [] ++ p.position ∷ [] →
    All IsPositionList (position_lists_from doc list (drop i places)) →
    ((p.doc ≡ doc → ⊥) → IsPositionList list) × All IsPositionList (position_lists_from p.doc next (drop (i + 1) places))
ArePositionLists-step doc list next places i d p within here grown all =
    let ps = drop (i + 1) places in
    let first : drop i places ≡ p ∷ ps = drop_more places i d within ∙ ap (λ x. x ∷ ps) (sym here) in
    let P : List (List ℕ) → Type 0 = All IsPositionList in
    let Q : List ℕ → Type 0 = λ r. All IsPositionList (position_lists_from p.doc r ps) in
    let Both : Bool → Type 0 = λ b. P (cond b (position_lists_from doc (list ++ p.position ∷ []) ps) (list ∷ position_lists_from p.doc (p.position ∷ []) ps)) →
    ((p.doc ≡ doc → ⊥) → IsPositionList list) × Q (cond b list [] ++ p.position ∷ []) in
    let both : Both (p.doc == doc) = elim (cases_Bool (p.doc == doc)) [
      | inl same ↦ subst Both (sym same) (λ h. (
        λ other. absurd (other (eqb-true p.doc doc same)),
        (let R : ℕ → Type 0 = λ n. All IsPositionList (position_lists_from n (list ++ p.position ∷ []) ps) in subst R (sym (eqb-true p.doc doc same)) h),
      ))
      | inr other ↦ subst Both (sym other) (λ h. (
        λ apart. All-head IsPositionList list (position_lists_from p.doc (p.position ∷ []) ps) h,
        All-tail IsPositionList list (position_lists_from p.doc (p.position ∷ []) ps) h,
      ))
    ] in
    let known = both (subst (λ (xs : List DocPosition). All IsPositionList (position_lists_from doc list xs)) first all) in
    (known.0, subst Q (sym grown) known.1)

pub ArePositionLists-end : (doc : ℕ) (list : List ℕ) (places : List DocPosition) (i : ℕ) → length places ≤ i →
    All IsPositionList (position_lists_from doc list (drop i places)) → IsPositionList list
ArePositionLists-end doc list places i past all =
    All-head IsPositionList list [] (subst (λ (xs : List DocPosition). All IsPositionList (position_lists_from doc list xs)) (drop_all i places past) all)

-- a place of a document
abbrev pub place_at : ℕ → ℕ → DocPosition
place_at doc position = record { doc = doc; position = position }

same_doc : (a : ℕ) → (a == a) ≡ true
same_doc a = grind (arith, nat_tests)

other_doc : (a b : ℕ) → a < b → (b == a) ≡ false
other_doc a b h = grind (arith, nat_tests)

-- the list of a document, followed by those of later ones
pub position_list_whole : (doc : ℕ) (list ns : List ℕ) (places : List DocPosition) → All (λ p. doc < p.doc) places →
    position_lists_from doc list (map (place_at doc) ns ++ places) ≡ (list ++ ns) ∷ position_lists_of places
position_list_whole doc list [] [] above = ap (λ r. r ∷ []) (sym (append-nil list))
position_list_whole doc list [] (p ∷ ps) above =
    ap (λ b. cond b (position_lists_from doc (list ++ p.position ∷ []) ps) (list ∷ position_lists_from p.doc (p.position ∷ []) ps))
    (other_doc doc p.doc (All-head (λ (p : DocPosition). doc < p.doc) p ps above))
    ∙ ap (λ r. r ∷ position_lists_from p.doc (p.position ∷ []) ps) (sym (append-nil list))
position_list_whole doc list (n ∷ ns) places above =
    let rest = map (place_at doc) ns ++ places in
    ap (λ b. cond b (position_lists_from doc (list ++ n ∷ []) rest) (list ∷ position_lists_from doc (n ∷ []) rest)) (same_doc doc)
    ∙ position_list_whole doc (list ++ n ∷ []) ns places above ∙ ap (λ r. r ∷ position_lists_of places) (append_assoc list (n ∷ []) ns)

-- the positions of a document, followed by those of later ones
pub position_list_first : (doc : ℕ) (ns : List ℕ) (places : List DocPosition) → All (λ p. doc < p.doc) places → position_lists_of (map (place_at doc) ns ++ places)
    ≡ cond (nat_lt 0 (length ns)) (ns ∷ position_lists_of places) (position_lists_of places)
position_list_first doc [] places above = refl
position_list_first doc (n ∷ ns) places above =
    position_list_whole doc (n ∷ []) ns places above
    ∙ ap (λ b. cond b ((n ∷ ns) ∷ position_lists_of places) (position_lists_of places)) (let more : true ≡ nat_lt 0 (suc (length ns)) =
    grind (arith, nat_tests) in more)
