-- Ordinals of documents, set list by list.
use Rattle.std.proofs.Common.{◌≡◌, ◌+◌, ◌*◌, ◌<◌, ℕ, zero, suc, cond, List, [], ◌∷◌, Option, Some, None, Contains, All, length}
use Rattle.std.proofs.Common.{get_or, map, set, take, replicate, refl, sym, ap, subst, ◌∙◌, arith, inl, inr}
use Rattle.std.specs.Prelude.{slice_get, nat_lt}
use Rattle.std.proofs.lemmas.Bool.{cases_order, lt-ltb, le-ltb}
use Rattle.std.proofs.lemmas.List.{same_lists, get_or-map, get_or-set_same, get_or-set_other, get_or_default, length-map, length-set}
use Rattle.std.proofs.lemmas.List.Sums.{fold-append}
use Rattle.std.proofs.lemmas.Option.{slice_get-get_or, slice_get_within, get_or_from_slice_get}
use Rattle.fts_pack.specs.Documents.{block_at}
use Rattle.fts_pack.proofs.DocumentsLemmas.{take_block}
use Rattle.fts_segment.specs.Between.{AreKeyed}
use Rattle.fts_segment.specs.Keywords.{with_ordinal}

-- an ordinal, if it is below a bound
abbrev pub below : ℕ → Option ℕ → Option ℕ
below bound None = None
below bound (Some ordinal) = cond (nat_lt ordinal bound) (Some ordinal) None

pub length-with_ordinal : (k : ℕ) (os : List (Option ℕ)) (ds : List ℕ) → length (with_ordinal k os ds) ≡ length os
length-with_ordinal k os [] = refl
length-with_ordinal k os (d ∷ ds) = length-with_ordinal k (set os d (Some k)) ds ∙ length-set os d (Some k)

-- one more block got the ordinal
pub with_block : (k : ℕ) (old new end : List (Option ℕ)) (ds : List ℕ) (block : ℕ) → new ≡ with_ordinal k old (take (block * 128) ds) →
    end ≡ with_ordinal k new (block_at ds block) → end ≡ with_ordinal k old (take ((block + 1) * 128) ds)
with_block k old new end ds block so_far here =
    let give : List (Option ℕ) → ℕ → List (Option ℕ) = λ os d. set os d (Some k) in
    here ∙ ap (λ os. with_ordinal k os (block_at ds block)) so_far ∙ sym (fold-append give old (take (block * 128) ds) (block_at ds block))
    ∙ ap (with_ordinal k old) (sym (take_block ds block))

-- a document that got the ordinal has it
kept : (k : ℕ) (os : List (Option ℕ)) (ds : List ℕ) (doc : ℕ) → doc < length os → get_or os doc None ≡ Some k → get_or (with_ordinal k os ds) doc None ≡ Some k
kept k os [] doc within is = is
kept k os (d ∷ ds) doc within is = kept k (set os d (Some k)) ds doc (omega (arith, within, length-set os d (Some k))) (elim (cases_order doc d) [
  | inl same ↦ ap (λ i. get_or (set os d (Some k)) i None) same ∙ get_or-set_same os d (Some k) None (omega (arith, within, same))
  | inr (inl less) ↦ get_or-set_other os d doc (Some k) None (λ same. omega (arith, less, same)) ∙ is
  | inr (inr more) ↦ get_or-set_other os d doc (Some k) None (λ same. omega (arith, more, same)) ∙ is
])

given : (k : ℕ) (os : List (Option ℕ)) (ds : List ℕ) (doc : ℕ) → doc < length os → Contains ds doc → get_or (with_ordinal k os ds) doc None ≡ Some k
given k os [] doc within (i, less, is) = absurd (omega (arith, less))
given k os (d ∷ ds) doc within (zero, less, is) =
    kept k (set os d (Some k)) ds doc (omega (arith, within, length-set os d (Some k)))
    (ap (λ i. get_or (set os d (Some k)) i None) (sym is) ∙ get_or-set_same os d (Some k) None (omega (arith, within, is)))
given k os (d ∷ ds) doc within (suc i, less, is) =
    given k (set os d (Some k)) ds doc (omega (arith, within, length-set os d (Some k))) (i, omega (arith, less), is)

-- the ordinals of other documents are unchanged
other : (k : ℕ) (os : List (Option ℕ)) (ds : List ℕ) (doc : ℕ) → (Contains ds doc → ⊥) → get_or (with_ordinal k os ds) doc None ≡ get_or os doc None
other k os [] doc absent = refl
other k os (d ∷ ds) doc absent =
    other k (set os d (Some k)) ds doc (λ there. absent (suc there.0, omega (arith, there.1), there.2))
    ∙ get_or-set_other os d doc (Some k) None (λ same. absent (0, omega arith, sym same))

-- the ordinals after the documents of one more list got theirs
module _ (column : List (Option ℕ)) (lists : List (List ℕ)) (k : ℕ) (keyed : AreKeyed column lists (λ k. k)) (inside : k < length lists) where
  absent : (doc : ℕ) (v : Option ℕ) → slice_get column doc ≡ Some v → (v ≡ Some k → ⊥) → Contains (get_or lists k []) doc → ⊥
  absent doc v at differs there = differs (let same : Some v ≡ Some (Some k) = sym at ∙ keyed.sound k doc inside there in cc)

  before : (doc : ℕ) (v : Option ℕ) → doc < length column → slice_get column doc ≡ Some v → get_or (map (below k) column) doc None ≡ below k v
  before doc v within at =
      let same : get_or column doc None ≡ v = get_or_from_slice_get column doc v None at in
      get_or-map (below k) column doc None None within ∙ ap (below k) same

  given_here : (doc : ℕ) (v : Option ℕ) → doc < length column → slice_get column doc ≡ Some v →
      get_or (with_ordinal k (map (below k) column) (get_or lists k [])) doc None ≡ below (k + 1) v
  given_here doc None within at =
      other k (map (below k) column) (get_or lists k []) doc (absent doc None at (λ no. cc)) ∙ before doc None within at
  given_here doc (Some o) within at = elim (cases_order o k) [
    | inl same ↦
        let found = keyed.whole doc o at in
        let its : found.0 ≡ k = found.2 ∙ same in
        let there : Contains (get_or lists k []) doc = subst (λ i. Contains (get_or lists i []) doc) its found.3 in
        let size : length (map (below k) column) ≡ length column = length-map column (below k) in
        given k (map (below k) column) (get_or lists k []) doc (omega (arith, within, size)) there
        ∙ sym (ap (λ b. cond b (Some o) None) (lt-ltb o (k + 1) (omega (arith, same))) ∙ ap Some same)
    | inr (inl less) ↦
        other k (map (below k) column) (get_or lists k []) doc (absent doc (Some o) at (λ same. let e : o ≡ k = cc in omega (arith, e, less)))
        ∙ before doc (Some o) within at
        ∙ ap (λ b. cond b (Some o) None) (lt-ltb o k less ∙ sym (lt-ltb o (k + 1) (omega (arith, less))))
    | inr (inr more) ↦
        other k (map (below k) column) (get_or lists k []) doc (absent doc (Some o) at (λ same. let e : o ≡ k = cc in omega (arith, e, more)))
        ∙ before doc (Some o) within at
        ∙ ap (λ b. cond b (Some o) None) (le-ltb o k (omega (arith, more)) ∙ sym (le-ltb o (k + 1) (omega (arith, more))))
  ]

  pub with_next : with_ordinal k (map (below k) column) (get_or lists k []) ≡ map (below (k + 1)) column
  with_next =
      let given_now = with_ordinal k (map (below k) column) (get_or lists k []) in
      let next = map (below (k + 1)) column in
      let old_size : length given_now ≡ length column = length-with_ordinal k (map (below k) column) (get_or lists k []) ∙ length-map column (below k) in
      let new_size : length next ≡ length column = length-map column (below (k + 1)) in
      same_lists given_now next (old_size ∙ sym new_size) (λ doc d less.
      let within : doc < length column = omega (arith, less, old_size) in
      let v = get_or column doc None in
      let at : slice_get column doc ≡ Some v = slice_get-get_or column doc None within in
      get_or_default given_now doc d None less ∙ given_here doc v within at
      ∙ sym (get_or_default next doc d None (omega (arith, within, new_size)) ∙ get_or-map (below (k + 1)) column doc None None within))

-- the documents of a list are among those of the column
pub keyed_within : (column : List (Option ℕ)) (lists : List (List ℕ)) (k n : ℕ) → AreKeyed column lists (λ k. k) → k < length lists → n ≡ length column →
    All (λ doc. doc < n) (get_or lists k [])
keyed_within column lists k n keyed inside size = λ i d less.
    let doc = get_or (get_or lists k []) i d in
    let there : Contains (get_or lists k []) doc = (i, less, get_or_default (get_or lists k []) i doc d less) in
    omega (arith, size, slice_get_within column doc (Some k) (keyed.sound k doc inside there))

-- no document has an ordinal yet
pub none_below : (column : List (Option ℕ)) → replicate (length column) None ≡ map (below 0) column
none_below [] = refl
none_below (None ∷ column) = ap (λ os. None ∷ os) (none_below column)
none_below (Some o ∷ column) = ap (λ os. None ∷ os) (none_below column) ∙ ap (λ b. cond b (Some o) None ∷ map (below 0) column) (sym (le-ltb o 0 (omega arith)))

-- all documents have their ordinals
pub all_below : (column : List (Option ℕ)) (n : ℕ) → ((doc x : ℕ) → slice_get column doc ≡ Some (Some x) → x < n) → map (below n) column ≡ column
all_below [] n few = refl
all_below (None ∷ column) n few = ap (λ os. None ∷ os) (all_below column n (λ doc x at. few (suc doc) x at))
all_below (Some o ∷ column) n few =
    ap (λ b. cond b (Some o) None ∷ map (below n) column) (lt-ltb o n (few 0 o refl))
    ∙ ap (λ os. Some o ∷ os) (all_below column n (λ doc x at. few (suc doc) x at))
