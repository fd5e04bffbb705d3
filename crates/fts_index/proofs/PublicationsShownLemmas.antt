-- The steps over the shown front keep the rule: a writer's front is replaced by another front of that writer.
use Rattle.std.proofs.Common.{◌≡◌, ◌≢◌, ℕ, Result, Ok, Err, OnOk, MatchResult, List, [], ◌∷◌, ◌++◌, set, Some, None, Option, refl, ap, ◌∙◌, subst, ⊎_elim, fold}
use Rattle.std.proofs.Common.{sym}
use mathlib.Core.Option.{some}
use lib.ListN.{get_elem?}
use Rattle.logbook.specs.Pages.{Book}
use Rattle.left_right.specs.Register.{Admits, TurnsAt, Forks, Merges}
use Rattle.atomic_table.proofs.Lists.{at_set, at_snoc}
use Rattle.fts_index.specs.declared.publications.writer_id.WriterId.{WriterId}
use Rattle.fts_index.specs.Publications.{FrontValue}
use Rattle.fts_index.proofs.PublicationsLemmas.{fold_last}
use Rattle.fts_index.specs.PublicationsShown.{name_of, KnowsName, IsOfOne, Looks}

set_knows : (x : FrontValue) (views : List (Option WriterId)) (seat : ℕ) (w : Option WriterId) → IsOfOne x views → KnowsName w x.seen.of → IsOfOne x (set views seat w)
set_knows x views seat w h new j u e =
    ⊎_elim (λ (t : (j ≡ seat) × (w ≡ u)). subst (λ (v : Option WriterId). KnowsName v x.seen.of) t.1 new) (λ (t : (j ≢ seat) × (get_elem? views j ≡ some u)). h j u
    t.1) (at_set views seat j w u e)

snoc_knows : (x : FrontValue) (views : List (Option WriterId)) (w : Option WriterId) → IsOfOne x views → KnowsName w x.seen.of → IsOfOne x (views ++ w ∷ [])
snoc_knows x views w h new j u e =
    ⊎_elim (λ (t : get_elem? views j ≡ some u). h j u t) (λ (same : w ≡ u). subst (λ (v : Option WriterId). KnowsName v x.seen.of) same new) (at_snoc views w u j e)

pub opens : (x : FrontValue) → IsOfOne x (None ∷ [])
opens x = snoc_knows x [] None (λ j u e. absurd cc) tt

pub admits : Admits IsOfOne None
admits x views h = snoc_knows x views None h tt

pub looks : (seat : ℕ) (v : Option WriterId) (x y : FrontValue) → x.seen.of ≡ y.seen.of → TurnsAt IsOfOne seat v x y Looks
looks seat v x y same views h at = let h' : IsOfOne y views = λ j u e. subst (KnowsName u) same (h j u e) in (
  Some (name_of y.seen.of),
  set_knows y views seat (Some (name_of y.seen.of)) h' refl,
  (h' seat v at, refl),
)

pub forks : (seat : ℕ) (v : Option WriterId) → Forks IsOfOne seat v v v
forks seat v x views h at = snoc_knows x (set views seat v) v (set_knows x views seat v h (h seat v at)) (h seat v at)

pub merges : (seat : ℕ) (v : Option WriterId) (other : ℕ) (w : Option WriterId) → Merges IsOfOne seat v other w w None
merges seat v other w x views h at apart there =
    let told : KnowsName w x.seen.of =
    ⊎_elim (λ (t : (other ≡ seat) × (w ≡ w)). absurd (apart t.0)) (λ (t : (other ≢ seat) × (get_elem? views other ≡ some w)). h other w t.1)
    (at_set views seat other w w there) in
    set_knows x (set views seat w) other None (set_knows x views seat w h told) tt

-- the last of pending operations is what is shown after them
last_pending : (old front : FrontValue) (pending before : List FrontValue) → pending ≡ before ++ front ∷ [] → fold (λ (f : FrontValue) o. o) old pending ≡ front
last_pending old front pending before e = ap (fold (λ f o. o) old) e ∙ fold_last old before front

-- what is shown next is of the writer of the front that was appended
pub of_next : (old next front : FrontValue) (pending before : List FrontValue) → old.seen.of ≡ front.seen.of → pending ≡ before ++ front ∷ [] →
    next ≡ fold (λ (f : FrontValue) o. o) old pending → old.seen.of ≡ next.seen.of
of_next old next front pending before of e is = of ∙ sym (ap (λ f. f.seen.of) (is ∙ last_pending old front pending before e))

-- whether the step went through or not, the front that is shown is of the writer
pub of_shown : {A B : Type 0} (P Q : Type 0) (r : Result A B) (new old front : FrontValue) (pending before : List FrontValue) → old.seen.of ≡ front.seen.of →
    pending ≡ before ++ front ∷ []
    → MatchResult r (λ _. (new ≡ fold (λ (f : FrontValue) o. o) old pending) × P) (λ _. (new ≡ old) × Q) → new.seen.of ≡ front.seen.of
of_shown P Q (Ok a) new old front pending before of e h = ap (λ f. f.seen.of) (h.0 ∙ last_pending old front pending before e)
of_shown P Q (Err f) new old front pending before of e h = ap (λ f. f.seen.of) h.0 ∙ of

-- if the step went through, the front that was appended is shown
pub is_shown : {A B : Type 0} (P Q : Type 0) (r : Result A B) (new old front : FrontValue) (pending before : List FrontValue) → pending ≡ before ++ front ∷ []
    → MatchResult r (λ _. (new ≡ fold (λ (f : FrontValue) o. o) old pending) × P) (λ _. (new ≡ old) × Q) → OnOk r (new ≡ front)
is_shown P Q (Ok a) new old front pending before e h = h.0 ∙ last_pending old front pending before e
is_shown P Q (Err f) new old front pending before e h = tt

-- and then the publisher's seat knows the writer
pub seat_shown : {A B : Type 0} (r : Result A B) (first v w : Option WriterId) (x y : FrontValue) (b : Book) → v ≡ first → y.seen.of ≡ b →
    MatchResult r (λ _. Looks v x y w) (λ _. w ≡ v)
    → MatchResult r (λ _. w ≡ Some (name_of b)) (λ _. w ≡ first)
seat_shown (Ok a) first v w x y b same of h = h.1 ∙ ap (λ k. Some (name_of k)) of
seat_shown (Err f) first v w x y b same of h = h ∙ same
