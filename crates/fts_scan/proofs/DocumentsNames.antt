-- The members of each object that is read are in the order of their names.
use Rattle.std.proofs.Common.{◌≡◌, ℕ, List, [], ◌∷◌, Option, Some, None, IfSome, refl, ap, subst, ◌∙◌, option_map, All, Ordering, Less, Equal, Greater, nat_cmp}
use Rattle.std.specs.Prelude.{⊤}
use Rattle.std.specs.Option.{option_and_then}
use Rattle.std.specs.Ordering.{match_ordering, ordering_reverse}
use Rattle.std.specs.Cmp.Lexicographic.{slice_cmp}
use Rattle.std.proofs.lemmas.Cmp.{nat_list_cmp_total}
use Rattle.std.proofs.lemmas.List.Elements.{All-nil, All-cons, All-head, All-tail}
use Rattle.std.proofs.lemmas.List.Kept.{AllPairs-cons}
use Rattle.json.specs.Json as json
use Rattle.json.specs.Lex.{tokens}
use Rattle.serde_json.specs.Data.{Data, number, array, object, item, Members, no_members, member, put}
use Rattle.serde_json.specs.Read.{of_json, of_items, of_members, number_of, read, max_depth}
use Rattle.fts_model.specs.Documents.{member_names, NamesRise}
use Rattle.fts_scan.specs.Names.{NamesRiseWithin, NamesRiseInItems, NamesRiseInMembers}
use Rattle.fts_model.proofs.Lists.{pairs_behind, pairs_front, pairs_none}

-- one name comes before another
abbrev Before : List ℕ → List ℕ → Type 0
Before a b = slice_cmp nat_cmp a b ≡ Less

-- a property of the names of members and of one more holds after that is inserted, by its order and the first one's
all_at : (P : List ℕ → Type 0) (o : Ordering) (k l : List ℕ) (d e : Data) (ms : Members) → P k → P l → All P (member_names ms) →
    All P (member_names (put k d ms)) →
    All P (member_names (match_ordering o (member k d (member l e ms)) (member l d ms) (member l e (put k d ms))))
all_at P Less k l d e ms p q rest later = All-cons P k (l ∷ member_names ms) p (All-cons P l (member_names ms) q rest)
all_at P Equal k l d e ms p q rest later = All-cons P l (member_names ms) q rest
all_at P Greater k l d e ms p q rest later = All-cons P l (member_names (put k d ms)) q later

-- a property of the names of members and of one more holds after that is inserted
All-put : (P : List ℕ → Type 0) (k : List ℕ) (d : Data) (ms : Members) → P k → All P (member_names ms) → All P (member_names (put k d ms))
All-put P k d no_members p ps = All-cons P k [] p (All-nil P)
All-put P k d (member l e ms) p ps =
    let rest = All-tail P l (member_names ms) ps in
    all_at P (slice_cmp nat_cmp k l) k l d e ms p (All-head P l (member_names ms) ps) rest (All-put P k d ms p rest)

-- rising names rise after one is inserted, by its order and the first one's
rise_at : (o : Ordering) (k l : List ℕ) (d e : Data) (ms : Members) → slice_cmp nat_cmp k l ≡ o → NamesRise (member l e ms) → NamesRise (put k d ms) →
    NamesRise (match_ordering o (member k d (member l e ms)) (member l d ms) (member l e (put k d ms)))
rise_at Less k l d e ms c rise later =
    let front = pairs_front Before l (member_names ms) rise in
    AllPairs-cons Before k (l ∷ member_names ms)
    (All-cons (Before k) l (member_names ms) c (λ i n lt. nat_list_cmp_total.trans k l _ c (front i n lt))) rise
rise_at Equal k l d e ms c rise later = rise
rise_at Greater k l d e ms c rise later =
    let up : Before l k = nat_list_cmp_total.antisymm l k ∙ ap ordering_reverse c in
    AllPairs-cons Before l (member_names (put k d ms)) (All-put (Before l) k d ms up (pairs_front Before l (member_names ms) rise)) later

-- rising names rise after one is inserted
rise-put : (k : List ℕ) (d : Data) (ms : Members) → NamesRise ms → NamesRise (put k d ms)
rise-put k d no_members rise = AllPairs-cons Before k [] (All-nil (Before k)) (pairs_none Before)
rise-put k d (member l e ms) rise = rise_at (slice_cmp nat_cmp k l) k l d e ms refl rise (rise-put k d ms (pairs_behind Before l (member_names ms) rise))

-- the names of an object's members rise, and so do those within the values
abbrev MembersRise : Members → Type 0
MembersRise ms = NamesRise ms × NamesRiseInMembers ms

-- names rise within each value after one more is inserted, by its order and the first one's
values_at : (o : Ordering) (k l : List ℕ) (d e : Data) (ms : Members) → NamesRiseWithin d → NamesRiseInMembers (member l e ms) →
    NamesRiseInMembers (put k d ms) →
    NamesRiseInMembers (match_ordering o (member k d (member l e ms)) (member l d ms) (member l e (put k d ms)))
values_at Less k l d e ms r rs later = (r, rs)
values_at Equal k l d e ms r rs later = (r, rs.1)
values_at Greater k l d e ms r rs later = (rs.0, later)

values-put : (k : List ℕ) (d : Data) (ms : Members) → NamesRiseWithin d → NamesRiseInMembers ms → NamesRiseInMembers (put k d ms)
values-put k d no_members r rs = (r, tt)
values-put k d (member l e ms) r rs = values_at (slice_cmp nat_cmp k l) k l d e ms r rs (values-put k d ms r rs.1)

-- a property of an optional value gives one of its image
mapped : {A B : Type 0} (f : A → B) (P : A → Type 0) (Q : B → Type 0) (o : Option A) → ((a : A) → P a → Q (f a)) → IfSome o P → IfSome (option_map f o) Q
mapped f P Q None goes h = tt
mapped f P Q (Some a) goes h = goes a h

bound : {A B : Type 0} (f : A → Option B) (P : A → Type 0) (Q : B → Type 0) (o : Option A) → ((a : A) → P a → IfSome (f a) Q) → IfSome o P →
    IfSome (option_and_then f o) Q
bound f P Q None goes h = tt
bound f P Q (Some a) goes h = goes a h

any : {A : Type 0} (o : Option A) → IfSome o (λ a. ⊤)
any None = tt
any (Some a) = tt

-- the names rise in each object that is read, if they do in the members that were read before
mutual
  json_rises : (j : json.Json) → IfSome (of_json j) NamesRiseWithin
  json_rises json.null = tt
  json_rises (json.boolean b) = tt
  json_rises (json.number s) = mapped number (λ n. ⊤) NamesRiseWithin (number_of s) (λ n h. tt) (any (number_of s))
  json_rises (json.string s) = tt
  json_rises (json.array js) = mapped array NamesRiseInItems NamesRiseWithin (of_items js) (λ ds h. h) (items_rise js)
  json_rises (json.object js) =
      mapped object MembersRise NamesRiseWithin (of_members js no_members) (λ ms h. h) (members_rise js no_members (pairs_none Before, tt))

  items_rise : (js : json.Items) → IfSome (of_items js) NamesRiseInItems
  items_rise json.no_items = tt
  items_rise (json.item j js) =
      bound (λ d. option_map (item d) (of_items js)) NamesRiseWithin NamesRiseInItems (of_json j)
      (λ d r. mapped (item d) NamesRiseInItems NamesRiseInItems (of_items js) (λ ds rs. (r, rs)) (items_rise js)) (json_rises j)

  members_rise : (js : json.Members) (found : Members) → MembersRise found → IfSome (of_members js found) MembersRise
  members_rise json.no_members found rise = rise
  members_rise (json.member k j js) found rise =
      bound (λ d. of_members js (put k d found)) NamesRiseWithin MembersRise (of_json j)
      (λ d r. members_rise js (put k d found) (rise-put k d found rise.0, values-put k d found r rise.1)) (json_rises j)

-- the names rise in each object of a text that is read
pub read-NamesRiseWithin : (text : List ℕ) (d : Data) → read text ≡ Some d → NamesRiseWithin d
read-NamesRiseWithin text d h =
    let tree = option_and_then (λ p. json.if_last p.0 p.1) (json.value max_depth (tokens text)) in
    subst (λ o. IfSome o NamesRiseWithin) h (bound of_json (λ j. ⊤) NamesRiseWithin tree (λ j r. json_rises j) (any tree))
