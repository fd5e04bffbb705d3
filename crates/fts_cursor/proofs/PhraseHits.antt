-- The documents with a phrase, by the lists of its terms.
use Rattle.std.proofs.Common.{◌≡◌, ℕ, zero, suc, ◌+◌, ◌^◌, ◌<◌, ◌≤◌, ◌==◌, nat_lt, cond, Bool, true, false, ◌&&◌, ◌||◌, Option, Some, None, option_map, List}
use Rattle.std.proofs.Common.{[], ◌∷◌, map, length, get_or, refl, sym, ap, ap₂, subst, ◌∙◌, inl, inr, arith}
use Rattle.std.specs.List.{AllZip, filter, list_all, list_any, remove, slice_get}
use Rattle.std.specs.Option.{option_map_or}
use Rattle.std.specs.Str.{bytes_eq}
use Rattle.std.proofs.lemmas.Bool.{and_parts, cases_Bool, false≢true, le-ltb, lt-ltb}
use Rattle.fts_pack.specs.Documents.{Rises}
use Rattle.fts_model.specs.declared.schema.Field.{Field}
use Rattle.fts_model.specs.declared.schema.Kind.{Kind}
use Rattle.fts_model.specs.declared.schema.Kind.TheVariants as kinds
use Rattle.fts_model.specs.declared.operation.Stamped.{Stamped}
use Rattle.fts_model.specs.declared.value.FieldValue.{FieldValue}
use Rattle.fts_model.specs.declared.value.FieldValue.TheVariants as values
use Rattle.fts_model.specs.Documents.{DocumentValue, value_in_field}
use Rattle.fts_model.specs.Operations.{field_has, has as has_term, kind_at, value_has}
use Rattle.fts_model.specs.Queries.{holds_phrases, is_nonempty, leads, query_fits, stands_with, value_has_phrase}
use Rattle.fts_segment.specs.Occurrences.{is_token, tokens_of}
use Rattle.fts_segment.specs.Segments.{SegmentValue, document_tokens, numbers_where, positions_among, postings}
use Rattle.fts_segment.proofs.HoldingLemmas.{numbers_where-cons, length-numbers_where}
use Rattle.fts_cursor.specs.declared.phrase.Member.{Member}
use Rattle.fts_cursor.specs.Builds.{IsCursorOf, IsMemberFor, LacksTerm, text_term}
use Rattle.fts_cursor.specs.Phrases.{AreMembersOf, is_behind, phrase_at, positions_at, rank}
use Rattle.fts_segment.specs.ListIds.{documents_in}
use Rattle.fts_cursor.specs.Hits.{segment_hits}
use Rattle.fts_postings.specs.Conjoined.{each_remaining}
use Rattle.fts_postings.specs.Sets.{common, has, in_all}
use Rattle.fts_postings.specs.Posting.{Posting, remaining_of}
use Rattle.fts_cursor.specs.Terms.{AreTied, IsTied}
use Rattle.fts_model.specs.QueryValues.{phrase}
use Rattle.std.specs.List.Sorted.{IsStrictlyIncreasing}
use Rattle.std.specs.List.{All}
use Rattle.std.proofs.lemmas.List.Elements.{All-cons, All-nil}
use Rattle.std.proofs.Math.Bool.{and-false, and-true, and_comm}
use Rattle.fts_postings.proofs.RemainingLemmas.{increasing-from_Rises}
use Rattle.fts_postings.proofs.SetLemmas.{Rises-filter}
use Rattle.fts_cursor.proofs.HitsLemmas.{Rises-numbers, has-all, numbers_are, test_at}
use Rattle.fts_sets.proofs.SetLemmas.{has-filter}
use Rattle.fts_cursor.proofs.PhraseLeads.{All-removed, AllZip-at, AllZip-removed, all_each, any_some, documents-led, phrase-led}
use Rattle.fts_cursor.proofs.PhraseLemmas.{IsPaired, none_below}
use Rattle.fts_pack.proofs.DocumentsLemmas.{Rises-from_increasing}

-- tests that agree on each member
list_any-same : {X : Type 0} (p q : X → Bool) (xs : List X) → ((x : X) → p x ≡ q x) → list_any p xs ≡ list_any q xs
list_any-same p q [] same = refl
list_any-same p q (x ∷ xs) same = ap₂ (λ a b. a || b) (same x) (list_any-same p q xs same)

list_all-same : {X : Type 0} (p q : X → Bool) (xs : List X) → ((x : X) → p x ≡ q x) → list_all p xs ≡ list_all q xs
list_all-same p q [] same = refl
list_all-same p q (x ∷ xs) same = ap₂ (λ a b. a && b) (same x) (list_all-same p q xs same)

-- a test of the positions of a text is one of the tokens
any_position : (f : ℕ → Bool) (text : List ℕ) (ts : List (ℕ × List ℕ)) → list_any f (positions_among text ts) ≡ list_any (λ t. f t.0 && bytes_eq t.1 text) ts
any_position f text [] = refl
any_position f text (t ∷ ts) =
    elim (bytes_eq t.1 text) as (λ b. list_any f (map (λ (x : ℕ × List ℕ). x.0) (cond b (t ∷ filter (is_token text) ts) (filter (is_token text) ts)))
    ≡ ((f t.0 && b) || list_any (λ x. f x.0 && bytes_eq x.1 text) ts)) [
      | true ↦ ap₂ (λ a b. a || b) (sym (and-true (f t.0))) (any_position f text ts)
      | false ↦ any_position f text ts ∙ ap (λ b. b || list_any (λ x. f x.0 && bytes_eq x.1 text) ts) (sym (and-false (f t.0)))
    ]

-- a token of this text
abbrev token_in : List (ℕ × List ℕ) → List ℕ → Bool
token_in ts text = list_any (λ t. bytes_eq t.1 text) ts

-- the members of a pattern stand at their offsets, by positions
abbrev by_positions : List (ℕ × List ℕ) → ℕ × List ℕ → List (ℕ × List ℕ) → Bool
by_positions ts first others = list_any (λ p. list_all (λ m. list_any (λ q. q + first.0 == p + m.0) (positions_among m.1 ts)) others)
    (positions_among first.1 ts)

positions_lead : (ts : List (ℕ × List ℕ)) (first : ℕ × List ℕ) (others : List (ℕ × List ℕ)) → by_positions ts first others ≡ list_any (leads ts first others) ts
positions_lead ts first others =
    any_position (λ p. list_all (λ m. list_any (λ q. q + first.0 == p + m.0) (positions_among m.1 ts)) others) first.1 ts
    ∙ list_any-same _ (leads ts first others) ts (λ token.
    ap (λ b. b && bytes_eq token.1 first.1) (list_all-same _ (stands_with ts first token) others (λ m. any_position (λ q. q + first.0 == token.0 + m.0) m.1 ts))
    ∙ and_comm (list_all (stands_with ts first token) others) (bytes_eq token.1 first.1))

-- where a test passes for some member, and that follows from nothing of it, it holds
any_const : {X : Type 0} (p : X → Bool) (b : Bool) (xs : List X) → ((x : X) → p x ≡ true → b ≡ true) → list_any p xs ≡ true → b ≡ true
any_const p b [] imp h = absurd (false≢true h)
any_const p b (x ∷ xs) imp h = elim (cases_Bool (p x)) [
  | inl here ↦ imp x here
  | inr not_here ↦ any_const p b xs imp (ap (λ c. c || list_any p xs) (sym not_here) ∙ h)
]

-- the terms of a phrase that stands are tokens
terms_stand : (ts : List (ℕ × List ℕ)) (first : ℕ × List ℕ) (others : List (ℕ × List ℕ)) → list_any (leads ts first others) ts ≡ true →
    list_all (λ m. token_in ts m.1) (first ∷ others) ≡ true
terms_stand ts first others h = ap₂ (λ a b. a && b)
    (any_some (leads ts first others) (λ t. bytes_eq t.1 first.1) ts (λ t k. (and_parts (bytes_eq t.1 first.1) (list_all (stands_with ts first t) others) k).0)
    h)
    (any_const (leads ts first others) (list_all (λ m. token_in ts m.1) others) ts (λ t k.
    all_each (stands_with ts first t) (λ m. token_in ts m.1) others (λ m j. any_some (λ x. (x.0 + first.0 == t.0 + m.0) && bytes_eq x.1 m.1)
    (λ x. bytes_eq x.1 m.1) ts (λ x i. (and_parts (x.0 + first.0 == t.0 + m.0) (bytes_eq x.1 m.1) i).1) j)
    (and_parts (bytes_eq t.1 first.1) (list_all (stands_with ts first t) others) k).1) h)

-- the place of a document among those that pass
ranked : {X : Type 0} (p : X → Bool) (f : X → List ℕ) (k : ℕ) (xs : List X) (n : ℕ) (e : X) → slice_get xs n ≡ Some e → p e ≡ true →
    get_or (map f (filter p xs)) (rank (numbers_where p k xs) (k + n)) [] ≡ f e
ranked p f k [] n e is passes = absurd (let h : None ≡ Some e = is in cc)
ranked p f k (x ∷ xs) zero e is passes =
    let same : x ≡ e = cc in
    let here : k + 0 ≡ k = omega arith in
    let first : p x ≡ true = ap p same ∙ passes in
    let none : rank (cond true (k ∷ numbers_where p (k + 1) xs) (numbers_where p (k + 1) xs)) k ≡ 0 =
    ap length (ap (λ b. cond b (k ∷ filter (λ d. nat_lt d k) (numbers_where p (k + 1) xs)) (filter (λ d. nat_lt d k) (numbers_where p (k + 1) xs)))
    (le-ltb k k (omega arith)) ∙ none_below k (k + 1) (numbers_where p (k + 1) xs) (Rises-numbers p (k + 1) xs) (omega arith)) in
    ap₂ (λ b ns. get_or (map f (cond b (x ∷ filter p xs) (filter p xs))) (rank ns (k + 0)) []) first
    (numbers_where-cons p k x xs ∙ ap (λ b. cond b (k ∷ numbers_where p (k + 1) xs) (numbers_where p (k + 1) xs)) first)
    ∙ ap (λ r. get_or (map f (x ∷ filter p xs)) r []) (ap (rank (k ∷ numbers_where p (k + 1) xs)) here ∙ none) ∙ ap f same
ranked p f k (x ∷ xs) (suc n) e is passes =
    let there : k + suc n ≡ k + 1 + n = omega arith in
    let rest : get_or (map f (filter p xs)) (rank (numbers_where p (k + 1) xs) (k + suc n)) [] ≡ f e =
    ap (λ d. get_or (map f (filter p xs)) (rank (numbers_where p (k + 1) xs) d) []) there ∙ ranked p f (k + 1) xs n e is passes in
    ap (λ ns. get_or (map f (filter p (x ∷ xs))) (rank ns (k + suc n)) []) (numbers_where-cons p k x xs)
    ∙ elim (p x) as (λ b. get_or (map f (cond b (x ∷ filter p xs) (filter p xs))) (rank (cond b (k ∷ numbers_where p (k + 1) xs) (numbers_where p (k + 1) xs))
    (k + suc n)) [] ≡ f e) [
      | true ↦ ap (λ b. get_or (map f (x ∷ filter p xs))
          (length (cond b (k ∷ filter (λ d. nat_lt d (k + suc n)) (numbers_where p (k + 1) xs))
          (filter (λ d. nat_lt d (k + suc n)) (numbers_where p (k + 1) xs)))) []) (lt-ltb k (k + suc n) (omega arith)) ∙ rest
      | false ↦ rest
    ]

-- what a value of a text field has is one of its tokens
value_token : (v : FieldValue) (text : List ℕ) → value_has kinds.Text v (values.Text text) ≡ token_in (tokens_of kinds.Text (Some v)) text
value_token (values.Text t) text = refl
value_token (values.Texts ts) text = refl
value_token (values.Number n) text = refl

field_token : (s : Option Field) (v : Option FieldValue) (text : List ℕ) → option_map (λ f. f.kind) s ≡ Some kinds.Text →
    field_has s v (values.Text text) ≡ token_in (tokens_of kinds.Text v) text
field_token None v text is = absurd (let e : None ≡ Some kinds.Text = is in cc)
field_token (Some f) None text is = refl
field_token (Some f) (Some v) text is =
    let same : f.kind ≡ kinds.Text = cc in
    ap (λ k. value_has k v (values.Text text)) same ∙ value_token v text

phrase_lead : (v : Option FieldValue) (first : ℕ × List ℕ) (others : List (ℕ × List ℕ)) → option_map_or (value_has_phrase (first ∷ others)) v false
    ≡ list_any (leads (tokens_of kinds.Text v) first others) (tokens_of kinds.Text v)
phrase_lead None first others = refl
phrase_lead (Some (values.Text text)) first others = refl
phrase_lead (Some (values.Texts ts)) first others = refl
phrase_lead (Some (values.Number n)) first others = refl

module _ (segment : SegmentValue) (field : ℕ) (kind : kind_at segment.schema field ≡ Some kinds.Text) where
  -- the tokens of a document in the field
  abbrev tokens_at : DocumentValue → List (ℕ × List ℕ)
  tokens_at document = tokens_of kinds.Text (value_in_field document field)

  has_token_at : (document : DocumentValue) (text : List ℕ) → has_term segment.schema document (text_term field text) ≡ token_in (tokens_at document) text
  has_token_at document text = field_token (slice_get segment.schema field) (value_in_field document field) text kind

  module _ (d : ℕ) (e : Stamped DocumentValue) (at : slice_get segment.documents d ≡ Some e) where
    -- the documents of a member have this one where its text is a token
    member_has : (wanted : ℕ × List ℕ) (m : Member) → IsMemberFor segment field wanted m → has (documents_in m.list) d ≡ token_in (tokens_at e.value) wanted.1
    member_has wanted m h =
        ap (λ ds. has ds d) h.documents ∙ has-all (λ x. has_term segment.schema x.value (text_term field wanted.1)) segment.documents d
        ∙ ap (λ s. option_map_or (λ (x : Stamped DocumentValue). has_term segment.schema x.value (text_term field wanted.1)) s false) at
        ∙ has_token_at e.value wanted.1

    -- and there its positions are those of the token
    member_positions : (wanted : ℕ × List ℕ) (m : Member) → IsMemberFor segment field wanted m → token_in (tokens_at e.value) wanted.1 ≡ true →
        positions_at m d ≡ positions_among wanted.1 (tokens_at e.value)
    member_positions wanted m h there =
        let p : Stamped DocumentValue → Bool = λ x. has_term segment.schema x.value (text_term field wanted.1) in
        let f : Stamped DocumentValue → List ℕ = λ x. positions_among wanted.1 (document_tokens segment.schema field x.value) in
        let start : d ≡ 0 + d = omega arith in
        ap₂ (λ ps ds. get_or ps (rank ds d) []) h.positions_are h.documents
        ∙ ap (λ n. get_or (map f (filter p segment.documents)) (rank (numbers_where p 0 segment.documents) n) []) start
        ∙ ranked p f 0 segment.documents d e at (has_token_at e.value wanted.1 ∙ there)
        ∙ ap (λ k. positions_among wanted.1 (option_map_or (λ kind. tokens_of kind (value_in_field e.value field)) k [])) kind

    members_have : (pattern : List (ℕ × List ℕ)) (ms : List Member) → AllZip (IsMemberFor segment field) pattern ms →
        in_all (map (λ m. documents_in m.list) ms) d ≡ list_all (λ w. token_in (tokens_at e.value) w.1) pattern
    members_have [] [] h = refl
    members_have [] (m ∷ ms) h = absurd h
    members_have (w ∷ ws) [] h = absurd h
    members_have (w ∷ ws) (m ∷ ms) h = ap₂ (λ a b. a && b) (member_has w m h.0) (members_have ws ms h.1)

    behind_each : (offset p : ℕ) (pattern : List (ℕ × List ℕ)) (ms : List Member) → AllZip (IsMemberFor segment field) pattern ms →
        list_all (λ w. token_in (tokens_at e.value) w.1) pattern ≡ true →
        list_all (is_behind offset p d) ms ≡ list_all (λ w. list_any (λ q. q + offset == p + w.0) (positions_among w.1 (tokens_at e.value))) pattern
    behind_each offset p [] [] h there = refl
    behind_each offset p [] (m ∷ ms) h there = absurd h
    behind_each offset p (w ∷ ws) [] h there = absurd h
    behind_each offset p (w ∷ ws) (m ∷ ms) h there =
        let both = and_parts (token_in (tokens_at e.value) w.1) (list_all (λ w. token_in (tokens_at e.value) w.1) ws) there in
        ap₂ (λ a b. a && b) (ap₂ (λ (o : ℕ) (ps : List ℕ). list_any (λ q. q + offset == p + o) ps) h.0.offset (member_positions w m h.0 both.0))
        (behind_each offset p ws ms h.1 both.1)

    -- the phrase stands in the document where its positions say so
    phrase_here : (first : ℕ × List ℕ) (others : List (ℕ × List ℕ)) (m : Member) (ms : List Member) → IsMemberFor segment field first m →
        AllZip (IsMemberFor segment field) others ms →
        (in_all (map (λ m. documents_in m.list) (m ∷ ms)) d && phrase_at (m ∷ ms) d) ≡ option_map_or (value_has_phrase (first ∷ others))
        (value_in_field e.value field) false
    phrase_here first others m ms h hs =
        let all = members_have (first ∷ others) (m ∷ ms) (h, hs) in
        let stands = phrase_lead (value_in_field e.value field) first others in
        elim (cases_Bool (list_all (λ w. token_in (tokens_at e.value) w.1) (first ∷ others))) [
          | inl there ↦
              let both = and_parts (token_in (tokens_at e.value) first.1) (list_all (λ w. token_in (tokens_at e.value) w.1) others) there in
              let same : phrase_at (m ∷ ms) d ≡ by_positions (tokens_at e.value) first others =
              ap₂ (λ (o : ℕ) (ps : List ℕ). list_any (λ p. list_all (is_behind o p d) ms) ps) h.offset (member_positions first m h both.0)
              ∙ list_any-same _ _ (positions_among first.1 (tokens_at e.value)) (λ p. behind_each first.0 p others ms hs both.1) in
              ap (λ b. b && phrase_at (m ∷ ms) d) (all ∙ there) ∙ same ∙ positions_lead (tokens_at e.value) first others ∙ sym stands
          | inr missing ↦ ap (λ b. b && phrase_at (m ∷ ms) d) (all ∙ missing)
              ∙ sym (elim (cases_Bool (option_map_or (value_has_phrase (first ∷ others)) (value_in_field e.value field) false)) [
                | inl is ↦ absurd (false≢true (sym missing ∙ terms_stand (tokens_at e.value) first others (sym stands ∙ is)))
                | inr not ↦ not
              ])
        ]

Rises-member : (segment : SegmentValue) (field : ℕ) (wanted : ℕ × List ℕ) (m : Member) → IsMemberFor segment field wanted m → Rises 0 (documents_in m.list)
Rises-member segment field wanted m h =
    subst (Rises 0) (sym h.documents) (Rises-numbers (λ x. has_term segment.schema x.value (text_term field wanted.1)) 0 segment.documents)

at_document : (segment : SegmentValue) (field : ℕ) (kind : kind_at segment.schema field ≡ Some kinds.Text) (first : ℕ × List ℕ) (others : List (ℕ × List ℕ))
    (m : Member) (ms : List Member) → IsMemberFor segment field first m → AllZip (IsMemberFor segment field) others ms →
    (d : ℕ) (s : Option (Stamped DocumentValue)) → slice_get segment.documents d ≡ s →
    (in_all (map (λ n. documents_in n.list) (m ∷ ms)) d && phrase_at (m ∷ ms) d)
    ≡ option_map_or (λ (e : Stamped DocumentValue). option_map_or (value_has_phrase (first ∷ others)) (value_in_field e.value field) false) s false
at_document segment field kind first others m ms h hs d None at =
    let none : has (documents_in m.list) d ≡ false =
    ap (λ ds. has ds d) h.documents ∙ has-all (λ x. has_term segment.schema x.value (text_term field first.1)) segment.documents d
    ∙ ap (λ s. option_map_or (λ (x : Stamped DocumentValue). has_term segment.schema x.value (text_term field first.1)) s false) at in
    ap (λ b. (b && in_all (map (λ (n : Member). documents_in n.list) ms) d) && phrase_at (m ∷ ms) d) none
at_document segment field kind first others m ms h hs d (Some e) at = phrase_here segment field kind d e at first others m ms h hs

-- the documents of all terms in which the phrase stands are those that match, whichever member leads
phrase_hits : (segment : SegmentValue) (field : ℕ) → kind_at segment.schema field ≡ Some kinds.Text →
    (first : ℕ × List ℕ) (others : List (ℕ × List ℕ)) (m : Member) (ms : List Member) → IsMemberFor segment field first m →
    AllZip (IsMemberFor segment field) others ms →
    (k : ℕ) (e : Member) → k < length (m ∷ ms) → Rises 0 (documents_in (get_or (m ∷ ms) k e).list) →
    filter (phrase_at (get_or (m ∷ ms) k e ∷ remove (m ∷ ms) k))
    (common (documents_in (get_or (m ∷ ms) k e).list) (map (λ n. documents_in n.list) (remove (m ∷ ms) k)))
    ≡ segment_hits segment (phrase field (first ∷ others))
phrase_hits segment field kind first others m ms h hs k e inside rises =
    let lead = get_or (m ∷ ms) k e in
    let rest = remove (m ∷ ms) k in
    let lists = map (λ (n : Member). documents_in n.list) rest in
    let p : Stamped DocumentValue → Bool = λ e. option_map_or (value_has_phrase (first ∷ others)) (value_in_field e.value field) false in
    let here : (d : ℕ) → (in_all (documents_in lead.list ∷ lists) d && phrase_at (lead ∷ rest) d) ≡ test_at p segment.documents d = λ d.
    ap₂ (λ a b. a && b) (documents-led (m ∷ ms) k e d inside) (phrase-led (m ∷ ms) k e d inside)
    ∙ at_document segment field kind first others m ms h hs d (slice_get segment.documents d) refl in
    numbers_are p segment.documents _ (Rises-filter 0 (phrase_at (lead ∷ rest)) (common (documents_in lead.list) lists)
    (Rises-filter 0 (in_all lists) (documents_in lead.list) rises))
    (λ d. has-filter (phrase_at (lead ∷ rest)) (common (documents_in lead.list) lists) d ∙ ap (λ b. b && phrase_at (lead ∷ rest) d)
    (has-filter (in_all lists) (documents_in lead.list) d) ∙ here d)

at_each : {X : Type 0} (p : X → Bool) (xs : List X) (k : ℕ) (x : X) → list_all p xs ≡ true → slice_get xs k ≡ Some x → p x ≡ true
at_each p [] k x all is = absurd (let e : None ≡ Some x = is in cc)
at_each p (y ∷ ys) zero x all is = let same : y ≡ x = cc in ap p (sym same) ∙ (and_parts (p y) (list_all p ys) all).0
at_each p (y ∷ ys) (suc k) x all is = at_each p ys k x (and_parts (p y) (list_all p ys) all).1 is

-- where one of the terms has no documents, none match
lacking_at : (segment : SegmentValue) (field : ℕ) → kind_at segment.schema field ≡ Some kinds.Text →
    (first : ℕ × List ℕ) (others : List (ℕ × List ℕ)) (k : ℕ) (w : ℕ × List ℕ) → slice_get (first ∷ others) k ≡ Some w →
    postings segment (text_term field w.1) ≡ [] →
    (d : ℕ) (s : Option (Stamped DocumentValue)) → slice_get segment.documents d ≡ s →
    false ≡ option_map_or (λ (e : Stamped DocumentValue). option_map_or (value_has_phrase (first ∷ others)) (value_in_field e.value field) false) s false
lacking_at segment field kind first others k w is none d None at = refl
lacking_at segment field kind first others k w is none d (Some e) at =
    elim (cases_Bool (option_map_or (value_has_phrase (first ∷ others)) (value_in_field e.value field) false)) [
      | inl matched ↦
          let all = terms_stand (tokens_of kinds.Text (value_in_field e.value field)) first others (sym (phrase_lead (value_in_field e.value field) first others)
          ∙ matched) in
          let token = at_each (λ x. token_in (tokens_of kinds.Text (value_in_field e.value field)) x.1) (first ∷ others) k w all is in
          let there : has (postings segment (text_term field w.1)) d ≡ true =
          has-all (λ x. has_term segment.schema x.value (text_term field w.1)) segment.documents d
          ∙ ap (λ s. option_map_or (λ (x : Stamped DocumentValue). has_term segment.schema x.value (text_term field w.1)) s false) at
          ∙ has_token_at segment field kind e.value w.1 ∙ token in
          absurd (false≢true (sym (ap (λ ds. has ds d) none) ∙ there))
      | inr not ↦ sym not
    ]

pub lacking_hits : (segment : SegmentValue) (field : ℕ) → kind_at segment.schema field ≡ Some kinds.Text → (first : ℕ × List ℕ) (others : List (ℕ × List ℕ)) →
    LacksTerm segment field (first ∷ others) → [] ≡ segment_hits segment (phrase field (first ∷ others))
lacking_hits segment field kind first others lacks =
    numbers_are (λ e. option_map_or (value_has_phrase (first ∷ others)) (value_in_field e.value field) false) segment.documents [] tt
    (λ d. lacking_at segment field kind first others lacks.0 lacks.1 lacks.2 lacks.3 d (slice_get segment.documents d) refl)

pub members_few : (segment : SegmentValue) (field : ℕ) (pattern : List (ℕ × List ℕ)) (ms : List Member) → length segment.documents ≤ 2 ^ 32 →
    AllZip (IsMemberFor segment field) pattern ms →
    All (λ m. IsStrictlyIncreasing (documents_in m.list)) ms × All (λ m. length (documents_in m.list) ≤ 2 ^ 32) ms
members_few segment field [] [] few h = (All-nil (λ m. IsStrictlyIncreasing (documents_in m.list)), All-nil (λ m. length (documents_in m.list) ≤ 2 ^ 32))
members_few segment field [] (m ∷ ms) few h = absurd h
members_few segment field (w ∷ ws) [] few h = absurd h
members_few segment field (w ∷ ws) (m ∷ ms) few h =
    let rest = members_few segment field ws ms few h.1 in
    let here : length (documents_in m.list) ≤ 2 ^ 32 =
    omega (arith, ap length h.0.documents, length-numbers_where (λ x. has_term segment.schema x.value (text_term field w.1)) 0 segment.documents, few) in (
      All-cons (λ n. IsStrictlyIncreasing (documents_in n.list)) m ms (increasing-from_Rises 0 (documents_in m.list) (Rises-member segment field w m h.0))
          rest.0,
      All-cons (λ n. length (documents_in n.list) ≤ 2 ^ 32) m ms here rest.1,
    )

-- what cursors over lists are, as they were made
pub record AreCursors (ps : List Posting) (ms : List Member) : Type 0 where
  pub remaining : each_remaining ps ≡ map (λ m. documents_in m.list) ms
  pub opened : All (λ p. p.opened ≤ 1) ps
  pub tied : All IsTied ps
  pub paired : AllZip IsPaired ps ms

pub are_cursors : (ps : List Posting) (ms : List Member) → AllZip IsCursorOf ps ms → AreCursors ps ms
are_cursors [] [] h = record { remaining = refl; opened = All-nil (λ p. p.opened ≤ 1); tied = All-nil IsTied; paired = tt }
are_cursors [] (m ∷ ms) h = absurd h
are_cursors (p ∷ ps) [] h = absurd h
are_cursors (p ∷ ps) (m ∷ ms) h =
    let rest = are_cursors ps ms h.1 in
    record {
      remaining = ap₂ (λ x xs. x ∷ xs) h.0.remaining rest.remaining;
      opened = All-cons (λ q. q.opened ≤ 1) p ps (omega (arith, h.0.opened, h.0.tied)) rest.opened;
      tied = All-cons IsTied p ps h.0.tied rest.tied;
      paired = (h.0.blocks, rest.paired);
    }

-- a phrase that fits has a member, and its field is one of texts
pub text_kind : (o : Option Kind) → option_map_or holds_phrases o false ≡ true → o ≡ Some kinds.Text
text_kind None h = absurd (false≢true h)
text_kind (Some kinds.Text) h = refl
text_kind (Some kinds.Keyword) h = absurd (false≢true h)
text_kind (Some kinds.U64) h = absurd (false≢true h)
text_kind (Some kinds.I64) h = absurd (false≢true h)

pub phrase_kind : (segment : SegmentValue) (field : ℕ) (pattern : List (ℕ × List ℕ)) → query_fits segment.schema (phrase field pattern) ≡ true →
    kind_at segment.schema field ≡ Some kinds.Text
phrase_kind segment field pattern fits =
    text_kind (kind_at segment.schema field) (and_parts (option_map_or holds_phrases (kind_at segment.schema field) false) (is_nonempty pattern) fits).0

pub lacking : (segment : SegmentValue) (field : ℕ) (pattern : List (ℕ × List ℕ)) → query_fits segment.schema (phrase field pattern) ≡ true →
    LacksTerm segment field pattern → [] ≡ segment_hits segment (phrase field pattern)
lacking segment field [] fits lacks = absurd (let e : None ≡ Some lacks.1 = lacks.2 in cc)
lacking segment field (w ∷ ws) fits lacks = lacking_hits segment field (phrase_kind segment field (w ∷ ws) fits) w ws lacks

-- what the cursors of a phrase are, as they were made
pub record Made (segment : SegmentValue) (field : ℕ) (pattern : List (ℕ × List ℕ)) (lead : Posting) (rest : List Posting) (first : Member)
    (others : List Member) : Type 0 where
  pub fresh : All (λ p. p.opened ≤ 1) rest
  pub tied : AreTied (record { lead = lead; others = rest })
  pub members : AreMembersOf (record { lead = lead; others = rest }) (first ∷ others)
  pub hits : filter (phrase_at (first ∷ others)) (common (remaining_of lead) (each_remaining rest)) ≡ segment_hits segment (phrase field pattern)

made_from : (segment : SegmentValue) (field : ℕ) (w : ℕ × List ℕ) (ws : List (ℕ × List ℕ)) (ps : List Posting) (ms : List Member) (k : ℕ) (p : Posting)
    (m : Member) → kind_at segment.schema field ≡ Some kinds.Text → length segment.documents ≤ 2 ^ 32 →
    AllZip (IsMemberFor segment field) (w ∷ ws) ms → AllZip IsCursorOf ps ms → k < length ms →
    Made segment field (w ∷ ws) (get_or ps k p) (remove ps k) (get_or ms k m) (remove ms k)
made_from segment field w ws ps [] k p m kind few zip h inside = absurd zip
made_from segment field w ws ps (n ∷ ns) k p m kind few zip h inside =
    let lead = AllZip-at IsCursorOf ps (n ∷ ns) k p m inside h in
    let rest = are_cursors (remove ps k) (remove (n ∷ ns) k) (AllZip-removed IsCursorOf ps (n ∷ ns) k h) in
    let each = members_few segment field (w ∷ ws) (n ∷ ns) few zip in
    let first = get_or (n ∷ ns) k m in
    let others = remove (n ∷ ns) k in
    let rise : IsStrictlyIncreasing (documents_in first.list) = each.0 k m inside in
    record {
      fresh = rest.opened;
      tied = (lead.tied, rest.tied);
      members = record {
        paired = (lead.blocks, rest.paired);
        rise = All-cons (λ x. IsStrictlyIncreasing (documents_in x.list)) first others rise (All-removed (λ x. IsStrictlyIncreasing (documents_in x.list))
            (n ∷ ns) k each.0);
        few = All-cons (λ x. length (documents_in x.list) ≤ 2 ^ 32) first others (each.1 k m inside) (All-removed (λ x. length (documents_in x.list) ≤ 2 ^ 32)
            (n ∷ ns) k each.1);
      };
      hits = ap₂ (λ a b. filter (phrase_at (first ∷ others)) (common a b)) lead.remaining rest.remaining
          ∙ phrase_hits segment field kind w ws n ns zip.0 zip.1 k m inside (Rises-from_increasing (documents_in first.list) rise);
    }

pub made : (segment : SegmentValue) (field : ℕ) (pattern : List (ℕ × List ℕ)) (ps : List Posting) (ms : List Member) (k : ℕ) (lead : Posting)
    (rest : List Posting) (first : Member) (others : List Member) → query_fits segment.schema (phrase field pattern) ≡ true →
    length segment.documents ≤ 2 ^ 32 →
    AllZip (IsMemberFor segment field) pattern ms → AllZip IsCursorOf ps ms → k < length ms → lead ≡ get_or ps k lead → rest ≡ remove ps k →
    first ≡ get_or ms k first → others ≡ remove ms k → Made segment field pattern lead rest first others
made segment field [] ps ms k lead rest first others fits few zip h inside l r f o =
    absurd (false≢true (and_parts (option_map_or holds_phrases (kind_at segment.schema field) false) false fits).1)
made segment field (w ∷ ws) ps ms k lead rest first others fits few zip h inside l r f o =
    subst (λ x. Made segment field (w ∷ ws) x rest first others) (sym l)
    (subst (λ x. Made segment field (w ∷ ws) (get_or ps k lead) x first others) (sym r)
    (subst (λ x. Made segment field (w ∷ ws) (get_or ps k lead) (remove ps k) x others) (sym f)
    (subst (λ x. Made segment field (w ∷ ws) (get_or ps k lead) (remove ps k) (get_or ms k first) x) (sym o)
    (made_from segment field w ws ps ms k lead first (phrase_kind segment field (w ∷ ws) fits) few zip h inside))))

pub fresh_rest : (ps : List Posting) (ms : List Member) (k : ℕ) (rest : List Posting) → AllZip IsCursorOf ps ms → rest ≡ remove ps k →
    All (λ p. p.opened ≤ 1) rest
fresh_rest ps ms k rest h is =
    subst (All (λ (p : Posting). p.opened ≤ 1)) (sym is) (are_cursors (remove ps k) (remove ms k) (AllZip-removed IsCursorOf ps ms k h)).opened

-- a phrase that fits has a member
pub some_members : (segment : SegmentValue) (field : ℕ) (pattern : List (ℕ × List ℕ)) (ms : List Member) → query_fits segment.schema (phrase field pattern)
    ≡ true → AllZip (IsMemberFor segment field) pattern ms → 0 < length ms
some_members segment field [] ms fits zip = absurd (false≢true (and_parts (option_map_or holds_phrases (kind_at segment.schema field) false) false fits).1)
some_members segment field (w ∷ ws) [] fits zip = absurd zip
some_members segment field (w ∷ ws) (m ∷ ms) fits zip = omega arith

-- there is a cursor for each member
pub cursors_many : (ps : List Posting) (ms : List Member) → AllZip IsCursorOf ps ms → length ps ≡ length ms
cursors_many [] [] h = refl
cursors_many [] (m ∷ ms) h = absurd h
cursors_many (p ∷ ps) [] h = absurd h
cursors_many (p ∷ ps) (m ∷ ms) h = omega (arith, cursors_many ps ms h.1)
