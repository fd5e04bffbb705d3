-- The meaning of literals: tokens, default fields, numbers.
use Rattle.std.proofs.Common.{◌≡◌, ℕ, suc, ◌+◌, ◌-◌, ◌<◌, ◌≤◌, ◌^◌, Bool, true, false, List, [], ◌∷◌, ◌++◌, length, drop, map, refl, sym, ap, subst, ◌∙◌}
use Rattle.std.proofs.Common.{append_assoc, All, arith, Err, inl, inr, ◌*◌, ◌&&◌, Some, None, ltb}
use Rattle.std.specs.List.{list_any, list_all}
use Rattle.std.specs.Str.{IsUtf8}
use Rattle.std.proofs.lemmas.Bool.{cases_Bool, le-ltb, lt-ltb, ltb-false, and_right, and_parts}
use Rattle.std.proofs.lemmas.List.{drop_all}
use Rattle.fts_text.specs.declared.tokenizer.Token.{Token}
use Rattle.fts_text.specs.Tokens.{tokens}
use Rattle.fts_text.specs.Places.{places, token_at, IsPlaceIn, IsPlaceFrom}
use Rattle.fts_text.proofs.StretchLemmas.{All-IsPlaceFrom, All-IsPlaceIn, IsPlaceIn-first, tokens-places}
use Rattle.fts_model.specs.declared.schema.Field.{Field}
use Rattle.fts_query.specs.declared.error.QueryError.TheVariants.{NoDefaultField}
use Rattle.fts_model.specs.QueryValues.{phrase, nothing}
use Rattle.fts_query.specs.Meanings.{Clause, node, with_tokens, with_value, default_clauses, some_default, literal_anywhere, is_digit, are_digits}
use Rattle.fts_query.specs.Meanings.{decimal_after, decimal, number_below}
use Rattle.fts_query.specs.Gathering.{Gathered, gather_all, gathered_node}
use Rattle.fts_query.proofs.GatheringLemmas.{nothing_gathered, gathered_node-all}
use Rattle.std.specs.Prelude.{◌==◌}
use Rattle.std.proofs.lemmas.Option.{cond_some}
use Rattle.fts_model.specs.declared.value.FieldValue.TheVariants as values

-- tokens with their distances from a position
abbrev pub distances : ℕ → List (ℕ × List ℕ) → List (ℕ × List ℕ)
distances from ts = map (λ t. (t.0 - from, t.1)) ts

-- the member of a pattern for a token
abbrev pub member : List ℕ → ℕ → Token → ℕ × List ℕ
member text from place = ((token_at text place).0 - from, (token_at text place).1)

-- the members of a pattern are its tokens with their distances
map-member : (text : List ℕ) (from : ℕ) (ps : List Token) → map (member text from) ps ≡ distances from (map (token_at text) ps)
map-member text from [] = refl
map-member text from (p ∷ ps) = ap (λ (l : List (ℕ × List ℕ)). member text from p ∷ l) (map-member text from ps)

-- the next place is in the text, and so are those after it
places-first : (text : List ℕ) (place : Token) (left rest : List Token) → left ≡ place ∷ rest → All (IsPlaceFrom 0 text) left →
    IsPlaceFrom 0 text place × All (IsPlaceFrom 0 text) rest
places-first text place left rest first all =
    let P : List Token → Type 0 = All (IsPlaceFrom 0 text) in
    let each = subst P first all in
    (each 0 place (omega arith), λ k d lt. each (suc k) d (omega arith))

-- a pattern so far, and the places that are left
pub record Gathers (text : List ℕ) (from : ℕ) (done : List (ℕ × List ℕ)) (left : List Token) : Type 0 where
  pub within : All (IsPlaceFrom 0 text) left
  pub members : done ++ map (member text from) left ≡ distances from (tokens text)

-- no member is gathered at first
pub Gathers-start : (text : List ℕ) (from : ℕ) (done : List (ℕ × List ℕ)) (left : List Token) → IsUtf8 text → done ≡ [] → left ≡ places text →
    Gathers text from done left
Gathers-start text from done left u e start =
    let P : List Token → Type 0 = All (IsPlaceFrom 0 text) in
    record {
      within = subst P (sym start) (All-IsPlaceFrom 0 text u);
      members = ap (λ (d : List (ℕ × List ℕ)). d ++ map (member text from) left) e ∙ ap (map (member text from)) start ∙ map-member text from (places text)
          ∙ ap (distances from) (tokens-places 0 text u);
    }

-- the next place is one of the text
pub Gathers-place : (text : List ℕ) (from : ℕ) (done : List (ℕ × List ℕ)) (place : Token) (left rest : List Token) → left ≡ place ∷ rest →
    Gathers text from done left → IsPlaceFrom 0 text place
Gathers-place text from done place left rest first g = (places-first text place left rest first g.within).0

-- one more member is collected
pub Gathers-next : (text : List ℕ) (from : ℕ) (done more : List (ℕ × List ℕ)) (place : Token) (left rest : List Token) → left ≡ place ∷ rest →
    more ≡ done ++ member text from place ∷ [] → Gathers text from done left → Gathers text from more rest
Gathers-next text from done more place left rest first e g = record {
  within = (places-first text place left rest first g.within).1;
  members = ap (λ (d : List (ℕ × List ℕ)). d ++ map (member text from) rest) e ∙ append_assoc done (member text from place ∷ []) (map (member text from) rest)
      ∙ ap (λ (l : List Token). done ++ map (member text from) l) (sym first) ∙ g.members;
}

-- a position in a text of a query fits 32 bits
pub position_fits : (text : List ℕ) (place : Token) (from : ℕ) → length text ≤ 4096 → IsPlaceFrom 0 text place → place.position - from < 2 ^ 32
position_fits text place from short at = omega (arith, at.place.nonempty, at.place.within, at.numbered)

-- the tokens of a text are at its places
tokens_of : (text : List ℕ) (left : List Token) → IsUtf8 text → left ≡ places text → tokens text ≡ map (token_at text) left
tokens_of text left u start = sym (tokens-places 0 text u) ∙ ap (map (token_at text)) (sym start)

-- the query of a text without a token
pub no_token : (field : ℕ) (text : List ℕ) (left : List Token) → IsUtf8 text → left ≡ places text → left ≡ [] → with_tokens field (tokens text) ≡ nothing
no_token field text left u start none = ap (with_tokens field) (tokens_of text left u start ∙ ap (map (token_at text)) none)

-- the query of a text of one token
pub one_token : (field : ℕ) (text : List ℕ) (left rest : List Token) (first : Token) → IsUtf8 text → left ≡ places text → left ≡ first ∷ rest → rest ≡ [] →
    with_tokens field (tokens text) ≡ with_value field (values.Text (token_at text first).1)
one_token field text left rest first u start cons none =
    ap (with_tokens field) (tokens_of text left u start ∙ ap (map (token_at text)) (cons ∙ ap (λ (l : List Token). first ∷ l) none))

-- the query of a text of two or more tokens
pub more_tokens : (field : ℕ) (text : List ℕ) (left rest others : List Token) (first second : Token) → IsUtf8 text → left ≡ places text → left ≡ first ∷ rest →
    rest ≡ second ∷ others → with_tokens field (tokens text) ≡ phrase field (distances first.position (tokens text))
more_tokens field text left rest others first second u start cons more =
    let e : tokens text ≡ token_at text first ∷ token_at text second ∷ map (token_at text) others =
    tokens_of text left u start ∙ ap (map (token_at text)) (cons ∙ ap (λ (l : List Token). first ∷ l) more) in
    ap (with_tokens field) e ∙ ap (λ (ts : List (ℕ × List ℕ)). phrase field (distances first.position ts)) (sym e)

-- the first place is in the text
pub first_place : (text : List ℕ) (left rest : List Token) (first : Token) → IsUtf8 text → left ≡ places text → left ≡ first ∷ rest → IsPlaceIn text first
first_place text left rest first u start cons =
    let P : List Token → Type 0 = All (IsPlaceIn text) in
    (IsPlaceIn-first text first left rest cons (subst P (sym start) (All-IsPlaceIn 0 text u))).0

-- a default field
abbrev pub is_default : Field → Bool
is_default f = f.default

-- without a default field there are no clauses
no_clauses : (i : ℕ) (fields : List Field) (text : List ℕ) → list_any is_default fields ≡ false → default_clauses i fields text ≡ []
no_clauses i [] text e = refl
no_clauses i (field ∷ fields) text e =
    elim (cases_Bool field.default) [
      | inl d ↦ absurd (let h : list_any is_default (field ∷ fields) ≡ true = rw d refl in cc)
      | inr d ↦ let h : list_any is_default fields ≡ false = rw d at e in rw d (no_clauses (i + 1) fields text h)
    ]

-- with a default field there are clauses
some_clauses : (i : ℕ) (fields : List Field) (text : List ℕ) → list_any is_default fields ≡ true →
    (c : Clause) × (cs : List Clause) × (default_clauses i fields text ≡ c ∷ cs)
some_clauses i [] text e = absurd (let h = e in cc)
some_clauses i (field ∷ fields) text e =
    elim (cases_Bool field.default) [
      | inl d ↦ rw d (_, _, refl)
      | inr d ↦ let h : list_any is_default fields ≡ true = rw d at e in rw d (some_clauses (i + 1) fields text h)
    ]

-- a literal without a default field is an error
pub no_default : (fields : List Field) (text : List ℕ) → list_any is_default fields ≡ false → literal_anywhere fields text ≡ Err NoDefaultField
unfolding literal_anywhere
no_default fields text e = ap some_default (no_clauses 0 fields text e)

-- a literal is a should in each default field
pub defaults : (fields : List Field) (text : List ℕ) (i : ℕ) (g : Gathered) → list_any is_default fields ≡ true → length fields ≤ i
    → gather_all g (default_clauses i (drop i fields) text) ≡ gather_all nothing_gathered (default_clauses 0 fields text) →
    gathered_node g ≡ literal_anywhere fields text
unfolding literal_anywhere
defaults fields text i g e l h =
    let s = some_clauses 0 fields text e in
    let done : drop i fields ≡ [] = drop_all i fields l in
    let all : g ≡ gather_all nothing_gathered (default_clauses 0 fields text) =
    subst (λ (fs : List Field). gather_all g (default_clauses i fs text) ≡ gather_all nothing_gathered (default_clauses 0 fields text)) done h in
    let whole : some_default (default_clauses 0 fields text) ≡ node (s.0 ∷ s.1) = ap some_default s.2 in
    ap gathered_node all ∙ gathered_node-all (default_clauses 0 fields text) ∙ ap node s.2 ∙ sym whole

-- a number grows with its digits
pub grows : (n : ℕ) (w : List ℕ) → n ≤ decimal_after n w
grows n [] = omega arith
grows n (c ∷ w) = omega (arith, grows (n * 10 + (c - 48)) w)

-- a number at its limit or above is none
pub too_large : (limit : ℕ) (w : List ℕ) → limit ≤ decimal w → number_below limit w ≡ None
unfolding number_below
too_large limit w h =
    let k : ltb (decimal w) limit ≡ false = le-ltb _ _ h in
    let e : (are_digits w && ltb (decimal w) limit) ≡ false = and_right _ _ k in
    rw e refl

-- a number that overflows is none
pub overflows : (n : ℕ) (w all : List ℕ) → decimal_after n w ≡ decimal all → 2 ^ 64 ≤ n → number_below (2 ^ 64) all ≡ None
overflows n w all e h = too_large (2 ^ 64) all (omega (arith, grows n w))

-- a nonempty text is a number if all its characters are digits
are_digits-nonempty : (w : List ℕ) → (length w == 0) ≡ false → are_digits w ≡ list_all is_digit w
are_digits-nonempty [] h = absurd (let k = h in cc)
are_digits-nonempty (c ∷ w) h = refl

-- all digits are read
pub whole_is : (all rest : List ℕ) (n : ℕ) → length rest < 1 → decimal_after n rest ≡ decimal all → list_all is_digit rest ≡ list_all is_digit all →
    (length all == 0) ≡ false → n < 2 ^ 64 → Some n ≡ number_below (2 ^ 64) all
unfolding number_below
whole_is all [] n l e d k h =
    let a : decimal all ≡ n = sym e in
    let b : are_digits all ≡ true = are_digits-nonempty all k ∙ sym d in
    let t : ltb n (2 ^ 64) ≡ true = lt-ltb _ _ h in
    rw (b, a, t) refl
whole_is all (c ∷ rest) n l e d k h = absurd (omega arith)

-- numbers below a limit that is at most 2 ^ 64
module _ (limit : ℕ) (text : List ℕ) (small : limit ≤ 2 ^ 64) where
  -- a number that was found is that of the digits
  found : (n : ℕ) → number_below (2 ^ 64) text ≡ Some n → (are_digits text ≡ true) × (decimal text ≡ n)
  unfolding number_below
  found n e =
      let c = cond_some (are_digits text && ltb (decimal text) (2 ^ 64)) (decimal text) n e in
      ((and_parts (are_digits text) (ltb (decimal text) (2 ^ 64)) c.0).0, c.1)

  -- a number below the limit is found below the limit
  pub smaller_found : (n : ℕ) → number_below (2 ^ 64) text ≡ Some n → n < limit → number_below limit text ≡ Some n
  unfolding number_below
  smaller_found n e l =
      let f = found n e in
      let a : are_digits text ≡ true = f.0 in
      let d : decimal text ≡ n = f.1 in
      let t : ltb n limit ≡ true = lt-ltb _ _ l in
      rw (a, d, t) refl

  -- a number at the limit or above is none below the limit
  pub smaller_beyond : (n : ℕ) → number_below (2 ^ 64) text ≡ Some n → limit ≤ n → number_below limit text ≡ None
  smaller_beyond n e l = too_large limit text (let f = found n e in omega arith)

  -- if no number is found, none is found below the limit
  pub smaller_none : number_below (2 ^ 64) text ≡ None → number_below limit text ≡ None
  unfolding number_below
  smaller_none e =
      elim (cases_Bool (are_digits text)) [
        | inl a ↦ elim (cases_Bool (ltb (decimal text) (2 ^ 64))) [
          | inl t ↦ absurd (let k : number_below (2 ^ 64) text ≡ Some (decimal text) = rw (a, t) refl in cc)
          | inr t ↦ let b : ltb (decimal text) limit ≡ false = le-ltb _ _ (omega (arith, ltb-false _ _ t)) in rw (a, b) refl
        ]
        | inr a ↦ rw a refl
      ]
