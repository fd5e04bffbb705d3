-- Loops that look for a token of texts that passes a test.
use Rattle.std.proofs.Common.{◌≡◌, ◌≤◌, ◌<◌, ◌^◌, ℕ, suc, ◌+◌, Bool, true, false, ◌||◌, List, [], ◌∷◌, length, map, drop, get_or, refl, sym, ap, subst, ◌∙◌}
use Rattle.std.proofs.Common.{arith, All, Some, None}
use Rattle.std.specs.List.{list_any}
use Rattle.std.specs.Str.{IsUtf8}
use Rattle.std.proofs.lemmas.List.{drop_more}
use Rattle.std.proofs.lemmas.List.Folds.{list_any-append}
use Rattle.std.proofs.lemmas.List.Sums.{sum_by-cons}
use Rattle.fts_text.specs.declared.tokenizer.Token.{Token}
use Rattle.fts_text.specs.declared.tokenizer.Tokens.{Tokens}
use Rattle.fts_text.specs.Tokens.{following, tokens_from, tokens_of_texts}
use Rattle.fts_text.specs.Places.{places_from, places_left, following_left, token_at, IsPlaceFrom}
use Rattle.fts_text.proofs.StretchLemmas.{All-IsPlaceFrom, tokens-places}
use Rattle.fts_model.specs.Documents.{bytes_of}
use Rattle.fts_scan.specs.Scans.{HasRoom, IsSought}

-- a loop over the rest of a text: its places are in the text, a token of the text passes the test if one of the rest
-- does, and the next text's first number is known
pub record Seeks (first : ℕ) (text : List ℕ) (test : ℕ × List ℕ → Bool) (left : Tokens) : Type 0 where
  pub within : All (IsPlaceFrom first text) (places_left left)
  pub passes : list_any test (map (token_at text) (places_left left)) ≡ list_any test (tokens_from first text)
  pub follows : following_left left ≡ following first text

-- at the start the rest has all places
pub Seeks-start : (first : ℕ) (text : List ℕ) (test : ℕ × List ℕ → Bool) (left : Tokens) → IsUtf8 text → places_left left ≡ places_from first text →
    following_left left ≡ following first text →
    Seeks first text test left
Seeks-start first text test left utf8 start follows =
    let P : List Token → Type 0 = All (IsPlaceFrom first text) in
    record {
      within = subst P (sym start) (All-IsPlaceFrom first text utf8);
      passes = ap (λ ps. list_any test (map (token_at text) ps)) start ∙ ap (list_any test) (tokens-places first text utf8);
      follows = follows;
    }

-- the next place is in the text
pub Seeks-place : (first : ℕ) (text : List ℕ) (test : ℕ × List ℕ → Bool) (token : Token) (left rest : Tokens) → places_left left ≡ token ∷ places_left rest →
    Seeks first text test left →
    IsPlaceFrom first text token
Seeks-place first text test token left rest next s =
    let P : List Token → Type 0 = All (IsPlaceFrom first text) in
    subst P next s.within 0 token (omega arith)

-- a token passes if the next or a later one does
any_of_first : (first : ℕ) (text : List ℕ) (test : ℕ × List ℕ → Bool) (token : Token) (left rest : Tokens) (b : Bool) →
    places_left left ≡ token ∷ places_left rest → test (token_at text token) ≡ b →
    Seeks first text test left → (b || list_any test (map (token_at text) (places_left rest))) ≡ list_any test (tokens_from first text)
any_of_first first text test token left rest b next e s =
    ap (λ b. b || list_any test (map (token_at text) (places_left rest))) (sym e) ∙ ap (λ ps. list_any test (map (token_at text) ps)) (sym next) ∙ s.passes

-- if the next token fails, the loop goes on after it
pub Seeks-next : (first : ℕ) (text : List ℕ) (test : ℕ × List ℕ → Bool) (token : Token) (left rest : Tokens) → places_left left ≡ token ∷ places_left rest →
    following_left rest ≡ following_left left →
    test (token_at text token) ≡ false → Seeks first text test left → Seeks first text test rest
Seeks-next first text test token left rest next same e s =
    let P : List Token → Type 0 = All (IsPlaceFrom first text) in
    record {
      within = λ k d lt. subst P next s.within (suc k) d (omega arith);
      passes = any_of_first first text test token left rest false next e s;
      follows = same ∙ s.follows;
    }

-- if no token is left, none passes
pub Seeks-end : (first : ℕ) (text : List ℕ) (test : ℕ × List ℕ → Bool) (left : Tokens) → places_left left ≡ [] → Seeks first text test left →
    list_any test (tokens_from first text) ≡ false
Seeks-end first text test left none s = sym s.passes ∙ ap (λ ps. list_any test (map (token_at text) ps)) none

-- a loop over texts from number `n`, whose spans are numbered from `first`: a token of all texts passes the test if one
-- of these does
pub record SeeksOn (texts : List (List ℕ)) (test : ℕ × List ℕ → Bool) (n first : ℕ) : Type 0 where
  pub room : HasRoom first (drop n texts)
  pub passes : list_any test (tokens_of_texts first (drop n texts)) ≡ list_any test (tokens_of_texts 0 texts)

-- the spans of the next text have numbers below 2 ^ 63
pub SeeksOn-room : (texts : List (List ℕ)) (test : ℕ × List ℕ → Bool) (n first : ℕ) → n < length texts → SeeksOn texts test n first →
    first + length (get_or texts n []) + 2 < 2 ^ 63
SeeksOn-room texts test n first inside s =
    let here : HasRoom first (get_or texts n [] ∷ drop (n + 1) texts) = subst (HasRoom first) (drop_more texts n [] inside) s.room in
    omega (arith, here, sum_by-cons {X = List ℕ} length (get_or texts n []) (drop (n + 1) texts))

-- a token passes if one of the next text or of a later one does
any_of_text : (texts : List (List ℕ)) (test : ℕ × List ℕ → Bool) (n first : ℕ) → n < length texts → SeeksOn texts test n first →
    list_any test (tokens_from first (get_or texts n [])) || list_any test (tokens_of_texts (following first (get_or texts n [])) (drop (n + 1) texts))
    ≡ list_any test (tokens_of_texts 0 texts)
any_of_text texts test n first inside s =
    sym (list_any-append test (tokens_from first (get_or texts n [])) (tokens_of_texts (following first (get_or texts n [])) (drop (n + 1) texts)))
    ∙ ap (λ ts. list_any test (tokens_of_texts first ts)) (sym (drop_more texts n [] inside)) ∙ s.passes

-- if no token of the next text passes, the loop goes on after it
pub SeeksOn-next : (texts : List (List ℕ)) (test : ℕ × List ℕ → Bool) (n first next : ℕ) → n < length texts → SeeksOn texts test n first →
    IsSought (list_any test (tokens_from first (get_or texts n []))) (following first (get_or texts n [])) (Some next) →
    next ≤ first + length (get_or texts n []) + 1 → SeeksOn texts test (n + 1) next
SeeksOn-next texts test n first next inside s sought near =
    let here : HasRoom first (get_or texts n [] ∷ drop (n + 1) texts) = subst (HasRoom first) (drop_more texts n [] inside) s.room in
    record {
      room = omega (arith, here, near, sum_by-cons {X = List ℕ} length (get_or texts n []) (drop (n + 1) texts));
      passes = ap (λ m. list_any test (tokens_of_texts m (drop (n + 1) texts))) sought.1
          ∙ ap (λ b. b || list_any test (tokens_of_texts (following first (get_or texts n [])) (drop (n + 1) texts))) (sym sought.0)
          ∙ any_of_text texts test n first inside s;
    }

-- the spans of a document's texts have numbers below 2 ^ 63
pub HasRoom-short : (texts : List (List ℕ)) → (length texts ≤ 1024) × (bytes_of texts ≤ 1048576) → HasRoom 0 texts
HasRoom-short texts short = omega (arith, short.0, short.1)
