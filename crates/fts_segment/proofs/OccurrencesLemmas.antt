-- Loops that append each token of texts to the occurrences.
use Rattle.std.proofs.Common.{◌≡◌, ◌≤◌, ℕ, suc, ◌+◌, List, [], ◌∷◌, ◌++◌, Option, map, drop, length, refl, sym, ap, subst, ◌∙◌, All}
use Rattle.std.proofs.Common.{append_assoc, append-nil, arith}
use Rattle.std.specs.Str.{IsUtf8}
use Rattle.fts_text.specs.declared.tokenizer.Token.{Token}
use Rattle.fts_text.specs.declared.tokenizer.Tokens.{Tokens}
use Rattle.fts_text.specs.Tokens.{following, tokens_from, tokens_of_texts}
use Rattle.fts_text.specs.Places.{places_from, places_left, following_left, token_at, IsPlaceFrom}
use Rattle.fts_text.proofs.StretchLemmas.{All-IsPlaceFrom, tokens-places}
use Rattle.fts_model.specs.declared.schema.Kind.{Kind}
use Rattle.fts_model.specs.declared.value.FieldValue.{FieldValue}
use Rattle.fts_model.specs.Documents.{bytes_of}
use Rattle.fts_segment.specs.Occurrences.{OccurrenceValue, occurrence_at, occurrences_at, occurrences, HasRoom}

pub map-map : {A B C : Type 0} (f : B → C) (g : A → B) (xs : List A) → map (λ x. f (g x)) xs ≡ map f (map g xs)
map-map f g [] = refl
map-map f g (x ∷ xs) = ap (λ ys. f (g x) ∷ ys) (map-map f g xs)

-- a loop over the rest of a text: its places are in the text; the log with the remaining tokens is the whole; the next
-- text's first number is known
pub record Logs (first : ℕ) (text : List ℕ) (doc : ℕ) (before now : List OccurrenceValue) (left : Tokens) : Type 0 where
  pub within : All (IsPlaceFrom first text) (places_left left)
  pub whole : now ++ map (λ token. occurrence_at doc (token_at text token)) (places_left left) ≡ before ++ map (occurrence_at doc) (tokens_from first text)
  pub follows : following_left left ≡ following first text

pub Logs-start : (first : ℕ) (text : List ℕ) (doc : ℕ) (before : List OccurrenceValue) (left : Tokens) → IsUtf8 text →
    places_left left ≡ places_from first text →
    following_left left ≡ following first text → Logs first text doc before before left
Logs-start first text doc before left utf8 start follows =
    let P : List Token → Type 0 = All (IsPlaceFrom first text) in
    record {
      within = subst P (sym start) (All-IsPlaceFrom first text utf8);
      whole = ap (λ os. before ++ os) (ap (map (λ token. occurrence_at doc (token_at text token))) start ∙ map-map (occurrence_at doc) (token_at text)
          (places_from first text)
          ∙ ap (map (occurrence_at doc)) (tokens-places first text utf8));
      follows = follows;
    }

pub Logs-next : {first : ℕ} {text : List ℕ} {doc : ℕ} {before now : List OccurrenceValue} (token : Token) (left rest : Tokens) (after : List OccurrenceValue) →
    places_left left ≡ token ∷ places_left rest →
    following_left rest ≡ following_left left → after ≡ now ++ occurrence_at doc (token_at text token) ∷ [] → Logs first text doc before now left →
    Logs first text doc before after rest
Logs-next {first} {text} {doc} {before} {now} token left rest after next same put s =
    let P : List Token → Type 0 = All (IsPlaceFrom first text) in
    let o = occurrence_at doc (token_at text token) in
    let others = map (λ t. occurrence_at doc (token_at text t)) (places_left rest) in
    record {
      within = λ k d lt. subst P next s.within (suc k) d (omega arith);
      whole = ap (λ os. os ++ others) put ∙ append_assoc now (o ∷ []) others
          ∙ sym (ap (λ ps. now ++ map (λ t. occurrence_at doc (token_at text t)) ps) next) ∙ s.whole;
      follows = same ∙ s.follows;
    }

-- a loop over texts from number `n`, the next of which has spans numbered from `first`
pub record LogsOn (texts : List (List ℕ)) (doc : ℕ) (before now : List OccurrenceValue) (n first : ℕ) : Type 0 where
  pub room : HasRoom first (drop n texts)
  pub whole : now ++ map (occurrence_at doc) (tokens_of_texts first (drop n texts)) ≡ before ++ map (occurrence_at doc) (tokens_of_texts 0 texts)
  pub few : length (tokens_of_texts 0 texts) + bytes_of (drop n texts) ≤ bytes_of texts + length (tokens_of_texts first (drop n texts))

-- the occurrences of values with one more
pub occurrences-push : (kind : Kind) (doc n : ℕ) (vs : List (Option FieldValue)) (v : Option FieldValue) → n ≡ doc + length vs →
    occurrences kind doc (vs ++ v ∷ []) ≡ occurrences kind doc vs ++ occurrences_at kind n v
occurrences-push kind doc n [] v at =
    append-nil (occurrences_at kind doc v) ∙ ap (λ k. occurrences_at kind k v) (let same : doc ≡ n = omega arith in same)
occurrences-push kind doc n (u ∷ vs) v at =
    ap (λ os. occurrences_at kind doc u ++ os) (occurrences-push kind (doc + 1) n vs v (omega arith))
    ∙ sym (append_assoc (occurrences_at kind doc u) (occurrences kind (doc + 1) vs) (occurrences_at kind n v))
