-- White bytes, and JSON with white space before it.
use Rattle.std.proofs.Common.{◌≡◌, ℕ, Bool, true, false, ◌||◌, eqb, List, [], ◌∷◌, ◌++◌, refl, sym, subst, ◌∙◌}
use Rattle.std.proofs.lemmas.Bool.{and_parts, eqb-true}
use Rattle.std.specs.Str.{is_utf8, chars}
use Rattle.std.specs.Char.{encode_utf8}
use Rattle.json.specs.Lex.{lex}
use Rattle.fts_script.specs.command.Commands.{json_in}
use Rattle.fts_script.specs.session.Text.{is_white, is_blank}

-- what holds of each white byte
of_white : (P : ℕ → Type 0) → P 32 → P 9 → P 13 → (b : ℕ) → is_white b ≡ true → P b
of_white P space tab cr b h = by (eqb b 32) (eqb b 9) (eqb b 13) refl refl refl h
  where
    by : (s t c : Bool) → eqb b 32 ≡ s → eqb b 9 ≡ t → eqb b 13 ≡ c → (s || t || c) ≡ true → P b
    by true t c s-is t-is c-is h = subst P (sym (eqb-true b 32 s-is)) space
    by false true c s-is t-is c-is h = subst P (sym (eqb-true b 9 t-is)) tab
    by false false true s-is t-is c-is h = subst P (sym (eqb-true b 13 c-is)) cr
    by false false false s-is t-is c-is h = cc

-- JSON passes over it
json_in-white : (b : ℕ) (line : List ℕ) → is_white b ≡ true → json_in (b ∷ line) ≡ json_in line
unfolding json_in is_utf8 chars encode_utf8 lex
json_in-white b [] h = of_white (λ v. json_in (v ∷ []) ≡ json_in []) refl refl refl b h
json_in-white b (c ∷ line) h = of_white (λ v. json_in (v ∷ c ∷ line) ≡ json_in (c ∷ line)) refl refl refl b h

pub json_in-blank : (white line : List ℕ) → is_blank white ≡ true → json_in (white ++ line) ≡ json_in line
json_in-blank [] line h = refl
json_in-blank (b ∷ white) line h =
    let parts = and_parts (is_white b) (is_blank white) h in
    json_in-white b (white ++ line) parts.0 ∙ json_in-blank white line parts.1
