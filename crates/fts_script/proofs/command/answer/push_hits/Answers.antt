use Rattle.std.proofs.Common.{◌≡◌, ◌+◌, ◌<◌, ◌≤◌, ◌++◌, ◌∙◌, ℕ, List, [], ◌∷◌, Option, Some, None, true, false, drop, length, nat_lt, refl, ap, sym, arith, string_bytes}
use Rattle.std.proofs.lemmas.Bool.Decides.{nat_tests}
use Rattle.std.proofs.lemmas.List.{append_assoc, drop_more, drop_all}
use Rattle.std.specs.Option.{option_copied}
use Rattle.serde_json.specs.Written.{comma_if, compact_text, items_text}
use Rattle.fts_model.specs.declared.answer.Hit.{Hit}
use Rattle.fts_script.specs.command.AnswerData.{hit_data, hits_data}
use Rattle.fts_script.specs.command.Cuts.{cut_hit, cut_hits}
use Rattle.fts_script.proofs.command.answer.push_hits.Goals as goal

cut_more : (names : Option (List (List ℕ))) (hit : Hit) (hits : List Hit) → cut_hits names (hit ∷ hits) ≡ cut_hit names hit ∷ cut_hits names hits
cut_more None hit hits = refl
cut_more (Some names) hit hits = refl

cut_none : (names : Option (List (List ℕ))) → cut_hits names [] ≡ []
cut_none None = refl
cut_none (Some names) = refl

pub loop-index-preserved : goal.loop-index-preserved
loop-index-preserved c =
    let hits = c.args.hits.now in
    let names = option_copied c.args.names in
    let i = c.loop-index.index in
    let item = c.index-hits-index.result in
    let now = string_bytes c.loop-index.text in
    let made = compact_text (hit_data (cut_hit names item)) in
    let left = drop (i + 1) hits in
    let more = items_text true (hits_data (cut_hits names left)) in
    let comma = comma_if (nat_lt 0 i) in
    let within : i < length hits = omega arith in
    let later : nat_lt 0 (i + 1) ≡ true = grind (arith, nat_tests) in
    ap (λ b. string_bytes c.push_hit.new.text ++ items_text b (hits_data (cut_hits names left))) later
    ∙ ap (λ (xs : List ℕ). xs ++ more) c.in_ok-push_hit.ensures
    ∙ ap (λ (xs : List ℕ). xs ++ made ++ more) c.in_ok-push_comma.ensures
    ∙ append_assoc (now ++ comma) made more
    ∙ append_assoc now comma (made ++ more)
    ∙ ap (λ (xs : List Hit). now ++ items_text (nat_lt 0 i) (hits_data xs)) (sym (cut_more names item left))
    ∙ ap (λ (x : Hit). now ++ items_text (nat_lt 0 i) (hits_data (cut_hits names (x ∷ left)))) c.index-hits-index.is
    ∙ ap (λ (xs : List Hit). now ++ items_text (nat_lt 0 i) (hits_data (cut_hits names xs))) (sym (drop_more hits i item within))
    ∙ c.loop-index.invariant

pub returns : goal.returns
returns c =
    let hits = c.args.hits.now in
    let names = option_copied c.args.names in
    let i = c.loop-index.index in
    let now = string_bytes c.loop-index.text in
    let rest = items_text false (hits_data (cut_hits names hits)) in
    let done : length hits ≤ i = omega arith in
    c.in_ok-push_str-2.ensures.bytes
    ∙ ap (λ xs. now ++ items_text (nat_lt 0 i) (hits_data xs)) (sym (cut_none names))
    ∙ ap (λ xs. now ++ items_text (nat_lt 0 i) (hits_data (cut_hits names xs))) (sym (drop_all i hits done))
    ∙ c.loop-index.invariant
    ∙ ap (λ (xs : List ℕ). xs ++ rest) c.in_ok-push_str.ensures.bytes
    ∙ append_assoc (string_bytes c.args.text.now) (91 ∷ []) rest
