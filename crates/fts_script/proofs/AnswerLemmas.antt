-- Answers as JSON.
use Rattle.std.proofs.Common.{◌≡◌, Bool, true, false, ◌||◌, List, [], ◌∷◌, ◌++◌, map, ℕ, pos, negsuc, Option, Some, None, Ordering, Less, Equal, Greater}
use Rattle.std.proofs.Common.{refl, ap, ◌∙◌, option_map, nat_cmp, codes, decimal}
use Rattle.std.proofs.lemmas.List.{append_assoc}
use Rattle.std.specs.Cmp.Lexicographic.{slice_cmp}
use Rattle.std.specs.Ordering.{match_ordering}
use Rattle.std.proofs.lemmas.Bool.{or_parts}
use Rattle.json.specs.Print.{escape_byte}
use Rattle.serde_json.specs.Data.{Data, string, number, unsigned, object, Items, Members, no_members, member, put}
use Rattle.serde_json.specs.View.{items_of}
use Rattle.serde_json.specs.Written.{compact_text, members_text, has_float, items_have_float, members_have_float}
use Rattle.fts_model.specs.declared.schema.Field.{Field}
use Rattle.fts_model.specs.declared.value.GroupValue.{GroupValue}
use Rattle.fts_model.specs.declared.value.Number.TheVariants as numbers
use Rattle.fts_model.specs.declared.value.FieldValue.{FieldValue}
use Rattle.fts_model.specs.declared.value.FieldValue.TheVariants as values
use Rattle.fts_model.specs.declared.answer.Hit.{Hit}
use Rattle.fts_model.specs.Documents.{DocumentValue, data_of, json_of, with_value, with_values}
use Rattle.fts_model.specs.Answers.{AnswerValue}
use Rattle.fts_script.specs.command.AnswerData.{groups_data, hit_data, hits_data, number_data, list_member, answer_data}
use Rattle.fts_script.specs.command.AnswerTexts.{groups_label, list_text, top_label}
use Rattle.fts_script.specs.command.Cuts.{cut_answer, cut_hits}

neither : {a b : Bool} → a ≡ false → b ≡ false → (a || b) ≡ false
neither p q = cc

texts_plain : (texts : List (List ℕ)) → items_have_float (items_of (map string texts)) ≡ false
texts_plain [] = refl
texts_plain (text ∷ texts) = texts_plain texts

-- nothing of an answer is a float
value_plain : (v : FieldValue) → has_float (data_of v) ≡ false
value_plain (values.Text text) = refl
value_plain (values.Texts texts) = texts_plain texts
value_plain (values.Number (numbers.U64 n)) = refl
value_plain (values.Number (numbers.I64 (pos n))) = refl
value_plain (values.Number (numbers.I64 (negsuc n))) = refl

put_at : (o : Ordering) (name other : List ℕ) (d e : Data) (ms : Members) → has_float d ≡ false → has_float e ≡ false → members_have_float ms ≡ false →
    members_have_float (put name d ms) ≡ false →
    members_have_float (match_ordering o (member name d (member other e ms)) (member other d ms) (member other e (put name d ms))) ≡ false
put_at Less name other d e ms p q r s = neither p (neither q r)
put_at Equal name other d e ms p q r s = neither p r
put_at Greater name other d e ms p q r s = neither q s

put_plain : (name : List ℕ) (d : Data) (ms : Members) → has_float d ≡ false → members_have_float ms ≡ false → members_have_float (put name d ms) ≡ false
put_plain name d no_members p h = neither p refl
put_plain name d (member other e ms) p h =
    let both = or_parts (has_float e) (members_have_float ms) h in
    put_at (slice_cmp nat_cmp name other) name other d e ms p both.0 both.1 (put_plain name d ms p both.1)

one_plain : (ms : Members) (field : Field) (value : Option FieldValue) → members_have_float ms ≡ false → members_have_float (with_value ms field value) ≡ false
one_plain ms field None h = h
one_plain ms field (Some v) h = put_plain field.name (data_of v) ms (value_plain v) h

all_plain : (ms : Members) (fields : List Field) (vs : List (Option FieldValue)) → members_have_float ms ≡ false →
    members_have_float (with_values ms fields vs) ≡ false
all_plain ms [] vs h = h
all_plain ms (field ∷ fields) [] h = h
all_plain ms (field ∷ fields) (v ∷ vs) h = all_plain (with_value ms field v) fields vs (one_plain ms field v h)

pub document_plain : (document : DocumentValue) → has_float (json_of document) ≡ false
document_plain document = all_plain no_members document.schema document.values refl

-- the members of an answer, each list by itself
groups_texts : (items : Option Items) (ms : Members) → members_text true (list_member (codes "groups") items ms) ≡ list_text groups_label items ++ members_text true ms
unfolding escape_byte
groups_texts None ms = refl
groups_texts (Some is) ms = refl

top_texts : (items : Option Items) (ms : Members) → members_text true (list_member (codes "top") items ms) ≡ list_text top_label items ++ members_text true ms
unfolding escape_byte
top_texts None ms = refl
top_texts (Some is) ms = refl

count_text : (n : ℕ) (ms : Members) → compact_text (object (member (codes "count") (number (unsigned n)) ms)) ≡ codes "{\"count\":" ++ (decimal n ++ members_text true ms)
unfolding escape_byte
count_text n ms = refl

-- the text of an object of a count and two lists, part by part
parts_text : (n : ℕ) (groups hits : Option Items) →
    compact_text (object (member (codes "count") (number (unsigned n)) (list_member (codes "groups") groups (list_member (codes "top") hits no_members))))
    ≡ codes "{\"count\":" ++ (decimal n ++ (list_text groups_label groups ++ (list_text top_label hits ++ 125 ∷ [])))
parts_text n groups hits =
    count_text n (list_member (codes "groups") groups (list_member (codes "top") hits no_members))
    ∙ ap (λ (xs : List ℕ). codes "{\"count\":" ++ (decimal n ++ xs))
    (groups_texts groups (list_member (codes "top") hits no_members) ∙ ap (λ (xs : List ℕ). list_text groups_label groups ++ xs) (top_texts hits no_members))

uncut : (hits : Option (List Hit)) → option_map hits_data hits ≡ option_map hits_data (option_map (cut_hits None) hits)
uncut None = refl
uncut (Some hits) = refl

-- an answer's text, part by part
pub answer_texts : (names : Option (List (List ℕ))) (a : AnswerValue) → compact_text (answer_data (cut_answer names a))
    ≡ codes "{\"count\":" ++ (decimal a.count ++ (list_text groups_label (option_map groups_data a.groups)
    ++ (list_text top_label (option_map hits_data (option_map (cut_hits names) a.top)) ++ 125 ∷ [])))
answer_texts None a =
    parts_text a.count (option_map groups_data a.groups) (option_map hits_data a.top)
    ∙ ap (λ (hits : Option Items). codes "{\"count\":" ++ (decimal a.count ++ (list_text groups_label (option_map groups_data a.groups) ++ (list_text top_label hits ++ 125 ∷ []))))
    (uncut a.top)
answer_texts (Some names) a = parts_text a.count (option_map groups_data a.groups) (option_map hits_data (option_map (cut_hits (Some names)) a.top))

regrouped : (a b c d e : List ℕ) → a ++ b ++ c ++ d ++ e ≡ a ++ (b ++ (c ++ (d ++ e)))
regrouped a b c d e = append_assoc (a ++ b ++ c) d e ∙ append_assoc (a ++ b) c (d ++ e) ∙ append_assoc a b (c ++ (d ++ e))

-- the text of a hit, part by part
hit_parts : (hit : Hit) → compact_text (hit_data hit) ≡ codes "{\"doc\":" ++ (compact_text (json_of hit.document)
    ++ (codes ",\"stamp\":" ++ (decimal hit.stamp ++ (codes ",\"value\":" ++ (compact_text (number_data hit.value) ++ 125 ∷ [])))))
unfolding escape_byte
hit_parts hit = refl

-- a hit's text is made part by part, after what is there
pub hit_made : (hit : Hit) (before document digits a b c d e f text : List ℕ) → document ≡ compact_text (json_of hit.document) → digits ≡ decimal hit.stamp →
    a ≡ before ++ codes "{\"doc\":" → b ≡ a ++ document → c ≡ b ++ codes ",\"stamp\":" → d ≡ c ++ digits → e ≡ d ++ codes ",\"value\":" →
    f ≡ e ++ compact_text (number_data hit.value) → text ≡ f ++ 125 ∷ [] → text ≡ before ++ compact_text (hit_data hit)
hit_made hit before document digits a b c d e f text p q r s t u v w x =
    let D = compact_text (json_of hit.document) in
    let N = decimal hit.stamp in
    let V = compact_text (number_data hit.value) in
    let start = codes "{\"doc\":" in
    let stamp = codes ",\"stamp\":" in
    let label = codes ",\"value\":" in
    let end : List ℕ = 125 ∷ [] in
    let last = append_assoc (before ++ start ++ D ++ stamp ++ N ++ label) V end in
    let valued = append_assoc (before ++ start ++ D ++ stamp ++ N) label (V ++ end) in
    let front = regrouped (before ++ start) D stamp N (label ++ (V ++ end)) in
    let whole = append_assoc before start (D ++ (stamp ++ (N ++ (label ++ (V ++ end))))) in
    let all = hit_parts hit in
    cc

-- an answer's text is made part by part
pub text_made : (names : Option (List (List ℕ))) (a : AnswerValue) (groups : Option (List (GroupValue × ℕ))) (hits : Option (List Hit))
    (start digits counted grouped listed text : List ℕ) → groups ≡ a.groups → hits ≡ a.top →
    start ≡ codes "{\"count\":" → digits ≡ decimal a.count → counted ≡ start ++ digits →
    grouped ≡ counted ++ list_text groups_label (option_map groups_data groups) →
    listed ≡ grouped ++ list_text top_label (option_map hits_data (option_map (cut_hits names) hits)) →
    text ≡ listed ++ 125 ∷ [] → text ≡ compact_text (answer_data (cut_answer names a))
text_made names a groups hits start digits counted grouped listed text p q r s t u v w =
    let lists = regrouped (codes "{\"count\":") (decimal a.count) (list_text groups_label (option_map groups_data a.groups))
    (list_text top_label (option_map hits_data (option_map (cut_hits names) a.top))) (125 ∷ []) in
    let all = answer_texts names a in
    cc
