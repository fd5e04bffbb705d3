-- A line of the usual form of a search for a count reads as that search.
use Rattle.std.proofs.Common.{◌≡◌, ℕ, ◌≤◌, List, [], ◌∷◌, ◌++◌, length, true, refl, sym, ap, ◌∙◌, subst, arith, append_assoc, Ok, Some, None, option_and_then, codes}
use Rattle.std.proofs.lemmas.Bool.{and_parts, le-ltb}
use Rattle.std.proofs.lemmas.Bool.Decides.{nat_tests}
use Rattle.std.proofs.lemmas.Str.{is_utf8-from_IsUtf8, IsUtf8-append}
use Rattle.std.specs.List.{list_all}
use Rattle.std.specs.Prelude.{IsUtf8}
use Rattle.std.specs.Str.{is_utf8}
use Rattle.json.specs.Token.{Token, begin_object, end_object, key, string}
use Rattle.json.specs.Print.{print, print_from, escape, escape_byte, ArePrintable}
use Rattle.json.specs.Run.{is_plain}
use Rattle.json.specs.Json as json
use Rattle.json.proofs.Printed.Strings.{escape_byte_plain}
use Rattle.json.proofs.Printed.Tokens.{tokens-print}
use Rattle.json.proofs.Printed.Trees.{value-json_tokens}
use Rattle.json.proofs.Printed.Utf8.{IsUtf8-are_ascii}
use Rattle.serde_json.specs.Data.{Data, object, string as text, member, no_members}
use Rattle.serde_json.specs.Read.{read, max_depth, of_json}
use Rattle.fts_script.specs.command.Commands.{longest, command, json_in, Find}

-- what is before the query in the line, and what is after it
abbrev pub before : List ℕ
before = codes "{\"search\":{\"query\":\""

abbrev pub after : List ℕ
after = codes "\"}}"

-- the tokens of the line, its tree, and the value of the tree
abbrev line_tokens : List ℕ → List Token
line_tokens q = begin_object ∷ key (codes "search") ∷ begin_object ∷ key (codes "query") ∷ string q ∷ end_object ∷ end_object ∷ []

abbrev tree : List ℕ → json.Json
tree q = json.object (json.member (codes "search") (json.object (json.member (codes "query") (json.string q) json.no_members)) json.no_members)

abbrev data_of : List ℕ → Data
data_of q = object (member (codes "search") (object (member (codes "query") (text q) no_members)) no_members)

-- a plain byte, and a text of such, is printed as it is
plain_byte : (b : ℕ) → is_plain b ≡ true → escape_byte b ≡ b ∷ []
plain_byte b h =
    escape_byte_plain b (λ e. let at : is_plain 34 ≡ true = subst (λ x. is_plain x ≡ true) e h in cc)
    (λ e. let at : is_plain 92 ≡ true = subst (λ x. is_plain x ≡ true) e h in cc) (grind (arith, nat_tests, h))

escape-plain : (q : List ℕ) → list_all is_plain q ≡ true → escape q ≡ q
escape-plain [] h = refl
escape-plain (b ∷ q) h =
    let parts = and_parts (is_plain b) (list_all is_plain q) h in
    ap (λ bytes. bytes ++ escape q) (plain_byte b parts.0) ∙ ap (λ bytes. b ∷ bytes) (escape-plain q parts.1)

-- what the reader's own writer prints is the line
printed : (q : List ℕ) → print (line_tokens q) ≡ before ++ (escape q ++ after)
unfolding print_from escape_byte
printed q = ap (λ bytes. before ++ bytes) (append_assoc (escape q) (34 ∷ []) (125 ∷ 125 ∷ []))

are_printable : (q : List ℕ) → ArePrintable (line_tokens q)
unfolding ArePrintable
are_printable q = (tt, (tt, (tt, (tt, (tt, (tt, (tt, tt)))))))

-- and what it prints is read back
reads : (q : List ℕ) → read (print (line_tokens q)) ≡ Some (data_of q)
reads q =
    ap (λ found. option_and_then of_json (option_and_then (λ p. json.if_last p.0 p.1) found))
    (ap (json.value max_depth) (tokens-print (line_tokens q) (are_printable q)) ∙ value-json_tokens (tree q) max_depth [] (omega arith))

-- so the line is the search for this query
pub counts : (line q : List ℕ) → length line ≤ longest → line ≡ before ++ (q ++ after) → list_all is_plain q ≡ true → IsUtf8 q
    → command line ≡ Ok (Find (record { query = q; groups = None; top = None }))
unfolding json_in
counts line q h e p u =
    let is_printed : line ≡ print (line_tokens q) = e ∙ ap (λ bytes. before ++ (bytes ++ after)) (sym (escape-plain q p)) ∙ sym (printed q) in
    let is_read : read line ≡ Some (data_of q) = ap read is_printed ∙ reads q in
    let ascii : IsUtf8 (before ++ (q ++ after)) =
    IsUtf8-append before (q ++ after) (IsUtf8-are_ascii before refl) (IsUtf8-append q after u (IsUtf8-are_ascii after refl)) in
    let utf8 : is_utf8 line ≡ true = is_utf8-from_IsUtf8 line (subst IsUtf8 (sym e) ascii) in
    rw (le-ltb longest (length line) h, utf8, is_read) refl
