use Rattle.std.proofs.Common.{◌≡◌, ◌<◌, true, false, arith, sym, ◌∙◌}
use Rattle.unicode.specs.Binary.{is_alphabetic}
use Rattle.std.proofs.lemmas.Bool.Decides.{nat_tests}
use Rattle.fts_text.specs.Characters.{is_alphanumeric}
use Rattle.fts_text.proofs.CharacterLemmas.{is_alphanumeric-ascii}
use Rattle.fts_text.proofs.characters.is_alphanumeric.Goals as goal

pub returns-then-is_ascii : goal.returns-then-is_ascii
returns-then-is_ascii c =
    let below : c.args.c < 128 = grind (arith, nat_tests) in
    c.is_ascii_alphanumeric.ensures.value ∙ sym (is_alphanumeric-ascii c.args.c below)

pub returns-then-is_alphabetic : goal.returns-then-is_alphabetic
unfolding is_alphanumeric
returns-then-is_alphabetic c =
    let yes : is_alphabetic c.args.c ≡ true = cc in
    rw yes c.if-is_alphabetic.true

pub returns-else-is_alphabetic : goal.returns-else-is_alphabetic
unfolding is_alphanumeric
returns-else-is_alphabetic c =
    let no : is_alphabetic c.args.c ≡ false = cc in
    rw (no, ← c.for_char.ensures) c.contains.ensures
