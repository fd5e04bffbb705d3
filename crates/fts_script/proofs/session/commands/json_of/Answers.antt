use Rattle.std.proofs.Common.{◌≡◌, cond, List, ℕ, Bool, true, false, refl, ap, Option, Some, None, inr}
use Rattle.std.specs.Option.{ok_or}
use Rattle.std.specs.Prelude.{IsUtf8}
use Rattle.std.specs.Str.{is_utf8}
use Rattle.std.proofs.lemmas.Str.{is_utf8-from_IsUtf8, IsUtf8-from_is_utf8}
use Rattle.serde_json.specs.Data.{Data}
use Rattle.serde_json.specs.Read.{read}
use Rattle.fts_base.specs.declared.refusal.Refusal.TheVariants.{BadJson}
use Rattle.fts_script.specs.command.Commands.{json_in}
use Rattle.fts_script.proofs.session.commands.json_of.Goals as goal

chosen : (b : Bool) (o : Option Data) (d : Data) → b ≡ true → o ≡ Some d → cond b o None ≡ Some d
chosen true o d h e = e
chosen false o d h e = cc

is_read : (line : List ℕ) (d : Data) → IsUtf8 line → read line ≡ Some d → json_in line ≡ Some d
unfolding json_in
is_read line d u r = chosen (is_utf8 line) (read line) d (is_utf8-from_IsUtf8 line u) r

none_chosen : (b : Bool) (o : Option Data) → (b ≡ true → o ≡ None) → cond b o None ≡ None
none_chosen true o h = h refl
none_chosen false o h = refl

isnt_read : (line : List ℕ) → (IsUtf8 line → read line ≡ None) → json_in line ≡ None
unfolding json_in
isnt_read line h = none_chosen (is_utf8 line) (read line) (λ e. h (IsUtf8-from_is_utf8 line e))

pub returns-in-Ok : goal.returns-in-Ok
returns-in-Ok c = ap (λ o. ok_or o BadJson) (is_read c.args.line.now _ c.in-Ok.ensures.ok.0 c.in-Ok.ensures.ok.1)

pub returns-else-is_memory : goal.returns-else-is_memory
returns-else-is_memory c =
    inr (ap (λ o. ok_or o BadJson) (isnt_read c.args.line.now (c.in-Err.ensures.err (λ m. let t = c.if-is_memory.ensures.1 m in cc))))
