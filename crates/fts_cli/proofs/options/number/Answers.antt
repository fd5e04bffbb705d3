use Rattle.std.proofs.Common.{◌≡◌, ℕ, Option, Some, None, ap}
use Rattle.std.specs.Prelude.{IfSome, Ok, Err, Result, option_map}
use Rattle.std.specs.Str.Parse.{ExplainsUnsignedError, HasUnsignedDigitsIfOk, ParsesUnsigned, digits_value, without_leading_plus}
use Rattle.clap.specs.Matches.{ReadsOne, found_of, one_text}
use Rattle.clap.specs.Walk.{Text, one_of, rows_of}
use Rattle.clap.proofs.WalkLemmas.{one_text-rows}
use Rattle.fts_cli.specs.RunOptions.{IsNumber}
use Rattle.fts_cli.proofs.options.number.Goals as goal

reads : {E : Type 0} (G : Text → Result ℕ E → Type 0) → ((u : Text) (x : Result ℕ E) → G u x → ParsesUnsigned 64 10 u x)
    → (t : Text) → IsNumber t → (r : Option ℕ) → ReadsOne G t r → r ≡ Some (digits_value 10 (without_leading_plus t))
reads G only t number (Some v) h = ap Some (only t (Ok v) h).1
reads G only t number None h = absurd (only t (Err h.0) h.1 number)

pub returns : goal.returns
returns c = go (one_of c.args.name.now (rows_of (found_of c.args.run.now))) (one_text-rows (found_of c.args.run.now) c.args.name.now) c.requires
  where
    go : (o : Option Text) → one_text (found_of c.args.run.now) c.args.name.now ≡ o → IfSome o IsNumber
        → c.get_one.result ≡ option_map (λ text. digits_value 10 (without_leading_plus text)) o
    go None e number = c.get_one.ensures.none e
    go (Some t) e number = reads (λ bs r. ParsesUnsigned 64 10 bs r × ExplainsUnsignedError 10 bs r × HasUnsignedDigitsIfOk bs r) (λ u x h. h.0) t number
        c.get_one.result (c.get_one.ensures.value t e)
