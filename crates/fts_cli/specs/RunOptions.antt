-- What the options after `run` ask for, and the command as clap's definitions see it.
use Rattle.std.specs.Prelude.{ℕ, ◌≡◌, ◌<◌, ◌^◌, List, [], ◌∷◌, Option, Some, None, IfSome, codes}
use Rattle.std.specs.Prelude.{if◌then◌else◌, option_map, true, unwrap_or}
use Rattle.std.specs.Option.{option_map_or}
use Rattle.std.specs.Borrow.{Bor}
use Rattle.std.specs.Str.{bytes_eq}
use Rattle.std.specs.Str.Parse.{IsNumeral, digits_value, without_leading_plus}
use Rattle.clap.specs.Simple.{App, new_app, new_rule, on_top, subcommand_of, subcommand_rows_of}
use Rattle.clap.specs.Simple.{with_rule, with_subcommand}
use Rattle.clap.specs.Values.{IsUnsignedIn}
use Rattle.clap.specs.Walk.{Row, Rule, Text, first_of, one_of}
use Rattle.clap.specs.declared.builder.value_parser.ValueParser.{ValueParser}
use Rattle.clap.specs.declared.builder.value_parser.ValueParser.TheVariants.{Names, Unsigned}
use Rattle.clap.specs.declared.parser.matches.ArgMatches.{ArgMatches}
use Rattle.fts_model.specs.Limits.{most_built}
use Rattle.fts_model.specs.declared.cut.Cut.{Cut}
use Rattle.fts_model.specs.declared.cut.Cut.TheVariants.{Runs, Deal}
use Rattle.fts_engine.specs.declared.options.Options.{Options}
use Rattle.fts_engine.specs.declared.options.Merge.{Merge}
use Rattle.fts_engine.specs.declared.options.Merge.TheVariants.{Off, Policy}

-- The addresses of the values of `--merge`: clap holds a reference to them, and compares only their texts.
pub record Places : Type 0 where
  pub values : ℕ × ℕ
  pub off : ℕ × ℕ
  pub policy : ℕ × ℕ

-- the values of `--merge` at these places
abbrev pub merges_at : Places → Bor (List (Bor Text))
merges_at places = record {
  ref_ptr = places.values;
  now = record { ref_ptr = places.off; now = codes "off" }
      ∷ record { ref_ptr = places.policy; now = codes "policy" } ∷ [];
}

-- an option that takes one value
abbrev pub option_rule : Text → ValueParser → Rule
option_rule name parser =
    record (new_rule name) { long = Some name; value_names = 1; parser = Some parser }

-- `run`, with its options
abbrev pub run_command : Places → App
run_command places =
    with_rule (with_rule (with_rule (with_rule (new_app (codes "run"))
    (option_rule (codes "workers") (Unsigned 1 64)))
    (option_rule (codes "runs") (Unsigned 1 most_built)))
    (option_rule (codes "deal") (Unsigned 1 64)))
    (option_rule (codes "merge") (Names (merges_at places)))

-- a command that requires a subcommand
abbrev pub required : App → App
required = on_top (λ shape. record shape { subcommand_required = true })

-- an application that prints its version
abbrev pub versioned : App → App
versioned = on_top (λ shape. record shape { has_version = true })

-- the program's command: `fts` with the subcommand `run`
abbrev pub command : Places → App
command places =
    with_subcommand (required (versioned (new_app (codes "fts")))) (run_command places).top

-- what the subcommand is given
abbrev pub rows_given : Option (Text × List Row) → List Row
rows_given subcommand = option_map_or (λ p. p.1) subcommand []

-- the rows that the subcommand is given, by the matches of a parse
abbrev pub given_in : ArgMatches → List Row
given_in matches = rows_given (subcommand_rows_of matches)

-- what the words give to the options of `run`, by clap's definitions
unfoldable pub given_to_run : Places → List Text → List Row
given_to_run places words = rows_given (subcommand_of (command places) words)

-- a number that a `usize` holds
abbrev pub IsNumber : Text → Type 0
IsNumber text = IsNumeral 10 (without_leading_plus text)
    × (digits_value 10 (without_leading_plus text) < 2 ^ 64)

-- the number after an option, if it is given
abbrev pub number_given : Text → List Row → Option ℕ
number_given name rows =
    option_map (λ text. digits_value 10 (without_leading_plus text)) (one_of name rows)

-- the cut that `--runs` and `--deal` ask for: none if both are given
abbrev pub cut_asked : Option ℕ → Option ℕ → Option Cut
cut_asked (Some n) (Some m) = None
cut_asked (Some n) None = Some (Runs n)
cut_asked None (Some m) = Some (Deal m)
cut_asked None None = Some (Runs most_built)

abbrev pub cut_given : List Row → Option Cut
cut_given rows = cut_asked (number_given (codes "runs") rows) (number_given (codes "deal") rows)

abbrev pub merge_asked : Option Text → Merge
merge_asked None = Off
merge_asked (Some text) = if bytes_eq text (codes "policy") then Policy else Off

-- the options that are given, and the default of each that isn't
abbrev pub AreGiven : List Row → Options → Type 0
AreGiven rows options = (options.workers ≡ unwrap_or (number_given (codes "workers") rows) 1)
    × (Some options.cut ≡ cut_given rows)
    × (options.merge ≡ merge_asked (first_of (codes "merge") rows))

-- each number is within its limits
abbrev pub AreInRange : List Row → Type 0
AreInRange rows = IfSome (one_of (codes "workers") rows) (IsUnsignedIn 1 64)
    × IfSome (one_of (codes "runs") rows) (IsUnsignedIn 1 most_built)
    × IfSome (one_of (codes "deal") rows) (IsUnsignedIn 1 64)
