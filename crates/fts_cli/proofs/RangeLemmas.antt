-- If clap finds no fault, the numbers after the options of `run` are within their limits.
use Rattle.std.proofs.Common.{◌≡◌, List, [], true, false, refl, codes, true≢false, sym, ◌∙◌}
use Rattle.std.specs.Str.{bytes_eq}
use Rattle.clap.specs.Faults.{entered_fault}
use Rattle.clap.specs.Values.{IsUnsignedIn}
use Rattle.clap.specs.Simple.{argument_words, built, filled, names_of, with_index}
use Rattle.clap.specs.Walk.{Rule, Text, stop_after}
use Rattle.clap.specs.declared.builder.value_parser.ValueParser.{ValueParser}
use Rattle.clap.specs.declared.builder.value_parser.ValueParser.TheVariants.{Names, Unsigned}
use Rattle.clap.proofs.ValueTestLemmas.{accepts-Accepts}
use Rattle.fts_model.specs.Limits.{most_built}
use Rattle.fts_cli.specs.Arguments.{faults_of}
use Rattle.fts_cli.specs.RunOptions.{AreInRange, Places, command, given_to_run, merges_at, option_rule}
use Rattle.fts_cli.proofs.ParseLemmas.{Each, RowsFit, ShapeFits, each_accepted, each_any, entered_fits, none_of, one_fits, set_keeps, with_values-fits}

-- a value that the option of this name may have
abbrev Fit : Text → Text → Type 0
Fit id text = (bytes_eq id (codes "workers") ≡ true → IsUnsignedIn 1 64 text)
    × (bytes_eq id (codes "runs") ≡ true → IsUnsignedIn 1 most_built text)
    × (bytes_eq id (codes "deal") ≡ true → IsUnsignedIn 1 64 text)

never : {A : Type 0} → false ≡ true → A
never e = absurd (true≢false (sym e))

-- an option with a name that is none of the three takes any value
other : (id : Text) → bytes_eq id (codes "workers") ≡ false → bytes_eq id (codes "runs") ≡ false → bytes_eq id (codes "deal") ≡ false
    → (vs : List Text) → Each (Fit id) vs
other id w r d = each_any (Fit id) (λ t. (λ e. never (sym w ∙ e), λ e. never (sym r ∙ e), λ e. never (sym d ∙ e)))

-- an option as it is built
abbrev option_built : Text → ValueParser → Rule
option_built name parser = with_index 1 (filled (option_rule name parser))

module _ (places : Places) where
  shapes_fit : Each (ShapeFits Fit) (built (command places)).subs
  shapes_fit = (
    (
      set_keeps Fit (option_built (codes "workers") (Unsigned 1 64)) refl refl refl (each_accepted (Fit (codes "workers")) (Unsigned 1 64)
          (λ t e. (λ w. accepts-Accepts false (Unsigned 1 64) t e, λ w. never w, λ w. never w))),
      (
        set_keeps Fit (option_built (codes "runs") (Unsigned 1 most_built)) refl refl refl (each_accepted (Fit (codes "runs")) (Unsigned 1 most_built)
            (λ t e. (λ w. never w, λ w. accepts-Accepts false (Unsigned 1 most_built) t e, λ w. never w))),
        (
          set_keeps Fit (option_built (codes "deal") (Unsigned 1 64)) refl refl refl (each_accepted (Fit (codes "deal")) (Unsigned 1 64)
              (λ t e. (λ w. never w, λ w. never w, λ w. accepts-Accepts false (Unsigned 1 64) t e))),
          (
            set_keeps Fit (option_built (codes "merge") (Names (merges_at places))) refl refl refl (λ vs e. other (codes "merge") refl refl refl vs),
            ((λ again values rows e h. h, refl), tt),
          ),
        ),
      ),
    ),
    (((λ again values rows e h. with_values-fits Fit (codes "subcommand") _ _ _ rows refl (other (codes "subcommand") refl refl refl _) h, refl), tt), tt),
  )

  no_fault_inside : (words : List Text) → faults_of places words ≡ [] → RowsFit Fit (given_to_run places words)
  unfolding faults_of given_to_run
  no_fault_inside words e =
      let a = built (command places) in
      let ws = argument_words (command places) words in
      let stop = stop_after a.top.rules (names_of a) ws in
      let inside : entered_fault a stop ≡ [] = (none_of _ _ (none_of _ _ e).1).0 in
      entered_fits Fit a shapes_fit stop inside

  pub in_range : (words : List Text) → faults_of places words ≡ [] → AreInRange (given_to_run places words)
  in_range words e =
      let rows = given_to_run places words in
      let fit = no_fault_inside words e in (
        one_fits Fit (codes "workers") (IsUnsignedIn 1 64) (λ i t same f. f.0 same) rows fit,
        one_fits Fit (codes "runs") (IsUnsignedIn 1 most_built) (λ i t same f. f.1 same) rows fit,
        one_fits Fit (codes "deal") (IsUnsignedIn 1 64) (λ i t same f. f.2 same) rows fit,
      )
