use Rattle.std.proofs.Common.{rules, ap, ap₂, refl, codes, true, map, ◌≡◌, ◌∙◌, IfOk, string_bytes, subst}
use Rattle.std.proofs.lemmas.Result.{IfOk-weaker}
use Rattle.clap.specs.Simple.{App, app_of, app_of_fields, is_simple, new_app, subcommand_of, with_subcommand}
use Rattle.clap.specs.Faults.{fault_of, is_simple_and_free}
use Rattle.clap.specs.Kinds.{FailsBy}
use Rattle.clap.proofs.OnLiterals.{clap_on_literals}
use Rattle.fts_cli.specs.Arguments.{faults_of}
use Rattle.fts_cli.specs.RunOptions.{Places, command, given_in, given_to_run, required, rows_given, versioned}
use Rattle.fts_cli.proofs.parser.parse.Goals as goal

free : (places : Places) → is_simple_and_free (command places) ≡ true
unfolding clap_on_literals
free places = refl

simple : (places : Places) → is_simple (command places) ≡ true
unfolding clap_on_literals
simple places = refl

pub returns : goal.returns
unfolding faults_of given_to_run
returns c =
    let run = c.in_ok-run.ensures in
    let words = map string_bytes c.args.words.now in
    let about_is : app_of c.about.result ≡ new_app (codes "fts") = ap app_of_fields c.about.ensures ∙ c.new.ensures.app in
    let version_is : app_of c.version.result ≡ versioned (new_app (codes "fts")) =
    ap app_of_fields c.version.ensures ∙ ap versioned about_is in
    let required_is : app_of c.subcommand_required.result ≡ required (versioned (new_app (codes "fts"))) =
    ap app_of_fields c.subcommand_required.ensures ∙ ap required version_is in
    let command_is : app_of c.in_ok-fts.fts ≡ command run.0 =
    c.in_ok-fts.ensures.shape run.2 ∙ ap₂ with_subcommand required_is (ap (λ (a : App). a.top) run.1) in
    let parse = c.try_get_matches_from in (
      run.0,
      subst (λ (a : App). FailsBy (fault_of a words) parse.result) command_is (parse.ensures.kinds (ap is_simple_and_free command_is ∙ free run.0)),
      IfOk-weaker parse.result _ _
          (λ m h. ap rows_given ((h (ap is_simple command_is ∙ simple run.0)).1 ∙ ap (λ (a : App). subcommand_of a words) command_is))
          parse.ensures.matches,
    )

-- if memory ran out, any places will do
pub returns-in_err-run : goal.returns-in_err-run
returns-in_err-run c =
    let places : Places = record { values = (0, 0); off = (0, 0); policy = (0, 0) } in
    let memory : FailsBy (faults_of places (map string_bytes c.args.words.now)) c.from_residual.result = search rules in
    let no_matches : IfOk c.from_residual.result (λ m. given_in m ≡ given_to_run places (map string_bytes c.args.words.now)) = search rules in
    (places, memory, no_matches)
