use Rattle.std.proofs.Common.{refl}
use Rattle.clap.proofs.OnLiterals.{clap_on_literals}
use Rattle.fts_cli.specs.Arguments.{faults_of}
use Rattle.fts_cli.specs.RunOptions.{given_to_run}
use Rattle.fts_cli.proofs.laws.command_line.Goals as goal

pub returns : goal.returns
unfolding clap_on_literals faults_of given_to_run
returns c = record {
  run = λ places name. refl;
  help = λ places name. refl;
  version = λ places name. refl;
  nothing = λ places name. refl;
  workers = λ places name. refl;
  beyond = λ places name. refl;
  merge = λ places name. refl;
}
