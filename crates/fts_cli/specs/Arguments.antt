-- What the words of a command line ask for, and which exit status a fault gives.
use Rattle.std.specs.Prelude.{ℕ, ◌≡◌, ◌≢◌, ◌⊎◌, IfOk, Result, Ok, Err, None, List, []}
use Rattle.clap.specs.Kinds.{FailsBy, IsAmong, Kinds}
use Rattle.clap.specs.Faults.{fault_of}
use Rattle.clap.specs.Walk.{Text}
use Rattle.clap.specs.declared.error.Error.{Error}
use Rattle.clap.specs.declared.error.kind.ErrorKind.{ErrorKind}
use Rattle.clap.specs.declared.error.kind.ErrorKind.TheVariants.{DisplayHelp, DisplayVersion}
use Rattle.clap.specs.declared.parser.matches.ArgMatches.{ArgMatches}
use Rattle.fts_cli.specs.RunOptions.{AreGiven, Places, command, cut_given, given_in, given_to_run}
use Rattle.fts_script.specs.declared.fault.Fault.{Fault}
use Rattle.fts_script.specs.declared.fault.Fault.TheVariants.{Memory, Read, Write, StampsUsedUp}
use Rattle.fts_cli.specs.declared.args.ArgFault.{ArgFault}
use Rattle.fts_cli.specs.declared.args.ArgFault.TheVariants as refused
use Rattle.fts_cli.specs.declared.args.Asked.{Asked}
use Rattle.fts_cli.specs.declared.args.Asked.TheVariants.{Run, Help}

-- what is wrong with the words, or asked for in place of a run, by clap's definitions
unfoldable pub faults_of : Places → List Text → Kinds
faults_of places words = fault_of (command places) words

-- what clap makes of the words, as its definitions say: the faults, or what `run` is given
abbrev pub Parses : List Text → Result ArgMatches Error → Type 0
Parses words result = (places : Places) × FailsBy (faults_of places words) result
    × IfOk result (λ m. given_in m ≡ given_to_run places words)

-- what is asked for by these words
abbrev pub Asks : List Text → Asked → Type 0
Asks words (Run options) = (places : Places) × (faults_of places words ≡ [])
    × AreGiven (given_to_run places words) options
Asks words (Help text) = (places : Places)
    × (IsAmong DisplayHelp (faults_of places words)
    ⊎ IsAmong DisplayVersion (faults_of places words))

-- clap finds a fault in the words
abbrev pub IsFaulty : Places → List Text → Type 0
IsFaulty places words = (kind : ErrorKind)
    × IsAmong kind (faults_of places words) × (kind ≢ DisplayHelp) × (kind ≢ DisplayVersion)

-- clap finds none, and both `--runs` and `--deal` are given
abbrev pub HasTwoCuts : Places → List Text → Type 0
HasTwoCuts places words =
    (faults_of places words ≡ []) × (cut_given (given_to_run places words) ≡ None)

-- why these words ask for nothing
abbrev pub Refuses : List Text → ArgFault → Type 0
Refuses words refused.Memory = Unit {0}
Refuses words (refused.Usage text) =
    (places : Places) × (IsFaulty places words ⊎ HasTwoCuts places words)

-- the exit status of a run that stopped
abbrev pub status_of : Fault → ℕ
status_of Memory = 3
status_of Read = 4
status_of Write = 4
status_of StampsUsedUp = 5

-- the exit status of a run
abbrev pub run_status_of : {T : Type 0} → Result T Fault → ℕ
run_status_of (Ok done) = 0
run_status_of (Err fault) = status_of fault

-- the exit status of arguments that were refused
abbrev pub arg_status_of : ArgFault → ℕ
arg_status_of refused.Memory = 3
arg_status_of (refused.Usage text) = 2
