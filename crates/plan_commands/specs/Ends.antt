-- The meaning of the exit statuses of the commands over a plan alone.
use Rattle.std.specs.Prelude.{◌≡◌, ◌⊎◌, None}
use Rattle.clap.specs.declared.parser.matches.ArgMatches.{ArgMatches}
use Rattle.console.specs.declared.exit_status.ExitStatus.{ExitStatus}
use Rattle.console.specs.declared.names.TheConstants.{COMPARE, NAMES, ROWS, SHOW, TEST, VALUE}
use Rattle.value_command.specs.Ends.{Ends, ValueIsDone, ValueIsRefused}
use Rattle.value_command.specs.Texts.{Whole}
use Rattle.value_command.specs.Words.{word_at}
use Rattle.plan_commands.specs.Comparing.{PlansAreCompared, PlansAreRefused}
use Rattle.plan_commands.specs.Pages.{PageIsDone, PageIsRefused, PageIsRefusedBeside}
use Rattle.plan_commands.specs.Rows.{RowsIsDone, RowsIsRefused}
use Rattle.plan_commands.specs.Testing.{TestIsDone, TestIsRefused}

-- `value` can end with `Done`, over the rows of a file where the command line names one
abbrev pub ValuesAreDone : Whole → ArgMatches → Type 0
ValuesAreDone whole words = ((word_at words ROWS.now ≡ None) × ValueIsDone whole words) ⊎ RowsIsDone whole words

-- `value` can end with this status of an error, over the rows of a file where the command line names one
abbrev pub ValuesAreRefused : Whole → ArgMatches → ExitStatus → Type 0
ValuesAreRefused whole words status = ((word_at words ROWS.now ≡ None) × ValueIsRefused whole words status) ⊎ RowsIsRefused whole words status

-- `compare` can end with `Done`: the named plans are compared
abbrev pub CompareIsDone : Whole → ArgMatches → Type 0
CompareIsDone whole words = PlansAreCompared whole words

-- `compare` can end with this status: the named plans are refused, or differ
abbrev pub CompareIsRefused : Whole → ArgMatches → ExitStatus → Type 0
CompareIsRefused whole words status = PlansAreRefused whole words status

-- `names` can end with `Done`
abbrev pub NamesIsDone : Whole → ArgMatches → Type 0
NamesIsDone whole words = PageIsDone whole words

-- `names` can end with this status of an error
abbrev pub NamesIsRefused : Whole → ArgMatches → ExitStatus → Type 0
NamesIsRefused whole words status = PageIsRefused whole words status

-- `show` can end with `Done`
abbrev pub ShowIsDone : Whole → ArgMatches → Type 0
ShowIsDone whole words = PageIsDone whole words

-- `show` can end with this status of an error
abbrev pub ShowIsRefused : Whole → ArgMatches → ExitStatus → Type 0
ShowIsRefused whole words status = PageIsRefusedBeside whole words status

-- the named command can end with `Done`
abbrev pub PlanCommandIsDone : Whole → ArgMatches → Type 0
PlanCommandIsDone whole matches =
    Ends matches VALUE.now (ValuesAreDone whole)
    ⊎ (Ends matches TEST.now (TestIsDone whole)
    ⊎ (Ends matches COMPARE.now (CompareIsDone whole)
    ⊎ (Ends matches NAMES.now (NamesIsDone whole) ⊎ Ends matches SHOW.now (ShowIsDone whole))))

-- the named command can end with this status of an error
abbrev pub PlanCommandIsRefused : Whole → ArgMatches → ExitStatus → Type 0
PlanCommandIsRefused whole matches status =
    Ends matches VALUE.now (λ words. ValuesAreRefused whole words status)
    ⊎ (Ends matches TEST.now (λ words. TestIsRefused whole words status)
    ⊎ (Ends matches COMPARE.now (λ words. CompareIsRefused whole words status)
    ⊎ (Ends matches NAMES.now (λ words. NamesIsRefused whole words status) ⊎ Ends matches SHOW.now (λ words. ShowIsRefused whole words status))))
