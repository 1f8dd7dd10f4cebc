-- The exit status of what was not done (this program's own).

use Rattle.std.specs.Prelude.{◌≡◌, ◌⊎◌, ℕ}
use Rattle.clap.specs.Values.{kind_of}
use Rattle.clap.specs.declared.error.kind.ErrorKind.{ErrorKind}
use Rattle.clap.specs.declared.error.kind.ErrorKind.TheVariants.{DisplayHelp, DisplayVersion}
use Rattle.rv_program.specs.declared.error.CliError.{CliError}
use Rattle.rv_program.specs.declared.error.CliError.TheVariants.{Usage, NotText, Line, Closed, Memory}

-- what was asked is done
abbrev pub done : ℕ
done = 0

-- it is refused
abbrev pub refused : ℕ
refused = 1

-- the words are none that the program takes
abbrev pub wrong_words : ℕ
wrong_words = 2

-- words that ask for help or the version are done, others are wrong
abbrev pub usage_status : ErrorKind → ℕ
usage_status DisplayHelp = done
usage_status DisplayVersion = done
usage_status _ = wrong_words

-- the status of an error; a text of the usage that cannot be made or printed is refused
abbrev pub IsErrorStatus : CliError → ℕ → Type 0
IsErrorStatus (Usage error) status =
    (status ≡ usage_status (kind_of error)) ⊎ (status ≡ refused)
IsErrorStatus NotText status = status ≡ wrong_words
IsErrorStatus (Line line) status = status ≡ refused
IsErrorStatus Closed status = status ≡ refused
IsErrorStatus Memory status = status ≡ refused
