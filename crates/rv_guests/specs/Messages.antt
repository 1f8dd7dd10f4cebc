-- The lines that say how a run of a guest ended (this program's own).

use Rattle.std.specs.Prelude.{ℕ, false, List, Option, Some, None, option_map, codes}
use Rattle.std.specs.Fmt.{digits}
use Rattle.rv_machine.specs.declared.end.End.{End}
use Rattle.rv_machine.specs.End.{end_name, address_in_end}
use Rattle.rv_machine.specs.declared.running.RunFault.{RunFault}
use Rattle.rv_machine.specs.declared.running.RunFault.TheVariants as runs
use Rattle.rv_system.specs.Messages.{with_word}

-- the line of a stream that failed in a run; want of memory has none
abbrev pub run_text : RunFault → Option (List ℕ)
run_text runs.InputFault = Some (codes "X1 InputFault")
run_text runs.OutputFault = Some (codes "X2 OutputFault")
run_text runs.OutOfMemory = None

-- `Limit`, `FetchOutside 8`: an address is hexadecimal, in lower case
abbrev pub end_text : End → List ℕ
end_text e =
    with_word (end_name e) (option_map (λ a. digits 16 false a) (address_in_end e))
