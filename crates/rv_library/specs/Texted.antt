-- Texts of which it is proved how they are given to the caller, and not what they say.

use Rattle.std.specs.Prelude.{ℕ, List, Option, Result}
use Rattle.rv_fault.specs.declared.fault.Fault.{Fault}
use Rattle.rv_library.specs.declared.answers.Answer.{Answer}
use Rattle.rv_library.specs.declared.answers.Made.{Made}
use Rattle.rv_library.specs.Given.{IsGivenAlone}

-- some text is given, or why there is none
abbrev pub GivesText : (status : ℕ) → (text text' : List ℕ) → Answer → Type 0
GivesText status text text' answer =
    (made : Result (Option Made) Fault) × IsGivenAlone made status text text' answer
