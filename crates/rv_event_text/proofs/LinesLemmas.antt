-- The parts of a line, one added after the other.

use Rattle.std.proofs.Common.{◌≡◌, ℕ, List, ◌++◌, Result, Ok, Err, ap, ◌∙◌, append_assoc}
use Rattle.std.specs.Result.{IsErrAnd, IfErr}
use Rattle.rv_event_text.specs.declared.fault.LineFault.{LineFault}
use Rattle.rv_event_text.specs.declared.fault.LineFault.TheVariants.{OutOfMemory}

-- a part, and then what follows
pub joined : (before between after part rest : List ℕ) → between ≡ before ++ part → after ≡ between ++ rest → after ≡ before ++ (part ++ rest)
joined before between after part rest first second =
    second ∙ ap (λ (l : List ℕ). l ++ rest) first ∙ append_assoc before part rest

-- a fault that is handed on is want of memory where the one before was
pub handed_on : {X : Type 0} (r : Result X LineFault) (Q : LineFault → Type 0) → IsErrAnd r Q → ((f : LineFault) → Q f → f ≡ OutOfMemory) → IfErr r (λ fault. fault ≡ OutOfMemory)
handed_on (Ok x) Q h go = tt
handed_on (Err f) Q h go = go f h
