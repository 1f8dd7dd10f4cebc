-- The lowest code of a list.

use Rattle.std.proofs.Common.{◌≡◌, ℕ, List, [], ◌∷◌, Option, Some, None, refl, sym, ap, ◌∙◌, Bool, true, false}
use Rattle.std.specs.Prelude.{min, option_map}
use Rattle.rv_expression_laws.specs.Codes.{unsupported_here, lowest}
use Rattle.rv_fault.specs.declared.source_fault.SourceCode.{SourceCode}
use Rattle.rv_fault.specs.SourceFault.{source_fault_number, IsLowest}
use Rattle.rv_pseudo_laws.specs.InstructionFaults.{else_unplaced}

abbrev pub with_code : ℕ → Option ℕ → Option ℕ
with_code c found = elim found [
  | None ↦ Some c
  | Some d ↦ Some (min c d)
]

-- the lowest code of one before others, whose lowest was found
pub first_lowest : (c : ℕ) (cs : List ℕ) (found : Option ℕ) → found ≡ lowest cs → with_code c found ≡ lowest (c ∷ cs)
first_lowest c cs found e = ap (with_code c) e

never_none : (c : ℕ) (found : Option ℕ) → with_code c found ≡ None → ⊥
never_none c None e = absurd (cc)
never_none c (Some d) e = absurd (cc)

-- where none was found there is none
pub none_lowest : (found : Option SourceCode) (cs : List ℕ) → IsLowest found cs → found ≡ None → cs ≡ []
none_lowest found [] low none = refl
none_lowest found (c ∷ cs) low none = absurd (never_none c (lowest cs) (sym low ∙ ap (option_map source_fault_number) none))

-- ---- of what may have no row

pub lowest_same : (placed : Bool) (cs : List ℕ) (code : ℕ) → lowest cs ≡ Some code → lowest (else_unplaced placed cs) ≡ Some code
lowest_same placed [] code low = absurd (cc)
lowest_same placed (c ∷ cs) code low = low

pub unplaced : (placed : Bool) (cs : List ℕ) → placed ≡ false → cs ≡ [] → lowest (else_unplaced placed cs) ≡ Some unsupported_here
unplaced placed cs e f = ap (λ l. lowest (else_unplaced placed l)) f ∙ ap (λ b. lowest (else_unplaced b [])) e

pub faultless : (placed : Bool) (cs : List ℕ) → placed ≡ true → cs ≡ [] → else_unplaced placed cs ≡ []
faultless placed cs e f = ap (else_unplaced placed) f ∙ ap (λ b. else_unplaced b []) e

-- what has none is placed, and has none of its own
pub none_of_its_own : (placed : Bool) (cs : List ℕ) → else_unplaced placed cs ≡ [] → (placed ≡ true) × (cs ≡ [])
none_of_its_own true [] e = (refl, refl)
none_of_its_own false [] e = absurd (cc)
none_of_its_own placed (code ∷ codes) e = absurd (cc)
