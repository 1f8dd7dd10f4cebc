-- The instruction at the front of bytes, as a listing shows it.

use Rattle.std.specs.Prelude.{◌≡◌, ◌⊎◌, ℕ, List, Option, Some, None, Result, Ok, Err}
use Rattle.rv_isa.specs.declared.instruction.Inst.{Inst}
use Rattle.rv_isa.specs.Operations.{format_of}
use Rattle.rv_parcel.specs.Front.{FrontSpells}
use Rattle.rv_listing_laws.specs.Instruction.{target_text, text_with}
use Rattle.rv_fault.specs.declared.fault.Fault.{Fault}
use Rattle.rv_fault.specs.declared.fault.Fault.TheVariants.{Memory}
use Rattle.rv_library.specs.declared.answers.Answer.{Answer}
use Rattle.rv_library.specs.declared.answers.Made.{Made}
use Rattle.rv_library.specs.Given.{IsGivenAlone}

-- an instruction at an address; targets are shown by their addresses
abbrev pub instruction_text : ℕ → Inst → List ℕ
instruction_text address inst = text_with (target_text address) (format_of inst)

-- the text of an instruction, unless memory runs out
abbrev pub IsShown : ℕ → Inst → Result (Option Made) Fault → Type 0
IsShown address inst (Ok (Some made)) = made.first.items ≡ instruction_text address inst
IsShown address inst (Ok None) = ⊥
IsShown address inst (Err fault) = fault ≡ Memory

-- the instruction that the bytes begin with is given, or that there is none (RV_UNFIT)
abbrev pub GivesInstruction : (bytes : List ℕ) → (address taken status : ℕ) →
    (text text' : List ℕ) → Answer → Type 0
GivesInstruction bytes address taken status text text' answer =
    ((inst : Inst) × FrontSpells bytes inst taken × ((made : Result (Option Made) Fault)
    × IsShown address inst made × IsGivenAlone made status text text' answer))
    ⊎ (((inst : Inst) (n : ℕ) → FrontSpells bytes inst n → ⊥) × (taken ≡ 0)
    × IsGivenAlone (Ok None) status text text' answer)
