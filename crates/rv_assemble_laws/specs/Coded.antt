-- The code of a statement: its base instructions, in their least bytes where no operand is open,
-- and else in those that the kinds of its open fields say (RISC-V Assembly Programmer's Manual,
-- "pseudoinstructions"; Unprivileged ISA 20191213, chapter 16).

use Rattle.std.specs.Prelude.{◌≡◌, ℕ, Bool, true, false, ◌&&◌, ⊤, List, [], ◌∷◌, ◌++◌, flat_map, length, sum_by, Option, Some}
use Rattle.rv_isa.specs.Kinds.{width_of}
use Rattle.rv_isa.specs.Ranges.{IsValid}
use Rattle.rv_expression_laws.specs.Values.{Value, Constant}
use Rattle.rv_statement_laws.specs.declared.mnemonic.Mnemonic.{Mnemonic}
use Rattle.rv_statement_laws.specs.Statement.{Operand, Expression}
use Rattle.rv_pseudo_laws.specs.Code.{Part, Closed, Open, Joined, Constants, named_form, code}
use Rattle.rv_pseudo_laws.specs.Filled.{are_closed}
use Rattle.rv_pseudo_laws.specs.Valid.{IsOpen}
use Rattle.rv_source_laws.specs.Lines.{constant_of}
use Rattle.rv_parcel.specs.declared.form.Compressed.{Compressed}
use Rattle.rv_parcel.specs.Encoded.{IsEncodedIn, IsLeastAs, IsEncodedAs}

-- ---- constants

abbrev pub is_constant : Value → Bool
is_constant (Constant n) = true
is_constant _ = false

-- the constants of a statement, as numbers with sign
abbrev pub constants : (Expression → Value) → Constants
constants v e = constant_of (v e)

-- ---- code

-- the bytes of a part with its operands in range: an instruction in the form of a parcel that is
-- named, if one is, else in its least form where it may be compressed; one with an open field,
-- which holds 0, in the form of the field's kind
abbrev pub IsCodedPart : Option Compressed → Bool → Part → List ℕ → Type 0
IsCodedPart named compressed (Closed i) bytes =
    IsValid i × IsLeastAs named compressed i (length bytes)
    × IsEncodedAs named i (length bytes) bytes
IsCodedPart named compressed (Open k i) bytes = IsOpen k i × IsEncodedIn i (width_of k) bytes
IsCodedPart named compressed (Joined k i j) bytes =
    IsOpen k i × IsOpen k j
    × ((first : List ℕ)
    × ((second : List ℕ)
    × IsEncodedIn i 4 first × IsEncodedIn j 4 second × (bytes ≡ first ++ second)))

abbrev pub AreCodedParts : Option Compressed → Bool → List Part → List (List ℕ) → Type 0
AreCodedParts named rvc [] [] = ⊤
AreCodedParts named rvc [] (bytes ∷ coded) = ⊥
AreCodedParts named rvc (p ∷ ps) [] = ⊥
AreCodedParts named rvc (p ∷ ps) (bytes ∷ coded) =
    IsCodedPart named rvc p bytes × AreCodedParts named rvc ps coded

-- all bytes of parts
abbrev pub joined : List (List ℕ) → List ℕ
joined coded = flat_map (λ bytes. bytes) coded

abbrev pub part_instructions : Part → ℕ
part_instructions (Joined k i j) = 2
part_instructions p = 1

-- how many instructions parts are
abbrev pub instructions_in : List Part → ℕ
instructions_in ps = sum_by part_instructions ps

-- the code of a statement with these values, where compressed code is on or off: how many bytes it
-- has, these bytes part by part, and how many instructions they are
pub record IsCode (v : Expression → Value) (rvc : Bool) (mnemonic : Mnemonic)
    (operands : List Operand) (bytes : ℕ) (coded : List (List ℕ)) (instructions : ℕ) : Type 0 where
  pub ps : List Part
  pub parts : code (constants v) rvc bytes mnemonic operands ≡ Some ps
  pub coded_as :
      AreCodedParts (named_form (constants v) mnemonic operands) (rvc && are_closed ps) ps coded
  pub size : bytes ≡ length (joined coded)
  pub count : instructions ≡ instructions_in ps
