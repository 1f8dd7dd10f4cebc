-- Statements that name a parcel: two bytes, whatever their operands and the option.

use Rattle.std.proofs.Common.{◌≡◌, ℕ, Bool, true, false, List, [], ◌∷◌, length, Option, Some, None, refl, ◌∙◌, subst}
use Rattle.std.specs.Prelude.{⊤, ◌&&◌, if◌then◌else◌}
use Rattle.rv_isa.specs.declared.operation.BranchOperation.{BranchOperation}
use Rattle.rv_isa.specs.declared.operation.BranchOperation.TheVariants.{Beq, Bne}
use Rattle.rv_isa.specs.Kinds.{width_of}
use Rattle.rv_parcel.specs.declared.form.Compressed.{Compressed}
use Rattle.rv_parcel.specs.declared.parcel.ParcelOperation.{ParcelOperation}
use Rattle.rv_parcel.specs.declared.parcel.ParcelOperation.TheVariants as parcels
use Rattle.rv_parcel.specs.declared.parcel.RegisterSet.TheVariants.{Short}
use Rattle.rv_parcel.specs.Mnemonics.{is_of_set, shape_of}
use Rattle.rv_parcel.specs.Parcel.{expansion}
use Rattle.rv_statement_laws.specs.declared.mnemonic.Mnemonic.TheVariants.{Parcel}
use Rattle.rv_statement.specs.declared.statement.Operation.{Operation}
use Rattle.rv_statement.specs.declared.statement.Operation.TheVariants as operations
use Rattle.rv_statement.specs.declared.statement.Plain.{Plain}
use Rattle.rv_statement.specs.declared.statement.Plain.TheVariants as plains
use Rattle.rv_statement_laws.specs.Statement.{Instruction, Operand, Register, Applied, Target}
use Rattle.rv_statement.specs.View.{parcel_registers, parcel_operands, shaped, plain_of}
use Rattle.rv_pseudo_laws.specs.Code.{Part, Closed, Open, Joined, Constants, code, named_form, branch}
use Rattle.rv_pseudo_laws.specs.Filled.{are_closed}
use Rattle.rv_assemble_laws.specs.Coded.{AreCodedParts, constants, joined}
use Rattle.rv_instruction.specs.Code.{coded_by}
use Rattle.rv_instruction.proofs.EncodingLemmas.{encoded_size}
use Rattle.rv_draft.specs.Contents.{bytes_coded}
use Rattle.rv_draft.specs.Measure.{HasOneLength, HasLengthWith, is_bare_parcel, is_parcel}
use Rattle.rv_draft.proofs.WordsLemmas.{one_joined}

-- one parcel: of the form that is named, or with an open field of one
abbrev IsParcelPart : Option Compressed → Part → Type 0
IsParcelPart (Some form) (Closed i) = ⊤
IsParcelPart named (Open k i) = width_of k ≡ 2
IsParcelPart named p = ⊥

abbrev IsParcel : Option Compressed → Option (List Part) → Type 0
IsParcel named None = ⊤
IsParcel named (Some []) = ⊥
IsParcel named (Some (p ∷ [])) = IsParcelPart named p
IsParcel named (Some (p ∷ q ∷ ps)) = ⊥

-- ---- its bytes

part_long : (named : Option Compressed) (c : Bool) (p : Part) (x : List ℕ) (coded : List (List ℕ)) → IsParcelPart named p → AreCodedParts named c (p ∷ []) (x ∷ coded) → length x ≡ 2
part_long (Some form) c (Closed i) x coded parcel ((valid, least, is), rest) = least
part_long None c (Closed i) x coded parcel h = absurd parcel
part_long (Some form) c (Open k i) x coded wide ((right, is), rest) = encoded_size i (width_of k) x is ∙ wide
part_long None c (Open k i) x coded wide ((right, is), rest) = encoded_size i (width_of k) x is ∙ wide
part_long (Some form) c (Joined k i j) x coded parcel h = absurd parcel
part_long None c (Joined k i j) x coded parcel h = absurd parcel

alone_long : (named : Option Compressed) (c : Bool) (p : Part) (coded : List (List ℕ)) → IsParcelPart named p → AreCodedParts named c (p ∷ []) coded → length (joined coded) ≡ 2
alone_long named c p [] parcel h = absurd h
alone_long named c p (x ∷ y ∷ ys) parcel (h, hs) = absurd hs
alone_long named c p (x ∷ []) parcel h = one_joined x ∙ part_long named c p x [] parcel h

parcel_long : (named : Option Compressed) (c : Bool) (ps : List Part) (coded : List (List ℕ)) → IsParcel named (Some ps) → AreCodedParts named c ps coded → length (joined coded) ≡ 2
parcel_long named c [] coded parcel h = absurd parcel
parcel_long named c (p ∷ []) coded parcel h = alone_long named c p coded parcel h
parcel_long named c (p ∷ q ∷ ps) coded parcel h = absurd parcel

-- ---- its row

form_row : (named : Option Compressed) → IsParcel named (elim named [
  | None ↦ None
  | Some form ↦ Some (Closed (expansion form) ∷ [])
])
form_row None = tt
form_row (Some form) = tt

short_row : (short : Bool) (operation : BranchOperation) (rs : ℕ) → IsParcel None (if short then Some (branch 2 operation rs 0) else None)
short_row true operation rs = refl
short_row false operation rs = tt

parcel_row : (v : Constants) (rvc : Bool) (n : ℕ) (operation : ParcelOperation) (os : List Operand) → IsParcel (named_form v (Parcel operation) os) (code v rvc n (Parcel operation) os)
parcel_row v rvc n parcels.J (Target e ∷ []) = refl
parcel_row v rvc n parcels.Beqz (Register rs ∷ Target e ∷ []) = short_row (is_of_set Short rs) Beq rs
parcel_row v rvc n parcels.Bnez (Register rs ∷ Target e ∷ []) = short_row (is_of_set Short rs) Bne rs
parcel_row v rvc n operation os = form_row (named_form v (Parcel operation) os)

parcel_told : (operation : ParcelOperation) (os : List Operand) (rvc : Bool) → HasOneLength rvc (Instruction (Parcel operation) os) 2
parcel_told operation os rvc = λ none v found is.
    let bytes = length (bytes_coded found) in
    let named = named_form (constants v) (Parcel operation) os in
    parcel_long named (rvc && are_closed is.1.is.ps) is.1.is.ps (coded_by found)
    (subst (IsParcel named) is.1.is.parts (parcel_row (constants v) rvc bytes operation os)) is.1.is.coded_as

-- ---- statements

pub bare_told : (p : Plain) (rvc : Bool) → is_bare_parcel p ≡ true → HasOneLength rvc (plain_of p) 2
bare_told (plains.Parcel operation a b) rvc e = parcel_told operation (parcel_registers operation a b) rvc
bare_told _ rvc e = absurd (cc)

pub parcels_told : (operation : Operation) (rvc : Bool) → is_parcel operation ≡ true → HasLengthWith operation rvc 2
parcels_told (operations.Parcel operation a b) rvc h = λ e. (
  parcel_told operation (parcel_operands (shape_of operation) operation a b (shaped (shape_of operation) e)) rvc,
  λ f. parcel_told operation (parcel_operands (shape_of operation) operation a b (Applied f e)) rvc,
)
parcels_told _ rvc h = absurd (cc)
