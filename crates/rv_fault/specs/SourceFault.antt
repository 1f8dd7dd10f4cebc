-- The numbers and the names of the faults.

use Rattle.std.specs.Prelude.{◌≡◌, ℕ, List, Option, codes, option_map}
use Rattle.rv_expression_laws.specs.Codes as codes_of
use Rattle.rv_expression_laws.specs.Codes.{lowest}
use Rattle.rv_fault.specs.declared.source_fault.SourceCode.{SourceCode}
use Rattle.rv_fault.specs.declared.source_fault.SourceCode.TheVariants.{BadByte, BadToken, NestingTooDeep, DivisionByZero, ShiftTooLarge, UnknownMnemonic, BadOperands, UnknownDirective, UnsupportedHere, ScratchRegister, DuplicateLabel, UndefinedLocal, NotConstant, ImmediateRange, WrongSection, OptionStack, Limit}

-- the number after the `E`
abbrev pub source_fault_number : SourceCode → ℕ
source_fault_number BadByte = codes_of.bad_byte
source_fault_number BadToken = codes_of.bad_token
source_fault_number NestingTooDeep = codes_of.nesting_too_deep
source_fault_number DivisionByZero = codes_of.division_by_zero
source_fault_number ShiftTooLarge = codes_of.shift_too_large
source_fault_number UnknownMnemonic = codes_of.unknown_mnemonic
source_fault_number BadOperands = codes_of.bad_operands
source_fault_number UnknownDirective = codes_of.unknown_directive
source_fault_number UnsupportedHere = codes_of.unsupported_here
source_fault_number ScratchRegister = codes_of.scratch_register
source_fault_number DuplicateLabel = codes_of.duplicate_label
source_fault_number UndefinedLocal = codes_of.undefined_local
source_fault_number NotConstant = codes_of.not_constant
source_fault_number ImmediateRange = codes_of.immediate_range
source_fault_number WrongSection = codes_of.wrong_section
source_fault_number OptionStack = codes_of.option_stack
source_fault_number Limit = codes_of.limit

-- the lowest of codes that was found
abbrev pub IsLowest : Option SourceCode → List ℕ → Type 0
IsLowest found cs = option_map source_fault_number found ≡ lowest cs

-- the name that messages show after the number
abbrev pub source_fault_name : SourceCode → List ℕ
source_fault_name BadByte = codes "BadByte"
source_fault_name BadToken = codes "BadToken"
source_fault_name NestingTooDeep = codes "NestingTooDeep"
source_fault_name DivisionByZero = codes "DivisionByZero"
source_fault_name ShiftTooLarge = codes "ShiftTooLarge"
source_fault_name UnknownMnemonic = codes "UnknownMnemonic"
source_fault_name BadOperands = codes "BadOperands"
source_fault_name UnknownDirective = codes "UnknownDirective"
source_fault_name UnsupportedHere = codes "UnsupportedHere"
source_fault_name ScratchRegister = codes "ScratchRegister"
source_fault_name DuplicateLabel = codes "DuplicateLabel"
source_fault_name UndefinedLocal = codes "UndefinedLocal"
source_fault_name NotConstant = codes "NotConstant"
source_fault_name ImmediateRange = codes "ImmediateRange"
source_fault_name WrongSection = codes "WrongSection"
source_fault_name OptionStack = codes "OptionStack"
source_fault_name Limit = codes "Limit"
