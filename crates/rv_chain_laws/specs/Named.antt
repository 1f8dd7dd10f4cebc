-- That listings and sources name instructions alike (RISC-V Unprivileged ISA 20191213, chapter 24).

use Rattle.std.specs.Prelude.{◌≡◌, ◌⊎◌, ℕ, List, [], ◌∷◌, ◌++◌, codes, Some}
use Rattle.rv_isa.specs.declared.instruction.Format.{Format}
use Rattle.rv_parse_laws.specs.Words.{mnemonic_named}
use Rattle.rv_parse_laws.specs.Names.{mnemonic_of}
use Rattle.rv_listing_laws.specs.Instruction.{text_of}

-- a text that begins with a word, alone or before a blank
pub record BeginsWith (word text : List ℕ) : Type 0 where
  pub rest : List ℕ
  pub whole : text ≡ word ++ rest
  pub apart : (rest ≡ []) ⊎ ((operands : List ℕ) × (rest ≡ 32 ∷ operands))

-- what a listing shows of an instruction begins with the word of sources that means its operation
pub record IsNamedAlike (f : Format) (text : List ℕ) : Type 0 where
  pub word : List ℕ
  pub means : mnemonic_named word ≡ Some (mnemonic_of f)
  pub begins : BeginsWith word text

-- of each instruction but a fence that no source spells, which is shown as unknown
abbrev pub ListingsNameAlike : Type 0
ListingsNameAlike =
    (address : ℕ) (f : Format)
    → IsNamedAlike f (text_of address f) ⊎ (text_of address f ≡ codes "unknown")
