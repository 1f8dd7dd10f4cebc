-- The code of a source as its statements add to it, one after the other.

use Rattle.std.specs.Prelude.{◌≡◌, ◌⊎◌, ℕ, Bool, List, [], ◌∷◌, ◌++◌, length, Result, Ok, Err, Some, None, is_some, true, ⊤}
use Rattle.std.specs.Global.{Vec}
use Rattle.rv_expression_laws.specs.Values as values
use Rattle.rv_fault.specs.declared.source_fault.SourceFault.{SourceFault}
use Rattle.rv_fault.specs.declared.source_fault.SourceFault.TheVariants.{At, OutOfMemory}
use Rattle.rv_fault.specs.SourceFault.{source_fault_number}
use Rattle.rv_statement_laws.specs.Statement.{Expression, Statement}
use Rattle.rv_expression_laws.specs.Codes.{lowest}
use Rattle.rv_unit_laws.specs.Faults.{StatementFault}
use Rattle.rv_unit_laws.specs.Tables.{Tables, tables}
use Rattle.rv_source_laws.specs.Located.{Located, located}
use Rattle.rv_assemble_laws.specs.Refusals.{code_fault_from, size_fault_from, code_fault, else_fault, AreCodeSizes, IsTooLong}
use Rattle.rv_draft.specs.Code.{GrowsBy, bytes_in, code_bytes, code_size, sizes_of, bytes_of_codes, section_code, full_fault, full_at}
use Rattle.rv_draft.specs.Contents.{statement_padding, IsCoded}
use Rattle.rv_draft.specs.Coded.{AreCoded}
use Rattle.rv_instruction.specs.declared.encoded.Coded.{Coded}
use Rattle.rv_instruction.specs.Code.{near_forms_of}
use Rattle.rv_draft.specs.declared.code.Coder.{Coder}
use Rattle.rv_draft.specs.declared.code.SectionCode.{SectionCode}
use Rattle.rv_draft.specs.declared.item.CodeSize.{CodeSize}

-- a statement without faults as code, in a section of code or not,
-- by the values of its expressions, where compressed code is on or off,
-- and so many bytes are wanted of one with several forms
pub record IsAdded (old new : Coder) (section : ℕ) (executable : Bool) (faults : List ℕ)
    (v : Expression → values.Value) (rvc : Bool) (wanted : ℕ) (s : Statement) : Type 0 where
  pub sound : faults ≡ []
  pub coded : List Coded
  pub is : IsCoded v rvc s.kind coded
  pub asked : is_some (near_forms_of rvc s.kind) ≡ true → is.0 ≡ wanted
  pub grows : GrowsBy old.sections.items new.sections.items section
      (code_bytes (statement_padding executable v s.kind) coded)
  pub counts : new.sizes.items
      ≡ old.sizes.items ++ code_size (statement_padding executable v s.kind) coded ∷ []
  pub full : full_fault new.full
      ≡ else_fault (full_fault old.full)
      (full_at s.line (length (bytes_in new.sections.items section)))

-- a statement with these faults is added, where it has none, or refused by the lowest code of them
abbrev pub Adds :
    Coder → Coder → ℕ → Bool → List ℕ → (Expression → values.Value) → Bool → ℕ
    → Statement → Result ⊤ SourceFault → Type 0
Adds old new section executable faults v rvc wanted s (Ok done) =
    IsAdded old new section executable faults v rvc wanted s
Adds old new section executable faults v rvc wanted s (Err (At code at)) =
    (lowest faults ≡ Some (source_fault_number code)) × (at ≡ s.line)
Adds old new section executable faults v rvc wanted s (Err OutOfMemory) = Unit {0}

-- the code of the statements so far; with any code of the rest it makes up the whole
pub record IsCodeSoFar (t : Tables) (all rest : List Located) (c : Coder) : Type 0 where
  pub faults : code_fault_from t rest ≡ code_fault_from t all
  pub codes : List (List Coded)
  pub counts : (more : List (List Coded)) →
      c.sizes.items ++ sizes_of t rest more ≡ sizes_of t all (codes ++ more)
  pub coded : (more : List (List Coded)) → AreCoded t rest more → AreCoded t all (codes ++ more)
  pub long : (more : List (List Coded)) →
      else_fault (full_fault c.full)
      (size_fault_from (λ j. length (bytes_in c.sections.items j)) rest
      (bytes_of_codes t rest more))
      ≡ size_fault_from (λ j. 0) all (bytes_of_codes t all (codes ++ more))
  pub bytes : (more : List (List Coded)) (j : ℕ) →
      bytes_in c.sections.items j ++ section_code t j rest more
      ≡ section_code t j all (codes ++ more)

-- the code of each section and the size of each statement's, which has these lengths; none is too
-- long
pub record IsWhole (t : Tables) (all : List Located) (lengths : List ℕ) (sections : List (Vec ℕ))
    (sizes : List CodeSize) : Type 0 where
  pub faults : code_fault_from t all ≡ None
  pub codes : List (List Coded)
  pub counts : sizes ≡ sizes_of t all codes
  pub coded : AreCoded t all codes
  pub short : size_fault_from (λ j. 0) all (bytes_of_codes t all codes) ≡ None
  pub bytes : (j : ℕ) → bytes_in sections j ≡ section_code t j all codes
  pub told : bytes_of_codes t all codes ≡ lengths

-- a section of code becomes too long, and this is where
pub record IsLong (t : Tables) (all : List Located) (lengths : List ℕ) (f : StatementFault) :
    Type 0 where
  pub faults : code_fault_from t all ≡ None
  pub sizes : List ℕ
  pub are_sizes : AreCodeSizes t all sizes
  pub told : sizes ≡ lengths
  pub fault : size_fault_from (λ j. 0) all sizes ≡ Some f

-- the code of all statements, or the first whose end passes the longest section
abbrev pub IsAllCode :
    Tables → List Located → List ℕ → Result SectionCode SourceFault → Type 0
IsAllCode t all lengths (Ok c) = IsWhole t all lengths c.sections.items c.sizes.items
IsAllCode t all lengths (Err (At code line)) =
    IsLong t all lengths (record { code = source_fault_number code; line = line })
IsAllCode t all lengths (Err OutOfMemory) = Unit {0}

-- the first fault of a source as code, or of the sizes of its code
abbrev pub IsCodeFault : List Statement → StatementFault → Type 0
IsCodeFault ss f = (code_fault ss ≡ Some f) ⊎ ((code_fault ss ≡ None) × IsTooLong ss f)

-- the code of a source by the least lengths, or the first fault of its code and of the sizes of
-- code; memory may run out
abbrev pub IsSourceCode : List Statement → List ℕ → Result SectionCode SourceFault → Type 0
IsSourceCode ss lengths (Ok c) =
    IsWhole (tables ss) (located (ss ∷ [])) lengths c.sections.items c.sizes.items
IsSourceCode ss lengths (Err (At code line)) =
    IsCodeFault ss (record { code = source_fault_number code; line = line })
IsSourceCode ss lengths (Err OutOfMemory) = Unit {0}
