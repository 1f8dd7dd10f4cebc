-- How long the statements of a source are as code.

use Rattle.std.specs.Prelude.{ℕ, ◌-◌, ⊤, List, [], ◌∷◌, if◌then◌else◌}
use Rattle.rv_unit_laws.specs.Tables.{Tables}
use Rattle.rv_source_laws.specs.Located.{Located}
use Rattle.rv_assemble_laws.specs.Refusals.{code_faults_at}
use Rattle.rv_assemble_laws.specs.LaidStatements.{expression_value}
use Rattle.rv_instruction.specs.Code.{MayHave}
use Rattle.rv_draft.specs.Contents.{padding_at, data_of}
use Rattle.rv_draft.specs.Measure.{HasLength}

-- a statement without forms of several lengths has so many bytes of code and padding
abbrev pub HasLengthAt : Tables → Located → ℕ → Type 0
HasLengthAt t s bytes =
    HasLength (λ e. expression_value t s e) s.options.rvc (code_faults_at t s) (padding_at t s)
    s.kind bytes

-- and each may be asked to be so long
pub record IsLength (t : Tables) (s : Located) (bytes : ℕ) : Type 0 where
  pub offered : MayHave s.options.rvc s.kind bytes
  pub told : HasLengthAt t s bytes

abbrev pub AreLengths : Tables → List Located → List ℕ → Type 0
AreLengths t [] [] = ⊤
AreLengths t [] (bytes ∷ lengths) = ⊥
AreLengths t (s ∷ ss) [] = ⊥
AreLengths t (s ∷ ss) (bytes ∷ lengths) = IsLength t s bytes × AreLengths t ss lengths

-- the bytes of a statement but for its data
abbrev pub code_length : Tables → Located → ℕ → ℕ
code_length t s size =
    if s.home.executable then size
    else size - data_of (λ e. expression_value t s e) s.offset s.kind

abbrev pub code_lengths : Tables → List Located → List ℕ → List ℕ
code_lengths t [] sizes = []
code_lengths t (s ∷ ss) [] = []
code_lengths t (s ∷ ss) (size ∷ sizes) = code_length t s size ∷ code_lengths t ss sizes
