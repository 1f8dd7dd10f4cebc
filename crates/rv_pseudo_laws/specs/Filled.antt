-- The code of a statement with its open fields filled: its bytes, and its instructions (RISC-V ELF
-- psABI, "Relocations").

use Rattle.std.specs.Prelude.{ℕ, ℤ, ◌+◌, Bool, true, false, List, [], ◌∷◌, ◌++◌, sum_by, ⊤}
use Rattle.std.specs.List.{list_all}
use Rattle.rv_isa.specs.declared.instruction.Inst.{Inst}
use Rattle.rv_isa.specs.declared.kind.Kind.{Kind}
use Rattle.rv_isa.specs.Kinds.{width_of}
use Rattle.rv_reloc_laws.specs.Operands.{with_value}
use Rattle.rv_reloc_laws.specs.Ranges.{Takes}
use Rattle.rv_pseudo_laws.specs.Code.{Part, Closed, Open, Joined}

abbrev pub is_closed : Part → Bool
is_closed (Closed i) = true
is_closed (Open k i) = false
is_closed (Joined k i j) = false

-- whether all operands are known; only then may an instruction be compressed
abbrev pub are_closed : List Part → Bool
are_closed parts = list_all is_closed parts

-- the bytes of a part: 4 of a closed one, and of an open one those that its relocation changes
abbrev pub part_bytes : Part → ℕ
part_bytes (Closed i) = 4
part_bytes (Open k i) = width_of k
part_bytes (Joined k i j) = width_of k

abbrev pub code_bytes : List Part → ℕ
code_bytes parts = sum_by part_bytes parts

-- what a field takes: by the kind of its relocation and by where it stands
abbrev pub FieldValue : Type 0
FieldValue = Kind → ℕ → ℤ

-- the instructions of a part at an address
abbrev pub filled_part : FieldValue → ℕ → Part → List Inst
filled_part value a (Closed i) = i ∷ []
filled_part value a (Open k i) = with_value (value k a) i ∷ []
filled_part value a (Joined k i j) = with_value (value k a) i ∷ with_value (value k a) j ∷ []

-- of parts that follow one another from an address on; a closed one counts as 4 bytes: it is
-- compressed only where none is open, and then no address is asked for
abbrev pub filled : FieldValue → ℕ → List Part → List Inst
filled value a [] = []
filled value a (p ∷ ps) = filled_part value a p ++ filled value (a + part_bytes p) ps

-- each field can hold what it takes
abbrev pub IsTaken : FieldValue → ℕ → Part → Type 0
IsTaken value a (Closed i) = ⊤
IsTaken value a (Open k i) = Takes k (value k a)
IsTaken value a (Joined k i j) = Takes k (value k a)

abbrev pub AreTaken : FieldValue → ℕ → List Part → Type 0
AreTaken value a [] = ⊤
AreTaken value a (p ∷ ps) = IsTaken value a p × AreTaken value (a + part_bytes p) ps
