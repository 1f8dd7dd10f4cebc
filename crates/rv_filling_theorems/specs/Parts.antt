-- The bytes of a statement's code before and after its open fields are filled, part by part
-- (RISC-V ELF psABI, "Relocations").

use Rattle.std.specs.Prelude.{◌≡◌, ℕ, ◌+◌, ◌*◌, ◌%◌, ◌≤◌, Bool, true, false, ⊤, List, [], ◌∷◌, ◌++◌, length, Option, Some, None}
use Rattle.rv_isa.specs.declared.kind.Kind.{Kind}
use Rattle.rv_isa.specs.declared.instruction.Inst.{Inst}
use Rattle.rv_isa.specs.declared.instruction.Format.{Format}
use Rattle.rv_isa.specs.declared.instruction.Format.TheVariants as format
use Rattle.rv_isa.specs.Kinds.{width_of}
use Rattle.rv_isa.specs.Operations.{format_of}
use Rattle.rv_reloc_laws.specs.Fields.{patched}
use Rattle.rv_reloc_laws.specs.Operands.{with_value}
use Rattle.rv_parcel.specs.declared.form.Compressed.{Compressed}
use Rattle.rv_parcel.specs.Encoded.{IsEncodedIn, IsEncodedAs}
use Rattle.rv_pseudo_laws.specs.Code.{Part, Closed, Open, Joined}
use Rattle.rv_pseudo_laws.specs.Filled.{FieldValue, is_closed, part_bytes}
use Rattle.rv_pseudo_laws.specs.Runs.{Sized}
use Rattle.rv_pseudo_laws.specs.Valid.{fills_call, IsValidPart}

-- ---- before

-- these bytes are the part's, with what its open field holds so far; of a closed part those of the
-- form of a parcel that is named, if one is
abbrev pub IsEncodedPart : Option Compressed → Part → List ℕ → Type 0
IsEncodedPart named (Closed i) bytes = IsEncodedAs named i (length bytes) bytes
IsEncodedPart named (Open k i) bytes = IsEncodedIn i (width_of k) bytes
IsEncodedPart named (Joined k i j) bytes =
    (first : List ℕ)
    × ((second : List ℕ)
    × IsEncodedIn i 4 first × IsEncodedIn j 4 second × (bytes ≡ first ++ second))

-- a kind of a call fills an upper part and the `jalr` after it
abbrev pub fills_call_pair : Kind → Format → Format → Bool
fills_call_pair k (format.Upper operation x) (format.Jalr y) = fills_call k
fills_call_pair k f g = false

-- two instructions that are filled as one are those of a call
abbrev pub IsCallPart : Part → Type 0
IsCallPart (Closed i) = ⊤
IsCallPart (Open k i) = ⊤
IsCallPart (Joined k i j) = fills_call_pair k (format_of i) (format_of j) ≡ true

-- a form is named of closed parts alone
abbrev pub IsNamedPart : Option Compressed → Part → Type 0
IsNamedPart (Some form) p = is_closed p ≡ true
IsNamedPart None p = ⊤

-- parts with their bytes, which relocations can fill
abbrev pub AreFillable : Option Compressed → List Part → List (List ℕ) → Type 0
AreFillable named [] [] = ⊤
AreFillable named [] (bytes ∷ coded) = ⊥
AreFillable named (p ∷ ps) [] = ⊥
AreFillable named (p ∷ ps) (bytes ∷ coded) =
    IsValidPart p × IsCallPart p × IsNamedPart named p × IsEncodedPart named p bytes
    × AreFillable named ps coded

-- ---- after

-- the bytes of a part at an address
abbrev pub patched_part : FieldValue → ℕ → Part → List ℕ → List ℕ
patched_part value a (Closed i) bytes = bytes
patched_part value a (Open k i) bytes = patched k (value k a) bytes
patched_part value a (Joined k i j) bytes = patched k (value k a) bytes

-- of parts that follow one another from an address on, by the bytes that a part has where one is
-- open
abbrev pub patched_parts : FieldValue → ℕ → List Part → List (List ℕ) → List (List ℕ)
patched_parts value a [] coded = []
patched_parts value a (p ∷ ps) [] = []
patched_parts value a (p ∷ ps) (bytes ∷ coded) =
    patched_part value a p bytes ∷ patched_parts value (a + part_bytes p) ps coded

abbrev pub sized : Inst → ℕ → Sized
sized i bytes = record { instruction = i; bytes = bytes }

-- its instructions, each with its bytes
abbrev pub sized_part : FieldValue → ℕ → Part → List ℕ → List Sized
sized_part value a (Closed i) bytes = sized i (length bytes) ∷ []
sized_part value a (Open k i) bytes = sized (with_value (value k a) i) (width_of k) ∷ []
sized_part value a (Joined k i j) bytes =
    sized (with_value (value k a) i) 4 ∷ sized (with_value (value k a) j) 4 ∷ []

abbrev pub sized_parts : FieldValue → ℕ → List Part → List (List ℕ) → List Sized
sized_parts value a [] coded = []
sized_parts value a (p ∷ ps) [] = []
sized_parts value a (p ∷ ps) (bytes ∷ coded) =
    sized_part value a p bytes ++ sized_parts value (a + part_bytes p) ps coded

-- instructions of these sizes lie in bytes one after another
abbrev pub AreEncoded : Option Compressed → List Sized → List ℕ → Type 0
AreEncoded named [] bytes = bytes ≡ []
AreEncoded named (l ∷ ls) bytes =
    (front : List ℕ)
    × ((rest : List ℕ)
    × (bytes ≡ front ++ rest) × IsEncodedAs named l.instruction l.bytes front
    × AreEncoded named ls rest)

-- two bytes an instruction at least, four at most, and an even count of them
abbrev pub AreFew : ℕ → ℕ → Type 0
AreFew count bytes = (2 * count ≤ bytes) × (bytes ≤ 4 * count) × (bytes % 2 ≡ 0)
