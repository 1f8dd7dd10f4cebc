-- The bytes of the calls of a text after relaxation, one after another (RISC-V ELF psABI, "Linker
-- Relaxation", function call relaxation).

use Rattle.std.specs.Prelude.{◌≡◌, ℕ, suc, Bool, true, false, List, [], ◌∷◌, ◌++◌, if◌then◌else◌}
use Rattle.std.specs.List.{flat_map}
use Rattle.rv_size_laws.specs.Calls.{IsGreatestClosed}
use Rattle.rv_object_laws.specs.Object.{Relocation, Section, Object}
use Rattle.rv_link_laws.specs.Inputs.{goes_to_text}
use Rattle.rv_link_laws.specs.CallSites.{is_call, sites_of}
use Rattle.rv_link_laws.specs.Shortened.{Sizes, sizes_by}

-- by the bytes of the call at each place: those of a section of text, of sections, and of objects
abbrev pub call_bytes : Sizes → Relocation → List ℕ
call_bytes sizes r = if is_call r.kind then sizes r.place ∷ [] else []

abbrev pub calls_in : Sizes → Section → List ℕ
calls_in sizes s = if goes_to_text s then flat_map (call_bytes sizes) s.relocations else []

abbrev pub calls_among : (ℕ → Sizes) → (index : ℕ) → List Section → List ℕ
calls_among sizes index [] = []
calls_among sizes index (s ∷ ss) = calls_in (sizes index) s ++ calls_among sizes (suc index) ss

abbrev pub calls_from : (ℕ → ℕ → Sizes) → (file : ℕ) → List Object → List ℕ
calls_from sizes file [] = []
calls_from sizes file (o ∷ os) =
    calls_among (sizes file) 0 o.sections ++ calls_from sizes (suc file) os

-- each call as an assembler left it
abbrev pub whole_calls : (file index : ℕ) → Sizes
whole_calls = λ file index place. 8

-- where calls are relaxed: the greatest with which no call has a shorter form that reaches
abbrev pub AreCallSizes : (relax : Bool) → List Object → List ℕ → Type 0
AreCallSizes false os sizes = sizes ≡ calls_from whole_calls 1 os
AreCallSizes true os sizes =
    (kept : List ℕ) × IsGreatestClosed (sites_of os) kept
    × (sizes ≡ calls_from (sizes_by os kept) 1 os)
