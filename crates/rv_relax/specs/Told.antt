-- What a plan tells of its text by number: of each call and of each alignment, in the order of the
-- sections of text and of their relocations, the bytes that are left (RISC-V ELF psABI, "Linker
-- Relaxation").

use Rattle.std.specs.Prelude.{◌≡◌, ℕ, ◌+◌, ◌-◌, nat_le, List, [], ◌∷◌, ◌++◌, Option, Some, None, MatchOption, if◌then◌else◌}
use Rattle.std.specs.List.{flat_map, slice_get}
use Rattle.rv_isa.specs.declared.kind.Kind.{Kind}
use Rattle.rv_isa.specs.declared.kind.Kind.TheVariants as kinds
use Rattle.rv_object_laws.specs.Object.{Relocation, size_of}
use Rattle.rv_object_types.specs.Sections.{section_of}
use Rattle.rv_object_laws.specs.Valid.{is_align}
use Rattle.rv_link_laws.specs.Moves.{Move, has_padding, new_offset}
use Rattle.rv_link_laws.specs.Inputs.{goes_to_text}
use Rattle.rv_link_laws.specs.CallSites.{is_call}
use Rattle.rv_shorten.specs.declared.section.ShortSection.{ShortSection}
use Rattle.rv_shorten.specs.declared.object.ShortObject.{ShortObject}
use Rattle.rv_cut_laws.specs.Cutting.{cut_kind}
use Rattle.rv_shorten.specs.Sections.{moves_in}
use Rattle.rv_relax.specs.declared.told.Counted.{Counted}
use Rattle.rv_relax.specs.declared.told.Counted.TheVariants.{Calls, Alignments}
use Rattle.rv_relax.specs.declared.told.Standing.{Standing}
use Rattle.rv_relax.specs.Kept.{kept_in, pad_at}

-- ---- calls and alignments

-- the bytes of a call, by the kind that its relocation has at last
abbrev pub bytes_left : Kind → ℕ
bytes_left kinds.RvcJump = 2
bytes_left kinds.Jal = 4
bytes_left _ = 8

abbrev pub call_told : List Move → Relocation → Option ℕ
call_told cut r = if is_call r.kind then Some (bytes_left (cut_kind cut r)) else None

-- of an alignment: none where it brings no bytes
abbrev pub pad_told : (cut kept : List Move) → Relocation → Option ℕ
pad_told cut kept r =
    if is_align r.kind
    then Some (if has_padding r then pad_at kept (new_offset cut r.place) else 0)
    else None

abbrev pub told_at : Counted → (cut kept : List Move) → Relocation → Option ℕ
told_at Calls cut kept r = call_told cut r
told_at Alignments cut kept r = pad_told cut kept r

abbrev pub as_list : Option ℕ → List ℕ
as_list None = []
as_list (Some n) = n ∷ []

-- those of a section, of sections, and of objects
abbrev pub told_section : Counted → ShortSection → List ℕ
told_section counted s =
    let whole = section_of s.whole.now in
    if goes_to_text whole
    then flat_map (λ r. as_list (told_at counted (moves_in s) (kept_in s) r)) whole.relocations
    else []

abbrev pub told_sections : Counted → List ShortSection → List ℕ
told_sections counted ss = flat_map (told_section counted) ss

abbrev pub told_objects : Counted → List ShortObject → List ℕ
told_objects counted os = flat_map (λ o. told_sections counted o.sections.items) os

-- one of a list is found by its index, or they are passed, and the index is one of what follows
abbrev pub IsFound : List ℕ → (old new : ℕ) → Option ℕ → Type 0
IsFound own old new found =
    MatchOption found ((more : List ℕ) → slice_get (own ++ more) old ≡ slice_get more new)
    (λ n. (more : List ℕ) → slice_get (own ++ more) old ≡ Some n)

-- ---- offsets

-- where an offset of a section is at last: behind what is cut of its calls, and then of its paddings
abbrev pub final_offset : ShortSection → ℕ → ℕ
final_offset s old = new_offset (kept_in s) (new_offset (moves_in s) old)

abbrev pub whole_bytes : ShortSection → ℕ
whole_bytes s = size_of (section_of s.whole.now).contents

-- of the bytes of sections of text, end to end
abbrev pub offset_among : List ShortSection → ℕ → ℕ
offset_among [] old = old
offset_among (s ∷ ss) old =
    if nat_le old (whole_bytes s) then final_offset s old
    else final_offset s (whole_bytes s) + offset_among ss (old - whole_bytes s)

abbrev pub planned_sections : List ShortSection → List ShortSection
planned_sections ss =
    flat_map (λ s. if goes_to_text (section_of s.whole.now) then s ∷ [] else []) ss

abbrev pub planned_text : List ShortObject → List ShortSection
planned_text os = flat_map (λ o. planned_sections o.sections.items) os

-- an offset among sections is found, or they are passed
abbrev pub IsPassed : List ShortSection → (old new : Standing) → Option ℕ → Type 0
IsPassed own old new found =
    MatchOption found
    ((more : List ShortSection) → old.before + offset_among (own ++ more) old.left
    ≡ new.before + offset_among more new.left)
    (λ n. (more : List ShortSection) → old.before + offset_among (own ++ more) old.left ≡ n)
