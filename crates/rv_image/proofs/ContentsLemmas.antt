-- The contents of the parts stand at their places.

use Rattle.std.proofs.Common.{◌≡◌, ℕ, ◌+◌, ◌-◌, ◌≤◌, Bool, true, false, List, [], ◌∷◌, ◌++◌, length, take, drop, replicate, filter, refl, ap, sym, ◌∙◌, append_assoc, append-nil, arith}
use Rattle.std.proofs.Math.Seq.{drop-append_seam, take-append_seam}
use Rattle.std.proofs.lemmas.List.{length-append, length-replicate}
use Rattle.std.proofs.lemmas.Bool.{cond-true, cond-false}
use Rattle.std.proofs.lemmas.Bool.Decides.{nat_tests}
use Rattle.rv_elf_laws.specs.Sections.{is_past}
use Rattle.rv_image_laws.specs.Executable.{Part, memory_size_of, has_memory, offset_of, with_contents, with_parts}

-- the parts stand in memory one after the other, from low on and up to high
abbrev pub Ascending : ℕ → List Part → ℕ → Type 0
Ascending low [] high = low ≤ high
Ascending low (part ∷ parts) high = (low ≤ part.address) × Ascending (part.address + memory_size_of part) parts high

-- the file has the stored bytes of a part at its place
pub record Stands (start : ℕ) (file : List ℕ) (part : Part) : Type 0 where
  pub within : is_past file (offset_of start part) (length part.stored) ≡ false
  pub bytes : take (length part.stored) (drop (offset_of start part) file) ≡ part.stored

abbrev pub AllStand : ℕ → List ℕ → List Part → Type 0
AllStand start file [] = Unit {0}
AllStand start file (part ∷ parts) = Stands start file part × AllStand start file parts

-- what is written later comes after
pub extends : (start : ℕ) (file : List ℕ) (parts : List Part) → (extra : List ℕ) × (with_parts start file parts ≡ file ++ extra)
extends start file [] = ([], sym (append-nil file))
extends start file (part ∷ parts) = go part.stored (λ f. extends start f parts)
  where
    place : ℕ
    place = offset_of start part

    go : (bytes : List ℕ) → ((f : List ℕ) → (extra : List ℕ) × (with_parts start f parts ≡ f ++ extra)) →
        (extra : List ℕ) × (with_parts start (with_contents file place bytes) parts ≡ file ++ extra)
    go [] later = later file
    go (b ∷ bytes) later =
        let new : List ℕ = replicate (place - length file) 0 ++ (b ∷ bytes) in
        let more = later (file ++ new) in
        (new ++ more.0, more.1 ∙ append_assoc file new more.0)

-- bytes at a place after the end of a file, and what comes after them
one_stands : (file bytes extra : List ℕ) (place : ℕ) → length file ≤ place →
    (is_past (with_contents file place bytes ++ extra) place (length bytes) ≡ false)
    × (take (length bytes) (drop place (with_contents file place bytes ++ extra)) ≡ bytes)
one_stands file [] extra place after = (refl, refl)
one_stands file (b ∷ bytes) extra place after =
    let zeros : List ℕ = replicate (place - length file) 0 in
    let stored : List ℕ = b ∷ bytes in
    let front : length (file ++ zeros) ≡ place = omega (arith, length-append file zeros, length-replicate {A = ℕ} (place - length file) 0) in
    let cut : (file ++ (zeros ++ stored)) ++ extra ≡ (file ++ zeros) ++ (stored ++ extra) =
    append_assoc file (zeros ++ stored) extra ∙ ap (λ x. file ++ x) (append_assoc zeros stored extra) ∙ sym (append_assoc file zeros (stored ++ extra)) in
    let dropped : drop place ((file ++ (zeros ++ stored)) ++ extra) ≡ stored ++ extra =
    ap (drop place) cut ∙ ap (λ n. drop n ((file ++ zeros) ++ (stored ++ extra))) (sym front) ∙ drop-append_seam (file ++ zeros) (stored ++ extra) in
    let total : length ((file ++ (zeros ++ stored)) ++ extra) ≡ place + (length stored + length extra) =
    ap length cut ∙ omega (arith, length-append (file ++ zeros) (stored ++ extra), length-append stored extra, front) in (
      within_from ((file ++ (zeros ++ stored)) ++ extra) place (length stored) (omega (arith, total)),
      ap (take (length stored)) dropped ∙ take-append_seam stored extra,
    )
  where
    within_from : (whole : List ℕ) (at size : ℕ) → at + size ≤ length whole → is_past whole at size ≡ false
    within_from whole at size h = grind (arith, nat_tests)

-- no more bytes than the end of the last part
length-with : (file bytes : List ℕ) (place limit : ℕ) → length file ≤ place → place + length bytes ≤ limit → length (with_contents file place bytes) ≤ limit
length-with file [] place limit after below = omega arith
length-with file (b ∷ bytes) place limit after below =
    let zeros : List ℕ = replicate (place - length file) 0 in
    let stored : List ℕ = b ∷ bytes in
    omega (arith, length-append file (zeros ++ stored), length-append zeros stored, length-replicate {A = ℕ} (place - length file) 0)

pub all_stand : (start : ℕ) (file : List ℕ) (parts : List Part) (low high : ℕ) → start ≤ low → Ascending low parts high →
    length file ≤ 0x1000 + (low - start) → AllStand start (with_parts start file parts) parts
all_stand start file [] low high after up short = tt
all_stand start file (part ∷ parts) low high after up short =
    let place = offset_of start part in
    let now = with_contents file place part.stored in
    let more = extends start now parts in
    let room : length file ≤ place = omega (arith, up.0) in
    let here = one_stands file part.stored more.0 place room in
    let next : length now ≤ 0x1000 + ((part.address + memory_size_of part) - start) = length-with file part.stored place (0x1000 + ((part.address + memory_size_of part) - start)) room (omega (arith, up.0)) in
    (rw more.1 (record { within = here.0; bytes = here.1 }), all_stand start now parts (part.address + memory_size_of part) high (omega (arith, up.0)) up.1 next)

-- the same of the parts that have memory
pub filter_stand : (start : ℕ) (file : List ℕ) (parts : List Part) → AllStand start file parts → AllStand start file (filter has_memory parts)
filter_stand start file [] h = tt
filter_stand start file (part ∷ parts) h = go (has_memory part) refl (filter_stand start file parts h.1)
  where
    go : (b : Bool) → has_memory part ≡ b → AllStand start file (filter has_memory parts) → AllStand start file (filter has_memory (part ∷ parts))
    go true e rest = rw (cond-true (has_memory part) (part ∷ filter has_memory parts) (filter has_memory parts) e) (h.0, rest)
    go false e rest = rw (cond-false (has_memory part) (part ∷ filter has_memory parts) (filter has_memory parts) e) rest

-- an earlier begin of what ascends
ascend_from : (low lower : ℕ) (parts : List Part) (high : ℕ) → lower ≤ low → Ascending low parts high → Ascending lower parts high
ascend_from low lower [] high down h = omega arith
ascend_from low lower (part ∷ parts) high down h = (omega (arith, h.0), h.1)

pub filter_ascend : (low : ℕ) (parts : List Part) (high : ℕ) → Ascending low parts high → Ascending low (filter has_memory parts) high
filter_ascend low [] high h = h
filter_ascend low (part ∷ parts) high h = go (has_memory part) refl (filter_ascend (part.address + memory_size_of part) parts high h.1)
  where
    go : (b : Bool) → has_memory part ≡ b → Ascending (part.address + memory_size_of part) (filter has_memory parts) high → Ascending low (filter has_memory (part ∷ parts)) high
    go true e rest = rw (cond-true (has_memory part) (part ∷ filter has_memory parts) (filter has_memory parts) e) (h.0, rest)
    go false e rest = rw (cond-false (has_memory part) (part ∷ filter has_memory parts) (filter has_memory parts) e)
        (ascend_from (part.address + memory_size_of part) low (filter has_memory parts) high (omega (arith, h.0)) rest)
