-- No test finds a fault in program headers that ascend beside the stack, whose contents stand in the file.

use Rattle.std.proofs.Common.{◌≡◌, ℕ, ◌+◌, ◌-◌, ◌≤◌, ◌^◌, ◌⊎◌, inl, inr, Bool, true, false, List, [], ◌∷◌, ◌++◌, length, take, drop, replicate, map, filter, None, refl, ap, sym, ◌∙◌, arith, sum_by, zero-add}
use Rattle.std.specs.List.{list_all}
use Rattle.std.proofs.lemmas.Bool.{and_from, le-ltb, le-leb, cond-true, cond-false}
use Rattle.std.proofs.lemmas.Bool.Decides.{nat_tests}
use Rattle.std.proofs.lemmas.List.Folds.{list_all-append}
use Rattle.std.proofs.lemmas.List.Sums.{sum_by-cons}
use Rattle.rv_elf_laws.specs.declared.program_header.ProgramHeader.{ProgramHeader}
use Rattle.rv_elf_laws.specs.Sections.{is_load}
use Rattle.rv_image_laws.specs.Segment.{do_meet}
use Rattle.rv_isa_laws.specs.Platform.{stack_start, stack_end}
use Rattle.rv_image_laws.specs.ImageOf.{segment_in}
use Rattle.rv_elf_laws.specs.FirstFault.{first_true}
use Rattle.rv_image_laws.specs.FirstFault.{ends_by, program_tests, programs_tests, segment_tests, loaded_size}
use Rattle.rv_image_laws.specs.Executable.{Part, memory_size_of, has_memory, offset_of, program_of, segment_of_part}
use Rattle.rv_image.proofs.ProgramsLemmas.{none_meets, all_end_later}
use Rattle.rv_elf_laws.specs.FirstTrue.{first_true_none}
use Rattle.rv_image.proofs.ContentsLemmas.{Ascending, Stands, AllStand}

-- what ascends to high from low
up_to : (low : ℕ) (parts : List Part) (high : ℕ) → Ascending low parts high → low ≤ high
up_to low [] high h = h
up_to low (part ∷ parts) high h = omega (arith, h.0, up_to (part.address + memory_size_of part) parts high h.1)

-- what ends by an address, and begins at another or behind it, ends below the stack or begins behind it
abbrev pub IsBeside : (low high : ℕ) → Type 0
IsBeside low high = (high ≤ stack_start) ⊎ (stack_end ≤ low)

before_stack : (address size : ℕ) → address + size ≤ stack_start → do_meet address size stack_start (stack_end - stack_start) ≡ false
before_stack address size below = grind (arith, nat_tests)

behind_stack : (address size : ℕ) → stack_end ≤ address → do_meet address size stack_start (stack_end - stack_start) ≡ false
behind_stack address size above = grind (arith, nat_tests)

off_stack : (address size low high : ℕ) → low ≤ address → address + size ≤ high → IsBeside low high → do_meet address size stack_start (stack_end - stack_start) ≡ false
off_stack address size low high after below beside = elim beside [
  | inl under ↦ before_stack address size (omega (arith, below, under))
  | inr over ↦ behind_stack address size (omega (arith, after, over))
]

raise : (low lower high : ℕ) → lower ≤ low → IsBeside lower high → IsBeside low high
raise low lower high up beside = elim beside [
  | inl under ↦ inl under
  | inr over ↦ inr (omega (arith, up, over))
]

segment_sound : (start : ℕ) (before : List ProgramHeader) (part : Part) (low high : ℕ) → list_all (ends_by low) before ≡ true → low ≤ part.address →
    part.address + memory_size_of part ≤ high → high ≤ 2 ^ 64 → IsBeside low high → first_true (segment_tests before (program_of start part)) ≡ None
unfolding segment_tests
segment_sound start before part low high ends after below most beside =
    rw (
      le-ltb (memory_size_of part) (length part.stored) (omega arith),
      le-ltb (2 ^ 64) (part.address + memory_size_of part) (omega (arith, below, most)),
      none_meets (program_of start part) before low ends after,
      off_stack part.address (memory_size_of part) low high after below beside,
    ) refl

program_sound : (start : ℕ) (file : List ℕ) (before : List ProgramHeader) (part : Part) (low high : ℕ) → Stands start file part → list_all (ends_by low) before ≡ true → low ≤ part.address →
    part.address + memory_size_of part ≤ high → high ≤ 2 ^ 64 → IsBeside low high → first_true (program_tests file before (program_of start part)) ≡ None
unfolding program_tests
program_sound start file before part low high stands ends after below most beside = rw stands.within (segment_sound start before part low high ends after below most beside)

pub programs_sound : (start : ℕ) (file : List ℕ) (before : List ProgramHeader) (parts : List Part) (low high : ℕ) → AllStand start file parts → list_all (ends_by low) before ≡ true →
    Ascending low parts high → high ≤ 2 ^ 64 → IsBeside low high → first_true (programs_tests file before (map (program_of start) parts)) ≡ None
programs_sound start file before [] low high stand ends up most beside = refl
programs_sound start file before (part ∷ parts) low high stand ends up most beside =
    let this = program_of start part in
    let end = part.address + memory_size_of part in
    let below = up_to end parts high up.1 in
    let one : ends_by end this ≡ true = le-leb end end (omega arith) in
    let all : list_all (ends_by end) (before ++ (this ∷ [])) ≡ true =
    list_all-append (ends_by end) before (this ∷ []) ∙ and_from _ _ (all_end_later low end before (omega (arith, up.0)) ends) (and_from _ _ one refl) in
    first_true_none (program_tests file before this) (programs_tests file (before ++ (this ∷ [])) (map (program_of start) parts))
    (program_sound start file before part low high stand.0 ends up.0 below most beside)
    ∙ programs_sound start file (before ++ (this ∷ [])) parts end high stand.1 all up.1 most (raise end low high (omega (arith, up.0)) beside)

-- all are loaded
pub filter_loads : (start : ℕ) (parts : List Part) → filter is_load (map (program_of start) parts) ≡ map (program_of start) parts
filter_loads start [] = refl
filter_loads start (part ∷ parts) = ap (λ ps. program_of start part ∷ ps) (filter_loads start parts)

-- the segments in the file are those of the parts
pub segments_same : (start : ℕ) (file : List ℕ) (parts : List Part) → AllStand start file parts →
    map (segment_in file) (map (program_of start) parts) ≡ map segment_of_part parts
segments_same start file [] stand = refl
segments_same start file (part ∷ parts) stand =
    let zeros : memory_size_of part - length part.stored ≡ part.zeros = omega arith in
    let bytes : take (length part.stored) (drop (offset_of start part) file) ++ replicate (memory_size_of part - length part.stored) 0 ≡ part.stored ++ replicate part.zeros 0 =
    (λ i. stand.0.bytes i ++ replicate (zeros i) 0) in
    (λ i. record { address = part.address; bytes = bytes i; flags = part.flags } ∷ segments_same start file parts stand.1 i)

pub loaded_parts : (start : ℕ) (parts : List Part) → loaded_size (map (program_of start) parts) ≡ sum_by memory_size_of parts
loaded_parts start [] = refl
loaded_parts start (part ∷ parts) =
    ap (λ ps. sum_by (λ p. p.p_memsz) (program_of start part ∷ ps)) (filter_loads start parts)
    ∙ sum_by-cons (λ p. p.p_memsz) (program_of start part) (map (program_of start) parts)
    ∙ ap (λ n. memory_size_of part + n) (ap (sum_by (λ p. p.p_memsz)) (sym (filter_loads start parts)) ∙ loaded_parts start parts)
    ∙ sym (sum_by-cons memory_size_of part parts)

-- parts without memory add nothing
pub filter_memory : (parts : List Part) → sum_by memory_size_of (filter has_memory parts) ≡ sum_by memory_size_of parts
filter_memory [] = refl
filter_memory (part ∷ parts) = go (has_memory part) refl (filter_memory parts)
  where
    go : (b : Bool) → has_memory part ≡ b → sum_by memory_size_of (filter has_memory parts) ≡ sum_by memory_size_of parts →
        sum_by memory_size_of (filter has_memory (part ∷ parts)) ≡ sum_by memory_size_of (part ∷ parts)
    go true e rest = ap (sum_by memory_size_of) (cond-true (has_memory part) (part ∷ filter has_memory parts) (filter has_memory parts) e)
        ∙ sum_by-cons memory_size_of part (filter has_memory parts) ∙ ap (λ n. memory_size_of part + n) rest ∙ sym (sum_by-cons memory_size_of part parts)
    go false e rest =
        let none : memory_size_of part ≡ 0 = grind (arith, nat_tests) in
        ap (sum_by memory_size_of) (cond-false (has_memory part) (part ∷ filter has_memory parts) (filter has_memory parts) e)
        ∙ rest ∙ sym (sum_by-cons memory_size_of part parts ∙ ap (λ n. n + sum_by memory_size_of parts) none ∙ zero-add (sum_by memory_size_of parts))
