-- The segments of a file without a fault lie apart, and have the memory that their headers say.

use Rattle.std.proofs.Common.{◌≡◌, ℕ, zero, suc, ◌+◌, ◌-◌, ◌≤◌, ◌^◌, Bool, true, false, not, ◌&&◌, List, [], ◌∷◌, ◌++◌, length, take, drop, replicate, map, filter, None, refl, ap, sym, ◌∙◌, append_assoc, arith, sum_by, nat_lt, inl, inr}
use Rattle.rv_fault.specs.declared.file_fault.FileFault.TheVariants.{BadTable, Overlap}
use Rattle.std.specs.List.{list_any, list_all}
use Rattle.std.proofs.lemmas.Bool.{cases_Bool, or_parts, and_from, cond-true, cond-false, eq-eqb, eqb-true, not_from_false}
use Rattle.std.proofs.lemmas.Bool.Decides.{nat_tests}
use Rattle.std.proofs.lemmas.List.{length-append, length-replicate, length-take-le, length-drop}
use Rattle.std.proofs.lemmas.List.Folds.{list_any-append}
use Rattle.std.proofs.lemmas.List.Sums.{sum_by-cons}
use Rattle.rv_elf_laws.specs.declared.program_header.ProgramHeader.{ProgramHeader}
use Rattle.rv_elf_laws.specs.Sections.{is_load, is_past}
use Rattle.rv_image_laws.specs.Segment.{do_meet, meets_segment, meets_stack, are_apart, memory_size}
use Rattle.rv_isa_laws.specs.Platform.{stack_start, stack_end}
use Rattle.rv_image_laws.specs.ImageOf.{segment_in}
use Rattle.rv_elf_laws.specs.FirstFault.{first_true}
use Rattle.rv_image_laws.specs.FirstFault.{do_overlap, programs_tests, program_tests, segment_tests, IsLoadable, loaded_size}
use Rattle.rv_elf_laws.specs.FirstTrue.{no_fault_parts}
use Rattle.rv_image.proofs.LoadedLemmas.{program_loadable, program_fits}

-- bytes that do not lie past the end of the file are all there
length-within : (file : List ℕ) (place size : ℕ) → is_past file place size ≡ false → length (take size (drop place file)) ≡ size
length-within file place zero h = refl
length-within file place (suc size) h =
    let room : place + suc size ≤ length file = grind (arith, nat_tests) in
    let left = length-drop place file in
    length-take-le (suc size) (drop place file) (omega arith)

pub length-segment : (file : List ℕ) (p : ProgramHeader) → IsLoadable file p → p.p_type ≡ 1 → length (segment_in file p).bytes ≡ p.p_memsz
length-segment file p h load =
    length-append (take p.p_filesz (drop p.p_offset file)) (replicate (p.p_memsz - p.p_filesz) 0)
    ∙ (λ i. length-within file p.p_offset p.p_filesz h.within i + length-replicate {A = ℕ} (p.p_memsz - p.p_filesz) 0 i)
    ∙ omega (arith, h.stored load)

-- what two tests of a loaded program header say: it lies apart from those before it, and from the stack
segment_apart : (before : List ProgramHeader) (p : ProgramHeader) → first_true (segment_tests before p) ≡ None →
    (list_any (do_overlap p) before ≡ false) × (do_meet p.p_vaddr p.p_memsz stack_start (stack_end - stack_start) ≡ false)
unfolding segment_tests
segment_apart before p h = go (nat_lt p.p_memsz p.p_filesz) (nat_lt (2 ^ 64) (p.p_vaddr + p.p_memsz))
    (list_any (do_overlap p) before) (do_meet p.p_vaddr p.p_memsz stack_start (stack_end - stack_start)) h
  where
    go : (a b x y : Bool) → first_true ((a, BadTable) ∷ (b, BadTable) ∷ (x, Overlap) ∷ (y, Overlap) ∷ []) ≡ None → (x ≡ false) × (y ≡ false)
    go false false false false e = (refl, refl)
    go false false false true e = cc
    go false false true y e = cc
    go false true x y e = cc
    go true b x y e = cc

-- the other way round
meet_other : (a n b m : ℕ) → do_meet a n b m ≡ false → do_meet b m a n ≡ false
meet_other a n b m h = grind (arith, nat_tests)

pair_apart : (file : List ℕ) (p q : ProgramHeader) → IsLoadable file p → IsLoadable file q → p.p_type ≡ 1 → q.p_type ≡ 1 → do_overlap q p ≡ false →
    meets_segment (segment_in file p) (segment_in file q) ≡ false
pair_apart file p q sound sound' load load' h =
    let meets : do_meet q.p_vaddr q.p_memsz p.p_vaddr p.p_memsz ≡ false =
    ap (λ b. b && do_meet q.p_vaddr q.p_memsz p.p_vaddr p.p_memsz) (sym (eq-eqb p.p_type 1 load)) ∙ h in
    (λ i. do_meet p.p_vaddr (length-segment file p sound load i) q.p_vaddr (length-segment file q sound' load' i))
    ∙ meet_other q.p_vaddr q.p_memsz p.p_vaddr p.p_memsz meets

-- where p is among the headers before, the segments of ps lie apart from that of p
later_apart : (file : List ℕ) (p : ProgramHeader) (front back ps : List ProgramHeader) → IsLoadable file p → p.p_type ≡ 1 →
    first_true (programs_tests file (front ++ (p ∷ back)) ps) ≡ None →
    list_all (λ t. not (meets_segment (segment_in file p) t)) (map (segment_in file) (filter is_load ps)) ≡ true
later_apart file p front back [] sound load h = refl
later_apart file p front back (q ∷ ps) sound load h =
    let before = front ++ (p ∷ back) in
    let fine = no_fault_parts (program_tests file before q) (programs_tests file (before ++ (q ∷ [])) ps) h in
    let rest = later_apart file p front (back ++ (q ∷ [])) ps sound load
    (ap (λ qs. first_true (programs_tests file qs ps)) (sym (append_assoc front (p ∷ back) (q ∷ []))) ∙ fine.1) in
    elim (cases_Bool (is_load q)) [
      | inl e ↦
          let load' = eqb-true q.p_type 1 e in
          let any = (segment_apart before q ((program_fits file before q fine.0).1 load')).0 in
          let one = or_parts _ _ (sym (list_any-append (do_overlap q) front (p ∷ back)) ∙ any) in
          let apart = pair_apart file p q sound (program_loadable file before q fine.0) load load' (or_parts _ _ one.1).0 in
          ap (λ qs. list_all (λ t. not (meets_segment (segment_in file p) t)) (map (segment_in file) qs)) (cond-true (is_load q) (q ∷ filter is_load ps) (filter is_load ps) e)
          ∙ and_from _ _ (not_from_false _ apart) rest
      | inr e ↦ ap (λ qs. list_all (λ t. not (meets_segment (segment_in file p) t)) (map (segment_in file) qs)) (cond-false (is_load q) (q ∷ filter is_load ps) (filter is_load ps) e) ∙ rest
    ]

pub loaded_apart : (file : List ℕ) (before ps : List ProgramHeader) → first_true (programs_tests file before ps) ≡ None →
    are_apart (map (segment_in file) (filter is_load ps)) ≡ true
loaded_apart file before [] h = refl
loaded_apart file before (p ∷ ps) h =
    let fine = no_fault_parts (program_tests file before p) (programs_tests file (before ++ (p ∷ [])) ps) h in
    let rest = loaded_apart file (before ++ (p ∷ [])) ps fine.1 in
    elim (cases_Bool (is_load p)) [
      | inl e ↦
          let load = eqb-true p.p_type 1 e in
          let sound = program_loadable file before p fine.0 in
          let stack = (segment_apart before p ((program_fits file before p fine.0).1 load)).1 in
          let off_stack : meets_stack (segment_in file p) ≡ false = ap (λ n. do_meet p.p_vaddr n stack_start (stack_end - stack_start)) (length-segment file p sound load) ∙ stack in
          ap (λ qs. are_apart (map (segment_in file) qs)) (cond-true (is_load p) (p ∷ filter is_load ps) (filter is_load ps) e)
          ∙ and_from _ _ (and_from _ _ (not_from_false _ off_stack) (later_apart file p before [] ps sound load fine.1)) rest
      | inr e ↦ ap (λ qs. are_apart (map (segment_in file) qs)) (cond-false (is_load p) (p ∷ filter is_load ps) (filter is_load ps) e) ∙ rest
    ]

pub loaded_memory : (file : List ℕ) (before ps : List ProgramHeader) → first_true (programs_tests file before ps) ≡ None →
    memory_size (map (segment_in file) (filter is_load ps)) ≡ loaded_size ps
loaded_memory file before [] h = refl
loaded_memory file before (p ∷ ps) h =
    let fine = no_fault_parts (program_tests file before p) (programs_tests file (before ++ (p ∷ [])) ps) h in
    let rest = loaded_memory file (before ++ (p ∷ [])) ps fine.1 in
    elim (cases_Bool (is_load p)) [
      | inl e ↦
          let sound = program_loadable file before p fine.0 in
          ap (λ qs. memory_size (map (segment_in file) qs)) (cond-true (is_load p) (p ∷ filter is_load ps) (filter is_load ps) e)
          ∙ sum_by-cons (λ s. length s.bytes) (segment_in file p) (map (segment_in file) (filter is_load ps))
          ∙ (λ i. length-segment file p sound (eqb-true p.p_type 1 e) i + rest i)
          ∙ sym (sum_by-cons (λ q. q.p_memsz) p (filter is_load ps))
          ∙ ap (sum_by (λ q. q.p_memsz)) (sym (cond-true (is_load p) (p ∷ filter is_load ps) (filter is_load ps) e))
      | inr e ↦ ap (λ qs. memory_size (map (segment_in file) qs)) (cond-false (is_load p) (p ∷ filter is_load ps) (filter is_load ps) e) ∙ rest
          ∙ ap (sum_by (λ q. q.p_memsz)) (sym (cond-false (is_load p) (p ∷ filter is_load ps) (filter is_load ps) e))
    ]
