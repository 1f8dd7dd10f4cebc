-- That a build refuses a raw listing for nothing but its length and want of memory.

use Rattle.std.proofs.Common.{◌≡◌, ℕ, ◌+◌, ◌-◌, ◌≤◌, ◌<◌, ◌⊎◌, inl, inr, Bool, true, false, cond, List, [], ◌∷◌, ◌++◌, length, map, Some, None, refl, sym, ap, ◌∙◌, subst, arith}
use Rattle.std.specs.Prelude.{◌&&◌, not, max, min, filter, flat_map}
use Rattle.std.specs.List.{AllByRecursion, list_all}
use Rattle.std.proofs.lemmas.Bool.{and_parts, ltb-false}
use Rattle.rv_isa_laws.specs.Platform.{stack_start, stack_end}
use Rattle.rv_fault.specs.declared.source_fault.SourceCode.{SourceCode}
use Rattle.rv_fault.specs.declared.source_fault.SourceFault.{SourceFault}
use Rattle.rv_fault.specs.declared.source_fault.SourceFault.TheVariants.{At, OutOfMemory}
use Rattle.rv_fault.specs.SourceFault.{source_fault_number}
use Rattle.rv_statement_laws.specs.Statement.{Statement}
use Rattle.rv_parse_laws.specs.Reading.{longest_source, Reads}
use Rattle.rv_parse_laws.specs.Refusals.{SyntaxFault, Refuses}
use Rattle.rv_unit_laws.specs.Faults.{StatementFault}
use Rattle.rv_image_laws.specs.Segment.{Segment, meets_stack, are_apart, meets_segment}
use Rattle.rv_image_laws.specs.Image.{Image}
use Rattle.rv_image_laws.specs.ImageOf.{ImageOf, segment_in}
use Rattle.rv_elf_laws.specs.FirstFault.{header_tests, table_tests, type_tests}
use Rattle.rv_image_laws.specs.FirstFault.{first_fault, load_tests, programs_tests, whole_tests}
use Rattle.rv_image.proofs.ApartLemmas.{loaded_apart}
use Rattle.rv_elf_laws.specs.FirstTrue.{no_fault_parts}
use Rattle.rv_elf_laws.specs.Sections.{program_headers, is_load}
use Rattle.rv_listing_laws.specs.declared.code.Code.{Code}
use Rattle.rv_listing_laws.specs.Raw.{IsSourced, IsRawListing, raw_bytes, is_executable, lines_text, raw_lines}
use Rattle.rv_object_laws.specs.Object.{Object}
use Rattle.rv_object_types.specs.View.{object_of}
use Rattle.rv_assemble_laws.specs.Refusals.{statements_fault, IsStatementsFault, IsTooLong}
use Rattle.rv_assemble_laws.specs.IsObjectOf.{IsObjectOf}
use Rattle.rv_assemble_laws.specs.FirstFault.{IsFirstFault}
use Rattle.rv_fault.specs.declared.link_fault.LinkFault.{LinkFault}
use Rattle.rv_fault.specs.declared.link_fault.LinkFault.TheVariants as links
use Rattle.rv_link_laws.specs.Ground.{usual}
use Rattle.rv_link_laws.proofs.GroundLemmas.{text_start_is}
use Rattle.rv_link_laws.specs.TextStart.{IsTextStart}
use Rattle.rv_link_laws.specs.Refusals.{ArePast, HasNoProgram}
use Rattle.rv_raw_theorems.specs.Listed.{IsShortListing, listed, HaveNoFault, HaveAProgram}
use Rattle.rv_fault.specs.declared.fault.Fault.{Fault}
use Rattle.rv_fault.specs.declared.fault.Fault.TheVariants.{Source, File, Link, Memory}
use Rattle.rv_fault.specs.Fault.{IsNamed}
use Rattle.rv_chain_laws.specs.Objects.{AreObjectsFrom}
use Rattle.rv_chain.specs.Refusals.{IsFirstRefused, IsRefusedFor}
use Rattle.rv_chain.specs.Reassembled.{IsTooLongFor, RawListingsAreAccepted}

-- ---- what is loaded ends below the stack

executable_off : (xs : List Segment) (s : Segment) → are_apart xs ≡ true → filter is_executable xs ≡ s ∷ [] → meets_stack s ≡ false
executable_off [] s apart e = absurd (cc)
executable_off (x ∷ xs) s apart e = by (is_executable x) refl (executable_off xs s)
  where
    parts : (not (meets_stack x) ≡ true) × (are_apart xs ≡ true)
    parts =
        let both = and_parts (not (meets_stack x) && list_all (λ t. not (meets_segment x t)) xs) (are_apart xs) apart in
        ((and_parts (not (meets_stack x)) (list_all (λ t. not (meets_segment x t)) xs) both.0).0, both.1)

    off : (b : Bool) → not b ≡ true → b ≡ false
    off true h = absurd (cc)
    off false h = refl

    by : (b : Bool) → is_executable x ≡ b → (are_apart xs ≡ true → filter is_executable xs ≡ s ∷ [] → meets_stack s ≡ false) → meets_stack s ≡ false
    by true runs further =
        let here : x ∷ filter is_executable xs ≡ s ∷ [] = ap (λ b. cond b (x ∷ filter is_executable xs) (filter is_executable xs)) (sym runs) ∙ e in
        let same : x ≡ s = cc in
        ap meets_stack (sym same) ∙ off (meets_stack x) parts.0
    by false runs further = further parts.1 (ap (λ b. cond b (x ∷ filter is_executable xs) (filter is_executable xs)) (sym runs) ∙ e)

below_stack : (address size : ℕ) → address < stack_start → stack_start < stack_end → max address stack_start < min (address + size) (stack_start + (stack_end - stack_start)) ⊎ (address + size ≤ stack_start)
below_stack address size low room = grind (arith, low, room)

ends : (s : Segment) → meets_stack s ≡ false → s.address < stack_start → s.address + length s.bytes ≤ stack_start
ends s off low = elim (below_stack s.address (length s.bytes) low (omega arith)) [
  | inl meets ↦ let no = ltb-false (max s.address stack_start) (min (s.address + length s.bytes) (stack_start + (stack_end - stack_start))) off in absurd (omega (arith, meets, no))
  | inr below ↦ below
]

tested : (file : List ℕ) → first_fault file ≡ None → are_apart (map (segment_in file) (filter is_load (program_headers file))) ≡ true
unfolding load_tests
tested file sound =
    let a = no_fault_parts (header_tests file) (type_tests file ++ (table_tests file ++ (programs_tests file [] (program_headers file) ++ whole_tests file))) sound in
    let b = no_fault_parts (type_tests file) (table_tests file ++ (programs_tests file [] (program_headers file) ++ whole_tests file)) a.1 in
    let c = no_fault_parts (table_tests file) (programs_tests file [] (program_headers file) ++ whole_tests file) b.1 in
    let d = no_fault_parts (programs_tests file [] (program_headers file)) (whole_tests file) c.1 in
    loaded_apart file [] (program_headers file) d.0

fits : (file : List ℕ) (image : Image) (text : List ℕ) (listing : IsRawListing image text) → first_fault file ≡ None → ImageOf file image
    → listing.segment.address + length (flat_map raw_bytes (listing.before ++ listing.after)) ≤ stack_start
fits file image text listing sound loads =
    let apart : are_apart image.segments ≡ true = ap are_apart loads.segments ∙ tested file sound in
    let low = ends listing.segment (executable_off image.segments listing.segment apart listing.alone) listing.below in
    let size : length listing.segment.bytes ≡ length (flat_map raw_bytes (listing.before ++ listing.after)) = ap length listing.bytes in
    omega (arith, low, size)

-- ---- one text

one_text : (text : List ℕ) (before : List (List ℕ)) (other : List ℕ) (after : List (List ℕ)) → text ∷ [] ≡ before ++ other ∷ after → (length before ≡ 0) × (other ≡ text)
one_text text [] other after e = (refl, let same : other ≡ text = cc in same)
one_text text (b ∷ []) other after e = absurd (cc)
one_text text (b ∷ c ∷ before) other after e = absurd (cc)

past_none : (start : ℕ) (fault : LinkFault) → IsTextStart start → ArePast 1 (usual start) fault → ⊥
past_none start links.TooManyFiles begins past = omega (arith, past)
past_none start links.BadTextStart begins (few, unfit) = unfit begins
past_none start _ begins past = past

-- ---- the law

module _ (no_fault : HaveNoFault) (has_program : HaveAProgram)
    (reads : (before after : List Code) → AllByRecursion IsSourced (before ++ after) → length (lines_text (raw_lines before after)) ≤ longest_source → Reads (lines_text (raw_lines before after)) (listed before after))
    (one_reading : (bytes : List ℕ) (ss others : List Statement) → Reads bytes ss → Reads bytes others → ss ≡ others)
    (not_both : (bytes : List ℕ) (ss : List Statement) (fault : SyntaxFault) → Reads bytes ss → Refuses bytes fault → ⊥) where
  module _ (image : Image) (text : List ℕ) (listing : IsRawListing image text) where
    abbrev said : List Statement
    said = listed listing.before listing.after

    short_of : length text ≤ longest_source → IsShortListing listing.before listing.after
    short_of short = record { sourced = listing.sourced; short = subst (λ t. length t ≤ longest_source) listing.shows short }

    it_reads : length text ≤ longest_source → Reads text said
    it_reads short = subst (λ t. Reads t said) (sym listing.shows) (reads listing.before listing.after listing.sourced (subst (λ t. length t ≤ longest_source) listing.shows short))

    too_long : (code : SourceCode) (line : ℕ) → IsFirstFault text (At code line) → IsTooLongFor text (Source 1 (At code line))
    too_long code line (inl (inl (long, is))) = (long, refl, ap (λ (f : SyntaxFault). f.code) is, ap (λ (f : SyntaxFault). f.line) is)
    too_long code line (inl (inr (short, first))) = absurd (not_both text said _ (it_reads short) (inr (short, first)))
    too_long code line (inr (ss, reading, faulty)) =
        let short = reading.0 in
        let same = one_reading text ss said reading (it_reads short) in
        let sound = no_fault listing.before listing.after (short_of short) in
        absurd (faultless _ sound.0 sound.1 (subst (λ l. IsStatementsFault l (record { code = source_fault_number code; line = line })) same faulty))
      where
        faultless : (f : StatementFault) → statements_fault said ≡ None → ((g : StatementFault) → IsTooLong said g → ⊥) → IsStatementsFault said f → ⊥
        faultless f none sized (inl e) = let no : Some f ≡ None = sym e ∙ none in absurd (cc)
        faultless f none sized (inr (sound, long)) = sized f long

    has_object : (start : ℕ) (relax gc : Bool) (fault : LinkFault) (os : List Object) → IsTextStart start → start + length (flat_map raw_bytes (listing.before ++ listing.after)) ≤ stack_start → AreObjectsFrom (text ∷ []) os
        → HasNoProgram os (usual start) relax gc fault → fault ≡ links.OutOfMemory
    has_object start relax gc fault [] begins room are none = absurd are
    has_object start relax gc fault (o ∷ p ∷ os) begins room (one, more) none = absurd more
    has_object start relax gc fault (o ∷ []) begins room ((ss, reading, sound, is), more) none =
        let same = one_reading text ss said reading (it_reads reading.0) in
        has_program listing.before listing.after (short_of reading.0) o (subst (λ l. IsObjectOf l o) same is) start begins room relax gc fault none

  pub accepted : RawListingsAreAccepted
  accepted start relax gc fault file image text listing sound loads starts refused = by fault refused
    where
      begins : IsTextStart start
      begins = subst IsTextStart (sym starts) (text_start_is listing.segment.address listing.aligned listing.below)

      room : start + length (flat_map raw_bytes (listing.before ++ listing.after)) ≤ stack_start
      room = subst (λ n. n + length (flat_map raw_bytes (listing.before ++ listing.after)) ≤ stack_start) (sym starts) (fits file image text listing sound loads)

      named_none : (f : LinkFault) → IsNamed (Link f) → f ≡ links.OutOfMemory → ⊥
      named_none f named e = subst (λ g. IsNamed (Link g)) e named

      first_of : (number : ℕ) (f : SourceFault) → IsNamed (Source number f) → IsFirstRefused (text ∷ []) number f → IsTooLongFor text (Source number f)
      first_of number OutOfMemory named first = absurd named
      first_of number (At code line) named first =
          let alone = one_text text first.before first.text first.after first.whole in
          let number_is : number ≡ 1 = first.number_is ∙ ap (λ n. n + 1) alone.0 in
          subst (λ n. IsTooLongFor text (Source n (At code line))) (sym number_is) (too_long image text listing code line (subst (λ t. IsFirstFault t (At code line)) alone.1 first.refused))

      by : (f : Fault) → IsRefusedFor (text ∷ []) (usual start) relax gc f → (f ≡ Memory) ⊎ IsTooLongFor text f
      by Memory h = inl refl
      by (File number f) h = absurd h
      by (Source number f) (named, within, first) = inr (first_of number f named first)
      by (Link f) (named, inl past) = absurd (past_none start f begins past)
      by (Link f) (named, inr un) = absurd (named_none f named (has_object image text listing start relax gc f (map object_of un.objects) begins room un.are un.unlinked))
