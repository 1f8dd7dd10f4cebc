-- A raw listing's object is refused for want of memory alone.

use Rattle.std.proofs.Common.{◌≡◌, ℕ, ◌≤◌, Bool, List, [], ◌∷◌, ◌++◌, length, Option, Some, None, refl, sym, ◌∙◌, ap, subst, arith}
use Rattle.std.specs.Prelude.{flat_map}
use Rattle.rv_unit_laws.specs.Bindings.{Bindings, bindings_of}
use Rattle.rv_unit_laws.specs.Tables.{Labelled, longest_section}
use Rattle.rv_listing_laws.specs.declared.code.Code.{Code}
use Rattle.rv_listing_laws.specs.Raw.{raw_bytes}
use Rattle.rv_raw_theorems.specs.Statements.{raw_statements}
use Rattle.rv_object_laws.specs.Object.{Object, size_of}
use Rattle.rv_assemble_laws.specs.LaidStatements.{part_bytes, parts, end_of}
use Rattle.rv_assemble_laws.specs.IsObjectOf.{IsObjectOf}
use Rattle.rv_assemble_laws.proofs.FilledLemmas.{filled}
use Rattle.rv_fault.specs.declared.link_fault.LinkFault.{LinkFault}
use Rattle.rv_fault.specs.declared.link_fault.LinkFault.TheVariants.{Overflow, OddTarget, DanglingPcrel, AlignmentShort, Undefined, Duplicate, EntryMissing, ImageTooLarge, BadTextStart, TooManyFiles, OutOfMemory}
use Rattle.rv_link_laws.specs.Ground.{usual}
use Rattle.rv_link_laws.specs.TextStart.{IsTextStart}
use Rattle.rv_link_laws.specs.Refusals.{IsUnlinked, HasNoProgram}
use Rattle.rv_raw_theorems.specs.Listed.{listed, IsShortListing, FitsAt}
use Rattle.rv_raw_theorems.proofs.EntriesLemmas.{has_it}
use Rattle.rv_raw_theorems.proofs.FieldsLemmas.{all_lead}
use Rattle.rv_raw_theorems.proofs.LeavesLemmas.{left_is}
use Rattle.rv_raw_theorems.proofs.LengthsLemmas.{weight}
use Rattle.rv_raw_theorems.proofs.NamedOnceLemmas.{none_twice, none_undefined}
use Rattle.rv_raw_theorems.proofs.ObjectsLemmas.{IsRaw, entry, raw, end_is, raw_weight}
use Rattle.rv_raw_theorems.proofs.LoneSectionLemmas.{IsSimple, text}
use Rattle.rv_raw_theorems.proofs.RoomLemmas.{roomy, not_too_large}
use Rattle.rv_raw_theorems.proofs.StatementsLemmas.{raw_options, table, entry_label, entry_is_global}
use Rattle.rv_raw_theorems.proofs.SymbolsLemmas.{entered}
use Rattle.rv_raw_theorems.proofs.TakenLemmas.{all_taken}

-- ---- the object

module _ (before after : List Code) (h : IsShortListing before after) (o : Object) (is : IsObjectOf (listed before after) o) (start : ℕ) (begins : IsTextStart start) (fits : FitsAt start before after) where
  abbrev labels : List Labelled
  labels = entry_label (entry before after h o is) ∷ []

  abbrev bindings : Bindings
  bindings = bindings_of (listed before after)

  abbrev it : IsRaw (entry_label (entry before after h o is) ∷ []) (bindings_of (listed before after)) (raw_statements before after) o
  it = raw before after h o is

  size_is : size_of it.section.contents ≡ end_of 0 it.laid
  size_is =
      let t = table labels raw_options bindings in
      let e = filled t 0 it.laid it.is.tile in
      let c : size_of it.section.contents ≡ length (flat_map part_bytes (parts t it.laid)) = ap size_of it.is.contents in
      omega (arith, e, c)

  all_bytes : end_of 0 it.laid ≡ length (flat_map raw_bytes (before ++ after))
  all_bytes = end_is it.laid 0 it.sized ∙ (let e = ap weight it.kinds in let f = raw_weight before after in omega (arith, e, f))

  simple : IsSimple o start
  simple = record {
    section = it.section;
    alone = it.alone;
    loaded = it.is.loaded;
    executable = it.is.executable;
    alignment = it.is.alignment;
    leading = all_lead labels bindings (raw_statements before after) o it;
    entered = entered labels bindings (entry_is_global before after) o before after it;
    begins = begins;
    fits = omega (arith, size_is, all_bytes, fits);
    small = (let short : end_of 0 it.laid ≤ longest_section = it.is.short refl in omega (arith, size_is, short));
  }

-- ---- its link

module _ (o : Object) (start : ℕ) (h : IsSimple o start) where
  clash : {X : Type 0} (x : X) (found : Option X) → found ≡ None → found ≡ Some x → ⊥
  clash x found none some = absurd (let e : Some x ≡ None = sym some ∙ none in cc)

  only_memory : (fault : LinkFault) → IsUnlinked (o ∷ []) (usual start) fault → fault ≡ OutOfMemory
  only_memory TooManyFiles many = absurd (omega (arith, many))
  only_memory BadTextStart (few, bad) = absurd (bad h.begins)
  only_memory (Duplicate name) (within, twice) = absurd (clash name.items _ (none_twice o start h) twice)
  only_memory (Undefined name) (within, (once, undefined)) = absurd (clash name.items _ (none_undefined o start h) undefined)
  only_memory EntryMissing (comes, lacks) = absurd (has_it o start h lacks)
  only_memory AlignmentShort (comes, lacks) = absurd (roomy o start h lacks)
  only_memory ImageTooLarge (comes, (large, below)) = absurd (not_too_large o start h large)
  only_memory Overflow (comes, (p, placed, room, first)) = absurd (all_taken o start h p placed Overflow first)
  only_memory OddTarget (comes, (p, placed, room, first)) = absurd (all_taken o start h p placed OddTarget first)
  only_memory DanglingPcrel (comes, (p, placed, room, first)) = absurd (all_taken o start h p placed DanglingPcrel first)
  only_memory OutOfMemory any = refl

  pub refused : (relax gc : Bool) (fault : LinkFault) → HasNoProgram (o ∷ []) (usual start) relax gc fault → fault ≡ OutOfMemory
  refused relax gc fault n =
      only_memory fault
      (subst (λ os. IsUnlinked os (usual start) fault) (left_is o h.section h.alone h.leading h.loaded (text o start h) h.entered relax gc n.drops n.left n.leaves) n.unlinked)

pub has_program : (before after : List Code) → IsShortListing before after → (o : Object) → IsObjectOf (listed before after) o → (start : ℕ) → IsTextStart start → FitsAt start before after
    → (relax gc : Bool) (fault : LinkFault) → HasNoProgram (o ∷ []) (usual start) relax gc fault → fault ≡ OutOfMemory
has_program before after h o is start begins fits relax gc fault n = refused o start (simple before after h o is start begins fits) relax gc fault n
