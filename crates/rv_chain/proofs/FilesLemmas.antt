-- The objects in files, and why files are not linked.

use Rattle.std.proofs.Common.{◌≡◌, ℕ, zero, suc, ◌+◌, ◌-◌, ◌<◌, Bool, true, false, cond, ◌⊎◌, inl, inr, List, ◌∷◌, length, map, filter, refl, sym, ap, subst, ◌∙◌, arith, Some, None}
use Rattle.std.specs.Prelude.{IsTrue}
use Rattle.std.specs.List.{AllByRecursion}
use Rattle.rv_list_laws.proofs.EachLemmas.{each_weaker}
use Rattle.rv_fault.specs.declared.file_fault.FileFault.{FileFault}
use Rattle.rv_elf_laws.specs.Sections.{section_count}
use Rattle.rv_object_laws.specs.Object.{Section, Object}
use Rattle.rv_object_laws.specs.Valid.{is_section_alignment, fit_inside, are_paddings, are_rows}
use Rattle.rv_object_file_laws.specs.Parts.{is_kept, kept, row_records}
use Rattle.rv_object_file_laws.specs.FirstFault.{first_fault}
use Rattle.rv_object_file_laws.specs.ObjectOf.{ObjectOf, section_in, row_in}
use Rattle.rv_object_reader.specs.Found.{section_at, sections_from}
use Rattle.rv_object_reader.proofs.ValidSectionsLemmas.{IsValid, section_valid}
use Rattle.rv_object_reader.proofs.ValidSymbolsLemmas.{object_rows}
use Rattle.rv_fault.specs.declared.link_fault.LinkFault.{LinkFault}
use Rattle.rv_link_laws.specs.declared.bounds.Ground.{Ground}
use Rattle.rv_link_laws.specs.TextStart.{AreWithin}
use Rattle.rv_link_laws.specs.Refusals.{ArePast, HasNoProgram, IsSameFault}
use Rattle.rv_unique_theorems.specs.Asked.{IsSound}
use Rattle.rv_fault.specs.declared.fault.Fault.TheVariants.{Source, File, Link, Memory}
use Rattle.rv_fault.specs.Fault.{IsNamed}
use Rattle.rv_chain_laws.specs.Objects.{IsObjectIn, AreEach, AreObjectsIn}
use Rattle.rv_object_reader.proofs.SectionsFromLemmas.{sections_are}
use Rattle.rv_chain.specs.LinkRefusals.{IsFirstUnread, AreReadUnlinked}
use Rattle.rv_chain.specs.OneFault.{FilesForMemory, FilesForOne, FilesHaveOneFault}
use Rattle.rv_chain.proofs.EachLemmas.{same_each, count_each, in_middle, all_each, one_first}
use Rattle.rv_chain.proofs.ReasonsLemmas.{within_past, past_once, IsRefusal, LinkLaws, no_refusal, one_reason}

-- ---- what the object of a file keeps

sections_hold : (file : List ℕ) (P : Section → Type 0) → ((i : ℕ) → 0 < i → i < section_count file → is_kept file (section_at file i) ≡ true → P (section_in file (section_at file i)))
    → (n i : ℕ) → 0 < i → ((k : ℕ) → k < n → i + k < section_count file) → AllByRecursion P (map (section_in file) (filter (is_kept file) (sections_from file n i)))
sections_hold file P f zero i low high = tt
sections_hold file P f (suc n) i low high =
    go (is_kept file (section_at file i)) refl (let up = high 0 (omega arith) in omega (arith, up))
    (sections_hold file P f n (suc i) (omega (arith, low)) (λ k less. let up = high (suc k) (omega (arith, less)) in omega (arith, up)))
  where
    go : (b : Bool) → is_kept file (section_at file i) ≡ b → i < section_count file → AllByRecursion P (map (section_in file) (filter (is_kept file) (sections_from file n (suc i))))
        → AllByRecursion P (map (section_in file) (cond b (section_at file i ∷ filter (is_kept file) (sections_from file n (suc i))) (filter (is_kept file) (sections_from file n (suc i)))))
    go true e below rest = (f i low below e, rest)
    go false e below rest = rest

all_valid : (file : List ℕ) → first_fault file ≡ None → AllByRecursion IsValid (map (section_in file) (kept file))
all_valid file none =
    subst (λ ss. AllByRecursion IsValid (map (section_in file) (filter (is_kept file) ss))) (sym (sections_are file))
    (sections_hold file IsValid (section_valid file none) (section_count file - 1) 1 (omega arith) (λ k less. omega (arith, less)))

is_sound : (file : List ℕ) (o : Object) → IsObjectIn file o → IsSound o
is_sound file o (none, is) =
    let valid : AllByRecursion IsValid o.sections = subst (λ ss. AllByRecursion IsValid ss) (sym is.sections) (all_valid file none) in
    record {
      alignments = each_weaker IsValid (λ s. IsTrue (is_section_alignment s.alignment)) (λ s v. v.aligned) o.sections valid;
      inside = each_weaker IsValid (λ s. IsTrue (fit_inside s.contents s.relocations)) (λ s v. v.inside) o.sections valid;
      paddings = each_weaker IsValid (λ s. IsTrue (are_paddings s.executable s.contents s.relocations)) (λ s v. v.paddings) o.sections valid;
      rows = ap (are_rows o.sections) is.rows ∙ ap (λ ss. are_rows ss (map (row_in file) (row_records file))) is.sections ∙ object_rows file none;
    }

are_sound : (files : List (List ℕ)) (os : List Object) → AreObjectsIn files os → AllByRecursion IsSound os
are_sound files os inside = all_each IsObjectIn IsSound is_sound files os inside

-- ---- a file without a fault, and one with a fault

faulty : (file : List ℕ) (fault : FileFault) → first_fault file ≡ Some fault → first_fault file ≡ None → ⊥
faulty file fault refused none = let clash : None ≡ Some fault = sym none ∙ refused in cc

-- no file is the first with a fault
pub no_unread : (files : List (List ℕ)) (os : List Object) (number : ℕ) (fault : FileFault) → AreObjectsIn files os → IsFirstUnread files number fault → ⊥
no_unread files os number fault inside first =
    let found = in_middle IsObjectIn first.before first.file first.after os (subst (λ l. AreEach IsObjectIn l os) first.whole inside) in
    faulty first.file fault first.refused found.1.0

some_one : (f g : FileFault) → Some f ≡ Some g → f ≡ g
some_one f g e = cc

-- the first of them, and its fault
one_unread : (files : List (List ℕ)) (n m : ℕ) (f g : FileFault) → IsFirstUnread files n f → IsFirstUnread files m g → (n ≡ m) × (f ≡ g)
one_unread files n m f g first other =
    let both = one_first (λ file. first_fault file ≡ None) first.before other.before first.file other.file first.after other.after (sym first.whole ∙ other.whole)
    first.sound other.sound (faulty first.file f first.refused) (faulty other.file g other.refused) in (
      first.number_is ∙ ap (λ k. k + 1) both.0 ∙ sym other.number_is,
      some_one f g (sym first.refused ∙ ap first_fault both.1 ∙ other.refused),
    )

-- a file is refused before its objects are linked
file_first : (files : List (List ℕ)) (bounds : Ground) (relax gc : Bool) (number : ℕ) (fault : FileFault) (other : LinkFault) → AreWithin (length files) bounds → IsFirstUnread files number fault
    → ArePast (length files) bounds other ⊎ AreReadUnlinked files bounds relax gc other → ⊥
file_first files bounds relax gc number fault other within first (inl past) = within_past (length files) bounds other within past
file_first files bounds relax gc number fault other within first (inr (os, inside, un)) = no_unread files os number fault inside first

-- ---- the laws

module _ (one_held : (file : List ℕ) (o p : Object) → ObjectOf file o → ObjectOf file p → o ≡ p) where
  pub one_in : (file : List ℕ) (o p : Object) → IsObjectIn file o → IsObjectIn file p → o ≡ p
  one_in file o p (sound, is) (good, was) = one_held file o p is was

  pub refusal_in : (files : List (List ℕ)) (os : List Object) (bounds : Ground) (relax gc : Bool) (fault : LinkFault) → AreObjectsIn files os
      → ArePast (length files) bounds fault ⊎ AreReadUnlinked files bounds relax gc fault → IsRefusal os bounds relax gc fault
  refusal_in files os bounds relax gc fault inside (inl past) = inl (subst (λ n. ArePast n bounds fault) (count_each IsObjectIn files os inside) past)
  refusal_in files os bounds relax gc fault inside (inr (ps, were, un)) =
      inr (subst (λ l. HasNoProgram l bounds relax gc fault) (same_each IsObjectIn one_in files ps os were inside) un)

  module _ (linking : LinkLaws) where
    for_memory : FilesForMemory
    for_memory files bounds relax gc exe map (Source number fault) linked un = absurd un
    for_memory files bounds relax gc exe map (File number fault) (within, (os, inside, built)) (named, also, first) = absurd (no_unread files os number fault inside first)
    for_memory files bounds relax gc exe map (Link fault) (within, (os, inside, built)) (named, reason) =
        absurd (no_refusal linking os bounds relax gc built.linked fault built.links named (refusal_in files os bounds relax gc fault inside reason))
    for_memory files bounds relax gc exe map Memory linked un = refl

    both_unlinked : (files : List (List ℕ)) (bounds : Ground) (relax gc : Bool) (fault other : LinkFault) → IsNamed (Link fault) → IsNamed (Link other)
        → ArePast (length files) bounds fault ⊎ AreReadUnlinked files bounds relax gc fault → ArePast (length files) bounds other ⊎ AreReadUnlinked files bounds relax gc other → IsSameFault fault other
    both_unlinked files bounds relax gc fault other named called (inl past) (inl again) = past_once (length files) bounds fault other past again
    both_unlinked files bounds relax gc fault other named called (inl past) (inr (os, inside, un)) =
        one_reason linking os bounds relax gc fault other (are_sound files os inside) named called (refusal_in files os bounds relax gc fault inside (inl past)) (inr un)
    both_unlinked files bounds relax gc fault other named called (inr (os, inside, un)) again =
        one_reason linking os bounds relax gc fault other (are_sound files os inside) named called (inr un) (refusal_in files os bounds relax gc other inside again)

    for_one : FilesForOne
    for_one files bounds relax gc Memory other h k = inl refl
    for_one files bounds relax gc (Source number fault) other h k = absurd h
    for_one files bounds relax gc (File number fault) Memory h k = inr (inl refl)
    for_one files bounds relax gc (File number fault) (Source place other) h k = absurd k
    for_one files bounds relax gc (File number fault) (File place other) (named, within, first) (called, inside, second) = inr (inr (one_unread files number place fault other first second))
    for_one files bounds relax gc (File number fault) (Link other) (named, within, first) (called, reason) = absurd (file_first files bounds relax gc number fault other within first reason)
    for_one files bounds relax gc (Link fault) Memory h k = inr (inl refl)
    for_one files bounds relax gc (Link fault) (Source place other) h k = absurd k
    for_one files bounds relax gc (Link fault) (File place other) (named, reason) (called, within, first) = absurd (file_first files bounds relax gc place other fault within first reason)
    for_one files bounds relax gc (Link fault) (Link other) (named, reason) (called, again) = inr (inr (both_unlinked files bounds relax gc fault other named called reason again))

    pub have_one_fault : FilesHaveOneFault
    have_one_fault = record { linked = for_memory; refused = for_one }
