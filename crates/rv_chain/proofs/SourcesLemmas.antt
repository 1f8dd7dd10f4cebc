-- The objects of sources, and why sources are refused.

use Rattle.std.proofs.Common.{◌≡◌, ℕ, ◌+◌, Bool, ◌⊎◌, inl, inr, List, length, map, refl, sym, ap, subst, ◌∙◌, None, Some}
use Rattle.std.specs.Prelude.{if◌then◌else◌, ◌==◌}
use Rattle.std.specs.List.{AllByRecursion}
use Rattle.rv_fault.specs.SourceFault.{source_fault_number}
use Rattle.rv_fault.specs.declared.source_fault.SourceCode.{SourceCode}
use Rattle.rv_fault.specs.declared.source_fault.SourceCode.TheVariants as codes
use Rattle.rv_fault.specs.declared.source_fault.SourceFault.{SourceFault}
use Rattle.rv_fault.specs.declared.source_fault.SourceFault.TheVariants as sources
use Rattle.rv_statement_laws.specs.Statement.{Statement}
use Rattle.rv_parse_laws.specs.Reading.{Reads}
use Rattle.rv_parse_laws.specs.Refusals.{SyntaxFault as TextFault, Refuses}
use Rattle.rv_unit_laws.specs.Faults.{StatementFault as StatementsFault}
use Rattle.rv_object_laws.specs.Object.{Object}
use Rattle.rv_object_types.specs.View.{object_of}
use Rattle.rv_assemble_laws.specs.Refusals.{statements_fault, IsTooLong, IsStatementsFault}
use Rattle.rv_assemble_laws.specs.ShownNames.{HasNames}
use Rattle.rv_assemble_laws.specs.IsObjectOf.{IsObjectOf}
use Rattle.rv_assemble_laws.specs.FirstFault.{IsFirstFault}
use Rattle.rv_fault.specs.declared.link_fault.LinkFault.{LinkFault}
use Rattle.rv_link_laws.specs.declared.bounds.Ground.{Ground}
use Rattle.rv_link_laws.specs.TextStart.{AreWithin}
use Rattle.rv_link_laws.specs.Refusals.{ArePast, HasNoProgram, IsSameFault}
use Rattle.rv_unique_theorems.specs.Asked.{IsSound}
use Rattle.rv_fault.specs.declared.fault.Fault.TheVariants.{Source, File, Link, Memory}
use Rattle.rv_fault.specs.Fault.{IsNamed}
use Rattle.rv_chain_laws.specs.Objects.{IsObjectFrom, AreEach, AreObjectsFrom}
use Rattle.rv_chain.specs.Refusals.{IsFirstRefused, AreUnlinked}
use Rattle.rv_chain.specs.OneFault.{SourcesForMemory, SourcesForOne, SourcesHaveOneFault}
use Rattle.rv_chain.proofs.EachLemmas.{same_each, count_each, in_middle, all_each, each_has, one_first}
use Rattle.rv_chain.proofs.ReasonsLemmas.{within_past, past_once, IsRefusal, LinkLaws, no_refusal, one_reason}
use Rattle.rv_chain.proofs.SoundLemmas.{sound}

-- ---- codes by their numbers

abbrev code_of : ℕ → SourceCode
code_of n =
    if n == 1 then codes.BadByte else if n == 2 then codes.BadToken else if n == 3 then codes.NestingTooDeep else if n == 4 then codes.DivisionByZero
    else if n == 5 then codes.ShiftTooLarge else if n == 6 then codes.UnknownMnemonic else if n == 7 then codes.BadOperands else if n == 8 then codes.UnknownDirective
    else if n == 9 then codes.UnsupportedHere else if n == 10 then codes.ScratchRegister else if n == 11 then codes.DuplicateLabel else if n == 12 then codes.UndefinedLocal
    else if n == 13 then codes.NotConstant else if n == 14 then codes.ImmediateRange else if n == 15 then codes.WrongSection else if n == 16 then codes.OptionStack
    else codes.Limit

code_back : (c : SourceCode) → code_of (source_fault_number c) ≡ c
code_back codes.BadByte = refl
code_back codes.BadToken = refl
code_back codes.NestingTooDeep = refl
code_back codes.DivisionByZero = refl
code_back codes.ShiftTooLarge = refl
code_back codes.UnknownMnemonic = refl
code_back codes.BadOperands = refl
code_back codes.UnknownDirective = refl
code_back codes.UnsupportedHere = refl
code_back codes.ScratchRegister = refl
code_back codes.DuplicateLabel = refl
code_back codes.UndefinedLocal = refl
code_back codes.NotConstant = refl
code_back codes.ImmediateRange = refl
code_back codes.WrongSection = refl
code_back codes.OptionStack = refl
code_back codes.Limit = refl

same_at : (c d : SourceCode) (l m : ℕ) → source_fault_number c ≡ source_fault_number d → l ≡ m → sources.At c l ≡ sources.At d m
same_at c d l m e f = ap (λ x. sources.At x l) (sym (code_back c) ∙ ap code_of e ∙ code_back d) ∙ ap (λ n. sources.At d n) f

-- ---- the laws of sources

pub record SourceLaws : Type 0 where
  pub one_reading : (text : List ℕ) (ss others : List Statement) → Reads text ss → Reads text others → ss ≡ others
  pub one_fault : (text : List ℕ) (fault other : TextFault) → Refuses text fault → Refuses text other → fault ≡ other
  pub not_both : (text : List ℕ) (ss : List Statement) (fault : TextFault) → Reads text ss → Refuses text fault → ⊥
  pub shown : (text : List ℕ) (ss : List Statement) → Reads text ss → HasNames ss
  pub one_assembled : (ss : List Statement) (o p : Object) → HasNames ss → IsObjectOf ss o → IsObjectOf ss p → o ≡ p
  pub never_long : (ss : List Statement) (o : Object) (f : StatementsFault) → IsObjectOf ss o → IsTooLong ss f → ⊥
  pub once : (ss : List Statement) (f g : StatementsFault) → IsStatementsFault ss f → IsStatementsFault ss g → f ≡ g

module _ (laws : SourceLaws) where
  -- ---- objects

  pub one_from : (text : List ℕ) (o p : Object) → IsObjectFrom text o → IsObjectFrom text p → o ≡ p
  one_from text o p (ss, reads, good, is) (others, read, well, was) =
      laws.one_assembled ss o p (laws.shown text ss reads) is (subst (λ l. IsObjectOf l p) (sym (laws.one_reading text ss others reads read)) was)

  is_sound : (text : List ℕ) (o : Object) → IsObjectFrom text o → IsSound o
  is_sound text o (ss, reads, good, is) = sound ss o is

  pub are_sound : (texts : List (List ℕ)) (os : List Object) → AreObjectsFrom texts os → AllByRecursion IsSound os
  are_sound texts os from = all_each IsObjectFrom IsSound is_sound texts os from

  -- ---- a source without a fault

  no_fault : (text : List ℕ) (o : Object) (code : SourceCode) (line : ℕ) → IsObjectFrom text o → IsFirstFault text (sources.At code line) → ⊥
  no_fault text o code line (ss, reads, good, is) (inl refuses) = laws.not_both text ss _ reads refuses
  no_fault text o code line (ss, reads, good, is) (inr (others, read, inl faulty)) =
      let same : ss ≡ others = laws.one_reading text ss others reads read in
      let none : statements_fault others ≡ None = ap statements_fault (sym same) ∙ good in
      absurd (let clash : None ≡ Some _ = sym none ∙ faulty in cc)
  no_fault text o code line (ss, reads, good, is) (inr (others, read, inr (none, long))) =
      laws.never_long others o _ (subst (λ l. IsObjectOf l o) (laws.one_reading text ss others reads read) is) long

  no_object : (text : List ℕ) (number : ℕ) (fault : SourceFault) → IsNamed (Source number fault) → IsFirstFault text fault → ((o : Object) × IsObjectFrom text o) → ⊥
  no_object text number sources.OutOfMemory named refused has = named
  no_object text number (sources.At code line) named refused (o, from) = no_fault text o code line from refused

  -- no source is the first with a fault
  pub no_source : (texts : List (List ℕ)) (os : List Object) (number : ℕ) (fault : SourceFault) → AreObjectsFrom texts os → IsNamed (Source number fault) → IsFirstRefused texts number fault → ⊥
  no_source texts os number fault from named first =
      no_object first.text number fault named first.refused
      (in_middle IsObjectFrom first.before first.text first.after os (subst (λ l. AreEach IsObjectFrom l os) first.whole from))

  -- ---- a source with a fault

  one_at : (text : List ℕ) (c d : SourceCode) (l m : ℕ) → IsFirstFault text (sources.At c l) → IsFirstFault text (sources.At d m) → sources.At c l ≡ sources.At d m
  one_at text c d l m (inl h) (inl k) =
      let same = laws.one_fault text (record { code = source_fault_number c; line = l }) (record { code = source_fault_number d; line = m }) h k in
      same_at c d l m (ap (λ (f : TextFault). f.code) same) (ap (λ (f : TextFault). f.line) same)
  one_at text c d l m (inl h) (inr (ss, reads, is)) = absurd (laws.not_both text ss _ reads h)
  one_at text c d l m (inr (ss, reads, is)) (inl k) = absurd (laws.not_both text ss _ reads k)
  one_at text c d l m (inr (ss, reads, is)) (inr (others, read, was)) =
      let f : StatementsFault = record { code = source_fault_number c; line = l } in
      let g : StatementsFault = record { code = source_fault_number d; line = m } in
      let there : IsStatementsFault ss g = subst (λ x. IsStatementsFault x g) (sym (laws.one_reading text ss others reads read)) was in
      let same : f ≡ g = laws.once ss f g is there in
      same_at c d l m (ap (λ (x : StatementsFault). x.code) same) (ap (λ (x : StatementsFault). x.line) same)

  one_refused : (text : List ℕ) (n m : ℕ) (f g : SourceFault) → IsNamed (Source n f) → IsNamed (Source m g) → IsFirstFault text f → IsFirstFault text g → f ≡ g
  one_refused text n m sources.OutOfMemory g named called h k = absurd named
  one_refused text n m (sources.At c l) sources.OutOfMemory named called h k = absurd called
  one_refused text n m (sources.At c l) (sources.At d i) named called h k = one_at text c d l i h k

  -- the first of them, and its fault
  one_source : (texts : List (List ℕ)) (n m : ℕ) (f g : SourceFault) → IsNamed (Source n f) → IsNamed (Source m g) → IsFirstRefused texts n f → IsFirstRefused texts m g → (n ≡ m) × (f ≡ g)
  one_source texts n m f g named called first other =
      let both = one_first (λ text. (o : Object) × IsObjectFrom text o) first.before other.before first.text other.text first.after other.after (sym first.whole ∙ other.whole)
      (each_has IsObjectFrom first.before first.objects first.good) (each_has IsObjectFrom other.before other.objects other.good)
      (no_object first.text n f named first.refused) (no_object other.text m g called other.refused) in (
        first.number_is ∙ ap (λ k. k + 1) both.0 ∙ sym other.number_is,
        one_refused first.text n m f g named called first.refused (subst (λ text. IsFirstFault text g) (sym both.1) other.refused),
      )

  -- ---- why their objects are not linked

  pub refusal_from : (texts : List (List ℕ)) (os : List Object) (bounds : Ground) (relax gc : Bool) (fault : LinkFault) → AreObjectsFrom texts os
      → ArePast (length texts) bounds fault ⊎ AreUnlinked texts bounds relax gc fault → IsRefusal os bounds relax gc fault
  refusal_from texts os bounds relax gc fault from (inl past) = inl (subst (λ n. ArePast n bounds fault) (count_each IsObjectFrom texts os from) past)
  refusal_from texts os bounds relax gc fault from (inr un) =
      inr (subst (λ l. HasNoProgram l bounds relax gc fault) (same_each IsObjectFrom one_from texts (map object_of un.objects) os un.are from) un.unlinked)

  -- a source is refused before its objects are linked
  source_first : (texts : List (List ℕ)) (bounds : Ground) (relax gc : Bool) (number : ℕ) (fault : SourceFault) (other : LinkFault) → IsNamed (Source number fault) → AreWithin (length texts) bounds → IsFirstRefused texts number fault
      → ArePast (length texts) bounds other ⊎ AreUnlinked texts bounds relax gc other → ⊥
  source_first texts bounds relax gc number fault other named within first (inl past) = within_past (length texts) bounds other within past
  source_first texts bounds relax gc number fault other named within first (inr un) = no_source texts (map object_of un.objects) number fault un.are named first

  -- ---- the laws

  module _ (linking : LinkLaws) where
    for_memory : SourcesForMemory
    for_memory texts bounds relax gc l (Source number fault) (os, from, links) (named, within, first) = absurd (no_source texts os number fault from named first)
    for_memory texts bounds relax gc l (File number fault) has refused = absurd refused
    for_memory texts bounds relax gc l (Link fault) (os, from, links) (named, reason) =
        absurd (no_refusal linking os bounds relax gc l fault links named (refusal_from texts os bounds relax gc fault from reason))
    for_memory texts bounds relax gc l Memory has refused = refl

    both_unlinked : (texts : List (List ℕ)) (bounds : Ground) (relax gc : Bool) (fault other : LinkFault) → IsNamed (Link fault) → IsNamed (Link other)
        → ArePast (length texts) bounds fault ⊎ AreUnlinked texts bounds relax gc fault → ArePast (length texts) bounds other ⊎ AreUnlinked texts bounds relax gc other → IsSameFault fault other
    both_unlinked texts bounds relax gc fault other named called (inl past) (inl again) = past_once (length texts) bounds fault other past again
    both_unlinked texts bounds relax gc fault other named called (inl past) (inr un) =
        let os = map object_of un.objects in
        one_reason linking os bounds relax gc fault other (are_sound texts os un.are) named called (refusal_from texts os bounds relax gc fault un.are (inl past)) (inr un.unlinked)
    both_unlinked texts bounds relax gc fault other named called (inr un) again =
        let os = map object_of un.objects in
        one_reason linking os bounds relax gc fault other (are_sound texts os un.are) named called (inr un.unlinked) (refusal_from texts os bounds relax gc other un.are again)

    for_one : SourcesForOne
    for_one texts bounds relax gc Memory other h k = inl refl
    for_one texts bounds relax gc (File number fault) other h k = absurd h
    for_one texts bounds relax gc (Source number fault) Memory h k = inr (inl refl)
    for_one texts bounds relax gc (Source number fault) (File place other) h k = absurd k
    for_one texts bounds relax gc (Source number fault) (Source place other) (named, within, first) (called, inside, second) = inr (inr (one_source texts number place fault other named called first second))
    for_one texts bounds relax gc (Source number fault) (Link other) (named, within, first) (called, reason) = absurd (source_first texts bounds relax gc number fault other named within first reason)
    for_one texts bounds relax gc (Link fault) Memory h k = inr (inl refl)
    for_one texts bounds relax gc (Link fault) (File place other) h k = absurd k
    for_one texts bounds relax gc (Link fault) (Source place other) (named, reason) (called, within, first) = absurd (source_first texts bounds relax gc place other fault called within first reason)
    for_one texts bounds relax gc (Link fault) (Link other) (named, reason) (called, again) = inr (inr (both_unlinked texts bounds relax gc fault other named called reason again))

    pub have_one_fault : SourcesHaveOneFault
    have_one_fault = record { built = for_memory; refused = for_one }
