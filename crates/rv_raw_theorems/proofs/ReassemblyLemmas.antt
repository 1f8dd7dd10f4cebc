-- A raw listing as steps, and the law.

use Rattle.std.proofs.Common.{◌≡◌, ℕ, ◌+◌, ◌%◌, ◌≤◌, Bool, List, [], ◌∷◌, ◌++◌, map, length, refl, sym, ◌∙◌, ap, subst}
use Rattle.std.specs.Prelude.{codes, flat_map}
use Rattle.std.specs.List.{AllByRecursion}
use Rattle.std.proofs.lemmas.List.{map-append}
use Rattle.std.proofs.lemmas.Grind.{flat_map-append}
use Rattle.rv_statement_laws.specs.Statement.{Label, Statement}
use Rattle.rv_parse_laws.specs.Reading.{Reads, longest_source}
use Rattle.rv_image_laws.specs.Image.{Image}
use Rattle.rv_image_laws.specs.Linked.{Linked}
use Rattle.rv_listing_laws.specs.declared.code.Code.{Code}
use Rattle.rv_listing_laws.specs.Raw.{IsRawListing, IsSourced, raw_bytes, lines_text, raw_lines}
use Rattle.rv_chain_laws.specs.Contents.{IsLinked}
use Rattle.rv_chain_laws.specs.Headline.{AllRead}
use Rattle.rv_raw_theorems.specs.Statements.{code_statement, on_lines, raw_statements}
use Rattle.rv_raw_theorems.specs.Reassembles.{RawListingsReassemble}
use Rattle.rv_raw_theorems.proofs.StatementPlacesLemmas.{source_of}
use Rattle.rv_raw_theorems.proofs.StepsLemmas.{Step, A_code, The_entry, kind_of, bytes_at, IsSpoken, kinds_of}
use Rattle.rv_raw_theorems.proofs.LinkedBytesLemmas.{IsInstruction, text_is, entry_is}

abbrev steps_of : List Code → List Step
steps_of cs = map A_code cs

kinds_are : (cs : List Code) → map code_statement cs ≡ kinds_of (steps_of cs)
kinds_are [] = refl
kinds_are (c ∷ cs) = ap (λ ks. code_statement c ∷ ks) (kinds_are cs)

bytes_are : (cs : List Code) → flat_map bytes_at (steps_of cs) ≡ flat_map raw_bytes cs
bytes_are [] = refl
bytes_are (c ∷ cs) = ap (λ b. raw_bytes c ++ b) (bytes_are cs)

instructions : (cs : List Code) → AllByRecursion IsInstruction (steps_of cs)
instructions [] = tt
instructions (c ∷ cs) = (tt, instructions cs)

spoken_all : (cs : List Code) → AllByRecursion IsSourced cs → AllByRecursion IsSpoken (steps_of cs)
spoken_all [] h = tt
spoken_all (c ∷ cs) (one, more) = (one, spoken_all cs more)

spoken : (before after : List Code) → AllByRecursion IsSourced (before ++ after) → AllByRecursion IsSpoken (steps_of before ++ The_entry ∷ steps_of after)
spoken [] after h = (tt, spoken_all after h)
spoken (c ∷ cs) after (one, more) = (one, spoken cs after more)

-- the statements of the listing are the source of its steps
source_is : (before after : List Code) → on_lines 1 (raw_statements before after) ≡ source_of (kinds_of (steps_of before ++ The_entry ∷ steps_of after))
source_is before after =
    ap source_of
    (
    ap (λ ks. ks ++ Label (codes "_start") ∷ map code_statement after) (kinds_are before)
    ∙ ap (λ ks. kinds_of (steps_of before) ++ Label (codes "_start") ∷ ks) (kinds_are after)
    ∙ sym (map-append kind_of (steps_of before) (The_entry ∷ steps_of after))
    )

whole_bytes : (before after : List Code) → flat_map bytes_at (steps_of before ++ The_entry ∷ steps_of after) ≡ flat_map raw_bytes (before ++ after)
whole_bytes before after =
    flat_map-append bytes_at (steps_of before) (The_entry ∷ steps_of after)
    ∙ ap (λ b. b ++ flat_map bytes_at (steps_of after)) (bytes_are before) ∙ ap (λ b. flat_map raw_bytes before ++ b) (bytes_are after)
    ∙ sym (flat_map-append raw_bytes before after)

-- what the lines read as, and that it is the only reading
pub record Readings : Type 0 where
  pub reads : (before after : List Code) → AllByRecursion IsSourced (before ++ after) → length (lines_text (raw_lines before after)) ≤ longest_source
      → Reads (lines_text (raw_lines before after)) (on_lines 1 (raw_statements before after))
  pub once : (bytes : List ℕ) (ss others : List Statement) → Reads bytes ss → Reads bytes others → ss ≡ others

module _ (readings : Readings) (image : Image) (text : List ℕ) (start : ℕ) (relax gc : Bool) (l : Linked) (listing : IsRawListing image text) (at : start ≡ listing.segment.address) where
  abbrev before : List Step
  before = steps_of listing.before

  abbrev after : List Step
  after = steps_of listing.after

  linked : (ss : List Statement) → ss ≡ source_of (kinds_of (before ++ The_entry ∷ after)) → IsLinked (ss ∷ []) start relax gc l → (l.text ≡ listing.segment.bytes) × (l.map.entry ≡ image.entry)
  linked ss is h =
      let low : start % 4096 ≡ 0 = ap (λ a. a % 4096) at ∙ listing.aligned in
      let all = spoken listing.before listing.after listing.sourced in
      let there : IsLinked (source_of (kinds_of (before ++ The_entry ∷ after)) ∷ []) start relax gc l = subst (λ x. IsLinked (x ∷ []) start relax gc l) is h in (
        text_is before after (instructions listing.before) (instructions listing.after) all start relax gc l low there ∙ whole_bytes listing.before listing.after ∙ sym listing.bytes,
        entry_is before after (instructions listing.before) (instructions listing.after) all start relax gc l low there
            ∙ ap (λ b. start + length b) (bytes_are listing.before) ∙ ap (λ a. a + length (flat_map raw_bytes listing.before)) at ∙ sym listing.entry,
      )

  of_text : (ss : List Statement) → Reads text ss → ss ≡ source_of (kinds_of (before ++ The_entry ∷ after))
  of_text ss read =
      let lines : Reads (lines_text (raw_lines listing.before listing.after)) ss = subst (λ t. Reads t ss) listing.shows read in
      readings.once _ ss _ lines (readings.reads listing.before listing.after listing.sourced lines.0) ∙ source_is listing.before listing.after

  of_sources : (sources : List (List Statement)) → AllRead (text ∷ []) sources → IsLinked sources start relax gc l → (l.text ≡ listing.segment.bytes) × (l.map.entry ≡ image.entry)
  of_sources [] read h = absurd read
  of_sources (ss ∷ []) read h = linked ss (of_text ss read.0) h
  of_sources (ss ∷ others ∷ more) read h = absurd read.1

pub reassemble : Readings → RawListingsReassemble
reassemble readings image text start relax gc sources l listing at read h = of_sources readings image text start relax gc l listing at sources read h
