-- Where a run begins in what is left of objects.

use Rattle.std.proofs.Common.{◌≡◌, ℕ, ◌%◌, Bool, true, false, ◌&&◌, ◌==◌, refl, sym, ap, ◌∙◌, List, Option, Some, None}
use Rattle.std.specs.Prelude.{codes, option_and_then, if◌then◌else◌}
use Rattle.std.specs.List.{slice_get}
use Rattle.std.specs.Option.{option_map}
use Rattle.std.proofs.lemmas.Bool.{true≢false}
use Rattle.rv_map_laws.specs.declared.map.SectionId.{SectionId}
use Rattle.rv_collect_laws.specs.Graph.{is_dropped}
use Rattle.rv_object_laws.specs.declared.symbol.Definition.{Definition}
use Rattle.rv_object_laws.specs.declared.symbol.Definition.TheVariants as definitions
use Rattle.rv_object_laws.specs.Object.{Section, Object}
use Rattle.rv_link_laws.specs.Collects.{run_place, entry_place}
use Rattle.rv_link_laws.specs.Inputs.{goes_to_text, Starts}
use Rattle.rv_link_laws.specs.Left.{export_left, IsNotDropped}
use Rattle.rv_link_laws.specs.Names.{Export, Place, place_in, chosen, is_in_text, can_begin, export_address, run_start, entry_of}
use Rattle.rv_link_laws.specs.Without.{without_section, without_object, without}
use Rattle.rv_link_laws.proofs.NamesLeftLemmas.{chosen_left}
use Rattle.rv_link_laws.proofs.WithoutLemmas.{section_left}

-- the place of a definition where a run can begin
abbrev place_if : Bool → ℕ → Definition → Option Place
place_if b file d = if b then place_in file d else None

-- a place in a section that is left is one where a run can begin as before; a dropped one had none
same_in_section : (drops : List SectionId) (file section offset : ℕ) (s : Option Section) (even : Bool)
    → IsNotDropped drops (place_if (is_in_text s && even) file (definitions.InSection section offset)) → (b : Bool) → is_dropped drops file section ≡ b
    → place_if (is_in_text (option_map (without_section b) s) && even) file (definitions.InSection section offset) ≡ place_if (is_in_text s && even) file (definitions.InSection section offset)
same_in_section drops file section offset None even stays b e = refl
same_in_section drops file section offset (Some s) even stays false e = refl
same_in_section drops file section offset (Some s) even stays true e = by (goes_to_text s && even) stays
  where
    by : (c : Bool) → IsNotDropped drops (place_if c file (definitions.InSection section offset)) → None ≡ place_if c file (definitions.InSection section offset)
    by true left = absurd (true≢false (sym e ∙ left))
    by false left = refl

same_definition : (drops : List SectionId) (file : ℕ) (o : Object) (d : Definition) → IsNotDropped drops (place_if (can_begin o d) file d)
    → place_if (can_begin (without_object (is_dropped drops file) o) d) file d ≡ place_if (can_begin o d) file d
same_definition drops file o definitions.Undefined stays = refl
same_definition drops file o (definitions.Absolute n) stays = refl
same_definition drops file o (definitions.Skipped n) stays = refl
same_definition drops file o (definitions.InSection section offset) stays =
    ap (λ s. place_if (is_in_text s && (offset % 2 == 0)) file (definitions.InSection section offset)) (section_left (is_dropped drops file) o section)
    ∙ same_in_section drops file section offset (slice_get o.sections section) (offset % 2 == 0) stays (is_dropped drops file section) refl

-- where the place at which a run begins is left, it is the same
pub entry_place_left : (drops : List SectionId) (os : List Object) → IsNotDropped drops (entry_place os) → entry_place (without drops os) ≡ entry_place os
entry_place_left drops os stays = ap (option_and_then run_place) (chosen_left drops os (codes "_start")) ∙ by (chosen os (codes "_start")) stays
  where
    by : (c : Option Export) → IsNotDropped drops (option_and_then run_place c) → option_and_then run_place (option_map (export_left drops) c) ≡ option_and_then run_place c
    by None left = refl
    by (Some e) left = same_definition drops e.file e.object e.symbol.definition left

-- ---- without such a place there is no entry

no_begin : (o : Object) (d : Definition) (file : ℕ) → place_if (can_begin o d) file d ≡ None → can_begin o d ≡ false
no_begin o definitions.Undefined file h = refl
no_begin o (definitions.Absolute n) file h = refl
no_begin o (definitions.Skipped n) file h = refl
no_begin o (definitions.InSection section offset) file h = by (can_begin o (definitions.InSection section offset)) h
  where
    by : (b : Bool) → place_if b file (definitions.InSection section offset) ≡ None → b ≡ false
    by true none = absurd (cc)
    by false none = refl

-- where no place is one at which a run begins, no address is an entry
pub no_entry : (starts : Starts) (os : List Object) → entry_place os ≡ None → entry_of starts os ≡ None
no_entry starts os h = by (chosen os (codes "_start")) h
  where
    by : (c : Option Export) → option_and_then run_place c ≡ None → option_and_then (run_start starts) c ≡ None
    by None none = refl
    by (Some e) none = ap (λ b. if b then export_address starts e else None) (no_begin e.object e.symbol.definition e.file none)
