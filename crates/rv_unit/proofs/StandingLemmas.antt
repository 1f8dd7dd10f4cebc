-- The statement at an index, by the tables of the whole source.

use Rattle.std.proofs.Common.{◌≡◌, ℕ, ◌+◌, ◌<◌, ◌≤◌, Bool, ◌&&◌, ◌||◌, false, List, length, drop, get_or, nat_lt, refl, sym, ap, ◌∙◌, subst, arith, Some}
use Rattle.std.specs.Prelude.{not, is_some, slice_get, if◌then◌else◌}
use Rattle.std.proofs.lemmas.List.{get_or-map, length-map}
use Rattle.std.proofs.lemmas.Option.{slice_get_within, get_or_from_slice_get}
use Rattle.rv_statement_laws.specs.Statement.{StatementKind, Statement as SpecStatement}
use Rattle.rv_unit_laws.specs.Sections.{Section, place_of_name, most_sections, section_at, current_section}
use Rattle.rv_unit_laws.specs.Tables as laws
use Rattle.rv_unit_laws.specs.Tables.{gives_location}
use Rattle.rv_unit_laws.proofs.AskedLemmas.{defined_kept, location_kept, home_same, too_many, places_length, place_at, options_at, options_length, after_depth, depth_after}
use Rattle.rv_unit.specs.declared.section_offset.SectionOffset.{SectionOffset}
use Rattle.rv_unit.specs.declared.options.Options.{Options}
use Rattle.rv_unit.specs.Options.{options_of}
use Rattle.rv_unit.specs.Sections.{offset_of}
use Rattle.rv_unit.specs.Tables.{tables_of}
use Rattle.rv_unit.specs.declared.unit.Unit.{Unit as SourceUnit}
use Rattle.rv_unit.specs.Unit.{said, passed, IsStatementOf, IsFilled}
use Rattle.rv_unit.proofs.PassedLemmas.{passed_before, passed_keeps, passed_rest, passed_more}
use Rattle.rv_unit.proofs.ScopedLemmas.{passed_stood}

within : (u : SourceUnit) (i o : ℕ) (p : SectionOffset) (kind : StatementKind) → IsStatementOf u i o p kind → i ≤ length (said u)
within u i o p kind at = let l : i < length (said u) = at.within in omega (arith, l)

-- one that enters no section stands where its section ends
pub at_here : (u : SourceUnit) (i o : ℕ) (p : SectionOffset) (kind : StatementKind) → IsStatementOf u i o p kind → laws.enters kind ≡ false → offset_of p ≡ laws.here (passed (said u) i)
at_here u i o p kind at outside =
    let t = passed (said u) i in
    at.place ∙ ap (λ b. if b then laws.here (laws.after t (i + 1) kind) else laws.here t) outside

-- its section
pub at_home : (u : SourceUnit) (i o : ℕ) (p : SectionOffset) (kind : StatementKind) → IsStatementOf u i o p kind → laws.enters kind ≡ false
    → section_at (laws.opened_of (tables_of u.tables)) p.section ≡ current_section (laws.opened_of (passed (said u) i))
at_home u i o p kind at outside =
    let ss = said u in
    let t = passed ss i in
    ap (λ (w : laws.Tables). section_at (laws.opened_of w) p.section) at.filled.tables
    ∙ ap (λ (q : laws.SectionOffset). section_at (laws.opened_of (laws.tables ss)) q.section) (at_here u i o p kind at outside)
    ∙ ap (λ (w : laws.Tables). section_at (laws.opened_of w) t.current) (passed_rest ss i (within u i o p kind at))
    ∙ home_same t (i + 1) (drop i ss) (passed_stood ss i).opened

-- what is defined before it
pub at_defined : (u : SourceUnit) (i o : ℕ) (p : SectionOffset) (kind : StatementKind) (name : List ℕ) → IsStatementOf u i o p kind
    → laws.is_defined (tables_of u.tables) o name ≡ laws.is_defined (passed (said u) i) (i + 1) name
at_defined u i o p kind name at =
    let ss = said u in
    ap (λ w. laws.is_defined w o name) at.filled.tables ∙ ap (λ n. laws.is_defined (laws.tables ss) n name) at.ordinal
    ∙ defined_kept (passed ss i) (laws.tables ss) (i + 1) name (passed_keeps ss i (within u i o p kind at))

abbrev by_look_up : laws.Tables → ℕ → List ℕ → Bool
by_look_up t o name = is_some (laws.label_of t.labels false o name) || gives_location (laws.assigned_before t.assignments o name)

pub at_location : (u : SourceUnit) (i o : ℕ) (p : SectionOffset) (kind : StatementKind) (name : List ℕ) → IsStatementOf u i o p kind
    → by_look_up (tables_of u.tables) o name ≡ laws.has_location (passed (said u) i) (i + 1) name
at_location u i o p kind name at =
    let ss = said u in
    let inside = within u i o p kind at in
    ap (λ w. by_look_up w o name) at.filled.tables ∙ ap (λ n. by_look_up (laws.tables ss) n name) at.ordinal
    ∙ location_kept (passed ss i) (laws.tables ss) (i + 1) name (passed_before ss i inside) (passed_keeps ss i inside)

-- whether the section that it enters is one too many
pub at_limit : (u : SourceUnit) (i : ℕ) (section : Section) → IsFilled u → i < length (said u) → laws.opened_of (passed (said u) (i + 1)) ≡ laws.opened_of (laws.with_section (passed (said u) i) (Some section))
    → not (is_some (place_of_name (laws.opened_of (tables_of u.tables)).sections section.name))
    ≡ (not (is_some (place_of_name (laws.opened_of (passed (said u) i)).sections section.name)) && not (nat_lt (length (laws.opened_of (passed (said u) i)).sections) most_sections))
at_limit u i section f inside is =
    let ss = said u in
    ap (λ (w : laws.Tables). not (is_some (place_of_name (laws.opened_of w).sections section.name))) (f.tables ∙ passed_rest ss (i + 1) (omega (arith, inside)))
    ∙ too_many (passed ss i) (passed ss (i + 1)) (i + 1 + 1) (drop (i + 1) ss) section is

-- each statement has a place
pub places_count : (u : SourceUnit) → IsFilled u → length u.places.items ≡ length (said u)
places_count u f = sym (length-map u.places.items offset_of) ∙ ap length f.stand ∙ places_length (laws.at_start (said u)) 1 (said u)

-- a unit's statement and place at an index
pub is_at : (u : SourceUnit) (i : ℕ) (s : SpecStatement) (p d : SectionOffset) → IsFilled u → slice_get (said u) i ≡ Some s → p ≡ get_or u.places.items i d → IsStatementOf u i (i + 1) p s.kind
is_at u i s p d f listed at = record {
  filled = f;
  within = below;
  ordinal = refl;
  place = ap offset_of at ∙ sym (get_or-map offset_of u.places.items i d (offset_of d) seated) ∙ ap (λ l. get_or l i (offset_of d)) f.stand
      ∙ place_at (laws.at_start ss) 1 ss i (offset_of d) s below
      ∙ ap (λ (y : SpecStatement). laws.stood (passed ss i) (1 + i) y.kind) here
      ∙ ap (λ n. laws.stood (passed ss i) n s.kind) (let e : 1 + i ≡ i + 1 = omega arith in e);
  more = passed_more ss i s below ∙ ap (λ (y : SpecStatement). laws.after (passed ss i) (i + 1) y.kind) here;
}
  where
    ss : List SpecStatement
    ss = said u

    below : i < length (said u)
    below = slice_get_within (said u) i s listed

    seated : i < length u.places.items
    seated = subst (λ n. i < n) (sym (places_count u f)) below

    here : get_or (said u) i s ≡ s
    here = get_or_from_slice_get (said u) i s s listed

-- the depth of the option stack before the next statement
pub depth_next : (u : SourceUnit) (i o : ℕ) (p : SectionOffset) (kind : StatementKind) (depth next : ℕ) → IsStatementOf u i o p kind → depth ≡ length (passed (said u) i).kept → next ≡ depth_after depth kind
    → next ≡ length (passed (said u) (i + 1)).kept
depth_next u i o p kind depth next at is more =
    more ∙ ap (λ n. depth_after n kind) is ∙ sym (ap (λ (t : laws.Tables). length t.kept) at.more ∙ after_depth (passed (said u) i) (i + 1) kind)

-- each statement has options
pub options_count : (u : SourceUnit) → IsFilled u → length u.options.items ≡ length (said u)
options_count u f = sym (length-map u.options.items options_of) ∙ ap length f.options ∙ options_length (laws.at_start (said u)) 1 (said u)

-- the options in which it stands
pub options_found : (u : SourceUnit) (i : ℕ) (o d : Options) → IsFilled u → i < length (said u) → o ≡ get_or u.options.items i d → options_of o ≡ (passed (said u) i).options
options_found u i o d f inside at =
    ap options_of at ∙ sym (get_or-map options_of u.options.items i d (options_of d) seated) ∙ ap (λ l. get_or l i (options_of d)) f.options
    ∙ options_at (laws.at_start (said u)) 1 (said u) i (options_of d) inside
  where
    seated : i < length u.options.items
    seated = subst (λ n. i < n) (sym (options_count u f)) inside
