-- One part more of what is left.

use Rattle.std.proofs.Common.{◌≡◌, ◌<◌, ℕ, suc, ◌+◌, Bool, true, false, List, [], ◌∷◌, ◌++◌, length, map, filter, drop, refl, ap, sym, ◌∙◌, get_or, append-nil}
use Rattle.std.specs.Prelude.{if◌then◌else◌}
use Rattle.std.proofs.lemmas.Bool.{and_parts, and_from, true≢false}
use Rattle.rv_list_laws.proofs.TakeDropLemmas.{drop_read}
use Rattle.rv_list_laws.proofs.NumbersLemmas.{suc_is_next}
use Rattle.rv_map_laws.specs.declared.map.SectionId.{SectionId}
use Rattle.rv_collect_laws.specs.Graph.{is_dropped}
use Rattle.rv_object_types.specs.declared.object.Object.{Object as DeclaredObject}
use Rattle.rv_object_laws.specs.declared.row.Row.{Row}
use Rattle.rv_object_types.specs.declared.section.Section.{Section as DeclaredSection}
use Rattle.rv_object_types.specs.Sections.{section_of}
use Rattle.rv_object_laws.specs.Valid.{is_counted, are_counted}
use Rattle.rv_object_types.specs.View.{object_of}
use Rattle.rv_link_laws.specs.Without.{without_section, without_sections, without_object, without_from}

-- an element is added, if it stays
pub none_added : {X : Type 0} (out : List X) (x : X) (b : Bool) → b ≡ false → out ≡ out ++ (if b then x ∷ [] else [])
none_added out x true e = absurd (true≢false e)
none_added out x false e = sym (append-nil out)

pub one_added : {X : Type 0} (out new : List X) (x : X) (b : Bool) → b ≡ true → new ≡ out ++ x ∷ [] → new ≡ out ++ (if b then x ∷ [] else [])
one_added out new x true e pushed = pushed
one_added out new x false e pushed = absurd (true≢false (sym e))

pub sections_left : (dropped : ℕ → Bool) (ss : List DeclaredSection) (i : ℕ) (s : DeclaredSection) → i < length ss → s ≡ get_or ss i s
    → without_sections dropped i (map section_of (drop i ss)) ≡ without_section (dropped i) (section_of s) ∷ without_sections dropped (i + 1) (map section_of (drop (i + 1) ss))
sections_left dropped ss i s inside is =
    ap (λ l. without_sections dropped i (map section_of l)) (drop_read ss i s inside is)
    ∙ ap (λ n. without_section (dropped i) (section_of s) ∷ without_sections dropped n (map section_of (drop (i + 1) ss))) (suc_is_next i)

pub objects_left : (drops : List SectionId) (os : List DeclaredObject) (i : ℕ) (o : DeclaredObject) → i < length os → o ≡ get_or os i o
    → without_from drops (suc i) (map object_of (drop i os)) ≡ without_object (is_dropped drops (suc i)) (object_of o) ∷ without_from drops (suc (i + 1)) (map object_of (drop (i + 1) os))
objects_left drops os i o inside is =
    ap (λ l. without_from drops (suc i) (map object_of l)) (drop_read os i o inside is)
    ∙ ap (λ n. without_object (is_dropped drops (suc i)) (object_of o) ∷ without_from drops (suc n) (map object_of (drop (i + 1) os))) (suc_is_next i)

pub rows_left : (keeps : Row → Bool) (rs : List Row) (i : ℕ) (r : Row) → i < length rs → r ≡ get_or rs i r
    → filter keeps (drop i rs) ≡ (if keeps r then r ∷ [] else []) ++ filter keeps (drop (i + 1) rs)
rows_left keeps rs i r inside is = ap (filter keeps) (drop_read rs i r inside is) ∙ by (keeps r) (filter keeps (drop (i + 1) rs))
  where
    by : (b : Bool) (rest : List Row) → (if b then r ∷ rest else rest) ≡ (if b then r ∷ [] else []) ++ rest
    by true rest = refl
    by false rest = refl

-- rows that stay have numbers of the widths of their fields
pub still_counted : (keeps : Row → Bool) (rs : List Row) → are_counted rs ≡ true → are_counted (filter keeps rs) ≡ true
still_counted keeps [] h = refl
still_counted keeps (r ∷ rs) h = let both = and_parts (is_counted r) (are_counted rs) h in by (keeps r) both.0 (still_counted keeps rs both.1)
  where
    by : (b : Bool) → is_counted r ≡ true → are_counted (filter keeps rs) ≡ true → are_counted (if b then r ∷ filter keeps rs else filter keeps rs) ≡ true
    by true one more = and_from (is_counted r) (are_counted (filter keeps rs)) one more
    by false one more = more
