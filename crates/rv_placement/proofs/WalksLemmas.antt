-- Passes over sections: their ends only grow, and one step of a loop.

use Rattle.std.proofs.Common.{zero, suc, ◌≡◌, ◌<◌, ◌≤◌, ◌+◌, ℕ, Bool, true, false, List, [], ◌∷◌, ◌++◌, length, take, drop, set, get_or, map, refl, sym, ap, subst, ◌∙◌, append_assoc, arith}
use Rattle.std.specs.Prelude.{if◌then◌else◌}
use Rattle.std.specs.Global.{Vec}
use Rattle.std.proofs.lemmas.List.{drop_more, take_more_set, drop-set-lt, map-set, length-map}
use Rattle.std.specs.List.{drop-map}
use Rattle.rv_list_laws.proofs.TakeDropLemmas.{drop_read}
use Rattle.rv_object_laws.specs.Object.{Section, Object}
use Rattle.rv_link_laws.specs.Inputs.{begins_at}
use Rattle.rv_link_laws.proofs.ListsLemmas.{above}
use Rattle.rv_shorten.specs.declared.section.ShortSection.{ShortSection}
use Rattle.rv_shorten.specs.declared.object.ShortObject.{ShortObject}
use Rattle.rv_shorten.specs.Sections.{short_section_of}
use Rattle.rv_shorten.specs.View.{short_object_of}
use Rattle.rv_placement.specs.declared.placement.PlacedSection.{PlacedSection}
use Rattle.rv_placement.specs.Walk.{end_behind, next, ended, ended_files, started, started_files, lists_of}
use Rattle.rv_placement.proofs.AlignmentsLemmas.{begins_some}

-- ---- ends only grow

pub next_up : (to : Section → Bool) (stop : ℕ) (s : Section) → stop ≤ next to stop s
next_up to stop s = go (to s)
  where
    go : (b : Bool) → stop ≤ (if b then end_behind stop s else stop)
    go true = let h = above (begins_at s) stop (begins_some s) in omega arith
    go false = omega arith

pub grows : (to : Section → Bool) (stop : ℕ) (ss : List Section) → stop ≤ ended to stop ss
grows to stop [] = omega arith
grows to stop (s ∷ ss) = let h = next_up to stop s in let more = grows to (next to stop s) ss in omega arith

pub grows_files : (to : Section → Bool) (stop : ℕ) (os : List Object) → stop ≤ ended_files to stop os
grows_files to stop [] = omega arith
grows_files to stop (o ∷ os) = let h = grows to stop o.sections in let more = grows_files to (ended to stop o.sections) os in omega arith

-- ---- the sections of a file

-- one that passes a limit is in a walk that passes it
pub file_far : (to : Section → Bool) (limit stop whole : ℕ) (sections : List ShortSection) (i : ℕ) (x : ShortSection) → i < length sections → x ≡ get_or sections i x
    → limit < next to stop (short_section_of x) → ended to stop (map short_section_of (drop i sections)) ≡ whole → limit < whole
file_far to limit stop whole sections i x inside is far h =
    let rest = map short_section_of (drop (i + 1) sections) in
    let e : ended to (next to stop (short_section_of x)) rest ≡ whole = ap (λ l. ended to stop (map short_section_of l)) (sym (drop_read sections i x inside is)) ∙ h in
    let more = grows to (next to stop (short_section_of x)) rest in
    omega arith

-- ---- the files

pub each_file : (fs : List (Vec PlacedSection)) (objects : List ShortObject) (i : ℕ) (f : Vec PlacedSection) (o : ShortObject) → map length (lists_of fs) ≡ map (λ o. length o.sections) (map short_object_of objects)
    → i < length fs → i < length objects → f ≡ get_or fs i f → o ≡ get_or objects i o → length f.items ≡ length o.sections.items
each_file [] objects i f o each inside within is at = absurd (omega arith)
each_file (g ∷ fs) [] i f o each inside within is at = absurd (omega arith)
each_file (g ∷ fs) (p ∷ objects) zero f o each inside within is at =
    let same : length g.items ≡ length (map short_section_of p.sections.items) = cc in
    ap (λ (v : Vec PlacedSection). length v.items) is ∙ same ∙ length-map p.sections.items short_section_of ∙ ap (λ (x : ShortObject). length x.sections.items) (sym at)
each_file (g ∷ fs) (p ∷ objects) (suc i) f o each inside within is at =
    let rest : map length (lists_of fs) ≡ map (λ o. length o.sections) (map short_object_of objects) = cc in
    each_file fs objects i f o rest (omega arith) (omega arith) is at

pub files_far : (to : Section → Bool) (limit stop whole : ℕ) (objects : List ShortObject) (i : ℕ) (x : ShortObject) → i < length objects → x ≡ get_or objects i x
    → limit < ended to stop (map short_section_of x.sections.items) → ended_files to stop (map short_object_of (drop i objects)) ≡ whole → limit < whole
files_far to limit stop whole objects i x inside is far h =
    let rest = map short_object_of (drop (i + 1) objects) in
    let e : ended_files to (ended to stop (map short_section_of x.sections.items)) rest ≡ whole = ap (λ l. ended_files to stop (map short_object_of l)) (sym (drop_read objects i x inside is)) ∙ h in
    let more = grows_files to (ended to stop (map short_section_of x.sections.items)) rest in
    omega arith

pub length-started : (to : Section → Bool) (stop : ℕ) (qs : List PlacedSection) (ss : List Section) → length (started to stop qs ss) ≡ length qs
length-started to stop [] ss = refl
length-started to stop (q ∷ qs) [] = refl
length-started to stop (q ∷ qs) (s ∷ ss) = ap (λ n. suc n) (length-started to (next to stop s) qs ss)

each_set : (fs : List (Vec PlacedSection)) (i : ℕ) (f g : Vec PlacedSection) → length g.items ≡ length (get_or fs i f).items → i < length fs → map length (lists_of (set fs i g)) ≡ map length (lists_of fs)
each_set [] i f g same inside = refl
each_set (h ∷ fs) zero f g same inside = ap (λ n. n ∷ map length (lists_of fs)) same
each_set (h ∷ fs) (suc i) f g same inside = ap (λ l. length h.items ∷ l) (each_set fs i f g same (omega arith))

left_lists : (fs : List (Vec PlacedSection)) (i : ℕ) (f : Vec PlacedSection) → i < length fs → drop i (lists_of fs) ≡ (get_or fs i f).items ∷ drop (i + 1) (lists_of fs)
left_lists fs i f inside =
    drop-map (λ (v : Vec PlacedSection). v.items) i fs ∙ ap lists_of (drop_more fs i f inside)
    ∙ ap (λ l. (get_or fs i f).items ∷ l) (sym (drop-map (λ (v : Vec PlacedSection). v.items) (i + 1) fs))

module _ (to : Section → Bool) (stop : ℕ) (fs : List (Vec PlacedSection)) (objects : List ShortObject) (i : ℕ) (f g : Vec PlacedSection) (o : ShortObject) (inside : i < length fs) (within : i < length objects)
    (at : o ≡ get_or objects i o) (moved : g.items ≡ started to stop (get_or fs i f).items (map short_section_of o.sections.items)) where
  -- a file more is moved
  pub files_moved : (end : ℕ) (all : List (List PlacedSection)) → end ≡ ended to stop (map short_section_of o.sections.items)
      → take i (lists_of fs) ++ started_files to stop (drop i (lists_of fs)) (map short_object_of (drop i objects)) ≡ all
      → take (i + 1) (lists_of (set fs i g)) ++ started_files to end (drop (i + 1) (lists_of (set fs i g))) (map short_object_of (drop (i + 1) objects)) ≡ all
  files_moved end all ends h =
      let fits : i < length (lists_of fs) = subst (λ n. i < n) (sym (length-map fs (λ (v : Vec PlacedSection). v.items))) inside in
      let rest = map short_object_of (drop (i + 1) objects) in
      let behind = drop (i + 1) (lists_of fs) in
      let new = ended to stop (map short_section_of o.sections.items) in
      ap (λ l. take (i + 1) l ++ started_files to end (drop (i + 1) l) rest) (map-set (λ (v : Vec PlacedSection). v.items) fs i g)
      ∙ ap (λ l. take (i + 1) (set (lists_of fs) i g.items) ++ started_files to end l rest) (drop-set-lt (i + 1) (lists_of fs) i g.items (omega arith))
      ∙ ap (λ l. l ++ started_files to end behind rest) (take_more_set (lists_of fs) i g.items fits)
      ∙ append_assoc (take i (lists_of fs)) (g.items ∷ []) (started_files to end behind rest)
      ∙ ap (λ n. take i (lists_of fs) ++ (g.items ∷ started_files to n behind rest)) ends
      ∙ ap (λ x. take i (lists_of fs) ++ (x ∷ started_files to new behind rest)) moved
      ∙ ap (λ l. take i (lists_of fs) ++ started_files to stop l (short_object_of o ∷ rest)) (sym (left_lists fs i f inside))
      ∙ ap (λ l. take i (lists_of fs) ++ started_files to stop (drop i (lists_of fs)) (map short_object_of l)) (sym (drop_read objects i o within at)) ∙ h

  pub files_ended : (end whole : ℕ) → end ≡ ended to stop (map short_section_of o.sections.items) → ended_files to stop (map short_object_of (drop i objects)) ≡ whole → ended_files to end (map short_object_of (drop (i + 1) objects)) ≡ whole
  files_ended end whole ends h =
      ap (λ n. ended_files to n (map short_object_of (drop (i + 1) objects))) ends ∙ ap (λ l. ended_files to stop (map short_object_of l)) (sym (drop_read objects i o within at)) ∙ h

  pub files_each : (all : List ℕ) → map length (lists_of fs) ≡ all → map length (lists_of (set fs i g)) ≡ all
  files_each all h =
      each_set fs i f g (ap length moved ∙ length-started to stop (get_or fs i f).items (map short_section_of o.sections.items)) inside ∙ h

-- there are as many files as objects
pub as_many : (fs : List (Vec PlacedSection)) (objects : List ShortObject) → map length (lists_of fs) ≡ map (λ o. length o.sections) (map short_object_of objects) → length fs ≡ length objects
as_many [] [] each = refl
as_many [] (o ∷ objects) each = absurd (cc)
as_many (f ∷ fs) [] each = absurd (cc)
as_many (f ∷ fs) (o ∷ objects) each = ap (λ n. suc n) (as_many fs objects (let rest : map length (lists_of fs) ≡ map (λ o. length o.sections) (map short_object_of objects) = cc in rest))
