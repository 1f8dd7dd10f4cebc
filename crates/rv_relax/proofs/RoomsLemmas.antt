-- What a plan keeps of paddings, section by section.

use Rattle.std.proofs.Common.{◌≡◌, ◌<◌, ℕ, ◌+◌, Bool, ◌&&◌, List, [], ◌∷◌, ◌++◌, length, get_or, map, drop, refl, sym, ap, ◌∙◌}
use Rattle.std.specs.Global.{Vec}
use Rattle.std.specs.List.{list_all}
use Rattle.std.proofs.lemmas.List.{drop_more, map_push, append_assoc}
use Rattle.rv_link_laws.specs.Moves.{Move, has_room}
use Rattle.rv_shorten.specs.declared.section.ShortSection.{ShortSection}
use Rattle.rv_shorten.specs.declared.object.ShortObject.{ShortObject}
use Rattle.rv_shorten.specs.Sections.{short_section_of}
use Rattle.rv_shorten.specs.View.{short_object_of}
use Rattle.rv_relax.specs.declared.section_paddings.SectionPaddings.{SectionPaddings}
use Rattle.rv_relax.specs.Kept.{kept_in, moves_of}
use Rattle.rv_relax.specs.Plan.{are_roomy_objects, is_roomy}

-- a list that gets what the next of others wants
pub one_more : {A B C : Type 0} (f : A → C) (g : B → C) (found new : List A) (xs : List B) (i : ℕ) (x : B) (a : A) → i < length xs → x ≡ get_or xs i x → new ≡ found ++ (a ∷ []) → f a ≡ g x
    → map f found ++ map g (drop i xs) ≡ map g xs → map f new ++ map g (drop (i + 1) xs) ≡ map g xs
one_more f g found new xs i x a inside is items same before =
    let more = drop (i + 1) xs in
    let now : drop i xs ≡ x ∷ more = drop_more xs i x inside ∙ ap (λ y. y ∷ more) (sym is) in
    ap (λ l. map f l ++ map g more) items ∙ ap (λ l. l ++ map g more) (map_push f found a) ∙ append_assoc (map f found) (f a ∷ []) (map g more) ∙ ap (λ c. map f found ++ (c ∷ map g more)) same
    ∙ sym (ap (λ l. map f found ++ map g l) now) ∙ before

-- ---- room

abbrev pub all_have_room : List Move → Bool
all_have_room ms = list_all has_room ms

abbrev pub all_lists : List (List Move) → Bool
all_lists mss = list_all all_have_room mss

by_moves : (qs : List SectionPaddings) → list_all (λ p. list_all has_room (moves_of p)) qs ≡ all_lists (map moves_of qs)
by_moves [] = refl
by_moves (q ∷ qs) = ap (λ b. list_all has_room (moves_of q) && b) (by_moves qs)

by_lists : (fs : List (Vec SectionPaddings)) → list_all (λ f. list_all (λ p. list_all has_room (moves_of p)) f.items) fs ≡ list_all all_lists (map (λ f. map moves_of f.items) fs)
by_lists [] = refl
by_lists (f ∷ fs) =
    let rest = list_all (λ (g : Vec SectionPaddings). list_all (λ p. list_all has_room (moves_of p)) g.items) fs in
    ap (λ b. b && rest) (by_moves f.items) ∙ ap (λ b. all_lists (map moves_of f.items) && b) (by_lists fs)

of_sections : (xs : List ShortSection) → all_lists (map kept_in xs) ≡ list_all is_roomy (map short_section_of xs)
of_sections [] = refl
of_sections (x ∷ xs) = ap (λ b. is_roomy (short_section_of x) && b) (of_sections xs)

of_objects : (os : List ShortObject) → list_all all_lists (map (λ o. map kept_in o.sections.items) os) ≡ are_roomy_objects (map short_object_of os)
of_objects [] = refl
of_objects (o ∷ os) =
    let rest = list_all all_lists (map (λ (p : ShortObject). map kept_in p.sections.items) os) in
    ap (λ b. b && rest) (of_sections o.sections.items) ∙ ap (λ b. list_all is_roomy (map short_section_of o.sections.items) && b) (of_objects os)

pub rooms : (fs : List (Vec SectionPaddings)) (os : List ShortObject) → map (λ f. map moves_of f.items) fs ≡ map (λ o. map kept_in o.sections.items) os
    → list_all (λ f. list_all (λ p. list_all has_room (moves_of p)) f.items) fs ≡ are_roomy_objects (map short_object_of os)
rooms fs os planned = by_lists fs ∙ ap (list_all all_lists) planned ∙ of_objects os
