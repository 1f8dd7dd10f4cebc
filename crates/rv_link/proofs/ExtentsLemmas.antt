-- The ends of the symbols of what a plan leaves of objects are what relaxation leaves of their ends.

use Rattle.std.proofs.Common.{◌≡◌, ℕ, suc, Bool, true, false, Option, List, [], ◌∷◌, map, refl, sym, ap, subst, ◌∙◌}
use Rattle.rv_list_laws.proofs.MapLemmas.{map_twice}
use Rattle.rv_object_laws.specs.Object.{Object}
use Rattle.rv_link_laws.specs.declared.bounds.Ground.{Ground}
use Rattle.rv_link_laws.specs.Moves.{Move}
use Rattle.rv_link_laws.specs.Shortened.{Sizes, sizes_by, shortened_object, shortened_from}
use Rattle.rv_link_laws.proofs.WithoutLemmas.{without_none}
use Rattle.rv_cut_laws.specs.Cutting.{cut_symbol}
use Rattle.rv_cut_laws.proofs.LaidLemmas.{same_object as same_shortened}
use Rattle.rv_cut_laws.proofs.UncutLemmas.{none_in, same_object as same_uncut}
use Rattle.rv_shorten.specs.declared.object.ShortObject.{ShortObject}
use Rattle.rv_shorten.specs.Cuts.{section_cuts, cuts_from, no_cuts}
use Rattle.rv_shorten.specs.Sections.{whole_section_of}
use Rattle.rv_shorten.specs.View.{moves_by_section, short_object_of, whole_object_of}
use Rattle.rv_shorten.proofs.CutsLemmas.{listed}
use Rattle.rv_relax.specs.declared.plan.Plan.{Plan}
use Rattle.rv_relax.specs.Plan.{RelaxesBy, planned_cuts, planned_objects, whole_objects}
use Rattle.rv_addresses.specs.Ended.{short_ends, short_ended, short_ended_from}
use Rattle.rv_addresses.specs.Extents.{SymbolSizes, at_ends, ended_from, ended_object}
use Rattle.rv_addresses.specs.declared.extents.SymbolExtent.{SymbolExtent}
use Rattle.rv_list_laws.proofs.ElementsLemmas.{first_same}
use Rattle.rv_link.specs.Extents.{RelaxesBoth, AreExtentsLeft, AreExtents}
use Rattle.rv_link.specs.PlannedExtents.{AreExtentsOf}

tails : {X : Type 0} (x y : X) (xs ys : List X) → x ∷ xs ≡ y ∷ ys → xs ≡ ys
tails x y xs ys same = cc

-- ---- where nothing is cut

uncut_one : (sizes : ℕ → ℕ) (x : ShortObject) → short_object_of x ≡ whole_object_of x → moves_by_section x ≡ map (λ s. []) (whole_object_of x).sections → short_ended sizes x ≡ ended_object sizes (whole_object_of x)
uncut_one sizes x same none =
    let whole = whole_object_of x in
    let stays = ended_object sizes whole in
    let xs = x.sections.items in
    let bare : moves_by_section x ≡ none_in xs = none ∙ map_twice whole_section_of (λ s. []) xs in
    let symbols : short_ends sizes x ≡ stays.symbols =
    ap (λ (m : List (List Move)). map (cut_symbol m) stays.symbols) bare ∙ ap (λ (o : Object). o.symbols) (same_uncut whole_section_of xs stays refl) in
    ap (λ (o : Object). record o { symbols = short_ends sizes x }) same ∙ ap (λ l. record whole { symbols = l }) symbols

uncut : (sizes : SymbolSizes) (file : ℕ) (xs : List ShortObject) → map short_object_of xs ≡ map whole_object_of xs → map moves_by_section xs ≡ no_cuts (map whole_object_of xs)
    → short_ended_from sizes file xs ≡ ended_from sizes file (map whole_object_of xs)
uncut sizes file [] same none = refl
uncut sizes file (x ∷ xs) same none =
    ap (λ o. o ∷ short_ended_from sizes (suc file) xs)
    (uncut_one (sizes file) x (first_same (short_object_of x) (whole_object_of x) (map short_object_of xs) (map whole_object_of xs) same)
    (first_same (moves_by_section x) (map (λ s. []) (whole_object_of x).sections) (map moves_by_section xs) (no_cuts (map whole_object_of xs)) none))
    ∙ ap (λ l. ended_object (sizes file) (whole_object_of x) ∷ l)
    (uncut sizes (suc file) xs (tails (short_object_of x) (whole_object_of x) (map short_object_of xs) (map whole_object_of xs) same)
    (tails (moves_by_section x) (map (λ s. []) (whole_object_of x).sections) (map moves_by_section xs) (no_cuts (map whole_object_of xs)) none))

-- ---- where calls are

cut_one : (kept : ℕ → Sizes) (sizes : ℕ → ℕ) (x : ShortObject) → short_object_of x ≡ shortened_object kept (whole_object_of x) → moves_by_section x ≡ section_cuts kept 0 (whole_object_of x).sections
    → short_ended sizes x ≡ shortened_object kept (ended_object sizes (whole_object_of x))
cut_one kept sizes x same cuts =
    let whole = whole_object_of x in
    let ends = ended_object sizes whole in
    let symbols : short_ends sizes x ≡ (shortened_object kept ends).symbols =
    ap (λ (m : List (List Move)). map (cut_symbol m) ends.symbols) (cuts ∙ sym (listed kept 0 whole.sections)) ∙ ap (λ (o : Object). o.symbols) (same_shortened kept ends) in
    ap (λ (o : Object). record o { symbols = short_ends sizes x }) same ∙ ap (λ l. record (shortened_object kept whole) { symbols = l }) symbols

cut : (kept : ℕ → ℕ → Sizes) (sizes : SymbolSizes) (number file : ℕ) (xs : List ShortObject) → map short_object_of xs ≡ shortened_from kept number (map whole_object_of xs)
    → map moves_by_section xs ≡ cuts_from kept number (map whole_object_of xs)
    → short_ended_from sizes file xs ≡ shortened_from kept number (ended_from sizes file (map whole_object_of xs))
cut kept sizes number file [] same cuts = refl
cut kept sizes number file (x ∷ xs) same cuts =
    let whole = whole_object_of x in
    let wholes = map whole_object_of xs in
    ap (λ o. o ∷ short_ended_from sizes (suc file) xs)
    (cut_one (kept number) (sizes file) x (first_same (short_object_of x) (shortened_object (kept number) whole) (map short_object_of xs) (shortened_from kept (suc number) wholes) same)
    (first_same (moves_by_section x) (section_cuts (kept number) 0 whole.sections) (map moves_by_section xs) (cuts_from kept (suc number) wholes) cuts))
    ∙ ap (λ l. shortened_object (kept number) (ended_object (sizes file) whole) ∷ l)
    (cut kept sizes (suc number) (suc file) xs (tails (short_object_of x) (shortened_object (kept number) whole) (map short_object_of xs) (shortened_from kept (suc number) wholes) same)
    (tails (moves_by_section x) (section_cuts (kept number) 0 whole.sections) (map moves_by_section xs) (cuts_from kept (suc number) wholes) cuts))

-- ---- a plan

both : (relax : Bool) (sizes : SymbolSizes) (xs : List ShortObject) → RelaxesBy relax (map whole_object_of xs) (map short_object_of xs) (map moves_by_section xs)
    → RelaxesBoth relax (map whole_object_of xs) (at_ends sizes (map whole_object_of xs)) (map short_object_of xs) (short_ended_from sizes 0 xs)
both false sizes xs h = (h.0, uncut sizes 0 xs h.0 h.1)
both true sizes xs h = (h.0, h.1, h.2, cut (sizes_by (map whole_object_of xs) h.0) sizes 1 0 xs h.2 h.3)

pub planned : (os : List Object) (sizes : SymbolSizes) (g : Ground) (relax : Bool) (plan : Plan) (extents : List (List (Option SymbolExtent))) → whole_objects plan ≡ os → RelaxesBy relax os (planned_objects plan) (planned_cuts plan)
    → AreExtentsOf plan sizes g extents → AreExtentsLeft os sizes g relax extents
planned os sizes g relax plan extents whole relaxes h =
    let xs = plan.objects.items in
    let by = subst (λ l. RelaxesBy relax l (map short_object_of xs) (map moves_by_section xs)) (sym whole) relaxes in
    record {
      left = planned_objects plan;
      ends = short_ended_from sizes 0 xs;
      relaxed = subst (λ l. RelaxesBoth relax l (at_ends sizes l) (map short_object_of xs) (short_ended_from sizes 0 xs)) whole (both relax sizes xs by);
      layout = h.layout;
      laid = h.laid;
      reach = h.reach;
    }

-- ---- collected or not

pub uncollected : (os : List Object) (sizes : SymbolSizes) (g : Ground) (relax : Bool) (extents : List (List (Option SymbolExtent))) → AreExtentsLeft os sizes g relax extents → AreExtents os sizes g relax false extents
uncollected os sizes g relax extents h =
    record { drops = []; collected = refl; of_left = subst (λ l. AreExtentsLeft l sizes g relax extents) (sym (without_none os)) h }
