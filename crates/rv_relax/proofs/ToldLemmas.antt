-- The search for one of what is told of sections, one after another.

use Rattle.std.proofs.Common.{◌≡◌, ℕ, zero, suc, ◌+◌, ◌<◌, ◌≤◌, true, List, [], ◌∷◌, ◌++◌, Some, None, length, slice_index, drop, get_or, map, sym, ap, ◌∙◌, append-nil, append_assoc, arith}
use Rattle.std.specs.Prelude.{if◌then◌else◌, unwrap_or}
use Rattle.std.specs.List.{flat_map, slice_get}
use Rattle.std.proofs.lemmas.List.{drop_all, drop_more}
use Rattle.std.proofs.lemmas.Option.{get_or_from_slice_get, unwrap_or-slice_get}
use Rattle.rv_list_laws.proofs.MapLemmas.{flat_map_composed}
use Rattle.rv_object_types.specs.declared.relocation.Relocation.{Relocation as DeclaredRelocation}
use Rattle.rv_object_laws.specs.Object.{Relocation}
use Rattle.rv_object_types.specs.Parts.{relocation_of}
use Rattle.rv_object_types.specs.Sections.{section_of}
use Rattle.rv_link_laws.specs.Inputs.{goes_to_text}
use Rattle.rv_shorten.specs.Sections.{moves_in}
use Rattle.rv_shorten.specs.declared.section.ShortSection.{ShortSection}
use Rattle.rv_shorten.specs.declared.object.ShortObject.{ShortObject}
use Rattle.rv_relax.specs.declared.told.Counted.{Counted}
use Rattle.rv_relax.specs.declared.told.Standing.{Standing}
use Rattle.rv_relax.specs.Kept.{kept_in}
use Rattle.rv_relax.specs.Told.{as_list, offset_among, planned_sections, told_at, told_section, told_sections}

-- ---- what two lists share

pub same_at : {A B C : Type 0} (f : A → C) (g : B → C) (ps : List A) (xs : List B) → map f ps ≡ map g xs → (i : ℕ) (p : A) (x : B) → i < length xs → p ≡ get_or ps i p → x ≡ get_or xs i x → f p ≡ g x
same_at f g [] [] same i p x inside e h = absurd (omega arith)
same_at f g [] (y ∷ xs) same i p x inside e h = absurd (cc)
same_at f g (q ∷ ps) [] same i p x inside e h = absurd (cc)
same_at f g (q ∷ ps) (y ∷ xs) same zero p x inside e h =
    let here : f q ≡ g y = cc in
    ap f e ∙ here ∙ sym (ap g h)
same_at f g (q ∷ ps) (y ∷ xs) same (suc i) p x inside e h =
    let rest : map f ps ≡ map g xs = cc in
    same_at f g ps xs rest i p x (omega arith) e h

-- ---- lists that follow one another

-- a search through them: what a list has, from an index on
module _ {X A : Type 0} (f : X → List A) (xs : List X) (i : ℕ) where
  abbrev pub rest_of : List A
  rest_of = flat_map f (drop i xs)

  ahead : (x : X) → i < length xs → x ≡ get_or xs i x → rest_of ≡ f x ++ flat_map f (drop (i + 1) xs)
  ahead x inside is = ap (flat_map f) (drop_more xs i x inside ∙ ap (λ y. y ∷ drop (i + 1) xs) (sym is))

  pub at_end : length xs ≤ i → (more : List A) → rest_of ++ more ≡ more
  at_end past more = ap (λ l. flat_map f l ++ more) (drop_all i xs past)

  pub one_ahead : (x : X) → i < length xs → x ≡ get_or xs i x → (more : List A) → rest_of ++ more ≡ f x ++ (flat_map f (drop (i + 1) xs) ++ more)
  one_ahead x inside is more = ap (λ l. l ++ more) (ahead x inside is) ∙ append_assoc (f x) (flat_map f (drop (i + 1) xs)) more

-- by an index
module _ {X : Type 0} (f : X → List ℕ) (xs : List X) (i : ℕ) (x : X) (inside : i < length xs) (is : x ≡ get_or xs i x) (old now : ℕ)
    (so_far : (more : List ℕ) → slice_get (flat_map f (drop i xs) ++ more) now ≡ slice_get (flat_map f xs ++ more) old) where
  pub passed_one : (new : ℕ) → ((more : List ℕ) → slice_get (f x ++ more) now ≡ slice_get more new) → (more : List ℕ) → slice_get (flat_map f (drop (i + 1) xs) ++ more) new ≡ slice_get (flat_map f xs ++ more) old
  passed_one new one more =
      sym (one (flat_map f (drop (i + 1) xs) ++ more)) ∙ sym (ap (λ l. slice_get l now) (one_ahead f xs i x inside is more)) ∙ so_far more

  pub found_one : (n : ℕ) → ((more : List ℕ) → slice_get (f x ++ more) now ≡ Some n) → (more : List ℕ) → slice_get (flat_map f xs ++ more) old ≡ Some n
  found_one n one more =
      sym (so_far more) ∙ ap (λ l. slice_get l now) (one_ahead f xs i x inside is more) ∙ one (flat_map f (drop (i + 1) xs) ++ more)

pub passed_all : {X : Type 0} (f : X → List ℕ) (xs : List X) (i old now : ℕ) → length xs ≤ i → ((more : List ℕ) → slice_get (flat_map f (drop i xs) ++ more) now ≡ slice_get (flat_map f xs ++ more) old)
    → (more : List ℕ) → slice_get (flat_map f xs ++ more) old ≡ slice_get more now
passed_all f xs i old now past so_far more = sym (so_far more) ∙ ap (λ l. slice_get l now) (at_end f xs i past more)

-- what is told of a relocation of a section
abbrev pub told_by : Counted → ShortSection → DeclaredRelocation → List ℕ
told_by counted s r = as_list (told_at counted (moves_in s) (kept_in s) (relocation_of r))

pub section_told : (counted : Counted) (s : ShortSection) → goes_to_text (section_of s.whole.now) ≡ true → flat_map (told_by counted s) s.whole.now.relocations.items ≡ told_section counted s
section_told counted s text =
    let own : Relocation → List ℕ = λ r. as_list (told_at counted (moves_in s) (kept_in s) r) in
    flat_map_composed own relocation_of s.whole.now.relocations.items
    ∙ sym (ap (λ b. if b then flat_map own (section_of s.whole.now).relocations else []) text)

abbrev pub told_in : Counted → ShortObject → List ℕ
told_in counted o = told_sections counted o.sections.items

abbrev pub text_in : ShortObject → List ShortSection
text_in o = planned_sections o.sections.items

-- by an offset
abbrev pub own_text : ShortSection → List ShortSection
own_text s = if goes_to_text (section_of s.whole.now) then s ∷ [] else []

abbrev pub stands : List ShortSection → Standing → ℕ
stands ss at = at.before + offset_among ss at.left

module _ {X : Type 0} (f : X → List ShortSection) (xs : List X) (i : ℕ) (x : X) (inside : i < length xs) (is : x ≡ get_or xs i x) (old now : Standing)
    (so_far : (more : List ShortSection) → stands (flat_map f (drop i xs) ++ more) now ≡ stands (flat_map f xs ++ more) old) where
  pub offset_passed : (new : Standing) → ((more : List ShortSection) → stands (f x ++ more) now ≡ stands more new) → (more : List ShortSection) → stands (flat_map f (drop (i + 1) xs) ++ more) new ≡ stands (flat_map f xs ++ more) old
  offset_passed new one more =
      sym (one (flat_map f (drop (i + 1) xs) ++ more)) ∙ sym (ap (λ l. stands l now) (one_ahead f xs i x inside is more)) ∙ so_far more

  pub offset_found : (n : ℕ) → ((more : List ShortSection) → stands (f x ++ more) now ≡ n) → (more : List ShortSection) → stands (flat_map f xs ++ more) old ≡ n
  offset_found n one more =
      sym (so_far more) ∙ ap (λ l. stands l now) (one_ahead f xs i x inside is more) ∙ one (flat_map f (drop (i + 1) xs) ++ more)

-- ---- the whole

pub at_index : (xs : List ℕ) (i n : ℕ) → slice_get (xs ++ []) i ≡ Some n → n ≡ slice_index xs i
at_index xs i n h = sym (get_or_from_slice_get xs i n 0 (ap (λ l. slice_get l i) (sym (append-nil xs)) ∙ h))

pub past_all : (xs : List ℕ) (i left : ℕ) → slice_get (xs ++ []) i ≡ slice_get [] left → 0 ≡ slice_index xs i
past_all xs i left h =
    let none : slice_get xs i ≡ None = ap (λ l. slice_get l i) (sym (append-nil xs)) ∙ h in
    sym (ap (λ o. unwrap_or o 0) none) ∙ unwrap_or-slice_get xs i 0

pub all_passed : (ss : List ShortSection) (old n : ℕ) → 0 + offset_among (ss ++ []) old ≡ n → n ≡ offset_among ss old
all_passed ss old n h =
    let whole = ap (λ l. offset_among l old) (append-nil ss) in
    omega (arith, h, whole)
