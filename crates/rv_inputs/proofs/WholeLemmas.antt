-- Offers stand in order, and are of objects.

use Rattle.std.proofs.Common.{◌≡◌, ◌⊎◌, inl, inr, ℕ, zero, suc, ◌+◌, ◌<◌, ◌≤◌, Bool, true, false, List, [], ◌∷◌, ◌++◌, length, map, Some, None, refl, sym, ap, subst, ◌∙◌, arith}
use Rattle.std.specs.Prelude.{Ok}
use Rattle.std.specs.List.{slice_get}
use Rattle.std.proofs.lemmas.List.{length-map}
use Rattle.rv_list_laws.proofs.MapLemmas.{get_unmap}
use Rattle.rv_archive_laws.specs.Index.{Entry}
use Rattle.rv_archive_laws.specs.Reads.{Archive, Reads}
use Rattle.rv_archive_laws.specs.Taken.{Offer}
use Rattle.rv_inputs.specs.Filed.{AreFiled, AreKnown}
use Rattle.rv_inputs.specs.declared.input.Form.{Form}
use Rattle.rv_inputs.specs.declared.input.Form.TheVariants as forms
use Rattle.rv_inputs.specs.declared.input.Input.{Input}
use Rattle.rv_inputs.specs.Gathered.{FiledObject, Gathering, no_files, next_group, with_object, member_object, entry_offer, with_archive, Adds, AddsFile, Gathers}
use Rattle.rv_inputs.specs.Whole.{IsInOrder}
use Rattle.rv_inputs.proofs.ArchiveLemmas.{AreWithin, index_within}

-- ---- elements of a list behind another

pub get_either : {X : Type 0} (xs ys : List X) (i : ℕ) (x : X) → slice_get (xs ++ ys) i ≡ Some x → ((i < length xs) × (slice_get xs i ≡ Some x)) ⊎ ((j : ℕ) × (i ≡ length xs + j) × (slice_get ys j ≡ Some x))
get_either [] ys i x here = inr (i, omega arith, here)
get_either (y ∷ xs) ys zero x here = inl (omega arith, here)
get_either (y ∷ xs) ys (suc i) x here =
    elim (get_either xs ys i x here) [
      | inl front ↦ inl (omega (arith, front.0), front.1)
      | inr back ↦ inr (back.0, omega (arith, back.1), back.2)
    ]

-- ---- offers of one file more

module _ (xs ys : List Offer) (filed : AreFiled xs) (low group file' group' : ℕ)
    (files : (i : ℕ) (o : Offer) → slice_get xs i ≡ Some o → o.file ≤ low) (groups : (i : ℕ) (o : Offer) → slice_get xs i ≡ Some o → o.group ≤ group)
    (file_up : low ≤ file') (group_up : group ≤ group')
    (at : (j : ℕ) (o : Offer) → slice_get ys j ≡ Some o → (o.file ≡ file') × (o.group ≡ group')) where
  pub filed_more : AreFiled (xs ++ ys)
  filed_more = record {
    files = λ i j x y le hx hy.
        elim (get_either xs ys i x hx) [
          | inl a ↦
              elim (get_either xs ys j y hy) [
                | inl b ↦ filed.files i j x y le a.1 b.1
                | inr b ↦ (let top = files i x a.1 in let is = (at b.0 y b.2).0 in omega (arith, top, is, file_up))
              ]
          | inr a ↦
              elim (get_either xs ys j y hy) [
                | inl b ↦ absurd (omega (arith, a.1, b.0, le))
                | inr b ↦ (let one = (at a.0 x a.2).0 in let is = (at b.0 y b.2).0 in omega (arith, one, is))
              ]
        ];
    groups = λ i j x y le hx hy.
        elim (get_either xs ys i x hx) [
          | inl a ↦
              elim (get_either xs ys j y hy) [
                | inl b ↦ filed.groups i j x y le a.1 b.1
                | inr b ↦ (let top = groups i x a.1 in let is = (at b.0 y b.2).1 in omega (arith, top, is, group_up))
              ]
          | inr a ↦
              elim (get_either xs ys j y hy) [
                | inl b ↦ absurd (omega (arith, a.1, b.0, le))
                | inr b ↦ (let one = (at a.0 x a.2).1 in let is = (at b.0 y b.2).1 in omega (arith, one, is))
              ]
        ];
  }

  pub files_more : (i : ℕ) (o : Offer) → slice_get (xs ++ ys) i ≡ Some o → o.file ≤ file'
  files_more i o here =
      elim (get_either xs ys i o here) [
        | inl a ↦ (let top = files i o a.1 in omega (arith, top, file_up))
        | inr b ↦ (let is = (at b.0 o b.2).0 in omega (arith, is))
      ]

  pub groups_more : (i : ℕ) (o : Offer) → slice_get (xs ++ ys) i ≡ Some o → o.group ≤ group'
  groups_more i o here =
      elim (get_either xs ys i o here) [
        | inl a ↦ (let top = groups i o a.1 in omega (arith, top, group_up))
        | inr b ↦ (let is = (at b.0 o b.2).1 in omega (arith, is))
      ]

known_more : (xs ys : List Offer) (n m : ℕ) → n ≤ m → AreKnown xs n → AreKnown ys m → AreKnown (xs ++ ys) m
known_more xs ys n m le known more i o here =
    elim (get_either xs ys i o here) [
      | inl a ↦ (let low = known i o a.1 in omega (arith, low, le))
      | inr b ↦ more b.0 o b.2
    ]

whole_more : (g : Gathering) (objects : List FiledObject) (offers : List Offer) (group n : ℕ) → IsInOrder g → g.group ≤ group → group ≤ g.files + 1 → n ≡ length objects → length g.objects ≤ n
    → ((j : ℕ) (o : Offer) → slice_get offers j ≡ Some o → (o.file ≡ g.files + 1) × (o.group ≡ group)) → AreKnown offers n
    → IsInOrder (record { objects = objects; offers = g.offers ++ offers; files = g.files + 1; group = group })
whole_more g objects offers group n whole up low is more at known = record {
  filed = filed_more g.offers offers whole.filed g.files g.group (g.files + 1) group whole.files whole.groups (omega arith) up at;
  known = λ i o here. (let below = known_more g.offers offers (length g.objects) n more whole.known known i o here in omega (arith, below, is));
  files = files_more g.offers offers whole.filed g.files g.group (g.files + 1) group whole.files whole.groups (omega arith) up at;
  groups = groups_more g.offers offers whole.filed g.files g.group (g.files + 1) group whole.files whole.groups (omega arith) up at;
  low = low;
}

group_by : (joins : Bool) (g : Gathering) → g.group ≤ g.files → (g.group ≤ next_group joins g) × (next_group joins g ≤ g.files + 1)
group_by true g low = (omega arith, omega (arith, low))
group_by false g low = (omega (arith, low), omega arith)

-- ---- an object, an archive

length_both : {X : Type 0} (xs ys : List X) → length (xs ++ ys) ≡ length xs + length ys
length_both [] ys = omega arith
length_both (x ∷ xs) ys = let rest = length_both xs ys in omega (arith, rest)

abbrev new_offer : Gathering → ℕ → Offer
new_offer g group = record { name = None; object = length g.objects; file = g.files + 1; group = group }

one_at : (g : Gathering) (group j : ℕ) (o : Offer) → slice_get (new_offer g group ∷ []) j ≡ Some o → (o.file ≡ g.files + 1) × (o.group ≡ group)
one_at g group zero o here = let same : new_offer g group ≡ o = cc in (sym (ap (λ (x : Offer). x.file) same), sym (ap (λ (x : Offer). x.group) same))
one_at g group (suc j) o here = absurd (cc)

new_is : (g : Gathering) (group : ℕ) (o : Offer) → slice_get (new_offer g group ∷ []) 0 ≡ Some o → new_offer g group ≡ o
new_is g group o here = cc

one_known : (g : Gathering) (group : ℕ) → AreKnown (new_offer g group ∷ []) (length g.objects + 1)
one_known g group zero o here = let same : length g.objects ≡ o.object = ap (λ (x : Offer). x.object) (new_is g group o here) in omega (arith, same)
one_known g group (suc j) o here = absurd (cc)

whole_object : (bytes : List ℕ) (group : ℕ) (g : Gathering) → IsInOrder g → g.group ≤ group → group ≤ g.files + 1 → IsInOrder (with_object bytes group g)
whole_object bytes group g whole up low =
    let long = length_both g.objects (record { file = g.files + 1; member = None; bytes = bytes } ∷ []) in
    whole_more g (g.objects ++ record { file = g.files + 1; member = None; bytes = bytes } ∷ []) (new_offer g group ∷ []) group (length g.objects + 1) whole up low (omega (arith, long)) (omega arith) (one_at g group) (one_known g group)

whole_archive : (bytes : List ℕ) (a : Archive) (group : ℕ) (g : Gathering) → Reads bytes (Ok a) → IsInOrder g → g.group ≤ group → group ≤ g.files + 1 → IsInOrder (with_archive a group g)
whole_archive bytes a group g reads whole up low =
    let long = length_both g.objects (map (member_object (g.files + 1)) a.members) in
    let count = length-map a.members (member_object (g.files + 1)) in
    whole_more g (g.objects ++ map (member_object (g.files + 1)) a.members) (map (entry_offer (length g.objects) (g.files + 1) group) a.index) group (length g.objects + length a.members) whole up low
    (omega (arith, long, count)) (omega arith)
    (λ j o here. (let u = get_unmap (entry_offer (length g.objects) (g.files + 1) group) a.index j o here in (sym (ap (λ (x : Offer). x.file) u.2), sym (ap (λ (x : Offer). x.group) u.2))))
    (λ j o here.
    (let u = get_unmap (entry_offer (length g.objects) (g.files + 1) group) a.index j o here in
    let below = index_within bytes a reads j u.0 u.1 in
    let is : length g.objects + u.0.member ≡ o.object = ap (λ (x : Offer). x.object) u.2 in
    omega (arith, below, is)))

subst_whole : (g to : Gathering) → g ≡ to → IsInOrder g → IsInOrder to
subst_whole g to is whole = subst IsInOrder is whole

adds_whole : (form : Form) (bytes : List ℕ) (group : ℕ) (from to : Gathering) → Adds form bytes group from to → IsInOrder from → from.group ≤ group → group ≤ from.files + 1 → IsInOrder to
adds_whole forms.Object bytes group from to is whole up low = subst_whole _ to (sym is) (whole_object bytes group from whole up low)
adds_whole forms.Archive bytes group from to adds whole up low = subst_whole _ to (sym adds.2) (whole_archive bytes adds.0 group from adds.1 whole up low)

-- ---- files one after another

whole_nothing : IsInOrder no_files
whole_nothing = record {
  filed = record { files = λ i j x y le hx hy. cc; groups = λ i j x y le hx hy. cc };
  known = λ i o here. cc;
  files = λ i o here. cc;
  groups = λ i o here. cc;
  low = omega arith;
}

whole_from : (inputs : List Input) (from to : Gathering) → Gathers inputs from to → IsInOrder from → IsInOrder to
whole_from [] from to is whole = subst_whole from to (sym is) whole
whole_from (x ∷ xs) from to gathers whole =
    let up = group_by x.joins from whole.low in
    whole_from xs gathers.0 to gathers.2 (adds_whole x.form x.bytes.now (next_group x.joins from) from gathers.0 gathers.1 whole up.0 up.1)

-- what files offer is in order
pub gathered_whole : (inputs : List Input) (to : Gathering) → Gathers inputs no_files to → IsInOrder to
gathered_whole inputs to gathers = whole_from inputs no_files to gathers whole_nothing
