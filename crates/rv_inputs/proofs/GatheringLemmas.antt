-- What files offer, one file after another.

use Rattle.std.proofs.Common.{◌≡◌, ℕ, ◌+◌, ◌<◌, List, [], ◌∷◌, ◌++◌, length, get_or, map, take, None, refl, sym, ap, subst, ◌∙◌, append_assoc, arith}
use Rattle.std.specs.List.{slice_get}
use Rattle.std.proofs.lemmas.List.{map-append}
use Rattle.rv_list_laws.proofs.ElementsLemmas.{get_index_or}
use Rattle.rv_list_laws.proofs.TakeDropLemmas.{take_next}
use Rattle.rv_archive_laws.specs.Reads.{Archive}
use Rattle.rv_archive_laws.specs.Taken.{Offer}
use Rattle.rv_inputs.specs.declared.fault.InputFault.{InputFault}
use Rattle.rv_inputs.specs.declared.fault.InputFault.TheVariants as faults
use Rattle.rv_inputs.specs.declared.input.Form.{Form}
use Rattle.rv_inputs.specs.declared.input.Form.TheVariants as forms
use Rattle.rv_inputs.specs.declared.input.Input.{Input}
use Rattle.rv_inputs.specs.Gathered.{Gathering, no_files, with_object, member_object, entry_offer, with_archive, Adds, AddsFile, Gathers}
use Rattle.rv_inputs.specs.Taken.{IsNotAdded, IsInputRefused}

gathers_more : (xs : List Input) (from mid to : Gathering) (x : Input) → Gathers xs from mid → AddsFile x mid to → Gathers (xs ++ x ∷ []) from to
gathers_more [] from mid to x is adds = (to, subst (λ (g : Gathering). AddsFile x g to) is adds, refl)
gathers_more (y ∷ xs) from mid to x gathers adds = (gathers.0, gathers.1, gathers_more xs gathers.0 mid to x gathers.2 adds)

-- one file more
pub gathers_next : (inputs : List Input) (i : ℕ) (d : Input) (mid to : Gathering) → i < length inputs → Gathers (take i inputs) no_files mid → AddsFile (get_or inputs i d) mid to → Gathers (take (i + 1) inputs) no_files to
gathers_next inputs i d mid to less gathers adds =
    subst (λ (xs : List Input). Gathers xs no_files to) (sym (take_next inputs i (get_or inputs i d) (get_index_or inputs i d less)))
    (gathers_more (take i inputs) no_files mid to (get_or inputs i d) gathers adds)

adds_files_by : (form : Form) (bytes : List ℕ) (group : ℕ) (from to : Gathering) → Adds form bytes group from to → to.files ≡ from.files + 1
adds_files_by forms.Object bytes group from to is = ap (λ (g : Gathering). g.files) is
adds_files_by forms.Archive bytes group from to adds = ap (λ (g : Gathering). g.files) adds.2

pub adds_files : (x : Input) (from to : Gathering) → AddsFile x from to → to.files ≡ from.files + 1
adds_files x from to adds = adds_files_by x.form x.bytes.now _ from to adds

-- a file that is not added
pub refused_at : (inputs : List Input) (i : ℕ) (d : Input) (g : Gathering) (fault : InputFault) → i < length inputs → Gathers (take i inputs) no_files g → IsNotAdded i (get_or inputs i d).bytes.now fault → IsInputRefused inputs fault
refused_at inputs i d g (faults.Archive file fault) less gathers refused = record {
  before = i;
  input = get_or inputs i d;
  there = get_index_or inputs i d less;
  gathering = g;
  gathers = gathers;
  refused = refused;
}
refused_at inputs i d g (faults.Object object fault) less gathers refused = absurd refused
refused_at inputs i d g faults.OutOfMemory less gathers refused = tt

-- ---- what a file adds

-- a list that grows as what is left of another one shrinks
pub map_next : {X Y Z W : Type 0} (f : X → Z) (h : Y → W) (g : W → Z) (out new : List X) (x : X) (old : List Z) (ys : List Y) (i : ℕ) (d : Y) → i < length ys → new ≡ out ++ x ∷ [] → f x ≡ g (h (get_or ys i d))
    → map f out ≡ old ++ map g (map h (take i ys)) → map f new ≡ old ++ map g (map h (take (i + 1) ys))
map_next f h g out new x old ys i d less pushed same is =
    ap (map f) pushed ∙ map-append f out (x ∷ [])
    ∙ ap (λ zs. zs ++ f x ∷ []) is
    ∙ append_assoc old (map g (map h (take i ys))) (f x ∷ [])
    ∙ ap (λ z. old ++ (map g (map h (take i ys)) ++ z ∷ [])) same
    ∙ ap (λ zs. old ++ zs) (sym (ap (λ l. map g (map h l)) (take_next ys i (get_or ys i d) (get_index_or ys i d less)) ∙ ap (map g) (map-append h (take i ys) (get_or ys i d ∷ [])) ∙ map-append g (map h (take i ys)) (h (get_or ys i d) ∷ [])))

pub object_added : (bytes : List ℕ) (group : ℕ) (from to : Gathering) → to.objects ≡ from.objects ++ record { file = from.files + 1; member = None; bytes = bytes } ∷ []
    → to.offers ≡ from.offers ++ record { name = None; object = length from.objects; file = from.files + 1; group = group } ∷ [] → to.files ≡ from.files + 1 → to.group ≡ group → to ≡ with_object bytes group from
object_added bytes group from to objects offers files group_is = λ i. record { objects = objects i; offers = offers i; files = files i; group = group_is i }

pub archive_added : (a : Archive) (group first : ℕ) (from to : Gathering) → first ≡ length from.objects → to.objects ≡ from.objects ++ map (member_object (from.files + 1)) a.members
    → to.offers ≡ from.offers ++ map (entry_offer first (from.files + 1) group) a.index → to.files ≡ from.files + 1 → to.group ≡ group → to ≡ with_archive a group from
archive_added a group first from to first_is objects offers files group_is =
    let offered : to.offers ≡ from.offers ++ map (entry_offer (length from.objects) (from.files + 1) group) a.index =
    offers ∙ ap (λ n. from.offers ++ map (entry_offer n (from.files + 1) group) a.index) first_is in
    λ i. record { objects = objects i; offers = offered i; files = files i; group = group_is i }
