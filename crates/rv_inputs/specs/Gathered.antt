-- What files of a link offer: objects by their numbers, and the names for which they are taken.

use Rattle.std.specs.Prelude.{◌≡◌, ℕ, ◌+◌, Bool, List, [], ◌∷◌, ◌++◌, length, map, Option, None, Some, Ok, if◌then◌else◌}
use Rattle.rv_archive_laws.specs.Index.{Entry}
use Rattle.rv_archive_laws.specs.Members.{Member}
use Rattle.rv_archive_laws.specs.Reads.{Archive, Reads}
use Rattle.rv_archive_laws.specs.Taken.{Offer}
use Rattle.rv_inputs.specs.declared.input.Form.{Form}
use Rattle.rv_inputs.specs.declared.input.Form.TheVariants as forms
use Rattle.rv_inputs.specs.declared.input.Input.{Input}

-- an object that a file offers: the file, by its number from 1; its name, if it is a member of an
-- archive; and its bytes
pub record FiledObject : Type 0 where
  pub file : ℕ
  pub member : Option (List ℕ)
  pub bytes : List ℕ

-- what some files offer: objects, in the order of their numbers, from 0; the offers; how many files
-- these are; and the group of the last one, which has the number of its first file
pub record Gathering : Type 0 where
  pub objects : List FiledObject
  pub offers : List Offer
  pub files : ℕ
  pub group : ℕ

abbrev pub no_files : Gathering
no_files = record { objects = []; offers = []; files = 0; group = 0 }

-- the group of the next file, which may join that of the last one
abbrev pub next_group : Bool → Gathering → ℕ
next_group joins g = if joins then g.group else g.files + 1

-- with one file more, an object, which is taken without a name
abbrev pub with_object : List ℕ → ℕ → Gathering → Gathering
with_object bytes group g = record {
  objects = g.objects ++ record { file = g.files + 1; member = None; bytes = bytes } ∷ [];
  offers = g.offers ++ record {
    name = None;
    object = length g.objects;
    file = g.files + 1;
    group = group;
  } ∷ [];
  files = g.files + 1;
  group = group;
}

-- a member of the archive that is the file of a number
abbrev pub member_object : ℕ → Member → FiledObject
member_object file m = record { file = file; member = Some m.name; bytes = m.bytes }

-- what an entry of an index offers, where the members of the archive have numbers from one on
abbrev pub entry_offer : ℕ → ℕ → ℕ → Entry → Offer
entry_offer first file group e =
    record { name = Some e.name; object = first + e.member; file = file; group = group }

-- with one file more, an archive
abbrev pub with_archive : Archive → ℕ → Gathering → Gathering
with_archive a group g = record {
  objects = g.objects ++ map (member_object (g.files + 1)) a.members;
  offers = g.offers ++ map (entry_offer (length g.objects) (g.files + 1) group) a.index;
  files = g.files + 1;
  group = group;
}

abbrev pub Adds : Form → List ℕ → ℕ → Gathering → Gathering → Type 0
Adds forms.Object bytes group from to = to ≡ with_object bytes group from
Adds forms.Archive bytes group from to =
    (a : Archive) × Reads bytes (Ok a) × (to ≡ with_archive a group from)

-- a file more
abbrev pub AddsFile : Input → Gathering → Gathering → Type 0
AddsFile i from to = Adds i.form i.bytes.now (next_group i.joins from) from to

-- files more, one after another
abbrev pub Gathers : List Input → Gathering → Gathering → Type 0
Gathers [] from to = to ≡ from
Gathers (i ∷ is) from to = (next : Gathering) × AddsFile i from next × Gathers is next to
