-- Files whose objects are read one after another, up to the first with a fault.

use Rattle.std.proofs.Common.{◌≡◌, ℕ, Bool, ◌+◌, ◌<◌, List, [], ◌∷◌, length, take, drop, get_or, sym, ap, ◌∙◌, inr, Some, None}
use Rattle.std.specs.List.{AllByRecursion}
use Rattle.rv_fault.specs.declared.file_fault.FileFault.{FileFault}
use Rattle.rv_link_laws.specs.declared.bounds.Ground.{Ground}
use Rattle.rv_object_laws.specs.Object.{Object}
use Rattle.rv_object_file_laws.specs.FirstFault.{first_fault}
use Rattle.rv_fault.specs.declared.link_fault.LinkFault.{LinkFault}
use Rattle.rv_fault.specs.declared.link_fault.LinkFault.TheVariants as faults
use Rattle.rv_fault.specs.declared.fault.Fault.{Fault}
use Rattle.rv_fault.specs.declared.fault.Fault.TheVariants as cases
use Rattle.rv_fault.specs.Fault.{of_link}
use Rattle.rv_chain_laws.specs.Objects.{AreObjectsIn}
use Rattle.rv_chain.specs.LinkRefusals.{IsUnreadAt, IsFirstUnread, AreUnread, AreReadUnlinked, AreUnlinkable}
use Rattle.rv_chain.proofs.GatheredLemmas.{split_at, taken}

-- files that have objects have no fault
pub all_sound : (files : List (List ℕ)) (os : List Object) → AreObjectsIn files os → AllByRecursion (λ other. first_fault other ≡ None) files
all_sound [] os h = tt
all_sound (file ∷ files) [] h = absurd h
all_sound (file ∷ files) (o ∷ os) (one, h) = (one.0, all_sound files os h)

unread_there : (files : List (List ℕ)) (i : ℕ) (os : List Object) (fault : FileFault) (number : ℕ) → i < length files → AreObjectsIn (take i files) os
    → number ≡ i + 1 → first_fault (get_or files i []) ≡ Some fault → IsFirstUnread files number fault
unread_there files i os fault number h good is refused = record {
  before = take i files;
  file = get_or files i [];
  after = drop (i + 1) files;
  whole = split_at files i h;
  number_is = is ∙ ap (λ n. n + 1) (sym (taken files i h));
  sound = all_sound (take i files) os good;
  refused = refused;
}

-- a file is refused, and those before it have objects
pub unread_in : (files : List (List ℕ)) (i : ℕ) (os : List Object) (f : Fault) → i < length files → AreObjectsIn (take i files) os → IsUnreadAt (i + 1) (get_or files i []) f → AreUnread files f
unread_in files i os (cases.Source number fault) h good refused = refused
unread_in files i os (cases.File number fault) h good (named, is, refused) = (named, unread_there files i os fault number h good is refused)
unread_in files i os (cases.Link fault) h good refused = refused
unread_in files i os cases.Memory h good refused = tt

-- a refused link of the objects in files
pub link_unlinkable : (files : List (List ℕ)) (bounds : Ground) (relax gc : Bool) (fault : LinkFault) → AreReadUnlinked files bounds relax gc fault → AreUnlinkable files bounds relax gc (of_link fault)
link_unlinkable files bounds relax gc faults.OutOfMemory h = tt
link_unlinkable files bounds relax gc faults.Overflow h = (tt, inr h)
link_unlinkable files bounds relax gc faults.OddTarget h = (tt, inr h)
link_unlinkable files bounds relax gc faults.DanglingPcrel h = (tt, inr h)
link_unlinkable files bounds relax gc faults.AlignmentShort h = (tt, inr h)
link_unlinkable files bounds relax gc (faults.Undefined name) h = (tt, inr h)
link_unlinkable files bounds relax gc (faults.Duplicate name) h = (tt, inr h)
link_unlinkable files bounds relax gc faults.EntryMissing h = (tt, inr h)
link_unlinkable files bounds relax gc faults.ImageTooLarge h = (tt, inr h)
link_unlinkable files bounds relax gc faults.BadTextStart h = (tt, inr h)
link_unlinkable files bounds relax gc faults.TooManyFiles h = (tt, inr h)
