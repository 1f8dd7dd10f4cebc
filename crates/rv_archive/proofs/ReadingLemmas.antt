-- An archive by its parts: the index, the table of long names, and the members behind them.

use Rattle.std.proofs.Common.{◌≡◌, ℕ, Bool, true, false, cond, List, [], ◌∷◌, map, Option, Some, None, refl, sym, ap, subst, ◌∙◌}
use Rattle.std.specs.Prelude.{Result, Ok, Err}
use Rattle.std.specs.List.Sorted.{IsNonDecreasingBy}
use Rattle.rv_archive_laws.specs.declared.fault.ArchiveFault.{ArchiveFault}
use Rattle.rv_archive_laws.specs.Parts.{ArchivePart, FindsParts, magic_fault, magic_size}
use Rattle.rv_archive_laws.specs.Members as laws
use Rattle.rv_archive_laws.specs.Reads.{Archive, archive_of, indexed, ReadsBehind, Reads}
use Rattle.rv_archive.specs.declared.members.Member.{Member}
use Rattle.rv_archive.specs.declared.fault.ReadFault.{ReadFault}
use Rattle.rv_archive.specs.declared.fault.ReadFault.TheVariants.{Refused, OutOfMemory}
use Rattle.rv_archive.specs.View.{plain_member, IsFor}
use Rattle.rv_archive.proofs.PartsLemmas.{RiseFrom, rise_lower, row_rises}
use Rattle.rv_archive.proofs.PlacedLemmas.{members_rise, members_in_order}

-- ---- members stand in order

rise_by : (low : ℕ) (p : ArchivePart) (ps : List ArchivePart) (t : Bool) → RiseFrom low (p ∷ ps) → RiseFrom low (cond t ps (p ∷ ps))
rise_by low p ps true rise = rise_lower low p.place ps rise.0 rise.1
rise_by low p ps false rise = rise

rise_behind : (test : ArchivePart → Bool) (low : ℕ) (ps : List ArchivePart) → RiseFrom low ps → RiseFrom low (laws.behind_such test ps)
rise_behind test low [] rise = rise
rise_behind test low (p ∷ ps) rise = rise_by low p ps (test p) rise

pub in_order : (file table : List ℕ) (ps rest : List ArchivePart) (ms : List Member) → FindsParts file magic_size (Ok ps) → rest ≡ laws.member_parts ps → laws.members_of table rest ≡ Ok (map plain_member ms)
    → IsNonDecreasingBy (λ (m : Member). m.place) ms
in_order file table ps rest ms found is made =
    let rise = rise_behind laws.is_table magic_size (laws.behind_such laws.is_index ps) (rise_behind laws.is_index magic_size ps (row_rises file magic_size ps found.0 found.1)) in
    members_in_order magic_size ms (members_rise table magic_size rest (map plain_member ms) made (subst (RiseFrom magic_size) (sym is) rise))

-- ---- the whole

-- what is read, by what was found
pub reads_by : (file : List ℕ) (found : Result (List ArchivePart) ArchiveFault) (read : Result Archive ArchiveFault) → magic_fault file ≡ None → FindsParts file magic_size found → read ≡ archive_of found → Reads file read
reads_by file found read none finds is = subst (λ m. ReadsBehind file m read) (sym none) (found, finds, is)

pub refused_by : (file : List ℕ) (fault : ArchiveFault) → magic_fault file ≡ Some fault → Reads file (Err fault)
refused_by file fault is = subst (λ m. ReadsBehind file m (Err fault)) (sym is) refl

-- the archive of parts, of which these come first and these behind
pub archive_is : (ps rest behind : List ArchivePart) (index : Option ArchivePart) (table : List ℕ) (r : Result (List laws.Member) ArchiveFault)
    → index ≡ laws.first_such laws.is_index ps → rest ≡ laws.behind_such laws.is_index ps → table ≡ laws.bytes_if (laws.first_such laws.is_table rest) → behind ≡ laws.behind_such laws.is_table rest
    → laws.members_of table behind ≡ r → indexed index r ≡ archive_of (Ok ps)
archive_is ps rest behind index table r index_is rest_is table_is behind_is made =
    let table_of : table ≡ laws.table_of ps = table_is ∙ ap (λ xs. laws.bytes_if (laws.first_such laws.is_table xs)) rest_is in
    let parts_of : behind ≡ laws.member_parts ps = behind_is ∙ ap (laws.behind_such laws.is_table) rest_is in
    ap (λ i. indexed i r) index_is
    ∙ ap (indexed (laws.index_part ps)) (sym made ∙ (λ i. laws.members_of (table_of i) (parts_of i)))

pub index_refused : (index : Option ArchivePart) (fault : ArchiveFault) → indexed index (Err fault) ≡ Err fault
index_refused None fault = refl
index_refused (Some p) fault = refl

-- what holds of a fault
pub is_for_weaker : (refused : ReadFault) (P Q : ArchiveFault → Type 0) → ((fault : ArchiveFault) → P fault → Q fault) → IsFor refused P → IsFor refused Q
is_for_weaker (Refused fault) P Q weaker h = weaker fault h
is_for_weaker OutOfMemory P Q weaker h = tt
