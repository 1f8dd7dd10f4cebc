-- What an archive's index says: the members that it names are there.

use Rattle.std.proofs.Common.{◌≡◌, ℕ, zero, suc, ◌+◌, ◌*◌, ◌<◌, Bool, true, false, cond, List, [], ◌∷◌, length, drop, Option, Some, None, refl, sym, ap, subst}
use Rattle.std.specs.Prelude.{Result, Ok, Err, nat_lt, ◌==◌}
use Rattle.std.specs.List.{slice_get, position}
use Rattle.std.proofs.lemmas.List.Quantifiers.{position-Some}
use Rattle.rv_elf_laws.specs.Sections.{before_zero}
use Rattle.rv_archive_laws.specs.declared.fault.ArchiveFault.{ArchiveFault}
use Rattle.rv_archive_laws.specs.declared.fault.ArchiveFault.TheVariants.{BadIndex}
use Rattle.rv_archive_laws.specs.Outcomes.{joined}
use Rattle.rv_archive_laws.specs.Parts.{ArchivePart, magic_fault}
use Rattle.rv_archive_laws.specs.Members.{Member, members_of, member_parts, table_of, index_part}
use Rattle.rv_archive_laws.specs.Index.{Entry, index_number, member_placed, index_entry, behind_name, entries_from, entries_in, index_of, width_of}
use Rattle.rv_archive_laws.specs.Reads.{Archive, with_entries, indexed, archive_of, ReadsBehind, Reads}

-- each entry names one of so many members
abbrev pub AreWithin : ℕ → List Entry → Type 0
AreWithin n es = (i : ℕ) (e : Entry) → slice_get es i ≡ Some e → e.member < n

none_within : (n : ℕ) → AreWithin n []
none_within n i e here = cc

one_more : (n : ℕ) (x : Entry) (xs : List Entry) → x.member < n → AreWithin n xs → AreWithin n (x ∷ xs)
one_more n x xs first rest zero e here = let same : x ≡ e = cc in subst (λ (y : Entry). y.member < n) same first
one_more n x xs first rest (suc i) e here = rest i e here

joined_within : (n : ℕ) (r : Result Entry ArchiveFault) (s : Result (List Entry) ArchiveFault) (es : List Entry)
    → ((e : Entry) → r ≡ Ok e → e.member < n) → ((xs : List Entry) → s ≡ Ok xs → AreWithin n xs) → joined r s ≡ Ok es → AreWithin n es
joined_within n (Err fault) s es first rest is = cc
joined_within n (Ok x) (Err fault) es first rest is = cc
joined_within n (Ok x) (Ok xs) es first rest is =
    let same : x ∷ xs ≡ es = cc in subst (AreWithin n) same (one_more n x xs (first x refl) (rest xs refl))

placed_below : (ms : List Member) (place k : ℕ) (d : Member) → member_placed ms place ≡ Some k → k < length ms
placed_below ms place k d is = (position-Some (λ (m : Member). m.place == place) ms k d is).0

no_member : Member
no_member = record { name = []; place = 0; bytes = [] }

entry_by : (ms : List Member) (place : ℕ) (name : Option (List ℕ)) (member : Option ℕ) (e : Entry) → member_placed ms place ≡ member → index_entry name member ≡ Ok e → e.member < length ms
entry_by ms place None member e at is = cc
entry_by ms place (Some name) None e at is = cc
entry_by ms place (Some name) (Some k) e at is =
    let made : Entry = record { name = name; member = k } in
    let same : made ≡ e = cc in
    subst (λ (y : Entry). y.member < length ms) same (placed_below ms place k no_member at)

from_within : (width : ℕ) (bytes : List ℕ) (ms : List Member) (count i : ℕ) (names : List ℕ) (es : List Entry) → entries_from width bytes ms count i names ≡ Ok es → AreWithin (length ms) es
from_within width bytes ms zero i names es is = let same : [] ≡ es = cc in subst (AreWithin (length ms)) same (none_within (length ms))
from_within width bytes ms (suc count) i names es is =
    joined_within (length ms) (index_entry (before_zero names) (member_placed ms (index_number width i bytes)))
    (entries_from width bytes ms count (i + 1) (behind_name names (before_zero names))) es
    (λ e made. entry_by ms (index_number width i bytes) (before_zero names) (member_placed ms (index_number width i bytes)) e refl made)
    (λ xs rest. from_within width bytes ms count (i + 1) (behind_name names (before_zero names)) xs rest) is

past_test : (b : Bool) (r : Result (List Entry) ArchiveFault) (es : List Entry) → cond b (Err BadIndex) r ≡ Ok es → r ≡ Ok es
past_test true r es is = cc
past_test false r es is = is

in_within : (width : ℕ) (bytes : List ℕ) (ms : List Member) (es : List Entry) → entries_in width bytes ms ≡ Ok es → AreWithin (length ms) es
unfolding entries_in
in_within width bytes ms es is =
    let count = index_number width 0 bytes in
    from_within width bytes ms count 1 (drop (width * (count + 1)) bytes) es
    (past_test (nat_lt (length bytes) (width * (count + 1))) (entries_from width bytes ms count 1 (drop (width * (count + 1)) bytes)) es is)

of_entries : (p : ArchivePart) (ms : List Member) (r : Result (List Entry) ArchiveFault) (a : Archive) → index_of p ms ≡ r → Ok a ≡ with_entries ms r → AreWithin (length a.members) a.index
of_entries p ms (Err fault) a at is = cc
of_entries p ms (Ok es) a at is =
    let made : Archive = record { members = ms; index = es } in
    let same : made ≡ a = cc in
    subst (λ (x : Archive). AreWithin (length x.members) x.index) same (in_within (width_of p) p.bytes ms es at)

of_indexed : (p : Option ArchivePart) (r : Result (List Member) ArchiveFault) (a : Archive) → Ok a ≡ indexed p r → AreWithin (length a.members) a.index
of_indexed None (Err fault) a is = cc
of_indexed (Some p) (Err fault) a is = cc
of_indexed None (Ok []) a is =
    let made : Archive = record { members = []; index = [] } in
    let same : made ≡ a = cc in
    subst (λ (x : Archive). AreWithin (length x.members) x.index) same (none_within 0)
of_indexed None (Ok (m ∷ ms)) a is = cc
of_indexed (Some p) (Ok ms) a is = of_entries p ms (index_of p ms) a refl is

of_found : (found : Result (List ArchivePart) ArchiveFault) (a : Archive) → Ok a ≡ archive_of found → AreWithin (length a.members) a.index
of_found (Err fault) a is = cc
of_found (Ok ps) a is = of_indexed (index_part ps) (members_of (table_of ps) (member_parts ps)) a is

behind_by : (file : List ℕ) (m : Option ArchiveFault) (a : Archive) → ReadsBehind file m (Ok a) → AreWithin (length a.members) a.index
behind_by file (Some fault) a read = cc
behind_by file None a read = of_found read.0 a read.2

-- the members that an index names are there
pub index_within : (file : List ℕ) (a : Archive) → Reads file (Ok a) → AreWithin (length a.members) a.index
index_within file a read = behind_by file (magic_fault file) a read
