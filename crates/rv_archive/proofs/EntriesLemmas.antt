-- The entries of an index, one after another.

use Rattle.std.proofs.Common.{◌≡◌, ℕ, suc, ◌+◌, ◌-◌, ◌*◌, ◌<◌, ◌≤◌, Bool, true, false, cond, List, [], ◌∷◌, ◌++◌, length, take, drop, Option, Some, None, refl, sym, ap, ◌∙◌, arith}
use Rattle.std.specs.Prelude.{Result, Ok, Err, option_map, ◌==◌, nat_lt}
use Rattle.std.proofs.lemmas.Bool.{lt-ltb, le-ltb}
use Rattle.std.proofs.Math.Nat.{mul-le-mul_left, mul-add}
use Rattle.rv_list_laws.proofs.TakeDropLemmas.{drop_zero}
use Rattle.rv_elf_laws.specs.Sections.{before_zero, string_at}
use Rattle.rv_archive_laws.specs.declared.fault.ArchiveFault.{ArchiveFault}
use Rattle.rv_archive_laws.specs.declared.fault.ArchiveFault.TheVariants.{BadIndex}
use Rattle.rv_archive_laws.specs.Members.{Member}
use Rattle.rv_archive_laws.specs.Index.{Entry, index_entry, index_number, member_placed, behind_name, entries_from, entries_by, entries_in}
use Rattle.rv_archive_laws.specs.Outcomes.{joined}
use Rattle.rv_archive.proofs.NamesLemmas.{rest_is}
use Rattle.rv_archive.proofs.OutcomesLemmas.{with_front, front_more, front_none, front_done}

-- ---- the name at the front

within_by : (byte : ℕ) (bytes : List ℕ) (t : Bool) (r : Option (List ℕ)) → ((n : List ℕ) → r ≡ Some n → length n < length bytes) → (name : List ℕ)
    → cond t (Some []) (option_map (λ n. byte ∷ n) r) ≡ Some name → length name < length (byte ∷ bytes)
within_by byte bytes true r rest name is = let same : [] ≡ name = cc in omega (arith, ap length same)
within_by byte bytes false None rest name is = cc
within_by byte bytes false (Some n) rest name is = let same : byte ∷ n ≡ name = cc in omega (arith, rest n refl, ap length same)

-- its zero byte stands behind it
pub name_within : (bytes name : List ℕ) → before_zero bytes ≡ Some name → length name < length bytes
name_within [] name is = cc
name_within (byte ∷ bytes) name is = within_by byte bytes (byte == 0) (before_zero bytes) (name_within bytes) name is

pub entry_named : (o : Option (List ℕ)) (p : Option ℕ) (e : Entry) → index_entry o p ≡ Ok e → o ≡ Some e.name
entry_named None p e is = cc
entry_named (Some name) None e is = cc
entry_named (Some name) (Some member) e is =
    let made : Entry = record { name = name; member = member } in
    let same : made ≡ e = cc in ap (λ (x : Entry). Some x.name) same

-- ---- no entry yet

pub entries_first : (width : ℕ) (bytes : List ℕ) (ms : List Member) (count : ℕ) (names : List ℕ) (done : List Entry) → done ≡ []
    → with_front done (entries_from width bytes ms (count - 0) 1 names) ≡ entries_from width bytes ms count 1 names
entries_first width bytes ms count names done none =
    let all : count - 0 ≡ count = omega arith in
    ap (λ d. with_front d (entries_from width bytes ms (count - 0) 1 names)) none
    ∙ front_none (entries_from width bytes ms (count - 0) 1 names)
    ∙ ap (λ n. entries_from width bytes ms n 1 names) all

-- ---- one entry more

-- what is left, by its first entry
pub entries_next : (width : ℕ) (bytes : List ℕ) (ms : List Member) (count i : ℕ) (names : List ℕ) → i < count
    → entries_from width bytes ms (count - i) (i + 1) names
    ≡ joined (index_entry (before_zero names) (member_placed ms (index_number width (i + 1) bytes))) (entries_from width bytes ms (count - (i + 1)) (i + 1 + 1) (behind_name names (before_zero names)))
entries_next width bytes ms count i names less =
    let fewer : count - i ≡ suc (count - (i + 1)) = omega (arith, less) in
    ap (λ n. entries_from width bytes ms n (i + 1) names) fewer

pub entries_more : (width : ℕ) (bytes : List ℕ) (ms : List Member) (count i : ℕ) (names behind : List ℕ) (done new : List Entry) (e : Entry) (whole : Result (List Entry) ArchiveFault)
    → i < count → index_entry (before_zero names) (member_placed ms (index_number width (i + 1) bytes)) ≡ Ok e
    → behind ≡ take (length names - (length e.name + 1)) (drop (length e.name + 1) names) → new ≡ done ++ e ∷ []
    → with_front done (entries_from width bytes ms (count - i) (i + 1) names) ≡ whole
    → with_front new (entries_from width bytes ms (count - (i + 1)) (i + 1 + 1) behind) ≡ whole
entries_more width bytes ms count i names behind done new e whole less made after is so =
    let found = entry_named (before_zero names) (member_placed ms (index_number width (i + 1) bytes)) e made in
    let same : behind ≡ behind_name names (before_zero names) = after ∙ rest_is names (length e.name + 1) ∙ sym (ap (behind_name names) found) in
    let rest = entries_from width bytes ms (count - (i + 1)) (i + 1 + 1) (behind_name names (before_zero names)) in
    ap (λ b. with_front new (entries_from width bytes ms (count - (i + 1)) (i + 1 + 1) b)) same
    ∙ front_more done new e rest is
    ∙ ap (λ r. with_front done (joined r rest)) (sym made)
    ∙ ap (with_front done) (sym (entries_next width bytes ms count i names less)) ∙ so

pub entries_refused : (width : ℕ) (bytes : List ℕ) (ms : List Member) (count i : ℕ) (names : List ℕ) (done : List Entry) (fault : ArchiveFault) (whole : Result (List Entry) ArchiveFault)
    → i < count → index_entry (before_zero names) (member_placed ms (index_number width (i + 1) bytes)) ≡ Err fault
    → with_front done (entries_from width bytes ms (count - i) (i + 1) names) ≡ whole → whole ≡ Err fault
entries_refused width bytes ms count i names done fault whole less made so =
    let rest = entries_from width bytes ms (count - (i + 1)) (i + 1 + 1) (behind_name names (before_zero names)) in
    sym so ∙ ap (with_front done) (entries_next width bytes ms count i names less) ∙ ap (λ r. with_front done (joined r rest)) made

pub entries_done : (width : ℕ) (bytes : List ℕ) (ms : List Member) (count i : ℕ) (names : List ℕ) (done : List Entry) (whole : Result (List Entry) ArchiveFault)
    → count ≤ i → with_front done (entries_from width bytes ms (count - i) (i + 1) names) ≡ whole → whole ≡ Ok done
entries_done width bytes ms count i names done whole past so =
    let none : count - i ≡ 0 = omega (arith, past) in
    front_done done whole (ap (λ n. with_front done (entries_from width bytes ms n (i + 1) names)) (sym none) ∙ so)

-- ---- all entries

all_by : (width : ℕ) (bytes : List ℕ) (ms : List Member) (count : ℕ) (t : Bool) → nat_lt (length bytes) (width * (count + 1)) ≡ t
    → entries_by width bytes ms count ≡ cond t (Err BadIndex) (entries_from width bytes ms count 1 (drop (width * (count + 1)) bytes))
all_by width bytes ms count t test = rw test refl

pub all_entries : (width : ℕ) (bytes : List ℕ) (ms : List Member) (count : ℕ) → count ≡ index_number width 0 bytes → width * (count + 1) ≤ length bytes
    → entries_in width bytes ms ≡ entries_from width bytes ms count 1 (take (length bytes - width * (count + 1)) (drop (width * (count + 1)) bytes))
unfolding entries_in
all_entries width bytes ms count is within =
    ap (entries_by width bytes ms) (sym is) ∙ all_by width bytes ms count false (le-ltb _ _ within)
    ∙ ap (entries_from width bytes ms count 1) (sym (rest_is bytes (width * (count + 1))))

pub too_many : (width : ℕ) (bytes : List ℕ) (ms : List Member) → length bytes < width * (index_number width 0 bytes + 1) → entries_in width bytes ms ≡ Err BadIndex
unfolding entries_in
too_many width bytes ms past = all_by width bytes ms (index_number width 0 bytes) true (lt-ltb _ _ past)

-- ---- numbers lie in the index

pub numbers_within : (width count i n : ℕ) → i < count → width * (count + 1) ≤ n → width * (i + 1) + width ≤ n
numbers_within width count i n less within =
    let le : width * (i + 1 + 1) ≤ width * (count + 1) = mul-le-mul_left width (omega (arith, less)) in
    let sum = mul-add width (i + 1) 1 in
    let one : width * 1 ≡ width = omega arith in
    omega (arith, le, sum, one, within)

-- ---- an entry by its parts

front_is : (names : List ℕ) (o : Option (List ℕ)) → string_at names 0 ≡ o → before_zero names ≡ o
front_is names o is = ap before_zero (sym (drop_zero names)) ∙ is

pub no_name : (names : List ℕ) (member : Option ℕ) → string_at names 0 ≡ None → index_entry (before_zero names) member ≡ Err BadIndex
no_name names member none = ap (λ o. index_entry o member) (front_is names None none)

pub no_member : (names name : List ℕ) (member : Option ℕ) → string_at names 0 ≡ Some name → member ≡ None → index_entry (before_zero names) member ≡ Err BadIndex
no_member names name member is none = ap (λ o. index_entry o member) (front_is names (Some name) is) ∙ ap (index_entry (Some name)) none

pub one_entry : (names name : List ℕ) (member : Option ℕ) (k : ℕ) → string_at names 0 ≡ Some name → member ≡ Some k → index_entry (before_zero names) member ≡ Ok (record { name = name; member = k })
one_entry names name member k is at = ap (λ o. index_entry o member) (front_is names (Some name) is) ∙ ap (index_entry (Some name)) at

-- its name and the zero byte behind it lie in the names
pub entry_within : (names : List ℕ) (p : Option ℕ) (e : Entry) → index_entry (before_zero names) p ≡ Ok e → length e.name < length names
entry_within names p e is = name_within names e.name (entry_named (before_zero names) p e is)
