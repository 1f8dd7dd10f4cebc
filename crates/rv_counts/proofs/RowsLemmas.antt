-- The sums over the rows of a table, with one event more.

use Rattle.std.proofs.Common.{◌≡◌, ℕ, ◌+◌, ◌<◌, ◌^◌, Bool, true, false, ◌&&◌, List, [], ◌∷◌, ◌++◌, ◌⊎◌, inl, inr, length, set, get_or, if◌then◌else◌, refl, sym, ap, ◌∙◌, subst, arith, length-append}
use Rattle.std.specs.Prelude.{Some}
use Rattle.std.proofs.Math.Seq.{get_or-append_seam}
use Rattle.std.proofs.lemmas.List.Elements.{All-push, All-set}
use Rattle.std.proofs.lemmas.List.Sums.{sum_by-append, sum_by-set, get_or-le-sum_by}
use Rattle.rv_isa.specs.declared.instruction.Inst.{Inst}
use Rattle.rv_counts.specs.declared.rows.CountedInstruction.{CountedInstruction}
use Rattle.rv_counts.specs.declared.rows.Done.{Done}
use Rattle.rv_counts.specs.Kinds.{more}
use Rattle.rv_counts.specs.Totals.{one_if}
use Rattle.rv_counts.specs.Rows.{counted_if, sum_of, no_row, with_done, AreSpelled, HasOneMore, IsDoneAt, IsNoted, IsFoundAt, IsRowOf, IsSpelled, IsWithin}
use Rattle.rv_isa_laws.specs.Reader.{Reader}
use Rattle.rv_isa_laws.specs.Run.{Got}
use Rattle.rv_isa_laws.specs.Word.{Spells}
use Rattle.rv_parcel.specs.Parcel.{StandsFor}
use Rattle.rv_machine.specs.Fetch.{fetched_of, spelled_at}
use Rattle.rv_machine.specs.declared.fetch.Fetched.{Fetched as CodeFetched}
use Rattle.rv_machine.specs.declared.fetch.Fetched.TheVariants as code
use Rattle.rv_counts.proofs.CountedLemmas.{one_if-le}

abbrev pub all : ℕ → Inst → Bool
all pc inst = true

abbrev pub if_of : Bool → ℕ → ℕ
if_of b n = if b then n else 0

if-zero : (b : Bool) → if_of b 0 ≡ 0
if-zero true = refl
if-zero false = refl

if-sum : (b : Bool) (m n : ℕ) → if_of b (m + n) ≡ if_of b m + if_of b n
if-sum true m n = refl
if-sum false m n = refl

if-and : (b c : Bool) → if_of b (one_if c) ≡ one_if (b && c)
if-and true c = refl
if-and false c = refl

-- a new row, of which nothing is counted, changes no sum
pub found_same : (test : ℕ → Inst → Bool) (count : CountedInstruction → ℕ) (pc : ℕ) (inst : Inst) (before after : List CountedInstruction) → ((bits bytes : ℕ) → count (no_row pc bits inst bytes) ≡ 0) → ((after ≡ before) ⊎ ((bits bytes : ℕ) × (after ≡ before ++ (no_row pc bits inst bytes ∷ [])))) → sum_of test count after ≡ sum_of test count before
found_same test count pc inst before after none (inl same) = ap (λ rows. sum_of test count rows) same
found_same test count pc inst before after none (inr added) =
    let new : CountedInstruction = no_row pc added.0 inst added.1 in
    let apart = sum_by-append (counted_if test count) before (new ∷ []) in
    let zero : if_of (test pc inst) (count new) ≡ 0 = ap (λ n. if_of (test pc inst) n) (none added.0 added.1) ∙ if-zero (test pc inst) in
    let joined : sum_of test count after ≡ sum_of test count (before ++ (new ∷ [])) = ap (λ rows. sum_of test count rows) added.2 in
    omega (arith, apart, zero, joined)

-- a row that counts one more adds as much to the sums of the tests that it passes
row_more : (test : ℕ → Inst → Bool) (count : CountedInstruction → ℕ) (rows : List CountedInstruction) (i : ℕ) (row new : CountedInstruction) → i < length rows → get_or rows i row ≡ row → new.pc ≡ row.pc → new.inst ≡ row.inst → (one : Bool) → count new ≡ more (count row) (one_if one) → sum_of all count rows + 1 < 2 ^ 64 → sum_of test count (set rows i new) ≡ sum_of test count rows + one_if (test row.pc row.inst && one)
row_more test count rows i row new below stands place instruction one counts fits =
    let passes : test new.pc new.inst ≡ test row.pc row.inst = ap (λ (pc : ℕ). test pc new.inst) place ∙ ap (λ (i : Inst). test row.pc i) instruction in
    let least = get_or-le-sum_by (counted_if all count) rows i row below in
    let at_row : count (get_or rows i row) ≡ count row = ap count stands in
    let plain : count new ≡ count row + one_if one = omega (arith, one_if-le one) in
    let terms = sum_by-set (counted_if test count) rows i new row below in
    let old : counted_if test count (get_or rows i row) ≡ if_of (test row.pc row.inst) (count row) = ap (counted_if test count) stands in
    let next : counted_if test count new ≡ if_of (test row.pc row.inst) (count row) + one_if (test row.pc row.inst && one) =
    ap (λ (b : Bool). if_of b (count new)) passes ∙ ap (λ (n : ℕ). if_of (test row.pc row.inst) n) plain ∙ if-sum (test row.pc row.inst) (count row) (one_if one) ∙ ap (λ (n : ℕ). if_of (test row.pc row.inst) (count row) + n) (if-and (test row.pc row.inst) one) in
    omega (arith, terms, old, next)

-- so does a step that is counted
pub sum_more : (test : ℕ → Inst → Bool) (count : CountedInstruction → ℕ) (one : Bool) (before after : List CountedInstruction) (pc : ℕ) (inst : Inst) (done : Done) → ((bits bytes : ℕ) → count (no_row pc bits inst bytes) ≡ 0) → ((row : CountedInstruction) → count (with_done row done) ≡ more (count row) (one_if one)) → HasOneMore before after pc inst done → sum_of all count before + 1 < 2 ^ 64 → sum_of test count after ≡ sum_of test count before + one_if (test pc inst && one)
sum_more test count one before after pc inst done none counts has fits =
    let f = has.is_found in
    let same = found_same test count pc inst before has.found none f.kept in
    let same_all = found_same all count pc inst before has.found none f.kept in
    let fits' : sum_of all count has.found + 1 < 2 ^ 64 = omega arith in
    let more_here = row_more test count has.found has.index f.row (with_done f.row done) f.below f.stands refl refl one (counts f.row) fits' in
    let passes : test f.row.pc f.row.inst ≡ test pc inst = ap (λ (pc : ℕ). test pc f.row.inst) f.place ∙ ap (λ (i : Inst). test pc i) f.instruction in
    let now : sum_of test count after ≡ sum_of test count (set has.found has.index (with_done f.row done)) = ap (λ rows. sum_of test count rows) has.changed in
    let term : one_if (test f.row.pc f.row.inst && one) ≡ one_if (test pc inst && one) = ap (λ (b : Bool). one_if (b && one)) passes in
    omega (arith, now, more_here, same, term)

-- ---- what was found

pub within_of : (before after : List CountedInstruction) (index pc : ℕ) (fetched : CodeFetched) → IsRowOf before after index pc fetched → IsWithin after index fetched
within_of before after index pc (code.Got i bytes) place = place.below
within_of before after index pc code.NoRight place = tt
within_of before after index pc code.NoInstruction place = tt

-- of an instruction
pub within_got : (rows : List CountedInstruction) (index : ℕ) (fetched : CodeFetched) (i : Inst) (bytes : ℕ) → fetched ≡ code.Got i bytes → IsWithin rows index fetched → index < length rows
within_got rows index fetched i bytes is within = subst (λ (f : CodeFetched). IsWithin rows index f) is within

pub done_got : (before after : List CountedInstruction) (index : ℕ) (fetched : CodeFetched) (i : Inst) (bytes : ℕ) (done : Done) → fetched ≡ code.Got i bytes →
    ((row : CountedInstruction) → get_or before index row ≡ row → after ≡ set before index (with_done row done)) → IsDoneAt before after index fetched done
done_got before after index fetched i bytes done is did = subst (λ (f : CodeFetched). IsDoneAt before after index f done) (sym is) did

-- what a step did is noted at what was found
pub noted : (before found after : List CountedInstruction) (index pc : ℕ) (fetched : CodeFetched) (done : Done) → IsRowOf before found index pc fetched → IsDoneAt found after index fetched done → IsNoted before after pc (fetched_of fetched) done
noted before found after index pc (code.Got i bytes) done place did =
    record { index = index; found = found; is_found = place; changed = did place.row place.stands }
noted before found after index pc code.NoRight done place did = did ∙ place
noted before found after index pc code.NoInstruction done place did = did ∙ place

-- a step changes no row's instruction
pub spelled_on : (before found after : List CountedInstruction) (index pc : ℕ) (fetched : CodeFetched) (done : Done) → IsRowOf before found index pc fetched → IsDoneAt found after index fetched done → AreSpelled found → AreSpelled after
spelled_on before found after index pc (code.Got i bytes) done place did are =
    let row : CountedInstruction = place.row in
    let is : IsSpelled row = subst IsSpelled place.stands (are index row place.below) in
    subst AreSpelled (sym (did row place.stands)) (All-set IsSpelled found index (with_done row done) is are)
spelled_on before found after index pc code.NoRight done place did are = subst AreSpelled (sym did) are
spelled_on before found after index pc code.NoInstruction done place did are = subst AreSpelled (sym did) are

-- a row that there was
pub known_row : (rows : List CountedInstruction) (index pc bits : ℕ) (row : CountedInstruction) → index < length rows → get_or rows index row ≡ row → row.pc ≡ pc → row.bits ≡ bits → AreSpelled rows →
    IsFoundAt rows rows pc (Some bits) (record { fetched = code.Got row.inst row.bytes; index = index })
known_row rows index pc bits row below stands place same are =
    let is : IsSpelled row = subst IsSpelled stands (are index row below) in
    record {
      place = record { row = row; below = below; stands = stands; place = place; instruction = refl; kept = inl refl };
      stands = λ r. sym (ap (λ (b : ℕ). spelled_at r (Some b)) (sym same) ∙ is r);
      spelled = are;
    }

-- a row that was added
pub added_row : (rows after : List CountedInstruction) (pc bits bytes : ℕ) (inst : Inst) → after ≡ rows ++ (no_row pc bits inst bytes ∷ []) → ((r : Reader Spells StandsFor) → Got inst bytes ≡ spelled_at r (Some bits)) → AreSpelled rows →
    IsFoundAt rows after pc (Some bits) (record { fetched = code.Got inst bytes; index = length rows })
added_row rows after pc bits bytes inst added reads are =
    let new : CountedInstruction = no_row pc bits inst bytes in
    let longer : length after ≡ length rows + 1 = ap (λ (xs : List CountedInstruction). length xs) added ∙ length-append rows (new ∷ []) in
    let all : AreSpelled (rows ++ (new ∷ [])) = All-push IsSpelled rows new are (λ r. sym (reads r)) in
    record {
      place = record {
        row = new;
        below = omega (arith, longer);
        stands = ap (λ (xs : List CountedInstruction). get_or xs (length rows) new) added ∙ get_or-append_seam rows new [] new;
        place = refl;
        instruction = refl;
        kept = inr (bits, bytes, added);
      };
      stands = reads;
      spelled = subst AreSpelled (sym added) all;
    }
