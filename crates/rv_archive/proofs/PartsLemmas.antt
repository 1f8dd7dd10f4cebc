-- Parts one after another: one more, and that they stand in order.

use Rattle.std.proofs.Common.{◌≡◌, ℕ, ◌+◌, ◌≤◌, Bool, true, false, cond, not, List, [], ◌∷◌, ◌++◌, length, Option, Some, None, refl, sym, ap, subst, ◌∙◌, arith}
use Rattle.std.specs.Prelude.{Result, Ok, Err, nat_lt, ⊤}
use Rattle.std.proofs.lemmas.Bool.{true≢false, le-ltb}
use Rattle.rv_archive_laws.specs.declared.fault.ArchiveFault.{ArchiveFault}
use Rattle.rv_archive_laws.specs.declared.fault.ArchiveFault.TheVariants.{Truncated, BadHead}
use Rattle.rv_archive_laws.specs.Decimal.{decimal}
use Rattle.rv_archive_laws.specs.Parts.{ArchivePart, part_at, sized_part, size_field, has_end, head_size, next_place, StandInRow}

-- ---- the place of a part

past_tests : (a b : Bool) (r : Result ArchivePart ArchiveFault) (p : ArchivePart) → cond a (Err Truncated) (cond b (Err BadHead) r) ≡ Ok p → r ≡ Ok p
past_tests true b r p is = cc
past_tests false true r p is = cc
past_tests false false r p is = is

place_kept : (q : ArchivePart) (b : Bool) (p : ArchivePart) → cond b (Err Truncated) (Ok q) ≡ Ok p → p.place ≡ q.place
place_kept q true p is = cc
place_kept q false p is = let same : q ≡ p = cc in sym (ap (λ (x : ArchivePart). x.place) same)

sized_place : (file : List ℕ) (place : ℕ) (size : Option ℕ) (p : ArchivePart) → sized_part file place size ≡ Ok p → p.place ≡ place
sized_place file place None p is = cc
sized_place file place (Some size) p is = place_kept _ (nat_lt (length file) (place + head_size + size)) p is

pub place_is : (file : List ℕ) (place : ℕ) (p : ArchivePart) → part_at file place ≡ Ok p → p.place ≡ place
unfolding part_at
place_is file place p is =
    sized_place file place (decimal (size_field file place)) p (past_tests (nat_lt (length file) (place + head_size)) (not (has_end file place)) _ p is)

-- ---- the part at a place, by its size

past_both : (a b : Bool) (r : Result ArchivePart ArchiveFault) → a ≡ false → b ≡ true → cond a (Err Truncated) (cond (not b) (Err BadHead) r) ≡ r
past_both true b r first second = absurd (true≢false first)
past_both false true r first second = refl
past_both false false r first second = absurd (true≢false (sym second))

pub part_by : (file : List ℕ) (place : ℕ) (size : Option ℕ) → place + head_size ≤ length file → has_end file place ≡ true → decimal (size_field file place) ≡ size → part_at file place ≡ sized_part file place size
unfolding part_at
part_by file place size within end is =
    past_both (nat_lt (length file) (place + head_size)) (has_end file place) (sized_part file place (decimal (size_field file place))) (le-ltb (length file) (place + head_size) within) end
    ∙ ap (sized_part file place) is

-- ---- one more

joined_row : (file : List ℕ) (place : ℕ) (ps : List ArchivePart) (end : ℕ) (p : ArchivePart)
    → StandInRow file place ps end → part_at file end ≡ Ok p → StandInRow file place (ps ++ p ∷ []) (next_place p)
joined_row file place [] end p stand here = (subst (λ at. part_at file at ≡ Ok p) (sym stand) here, refl)
joined_row file place (q ∷ qs) end p stand here = (stand.0, joined_row file (next_place q) qs end p stand.1 here)

pub row_more : (file : List ℕ) (place : ℕ) (ps new : List ArchivePart) (end : ℕ) (p : ArchivePart)
    → new ≡ ps ++ p ∷ [] → StandInRow file place ps end → part_at file end ≡ Ok p → StandInRow file place new (next_place p)
row_more file place ps new end p is stand here = subst (λ qs. StandInRow file place qs (next_place p)) (sym is) (joined_row file place ps end p stand here)

-- ---- in order

-- each stands at this place or behind it, and behind those before
abbrev pub RiseFrom : ℕ → List ArchivePart → Type 0
RiseFrom low [] = ⊤
RiseFrom low (p ∷ ps) = (low ≤ p.place) × RiseFrom p.place ps

pub rise_lower : (low high : ℕ) (ps : List ArchivePart) → low ≤ high → RiseFrom high ps → RiseFrom low ps
rise_lower low high [] le rise = rise
rise_lower low high (p ∷ ps) le rise = (omega (arith, rise.0), rise.1)

pub row_rises : (file : List ℕ) (place : ℕ) (ps : List ArchivePart) (end : ℕ) → StandInRow file place ps end → RiseFrom place ps
row_rises file place [] end stand = tt
row_rises file place (p ∷ ps) end stand =
    let at = place_is file place p stand.0 in
    (omega (arith, at), rise_lower p.place (next_place p) ps (omega arith) (row_rises file (next_place p) ps end stand.1))
