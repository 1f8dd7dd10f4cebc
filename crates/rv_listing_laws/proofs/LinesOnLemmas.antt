-- The lines of code, one by one.

use Rattle.std.proofs.Common.{◌≡◌, ℕ, suc, zero, ◌+◌, ◌-◌, ◌<◌, ◌≤◌, List, [], ◌∷◌, ◌++◌, length, drop, append_assoc, refl, sym, ap, ◌∙◌, arith}
use Rattle.std.proofs.lemmas.List.{append-nil, drop-drop, drop_all, length-drop}
use Rattle.rv_isa_laws.specs.Reader.{Reader}
use Rattle.rv_isa_laws.specs.Word.{Spells}
use Rattle.rv_parcel.specs.Parcel.{StandsFor}
use Rattle.rv_map_laws.specs.declared.map.Row.{Row}
use Rattle.rv_listing_laws.specs.Lines.{front, length_read, line, lines}
use Rattle.rv_listing_laws.specs.Listing.{statement, entry}

-- the bytes of the line before are passed over
passed : (reader : Reader Spells StandsFor) (k address : ℕ) (bytes : List ℕ) → lines reader k address bytes ≡ lines reader 0 (address + k) (drop k bytes)
unfolding lines
passed reader zero address bytes = ap (λ a. lines reader 0 a bytes) (let same : address ≡ address + 0 = omega arith in same)
passed reader (suc k) address [] = refl
passed reader (suc k) address (b ∷ bytes) =
    passed reader k (suc address) bytes ∙ ap (λ a. lines reader 0 a (drop k bytes)) (let same : suc address + k ≡ address + suc k = omega arith in same)

first : (reader : Reader Spells StandsFor) (address b : ℕ) (bytes : List ℕ) →
    lines reader 0 address (b ∷ bytes) ≡ line address (front reader (b ∷ bytes)) ++ lines reader (length_read (front reader (b ∷ bytes)) - 1) (suc address) bytes
unfolding lines
first reader address b bytes = refl

-- the first line, and the others
pub lines_step : (reader : Reader Spells StandsFor) (address count : ℕ) (bytes : List ℕ) → 0 < length bytes → 1 ≤ count → count ≡ length_read (front reader bytes) →
    lines reader 0 address bytes ≡ line address (front reader bytes) ++ lines reader 0 (address + count) (drop count bytes)
lines_step reader address count [] some more is = absurd (omega (arith, some))
lines_step reader address zero (b ∷ bytes) some more is = absurd (omega (arith, more))
lines_step reader address (suc count) (b ∷ bytes) some more is =
    first reader address b bytes
    ∙ ap (λ rest. line address (front reader (b ∷ bytes)) ++ rest)
    (ap (λ k. lines reader (k - 1) (suc address) bytes) (sym is)
    ∙ ap (λ k. lines reader k (suc address) bytes) (let same : suc count - 1 ≡ count = omega arith in same)
    ∙ passed reader count (suc address) bytes
    ∙ ap (λ a. lines reader 0 a (drop count bytes)) (let same : suc address + count ≡ address + suc count = omega arith in same))

pub lines_end : (reader : Reader Spells StandsFor) (address : ℕ) → lines reader 0 address [] ≡ []
unfolding lines
lines_end reader address = refl

-- a row that has bytes of code has an entry
pub entry_some : (reader : Reader Spells StandsFor) (row : Row) (bytes : List ℕ) → 0 < length bytes → entry reader row bytes ≡ statement row ++ lines reader 0 row.address bytes
entry_some reader row [] some = absurd (omega (arith, some))
entry_some reader row (b ∷ bytes) some = refl

pub entry_none : (reader : Reader Spells StandsFor) (row : Row) (bytes : List ℕ) → length bytes ≡ 0 → entry reader row bytes ≡ []
entry_none reader row [] none = refl
entry_none reader row (b ∷ bytes) none = absurd (omega (arith, none))

-- a loop that has added the line at an offset, from where the rest stands
pub lines_more : (reader : Reader Spells StandsFor) (all text new bytes rest : List ℕ) (address offset count : ℕ) → rest ≡ drop offset bytes → offset < length bytes → 1 ≤ count →
    count ≡ length_read (front reader rest) → new ≡ text ++ line (address + offset) (front reader rest) →
    text ++ lines reader 0 (address + offset) (drop offset bytes) ≡ all → new ++ lines reader 0 (address + (offset + count)) (drop (offset + count) bytes) ≡ all
lines_more reader all text new bytes rest address offset count is within more counted added so_far =
    let long = length-drop offset bytes in
    let same = ap length is in
    let some : 0 < length rest = omega (arith, long, within, same) in
    let first = line (address + offset) (front reader rest) in
    let on : address + (offset + count) ≡ address + offset + count = omega arith in
    ap (λ xs. xs ++ lines reader 0 (address + (offset + count)) (drop (offset + count) bytes)) added
    ∙ append_assoc text first (lines reader 0 (address + (offset + count)) (drop (offset + count) bytes))
    ∙ ap (λ a. text ++ (first ++ lines reader 0 a (drop (offset + count) bytes))) on
    ∙ ap (λ xs. text ++ (first ++ lines reader 0 (address + offset + count) xs)) (sym (ap (drop count) is ∙ drop-drop count offset bytes))
    ∙ ap (λ xs. text ++ xs) (sym (lines_step reader (address + offset) count rest some more counted))
    ∙ ap (λ xs. text ++ lines reader 0 (address + offset) xs) is
    ∙ so_far

-- and one that has added them all
pub lines_done : (reader : Reader Spells StandsFor) (all text bytes : List ℕ) (address offset : ℕ) → length bytes ≤ offset →
    text ++ lines reader 0 (address + offset) (drop offset bytes) ≡ all → text ≡ all
lines_done reader all text bytes address offset past so_far =
    sym (append-nil text) ∙ ap (λ xs. text ++ xs) (sym (lines_end reader (address + offset)))
    ∙ ap (λ xs. text ++ lines reader 0 (address + offset) xs) (sym (drop_all offset bytes past)) ∙ so_far
