-- The lines of a dump, one by one.

use Rattle.std.proofs.Common.{◌≡◌, ℕ, suc, zero, ◌+◌, ◌<◌, List, [], ◌∷◌, ◌++◌, length, take, drop, min, ◌≤◌, append_assoc, refl, sym, ap, ◌∙◌, arith}
use Rattle.std.proofs.lemmas.List.{append-nil, drop-drop, drop_all, length-drop, take_min}
use Rattle.rv_disasm.specs.Dump.{dump_line, dump_lines}

-- the bytes of the line before are passed over
passed : (k offset : ℕ) (bytes : List ℕ) → dump_lines k offset bytes ≡ dump_lines 0 (offset + k) (drop k bytes)
unfolding dump_lines
passed zero offset bytes = ap (λ a. dump_lines 0 a bytes) (let same : offset ≡ offset + 0 = omega arith in same)
passed (suc k) offset [] = refl
passed (suc k) offset (b ∷ bytes) =
    passed k (suc offset) bytes ∙ ap (λ a. dump_lines 0 a (drop k bytes)) (let same : suc offset + k ≡ offset + suc k = omega arith in same)

-- the first line, and the others
pub dump_step : (offset : ℕ) (bytes : List ℕ) → 0 < length bytes →
    dump_lines 0 offset bytes ≡ dump_line offset (take 16 bytes) ++ dump_lines 0 (offset + 16) (drop 16 bytes)
unfolding dump_lines
dump_step offset [] some = absurd (omega (arith, some))
dump_step offset (b ∷ bytes) some =
    ap (λ rest. dump_line offset (take 16 (b ∷ bytes)) ++ rest)
    (passed 15 (suc offset) bytes ∙ ap (λ a. dump_lines 0 a (drop 15 bytes)) (let same : suc offset + 15 ≡ offset + 16 = omega arith in same))

pub dump_end : (offset : ℕ) → dump_lines 0 offset [] ≡ []
unfolding dump_lines
dump_end offset = refl

-- a loop that has added the line at an offset, from where the rest stands
pub dump_more : (all text new bytes rest : List ℕ) (offset count : ℕ) → rest ≡ drop offset bytes → offset < length bytes → count ≡ min 16 (length rest) →
    new ≡ text ++ dump_line offset (take count rest) → text ++ dump_lines 0 offset (drop offset bytes) ≡ all →
    new ++ dump_lines 0 (offset + 16) (drop (offset + 16) bytes) ≡ all
dump_more all text new bytes rest offset count is within counted added so_far =
    let long = length-drop offset bytes in
    let same = ap length is in
    let some : 0 < length rest = omega (arith, long, within, same) in
    let first : take count rest ≡ take 16 rest = ap (λ k. take k rest) counted ∙ take_min 16 rest in
    ap (λ xs. xs ++ dump_lines 0 (offset + 16) (drop (offset + 16) bytes)) (added ∙ ap (λ xs. text ++ dump_line offset xs) first)
    ∙ append_assoc text (dump_line offset (take 16 rest)) (dump_lines 0 (offset + 16) (drop (offset + 16) bytes))
    ∙ ap (λ xs. text ++ (dump_line offset (take 16 rest) ++ dump_lines 0 (offset + 16) xs)) (sym (ap (drop 16) is ∙ drop-drop 16 offset bytes))
    ∙ ap (λ xs. text ++ xs) (sym (dump_step offset rest some))
    ∙ ap (λ xs. text ++ dump_lines 0 offset xs) is
    ∙ so_far

-- and one that has added them all
pub dump_done : (all text bytes : List ℕ) (offset : ℕ) → length bytes ≤ offset → text ++ dump_lines 0 offset (drop offset bytes) ≡ all → text ≡ all
dump_done all text bytes offset past so_far =
    sym (append-nil text) ∙ ap (λ xs. text ++ xs) (sym (dump_end offset))
    ∙ ap (λ xs. text ++ dump_lines 0 offset xs) (sym (drop_all offset bytes past)) ∙ so_far
