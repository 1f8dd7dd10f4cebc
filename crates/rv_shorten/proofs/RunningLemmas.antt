-- The bytes that are left of a section, run by run.

use Rattle.std.proofs.Common.{◌≡◌, ℕ, zero, suc, ◌+◌, ◌-◌, ◌*◌, ◌/◌, ◌%◌, ◌^◌, ◌<◌, ◌≤◌, ◌⊎◌, inl, inr, true, List, [], ◌∷◌, ◌++◌, length, map, take, drop, refl, sym, ap, ◌∙◌, arith}
use Rattle.std.specs.Int.{to_le_bytes, w64}
use Rattle.std.proofs.Math.Seq.{take-add, take-append-add, drop-append-add}
use Rattle.std.proofs.lemmas.Nat.{shr-shr}
use Rattle.std.proofs.lemmas.List.{append_assoc, append-nil, take-append-drop, take_at, drop-drop, length-append, nil_from_length}
use Rattle.rv_isa_laws.specs.Bytes.{little_endian}
use Rattle.rv_isa_laws.proofs.BytesLemmas.{little_long, bytes-low-first}
use Rattle.rv_link_laws.specs.Moves.{kept}
use Rattle.rv_link_laws.specs.Shortened.{short_call}
use Rattle.rv_shorten.specs.Cut.{Cut, cut_left, move_of}
use Rattle.rv_cut_laws.specs.Cutting.{are_cuts}
use Rattle.rv_shorten.specs.Bytes.{room_before}
use Rattle.rv_cut_laws.proofs.ShiftsLemmas.{first_cut, length_kept_from}

-- ---- numbers

-- the low bytes of a number, and those above them
pub little_parts : (low width n : ℕ) → low ≤ width → little_endian width n ≡ little_endian low n ++ little_endian (width - low) (n / 2 ^ (8 * low))
little_parts zero width n le = let same : width - 0 ≡ width = omega arith in let whole : n / 2 ^ 0 ≡ n = omega arith in sym (ap (λ w. little_endian w (n / 2 ^ 0)) same ∙ ap (little_endian width) whole)
little_parts (suc low) zero n le = absurd (omega arith)
little_parts (suc low) (suc width) n le =
    let rest = little_parts low width (n / 256) (omega arith) in
    let fewer : suc width - suc low ≡ width - low = omega arith in
    let further : 8 + 8 * low ≡ 8 * suc low = omega arith in
    let above : n / 256 / 2 ^ (8 * low) ≡ n / 2 ^ (8 * suc low) = shr-shr n 8 (8 * low) ∙ ap (λ k. n / 2 ^ k) further in
    ap (λ bs. n % 256 ∷ bs) rest
    ∙ ap (λ m. n % 256 ∷ (little_endian low (n / 256) ++ little_endian (width - low) m)) above
    ∙ ap (λ w. n % 256 ∷ (little_endian low (n / 256) ++ little_endian w (n / 2 ^ (8 * suc low)))) (sym fewer)

pub low_bytes : (width n : ℕ) → width ≤ 8 → take width (to_le_bytes w64 n) ≡ little_endian width n
low_bytes width n le =
    let one : n ≡ n / 256 ^ 0 = grind arith in
    ap (take width) (bytes-low-first 0 8 n n one ∙ little_parts width 8 n le)
    ∙ take_at (little_endian width n) (little_endian (8 - width) (n / 2 ^ (8 * width))) width (little_long width n)

-- ---- the section

-- up to the first call
pub kept_parts : (at n : ℕ) (cs : List Cut) (bytes : List ℕ) → are_cuts at (at + length bytes) (map move_of cs) ≡ true → n ≤ room_before at (length bytes) cs
    → kept at (map move_of cs) bytes ≡ take n bytes ++ kept (at + n) (map move_of cs) (drop n bytes)
kept_parts at n [] bytes h few = sym (take-append-drop n bytes)
kept_parts at n (c ∷ cs) bytes h few =
    let one = first_cut at (at + length bytes) (move_of c) (map move_of cs) h in
    let far : c.place - at ≡ n + (c.place - (at + n)) = omega (arith, one.from) in
    let further : c.place + 8 - at ≡ n + (c.place + 8 - (at + n)) = omega (arith, one.from) in
    let front : take (c.place - at) bytes ≡ take n bytes ++ take (c.place - (at + n)) (drop n bytes) = ap (λ k. take k bytes) far ∙ take-add n (c.place - (at + n)) bytes in
    let back : drop (c.place + 8 - at) bytes ≡ drop (c.place + 8 - (at + n)) (drop n bytes) = ap (λ k. drop k bytes) further ∙ sym (drop-drop (c.place + 8 - (at + n)) n bytes) in
    let behind = short_call c.left c.detail ++ kept (c.place + 8) (map move_of cs) (drop (c.place + 8 - (at + n)) (drop n bytes)) in
    ap (λ l. take (c.place - at) bytes ++ (short_call c.left c.detail ++ kept (c.place + 8) (map move_of cs) l)) back
    ∙ ap (λ l. l ++ behind) front
    ∙ append_assoc (take n bytes) (take (c.place - (at + n)) (drop n bytes)) behind

-- ---- runs

crossed : (a b c d : List ℕ) → (b ≡ []) ⊎ (c ≡ []) → (a ++ b) ++ (c ++ d) ≡ (a ++ c) ++ (b ++ d)
crossed a b c d (inl none) =
    ap (λ l. (a ++ l) ++ (c ++ d)) none ∙ ap (λ l. l ++ (c ++ d)) (append-nil a)
    ∙ sym (append_assoc a c d) ∙ ap (λ l. (a ++ c) ++ (l ++ d)) (sym none)
crossed a b c d (inr none) =
    ap (λ l. (a ++ b) ++ (l ++ d)) none ∙ append_assoc a b d
    ∙ ap (λ l. l ++ (b ++ d)) (sym (append-nil a)) ∙ ap (λ l. (a ++ l) ++ (b ++ d)) (sym none)

-- bytes of a call, and if these are all of it, bytes of the section behind it
pub run_taken : (word bytes at of_call of_section : ℕ) (cs : List Cut) (rest : List ℕ) → are_cuts at (at + length rest) (map move_of cs) ≡ true
    → of_call ≤ bytes → of_section ≤ room_before at (length rest) cs → (of_call ≡ bytes) ⊎ (of_section ≡ 0)
    → little_endian bytes word ++ kept at (map move_of cs) rest
    ≡ (little_endian of_call word ++ take of_section rest) ++ (little_endian (bytes - of_call) (word / 2 ^ (8 * of_call)) ++ kept (at + of_section) (map move_of cs) (drop of_section rest))
run_taken word bytes at of_call of_section cs rest h low few one =
    let call = little_endian of_call word in
    let more = little_endian (bytes - of_call) (word / 2 ^ (8 * of_call)) in
    let section = take of_section rest in
    let behind = kept (at + of_section) (map move_of cs) (drop of_section rest) in
    ap (λ l. l ++ kept at (map move_of cs) rest) (little_parts of_call bytes word low)
    ∙ ap (λ l. (call ++ more) ++ l) (kept_parts at of_section cs rest h few)
    ∙ crossed call more section behind (apart one)
  where
    apart : (of_call ≡ bytes) ⊎ (of_section ≡ 0) → (little_endian (bytes - of_call) (word / 2 ^ (8 * of_call)) ≡ []) ⊎ (take of_section rest ≡ [])
    apart (inl all) = inl (let none : bytes - of_call ≡ 0 = omega arith in ap (λ w. little_endian w (word / 2 ^ (8 * of_call))) none)
    apart (inr none) = inr (ap (λ n. take n rest) none)

-- a call that stands there begins
pub call_begun : (word new bytes left at : ℕ) (c : Cut) (cs later : List Cut) (rest behind : List ℕ) → cs ≡ c ∷ later → are_cuts at (at + length rest) (map move_of cs) ≡ true
    → bytes ≤ 0 → c.place ≤ at → left ≡ cut_left c → little_endian (cut_left c) new ≡ short_call c.left c.detail → behind ≡ drop 8 rest
    → little_endian left new ++ kept (at + 8) (map move_of later) behind ≡ little_endian bytes word ++ kept at (map move_of cs) rest
call_begun word new bytes left at c cs later rest behind parts h none here long is from =
    let one = first_cut at (at + length rest) (move_of c) (map move_of later) (sym (ap (λ l. are_cuts at (at + length rest) (map move_of l)) parts) ∙ h) in
    let begins : at ≡ c.place = omega (arith, one.from) in
    let now : 0 ≡ c.place - at = omega arith in
    let eight : 8 ≡ c.place + 8 - at = omega arith in
    let nothing : 0 ≡ bytes = omega arith in
    ap (λ n. little_endian n new ++ kept (at + 8) (map move_of later) behind) long
    ∙ ap (λ l. l ++ kept (at + 8) (map move_of later) behind) is
    ∙ ap (λ l. short_call c.left c.detail ++ kept (at + 8) (map move_of later) l) from
    ∙ ap (λ n. short_call c.left c.detail ++ kept (n + 8) (map move_of later) (drop 8 rest)) begins
    ∙ ap (λ n. short_call c.left c.detail ++ kept (c.place + 8) (map move_of later) (drop n rest)) eight
    ∙ ap (λ n. take n rest ++ (short_call c.left c.detail ++ kept (c.place + 8) (map move_of later) (drop (c.place + 8 - at) rest))) now
    ∙ ap (λ l. kept at (map move_of l) rest) (sym parts)
    ∙ ap (λ n. little_endian n word ++ kept at (map move_of cs) rest) nothing

pub nothing_left : (word bytes at : ℕ) (cs : List Cut) (rest : List ℕ) → length cs < 1 → bytes + room_before at (length rest) cs ≡ 0
    → little_endian bytes word ++ kept at (map move_of cs) rest ≡ []
nothing_left word bytes at [] rest few none =
    let call : bytes ≡ 0 = omega arith in
    let section : length rest ≡ 0 = omega arith in
    ap (λ w. little_endian w word ++ rest) call ∙ nil_from_length rest section
nothing_left word bytes at (c ∷ cs) rest few none = absurd (omega arith)

pub left_low : (at bytes word : ℕ) (cs : List Cut) (rest : List ℕ) → are_cuts at (at + length rest) (map move_of cs) ≡ true
    → length (little_endian bytes word ++ kept at (map move_of cs) rest) ≤ bytes + length rest
left_low at bytes word cs rest h =
    let all = length-append (little_endian bytes word) (kept at (map move_of cs) rest) in
    let call = little_long bytes word in
    let section = length_kept_from at (at + length rest) (map move_of cs) rest h refl in
    omega arith

-- ---- all runs

pub put_more : (wanted n : ℕ) (out run left all : List ℕ) → all ≡ run ++ left → n ≡ length run → n ≤ wanted → (out ++ run) ++ take (wanted - n) left ≡ out ++ take wanted all
put_more wanted n out run left all parts long few =
    let sum : length run + (wanted - n) ≡ wanted = omega arith in
    append_assoc out run (take (wanted - n) left)
    ∙ ap (λ l. out ++ l) (sym (take-append-add run left (wanted - n)) ∙ ap (λ k. take k (run ++ left)) sum ∙ ap (take wanted) (sym parts))

pub skip_more : (wanted n : ℕ) (run left all : List ℕ) → all ≡ run ++ left → n ≡ length run → n ≤ wanted → drop (wanted - n) left ≡ drop wanted all
skip_more wanted n run left all parts long few =
    let sum : length run + (wanted - n) ≡ wanted = omega arith in
    sym (drop-append-add run left (wanted - n)) ∙ ap (λ k. drop k (run ++ left)) sum ∙ ap (drop wanted) (sym parts)
