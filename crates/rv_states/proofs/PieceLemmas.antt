-- Pieces put into memory, one after the other.

use Rattle.std.proofs.Common.{◌≡◌, ℕ, suc, ◌^◌, ◌≤◌, ◌<◌, Bool, true, false, ◌&&◌, List, [], ◌∷◌, ◌++◌, length, length-append, take, drop, Option, Some, None, append_assoc, refl, sym, ap, ◌∙◌, arith}
use Rattle.std.specs.Prelude.{if◌then◌else◌, nat_le, MatchBool}
use Rattle.std.proofs.lemmas.Bool.Decides.{nat_tests}
use Rattle.std.proofs.lemmas.List.{drop_at, take_at}
use Rattle.byteorder.specs.Endian.{little_number, little_bytes}
use Rattle.byteorder.specs.Numbers.{little_number-reads_back, length-bytes_low_first}
use Rattle.rv_isa_laws.specs.Memory.{Mem, Write, may, with_bytes}
use Rattle.rv_states.specs.Snapshot.{with_pieces}

pub if_true : {A : Type 0} (t : Bool) (x y : A) → t ≡ true → (if t then x else y) ≡ x
if_true true x y e = refl
if_true false x y e = absurd (cc)

pub if_false : {A : Type 0} (t : Bool) (x y : A) → t ≡ false → (if t then x else y) ≡ y
if_false true x y e = absurd (cc)
if_false false x y e = refl

-- a piece that is whole and may be written
first_piece : (n : ℕ) (bytes : List ℕ) (m : Mem) → 16 ≤ length bytes → little_number 8 (drop 8 bytes) ≤ length (drop 16 bytes) →
    may m (little_number 8 bytes) (little_number 8 (drop 8 bytes)) Write ≡ true →
    with_pieces (suc n) bytes m
    ≡ with_pieces n (drop (little_number 8 (drop 8 bytes)) (drop 16 bytes))
    (with_bytes m (little_number 8 bytes) (take (little_number 8 (drop 8 bytes)) (drop 16 bytes)))
unfolding with_pieces
first_piece n bytes m head whole can =
    let t : (nat_le 16 (length bytes) && nat_le (little_number 8 (drop 8 bytes)) (length (drop 16 bytes)) && may m (little_number 8 bytes) (little_number 8 (drop 8 bytes)) Write) ≡ true = grind (arith, nat_tests) in
    if_true (nat_le 16 (length bytes) && nat_le (little_number 8 (drop 8 bytes)) (length (drop 16 bytes)) && may m (little_number 8 bytes) (little_number 8 (drop 8 bytes)) Write) _ _ t

-- one that has not all of its numbers, is cut, or may not be written
pub short_piece : (n : ℕ) (bytes : List ℕ) (m : Mem) → length bytes < 16 → with_pieces (suc n) bytes m ≡ None
unfolding with_pieces
short_piece n bytes m short =
    let t : (nat_le 16 (length bytes) && nat_le (little_number 8 (drop 8 bytes)) (length (drop 16 bytes)) && may m (little_number 8 bytes) (little_number 8 (drop 8 bytes)) Write) ≡ false = grind (arith, nat_tests) in
    if_false (nat_le 16 (length bytes) && nat_le (little_number 8 (drop 8 bytes)) (length (drop 16 bytes)) && may m (little_number 8 bytes) (little_number 8 (drop 8 bytes)) Write) _ _ t

cut_whole : (n : ℕ) (bytes : List ℕ) (m : Mem) → length (drop 16 bytes) < little_number 8 (drop 8 bytes) → with_pieces (suc n) bytes m ≡ None
unfolding with_pieces
cut_whole n bytes m short =
    let t : (nat_le 16 (length bytes) && nat_le (little_number 8 (drop 8 bytes)) (length (drop 16 bytes)) && may m (little_number 8 bytes) (little_number 8 (drop 8 bytes)) Write) ≡ false = grind (arith, nat_tests) in
    if_false (nat_le 16 (length bytes) && nat_le (little_number 8 (drop 8 bytes)) (length (drop 16 bytes)) && may m (little_number 8 bytes) (little_number 8 (drop 8 bytes)) Write) _ _ t

pub cut_piece : (n : ℕ) (bytes : List ℕ) (m : Mem) (count : ℕ) → count ≡ little_number 8 (drop 8 bytes) → length (drop 16 bytes) < count → with_pieces (suc n) bytes m ≡ None
cut_piece n bytes m count is short = cut_whole n bytes m (omega arith)

barred_whole : (n : ℕ) (bytes : List ℕ) (m : Mem) → may m (little_number 8 bytes) (little_number 8 (drop 8 bytes)) Write ≡ false →
    with_pieces (suc n) bytes m ≡ None
unfolding with_pieces
barred_whole n bytes m barred =
    let t : (nat_le 16 (length bytes) && nat_le (little_number 8 (drop 8 bytes)) (length (drop 16 bytes)) && may m (little_number 8 bytes) (little_number 8 (drop 8 bytes)) Write) ≡ false = grind (arith, nat_tests) in
    if_false (nat_le 16 (length bytes) && nat_le (little_number 8 (drop 8 bytes)) (length (drop 16 bytes)) && may m (little_number 8 bytes) (little_number 8 (drop 8 bytes)) Write) _ _ t

pub barred_piece : (n : ℕ) (bytes : List ℕ) (m : Mem) (address count : ℕ) → address ≡ little_number 8 bytes → count ≡ little_number 8 (drop 8 bytes) →
    may m address count Write ≡ false → with_pieces (suc n) bytes m ≡ None
barred_piece n bytes m address count at is barred =
    barred_whole n bytes m (ap (λ (x : ℕ). may m x (little_number 8 (drop 8 bytes)) Write) (sym at) ∙ ap (λ (x : ℕ). may m address x Write) (sym is) ∙ barred)

-- the same in the terms of the code
pub taken_piece : (n : ℕ) (bytes : List ℕ) (m p : Mem) (address count : ℕ) (piece rest : List ℕ) → address ≡ little_number 8 bytes → count ≡ little_number 8 (drop 8 bytes) →
    16 ≤ length bytes → count ≤ length (drop 16 bytes) → may m address count Write ≡ true → piece ≡ take count (drop 16 bytes) → rest ≡ drop count (drop 16 bytes) →
    p ≡ with_bytes m address piece → with_pieces (suc n) bytes m ≡ with_pieces n rest p
taken_piece n bytes m p address count piece rest at is head whole can put left new =
    let allowed : may m (little_number 8 bytes) (little_number 8 (drop 8 bytes)) Write ≡ true =
    ap (λ (x : ℕ). may m x (little_number 8 (drop 8 bytes)) Write) (sym at) ∙ ap (λ (x : ℕ). may m address x Write) (sym is) ∙ can in
    let e : with_bytes m (little_number 8 bytes) (take (little_number 8 (drop 8 bytes)) (drop 16 bytes)) ≡ p =
    ap (λ (x : ℕ). with_bytes m x (take (little_number 8 (drop 8 bytes)) (drop 16 bytes))) (sym at)
    ∙ ap (λ (x : ℕ). with_bytes m address (take x (drop 16 bytes))) (sym is) ∙ ap (with_bytes m address) (sym put) ∙ sym new in
    first_piece n bytes m head (omega arith) allowed
    ∙ ap (λ (l : List ℕ). with_pieces n l (with_bytes m (little_number 8 bytes) (take (little_number 8 (drop 8 bytes)) (drop 16 bytes))))
    (ap (λ (x : ℕ). drop x (drop 16 bytes)) (sym is) ∙ sym left)
    ∙ ap (with_pieces n rest) e

-- none
pub no_pieces : (bytes : List ℕ) (m : Mem) → bytes ≡ [] → with_pieces 0 bytes m ≡ Some m
unfolding with_pieces
no_pieces bytes m e = ap (λ (l : List ℕ). with_pieces 0 l m) e

pub left_behind : (bytes : List ℕ) (m : Mem) → 0 < length bytes → with_pieces 0 bytes m ≡ None
unfolding with_pieces
left_behind [] m some = absurd (omega arith)
left_behind (b ∷ bytes) m some = refl

pub after_pieces : (b : Bool) (rest : List ℕ) (m : Mem) (w : Option Mem) → (b ≡ true → length rest ≡ 0) → (b ≡ false → 0 < length rest) →
    with_pieces 0 rest m ≡ w → MatchBool b (w ≡ Some m) (w ≡ None)
after_pieces true [] m w none some e = sym e ∙ no_pieces [] m refl
after_pieces true (x ∷ rest) m w none some e = absurd (let none_left = none refl in omega arith)
after_pieces false rest m w none some e = sym e ∙ left_behind rest m (some refl)

-- a piece of these bytes, whatever follows
pub given_piece : (n a c : ℕ) (xs rest : List ℕ) (m : Mem) → a < 2 ^ 64 → c < 2 ^ 64 → length xs ≡ c → may m a c Write ≡ true →
    with_pieces (suc n) (((little_bytes 8 a ++ little_bytes 8 c) ++ xs) ++ rest) m ≡ with_pieces n rest (with_bytes m a xs)
given_piece n a c xs rest m low small count can =
    let head = little_bytes 8 a ++ little_bytes 8 c in
    let whole : List ℕ = (head ++ xs) ++ rest in
    let joined : whole ≡ head ++ (xs ++ rest) = append_assoc head xs rest in
    let shape : whole ≡ little_bytes 8 a ++ (little_bytes 8 c ++ (xs ++ rest)) = joined ∙ append_assoc (little_bytes 8 a) (little_bytes 8 c) (xs ++ rest) in
    let first : a ≡ little_number 8 whole = sym (ap (little_number 8) shape ∙ little_number-reads_back 8 a (little_bytes 8 c ++ (xs ++ rest)) (omega arith)) in
    let front : drop 8 whole ≡ little_bytes 8 c ++ (xs ++ rest) =
    ap (drop 8) shape ∙ drop_at (little_bytes 8 a) (little_bytes 8 c ++ (xs ++ rest)) 8 (length-bytes_low_first 0 8 a) in
    let second : c ≡ little_number 8 (drop 8 whole) = sym (ap (little_number 8) front ∙ little_number-reads_back 8 c (xs ++ rest) (omega arith)) in
    let long : length head ≡ 16 =
    omega (arith, length-append (little_bytes 8 a) (little_bytes 8 c), length-bytes_low_first 0 8 a, length-bytes_low_first 0 8 c) in
    let behind : drop 16 whole ≡ xs ++ rest = ap (drop 16) joined ∙ drop_at head (xs ++ rest) 16 long in
    taken_piece n whole m (with_bytes m a xs) a c xs rest first second
    (omega (arith, ap length joined, length-append head (xs ++ rest)))
    (omega (arith, ap length behind, length-append xs rest))
    can
    (sym (ap (take c) behind ∙ take_at xs rest c count))
    (sym (ap (drop c) behind ∙ drop_at xs rest c count))
    refl
