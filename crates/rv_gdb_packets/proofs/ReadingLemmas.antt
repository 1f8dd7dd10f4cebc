-- What is put as a packet is read as one.

use Rattle.std.proofs.Common.{◌≡◌, ℕ, ◌+◌, ◌/◌, ◌%◌, ◌<◌, ◌≤◌, ◌==◌, ◌||◌, Bool, true, false, List, [], ◌∷◌, ◌++◌, length, Option, Some, None, ◌⊎◌, inl, inr, refl, sym, ◌∙◌, ap, subst, eqb→eq, append_assoc, append-nil, arith}
use Rattle.std.specs.Prelude.{if◌then◌else◌, bit_xor}
use Rattle.std.specs.Fmt.{digit_glyph}
use Rattle.std.proofs.lemmas.Bool.{agree_below_at, lt-ltb}
use Rattle.std.proofs.lemmas.List.{length-append}
use Rattle.std.proofs.lemmas.List.Concat.{flat_map-cons}
use Rattle.rv_list_laws.proofs.NumbersLemmas.{eq_self}
use Rattle.rv_gdb_packets.specs.Packets.{is_special, escaped_byte, escaped, checksum, ending, packet, digit_value, byte_spelled, content_limit}
use Rattle.rv_gdb_packets.specs.Reading.{Body, Outside, Inside, Packet, is_spelled, messages}

-- a packet that came whole so far
abbrev open_body : List ℕ → ℕ → Body
open_body content sum = record { content = content; is_whole = true; escapes = false; sum = sum }

or-false : (x y : Bool) → (x || y) ≡ false → (x ≡ false) × (y ≡ false)
or-false true y e = (e, absurd (cc))
or-false false y e = (refl, e)

or-true : (x y : Bool) → (x || y) ≡ true → (x ≡ true) ⊎ (y ≡ true)
or-true true y e = inl refl
or-true false y e = inr e

-- a byte that is sent as it is
plain : (b : ℕ) (content : List ℕ) (sum : ℕ) (rest : List ℕ) → length content < content_limit → is_special b ≡ false →
    messages (Inside (open_body content sum)) (b ∷ rest) ≡ messages (Inside (open_body (content ++ (b ∷ [])) ((sum + b) % 256))) rest
plain b content sum rest short common =
    let others = or-false ((b == 35) || (b == 36) || (b == 125)) (b == 42) common in
    let first = or-false ((b == 35) || (b == 36)) (b == 125) others.0 in
    let both = or-false (b == 35) (b == 36) first.0 in
    let fits = lt-ltb (length content) content_limit short in
    simp (both.0, both.1, first.1, fits) refl

-- one that is sent changed
changed : (b : ℕ) (content : List ℕ) (sum : ℕ) (rest : List ℕ) → length content < content_limit → is_special b ≡ true →
    messages (Inside (open_body content sum)) (125 ∷ bit_xor b 32 ∷ rest) ≡ messages (Inside (open_body (content ++ (b ∷ [])) (((sum + 125) % 256 + bit_xor b 32) % 256))) rest
changed b content sum rest short special =
    let Is : ℕ → Type 0 = λ n.
    messages (Inside (open_body content sum)) (125 ∷ bit_xor n 32 ∷ rest) ≡ messages (Inside (open_body (content ++ (n ∷ [])) (((sum + 125) % 256 + bit_xor n 32) % 256))) rest in
    let fits = lt-ltb (length content) content_limit short in
    let at : (n : ℕ) → Is n → (b == n) ≡ true → Is b = λ n is e. subst Is (sym (eqb→eq b n (rw e tt))) is in
    elim (or-true ((b == 35) || (b == 36) || (b == 125)) (b == 42) special) [
      | inr e ↦ at 42 (simp fits refl) e
      | inl e ↦ elim (or-true ((b == 35) || (b == 36)) (b == 125) e) [
        | inr e ↦ at 125 (simp fits refl) e
        | inl e ↦ elim (or-true (b == 35) (b == 36) e) [ inr e ↦ at 36 (simp fits refl) e | inl e ↦ at 35 (simp fits refl) e ]
      ]
    ]

-- either
one : (b : ℕ) (content : List ℕ) (sum : ℕ) (rest : List ℕ) (x : Bool) → length content < content_limit → is_special b ≡ x →
    let bytes : List ℕ = if x then 125 ∷ bit_xor b 32 ∷ [] else b ∷ [] in
    messages (Inside (open_body content sum)) (bytes ++ rest) ≡ messages (Inside (open_body (content ++ (b ∷ [])) (checksum sum bytes))) rest
one b content sum rest true short is = changed b content sum rest short is
one b content sum rest false short is = plain b content sum rest short is

one_byte : (b : ℕ) (content : List ℕ) (sum : ℕ) (rest : List ℕ) → length content < content_limit →
    messages (Inside (open_body content sum)) (escaped_byte b ++ rest) ≡ messages (Inside (open_body (content ++ (b ∷ [])) (checksum sum (escaped_byte b)))) rest
one_byte b content sum rest short = one b content sum rest (is_special b) short refl

checksum-append : (sum : ℕ) (xs ys : List ℕ) → checksum sum (xs ++ ys) ≡ checksum (checksum sum xs) ys
checksum-append sum [] ys = refl
checksum-append sum (x ∷ xs) ys = checksum-append ((sum + x) % 256) xs ys

-- all
inside : (bytes content : List ℕ) (sum : ℕ) (rest : List ℕ) → length content + length bytes ≤ content_limit →
    messages (Inside (open_body content sum)) (escaped bytes ++ rest) ≡ messages (Inside (open_body (content ++ bytes) (checksum sum (escaped bytes)))) rest
inside [] content sum rest short = rw append-nil refl
inside (b ∷ bytes) content sum rest short =
    let more = content ++ (b ∷ []) in
    let here = one_byte b content sum (escaped bytes ++ rest) (omega arith) in
    let behind = inside bytes more (checksum sum (escaped_byte b)) rest (simp length-append (omega arith)) in
    let split : (escaped_byte b ++ escaped bytes) ++ rest ≡ escaped_byte b ++ (escaped bytes ++ rest) = append_assoc (escaped_byte b) (escaped bytes) rest in
    let whole : more ++ bytes ≡ content ++ (b ∷ bytes) = append_assoc content (b ∷ []) bytes in
    let summed = checksum-append sum (escaped_byte b) (escaped bytes) in
    rw (flat_map-cons escaped_byte b bytes, split, summed) (here ∙ behind ∙ rw whole refl)

-- the digits of a sum spell it
spelled_is : (o : Option ℕ) (n : ℕ) → is_spelled o n ≡ true → o ≡ Some n
spelled_is None n e = absurd (cc)
spelled_is (Some m) n e = ap (λ k. Some k) (eqb→eq m n (rw e tt))

is_glyph : ℕ → Bool
is_glyph d = is_spelled (digit_value (digit_glyph false d)) d

digit-glyph : (d : ℕ) → d < 16 → digit_value (digit_glyph false d) ≡ Some d
unfolding is_glyph
digit-glyph d small = spelled_is (digit_value (digit_glyph false d)) d (agree_below_at is_glyph (λ n. true) 16 d refl small)

digits-spelled : (sum : ℕ) → sum < 256 → byte_spelled (digit_glyph false (sum / 16)) (digit_glyph false (sum % 16)) ≡ Some sum
digits-spelled sum small =
    let high = digit-glyph (sum / 16) (omega arith) in
    let low = digit-glyph (sum % 16) (omega arith) in
    rw (high, low) (ap (λ (n : ℕ). Some n) (omega arith))

below : (sum : ℕ) (bytes : List ℕ) → sum < 256 → checksum sum bytes < 256
below sum [] small = small
below sum (b ∷ bytes) small = below ((sum + b) % 256) bytes (omega arith)

at_end : (content : List ℕ) (sum : ℕ) → sum < 256 → messages (Inside (open_body content sum)) (ending sum) ≡ Packet content ∷ []
at_end content sum small = simp (digits-spelled sum small, eq_self sum) refl

pub packet_read : (content : List ℕ) → length content ≤ content_limit → messages Outside (packet content) ≡ Packet content ∷ []
packet_read content short =
    let sum = checksum 0 (escaped content) in
    inside content [] 0 (ending sum) (omega arith) ∙ at_end content sum (below 0 (escaped content) (omega arith))
