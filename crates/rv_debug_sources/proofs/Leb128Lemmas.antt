-- The text of a number, byte after byte.

use Rattle.std.proofs.Common.{◌≡◌, ℕ, suc, ◌+◌, ◌-◌, ◌/◌, ◌%◌, ◌<◌, ◌≤◌, nat_lt, Bool, List, ◌++◌, ap, ◌∙◌, sym, append-nil, arith}
use Rattle.std.proofs.lemmas.Bool.{cond-true, cond-false, lt-ltb, le-ltb}
use Rattle.rv_list_laws.proofs.ElementsLemmas.{append_some_more}
use Rattle.rv_debug_sources.specs.Leb128.{seven_bits, byte_text, part_text, unsigned_text, signed_text}

-- ---- unsigned

pub unsigned_last : (most n : ℕ) (text new whole : List ℕ) → 0 < most → n < 128 → new ≡ text ++ byte_text n → text ++ unsigned_text most n ≡ whole → new ≡ whole
unfolding unsigned_text
unsigned_last most n text new whole some last more so_far =
    let left : most ≡ suc (most - 1) = omega arith in
    let said : unsigned_text most n ≡ byte_text n = ap (λ m. unsigned_text m n) left ∙ cond-true (nat_lt n 128) _ _ (lt-ltb n 128 last) in
    more ∙ ap (λ l. text ++ l) (sym said) ∙ so_far

pub unsigned_more : (most n : ℕ) (text new whole : List ℕ) → 0 < most → 128 ≤ n → new ≡ text ++ part_text (n % 128 + 128) → text ++ unsigned_text most n ≡ whole →
    new ++ unsigned_text (most - 1) (n / 128) ≡ whole
unfolding unsigned_text
unsigned_more most n text new whole some long more so_far =
    let left : most ≡ suc (most - 1) = omega arith in
    let said : unsigned_text most n ≡ part_text (n % 128 + 128) ++ unsigned_text (most - 1) (n / 128) =
    ap (λ m. unsigned_text m n) left ∙ cond-false (nat_lt n 128) _ _ (le-ltb n 128 long) in
    append_some_more text new (part_text (n % 128 + 128)) (unsigned_text (most - 1) (n / 128)) (unsigned_text most n) whole more said so_far

pub unsigned_done : (most n : ℕ) (text whole : List ℕ) → most ≡ 0 → text ++ unsigned_text most n ≡ whole → text ≡ whole
unfolding unsigned_text
unsigned_done most n text whole ended so_far = sym (append-nil text) ∙ ap (λ m. text ++ unsigned_text m n) (sym ended) ∙ so_far

-- ---- signed

pub signed_last : (negative : Bool) (most n : ℕ) (text new whole : List ℕ) → 0 < most → n < 64 → new ≡ text ++ byte_text (seven_bits negative n) → text ++ signed_text most negative n ≡ whole →
    new ≡ whole
unfolding signed_text
signed_last negative most n text new whole some last more so_far =
    let left : most ≡ suc (most - 1) = omega arith in
    let said : signed_text most negative n ≡ byte_text (seven_bits negative n) = ap (λ m. signed_text m negative n) left ∙ cond-true (nat_lt n 64) _ _ (lt-ltb n 64 last) in
    more ∙ ap (λ l. text ++ l) (sym said) ∙ so_far

pub signed_more : (negative : Bool) (most n : ℕ) (text new whole : List ℕ) → 0 < most → 64 ≤ n → new ≡ text ++ part_text (seven_bits negative (n % 128) + 128) →
    text ++ signed_text most negative n ≡ whole → new ++ signed_text (most - 1) negative (n / 128) ≡ whole
unfolding signed_text
signed_more negative most n text new whole some long more so_far =
    let left : most ≡ suc (most - 1) = omega arith in
    let one = part_text (seven_bits negative (n % 128) + 128) in
    let said : signed_text most negative n ≡ one ++ signed_text (most - 1) negative (n / 128) =
    ap (λ m. signed_text m negative n) left ∙ cond-false (nat_lt n 64) _ _ (le-ltb n 64 long) in
    append_some_more text new one (signed_text (most - 1) negative (n / 128)) (signed_text most negative n) whole more said so_far

pub signed_done : (negative : Bool) (most n : ℕ) (text whole : List ℕ) → most ≡ 0 → text ++ signed_text most negative n ≡ whole → text ≡ whole
unfolding signed_text
signed_done negative most n text whole ended so_far = sym (append-nil text) ∙ ap (λ m. text ++ signed_text m negative n) (sym ended) ∙ so_far
