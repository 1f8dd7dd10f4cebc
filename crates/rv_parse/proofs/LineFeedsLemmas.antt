-- The places of line feeds are as many as the line feeds.

use Rattle.std.proofs.Common.{◌≡◌, ℕ, zero, suc, ◌+◌, ◌==◌, Bool, true, false, cond, List, ◌∷◌, length, get_or, drop, sym, ◌∙◌, ap, arith}
use Rattle.std.proofs.lemmas.List.{at_drop_more, at_drop_all}
use Rattle.memchr.specs.Find.{places_from, places, is_byte}
use Rattle.rv_expression_laws.specs.Lexing.{newlines}

one_more : (b : Bool) (i : ℕ) (xs : List ℕ) (m : ℕ) → length xs ≡ m → length (cond b (i ∷ xs) xs) ≡ cond b 1 0 + m
one_more true i xs m e = omega (arith, e)
one_more false i xs m e = omega (arith, e)

feeds_from : (bytes : List ℕ) (i n : ℕ) → i + n ≡ length bytes → length (places_from (is_byte 10) bytes i n) ≡ newlines (drop i bytes)
unfolding places_from
feeds_from bytes i zero e = sym (at_drop_all newlines bytes i (omega (arith, e)))
feeds_from bytes i (suc n) e =
    one_more (get_or bytes i 0 == 10) i (places_from (is_byte 10) bytes (i + 1) n) (newlines (drop (i + 1) bytes)) (feeds_from bytes (i + 1) n (omega (arith, e)))
    ∙ sym (at_drop_more newlines bytes i 0 (omega (arith, e)))

pub feeds_counted : (bytes : List ℕ) → length (places (is_byte 10) bytes) ≡ newlines bytes
feeds_counted bytes = ap (λ (n : ℕ). length (places_from (is_byte 10) bytes 0 n)) (omega arith) ∙ feeds_from bytes 0 (length bytes) (omega arith)
