-- Bytes that are added one after another.

use Rattle.std.proofs.Common.{◌≡◌, ℕ, List, ◌-◌, ◌≤◌, ◌++◌, length, take, drop, ap, ◌∙◌, append_assoc, arith}
use Rattle.std.proofs.lemmas.List.{length-drop, take_all}

-- one list behind what was written so far
pub behind : (old new front next : List ℕ) (more : List ℕ) → new ≡ old ++ front → next ≡ new ++ more → next ≡ old ++ (front ++ more)
behind old new front next more before after = after ∙ ap (λ l. l ++ more) before ∙ append_assoc old front more

pub five : (old a b c d e : List ℕ) → ((((old ++ a) ++ b) ++ c) ++ d) ++ e ≡ old ++ (a ++ (b ++ (c ++ (d ++ e))))
five old a b c d e =
    append_assoc (((old ++ a) ++ b) ++ c) d e
    ∙ append_assoc ((old ++ a) ++ b) c (d ++ e)
    ∙ append_assoc (old ++ a) b (c ++ (d ++ e))
    ∙ append_assoc old a (b ++ (c ++ (d ++ e)))

pub added_five : (old i1 i2 i3 i4 i5 a b c d e : List ℕ) → i1 ≡ old ++ a → i2 ≡ i1 ++ b → i3 ≡ i2 ++ c → i4 ≡ i3 ++ d → i5 ≡ i4 ++ e →
    i5 ≡ old ++ (a ++ (b ++ (c ++ (d ++ e))))
added_five old i1 i2 i3 i4 i5 a b c d e one two three four fifth =
    fifth ∙ ap (λ l. l ++ e) (four ∙ ap (λ l. l ++ d) (three ∙ ap (λ l. l ++ c) (two ∙ ap (λ l. l ++ b) one)))
    ∙ five old a b c d e

pub six : (old a b c d e f : List ℕ) → (((((old ++ a) ++ b) ++ c) ++ d) ++ e) ++ f ≡ old ++ (a ++ (b ++ (c ++ (d ++ (e ++ f)))))
six old a b c d e f =
    append_assoc ((((old ++ a) ++ b) ++ c) ++ d) e f
    ∙ append_assoc (((old ++ a) ++ b) ++ c) d (e ++ f)
    ∙ append_assoc ((old ++ a) ++ b) c (d ++ (e ++ f))
    ∙ append_assoc (old ++ a) b (c ++ (d ++ (e ++ f)))
    ∙ append_assoc old a (b ++ (c ++ (d ++ (e ++ f))))

pub added_six : (old i1 i2 i3 i4 i5 i6 a b c d e f : List ℕ) → i1 ≡ old ++ a → i2 ≡ i1 ++ b → i3 ≡ i2 ++ c → i4 ≡ i3 ++ d → i5 ≡ i4 ++ e → i6 ≡ i5 ++ f →
    i6 ≡ old ++ (a ++ (b ++ (c ++ (d ++ (e ++ f)))))
added_six old i1 i2 i3 i4 i5 i6 a b c d e f one two three four five sixth =
    sixth ∙ ap (λ l. l ++ f) (five ∙ ap (λ l. l ++ e) (four ∙ ap (λ l. l ++ d) (three ∙ ap (λ l. l ++ c) (two ∙ ap (λ l. l ++ b) one))))
    ∙ six old a b c d e f

-- a slice from an index on
pub to_the_end : {A : Type 0} (n : ℕ) (xs : List A) → take (length xs - n) (drop n xs) ≡ drop n xs
to_the_end n xs =
    let all : length (drop n xs) ≤ length xs - n = omega (arith, length-drop n xs) in
    take_all (length xs - n) (drop n xs) all
