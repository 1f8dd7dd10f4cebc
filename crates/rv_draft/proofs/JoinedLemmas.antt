-- What one more of a list gives.

use Rattle.std.proofs.Common.{append_assoc, append-nil, ◌≡◌, ℕ, ◌<◌, ◌≤◌, zero, suc, refl, take, List, [], ◌∷◌, ◌++◌, length, get_or, ap, ◌∙◌, arith}
use Rattle.rv_instruction.specs.declared.encoded.Encoded.{Encoded}
use Rattle.rv_instruction.specs.declared.encoded.Encoded.TheVariants.{Parcel, Word, Pair}
use Rattle.rv_instruction.specs.Code.{alone_coded, encoded_bytes, encoded_instructions}
use Rattle.rv_draft.specs.Code.{code_bytes, code_size}

pub put_twice : (old mid new a b : List ℕ) → mid ≡ old ++ a → new ≡ mid ++ b → new ≡ old ++ (a ++ b)
put_twice old mid new a b first second = second ∙ ap (λ l. l ++ b) first ∙ append_assoc old a b

pub take_next : (xs : List ℕ) (i x : ℕ) → i < length xs → take (suc i) xs ≡ take i xs ++ get_or xs i x ∷ []
take_next [] i x inside = absurd (let none : i < 0 = inside in omega arith)
take_next (y ∷ ys) zero x inside = refl
take_next (y ∷ ys) (suc i) x inside = ap (λ l. y ∷ l) (take_next ys i x (let h : suc i < suc (length ys) = inside in omega arith))

pub take_none : (xs : List ℕ) → take 0 xs ≡ []
take_none [] = refl
take_none (x ∷ xs) = refl

pub take_past : (xs : List ℕ) (i : ℕ) → length xs ≤ i → take i xs ≡ xs
take_past [] zero past = refl
take_past [] (suc i) past = refl
take_past (x ∷ xs) zero past = absurd (omega (arith, past))
take_past (x ∷ xs) (suc i) past = ap (λ l. x ∷ l) (take_past xs i (let h : suc (length xs) ≤ suc i = past in omega (arith, h)))

-- the code of one instruction without padding
pub alone_bytes : (e : Encoded) → code_bytes 0 (alone_coded e).items ≡ encoded_bytes e
alone_bytes e = append-nil (encoded_bytes e)

-- its bytes, and its instructions
pub alone_size : (padding : ℕ) (e : Encoded)
    → code_size padding (alone_coded e).items ≡ record { padding = padding; bytes = length (encoded_bytes e); instructions = encoded_instructions e }
alone_size padding (Parcel p) = refl
alone_size padding (Word w) = refl
alone_size padding (Pair v w) = refl
