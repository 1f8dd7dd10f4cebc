-- A look-up in a table among the names of the word's place alone.

use Rattle.std.proofs.Common.{◌≡◌, ℕ, zero, suc, ◌+◌, ◌*◌, ◌%◌, ◌<◌, Bool, true, false, List, [], ◌∷◌, get_or, Some, refl, ◌∙◌, ap, subst, arith}
use Rattle.std.specs.Prelude.{◌==◌, if◌then◌else◌}
use Rattle.std.specs.Str.{bytes_eq}
use Rattle.std.proofs.lemmas.Bool.{eq-eqb}
use Rattle.std.proofs.lemmas.Slice.Eq.{bytes_eq-Decides}
use Rattle.rv_parse_laws.specs.Words.{named_in}
use Rattle.rv_parse_words.specs.View.{second, last_byte}

-- the rows whose names have this key: a number that is made of their bytes
abbrev pub of_key : {X : Type 0} → (List ℕ → ℕ) → ℕ → List (List ℕ × X) → List (List ℕ × X)
of_key key n [] = []
of_key key n (row ∷ rows) = if key row.0 == n then row ∷ of_key key n rows else of_key key n rows

by_key : {X : Type 0} (key : List ℕ → ℕ) (table : List (List ℕ × X)) (word : List ℕ) → named_in (of_key key (key word) table) word ≡ named_in table word
by_key key [] word = refl
by_key {X} key (row ∷ rows) word = go (bytes_eq row.0 word) refl (by_key key rows word)
  where
    other : (t : Bool) → bytes_eq row.0 word ≡ false → named_in (of_key key (key word) rows) word ≡ named_in rows word
        → named_in (if t then row ∷ of_key key (key word) rows else of_key key (key word) rows) word ≡ named_in rows word
    other true e ih = rw e ih
    other false e ih = ih

    go : (b : Bool) → bytes_eq row.0 word ≡ b → named_in (of_key key (key word) rows) word ≡ named_in rows word
        → named_in (if key row.0 == key word then row ∷ of_key key (key word) rows else of_key key (key word) rows) word
        ≡ (if b then Some row.1 else named_in rows word)
    go true e ih =
        let same : row.0 ≡ word = (bytes_eq-Decides row.0 word).0 e in
        let t : (key row.0 == key word) ≡ true = eq-eqb (key row.0) (key word) (ap key same) in
        rw t (rw e refl)
    go false e ih = other (key row.0 == key word) e ih

-- the rows whose names have the word's key
pub of_this_key : {X : Type 0} (key : List ℕ → ℕ) (table : List (List ℕ × X)) (n : ℕ) (word : List ℕ) → key word ≡ n → named_in (of_key key n table) word ≡ named_in table word
of_this_key key table n word e = subst (λ k. named_in (of_key key k table) word ≡ named_in table word) e (by_key key table word)

-- so many lists of a table, from a key on
abbrev pub lists_from : {X : Type 0} (key : List ℕ → ℕ) (table : List (List ℕ × X)) → ℕ → ℕ → List (List (List ℕ × X))
lists_from key table n zero = []
lists_from key table n (suc count) = of_key key n table ∷ lists_from key table (suc n) count

pub list_at : {X : Type 0} (key : List ℕ → ℕ) (table : List (List ℕ × X)) (n count i : ℕ) → i < count → get_or (lists_from key table n count) i [] ≡ of_key key (i + n) table
list_at key table n zero i less = absurd (omega (arith, less))
list_at key table n (suc count) zero less = ap (λ m. of_key key m table) (let same : n ≡ 0 + n = omega arith in same)
list_at key table n (suc count) (suc i) less =
    list_at key table (suc n) count i (omega (arith, less)) ∙ ap (λ m. of_key key m table) (let same : i + suc n ≡ suc i + n = omega arith in same)

-- so a look-up in the list of the word's key is one in the table
pub in_list : {X : Type 0} (key : List ℕ → ℕ) (table : List (List ℕ × X)) (count i : ℕ) (word : List ℕ) → i < count → key word ≡ i
    → named_in (get_or (lists_from key table 0 count) i []) word ≡ named_in table word
in_list key table count i word less is =
    let same : i + 0 ≡ i = omega arith in
    ap (λ rows. named_in rows word) (list_at key table 0 count i less ∙ ap (λ n. of_key key n table) same) ∙ of_this_key key table i word is

-- three times the second byte and the last one, modulo 64
abbrev pub instruction_place : List ℕ → ℕ
instruction_place word = (second word * 3 + last_byte word) % 64

-- the last five bits of the second byte
abbrev pub directive_place : List ℕ → ℕ
directive_place word = second word % 32
