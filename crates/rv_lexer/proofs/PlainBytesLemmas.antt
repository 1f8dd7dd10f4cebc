-- The bytes of a string that stand as they are, up to its next escape.

use Rattle.std.proofs.Common.{◌≡◌, ℕ, ◌+◌, ◌<◌, ◌≤◌, Bool, true, false, not, cond, List, [], ◌∷◌, ◌++◌, length, length-append, get_or, take, drop, map, refl, sym, ◌∙◌, ap, arith, Option, Some, None, option_map, Result, Ok, Err}
use Rattle.std.specs.Prelude.{OnErr, is_some, ◌==◌, ◌||◌, suc}
use Rattle.std.proofs.lemmas.List.{length-take-le}
use Rattle.std.proofs.lemmas.List.Folds.{list_any_at, list_any-append}
use Rattle.std.proofs.lemmas.List.Sums.{prefix_len_is}
use Rattle.std.proofs.Math.Numerals.{one-add}
use Rattle.std.specs.List.{prefix_len, list_any}
use Rattle.memchr.specs.Find.{IsFirstByte, is_byte, is_byte3}
use Rattle.rv_expression_laws.specs.Cut.{Piece, cut}
use Rattle.rv_expression_laws.specs.Strings.{Atom, Plain, byte_of, is_plain, StopsAtom}
use Rattle.rv_expression_laws.specs.Front.{atom_at}
use Rattle.rv_expression_laws.proofs.CutLemmas.{cut-some}
use Rattle.rv_expression_laws.proofs.AtomsLemmas.{atoms}
use Rattle.rv_lexer.specs.Token.{string_bytes}
use Rattle.rv_lexer.proofs.InsideLemmas.{string_more}

pub on_err : {T E P : Type 0} (r : Result T E) → P → OnErr r P
on_err (Ok x) p = tt
on_err (Err e) p = p

-- what `memchr3` finds is where they end
stands : (b : ℕ) → (is_byte3 34 92 10 b ≡ true → ⊥) → is_plain b ≡ true
stands b h = go (is_byte3 34 92 10 b) refl
  where
    go : (t : Bool) → is_byte3 34 92 10 b ≡ t → not t ≡ true
    go true e = absurd (h e)
    go false e = refl

pub plain_some : (hay : List ℕ) (k : ℕ) → IsFirstByte (is_byte3 34 92 10) hay (Some k) → k ≡ prefix_len is_plain hay
plain_some hay k h =
    let high : k < length hay = h.0.high in
    sym (prefix_len_is is_plain hay k 0 (omega arith) (λ j lt. stands (get_or hay j 0) (h.0.before j (omega arith) lt)) (λ _. ap not h.1))

pub plain_none : (hay : List ℕ) → IsFirstByte (is_byte3 34 92 10) hay None → length hay ≡ prefix_len is_plain hay
plain_none hay h = sym (prefix_len_is is_plain hay (length hay) 0 (omega arith) (λ j lt. stands (get_or hay j 0) (h j (omega arith) lt)) (λ lt. absurd (omega arith)))

-- each is an atom of its own
nothing_more : (b : ℕ) (bs : List ℕ) → StopsAtom (Plain b) bs
nothing_more b [] = tt
nothing_more b (x ∷ xs) = refl

plain_atom : (b : ℕ) (bs : List ℕ) → is_plain b ≡ true → atom_at (b ∷ bs) ≡ Some (Plain b, 1)
plain_atom b bs h = atoms.is (Plain b) (b ∷ []) bs (refl, h) (nothing_more b bs)

one_plain : (b : ℕ) (bs : List ℕ) → is_plain b ≡ true → string_bytes (b ∷ bs) ≡ b ∷ string_bytes bs
unfolding string_bytes
one_plain b bs h = ap (λ c. map (λ (p : Piece Atom ℕ). byte_of p.kind) c.0) (cut-some atoms (b ∷ bs) (Plain b) 1 (plain_atom b bs h))

-- the atoms of what is behind them end where those of the whole do
pub plain_end : (bytes : List ℕ) (n : ℕ) → n ≡ prefix_len is_plain bytes → (cut atom_at bytes).1 ≡ (cut atom_at (drop n bytes)).1
plain_end bytes n is = all bytes ∙ ap (λ (k : ℕ). (cut atom_at (drop k bytes)).1) (sym is)
  where
    step : (b : ℕ) (bs : List ℕ) (t : Bool) → is_plain b ≡ t → (cut atom_at bs).1 ≡ (cut atom_at (drop (prefix_len is_plain bs) bs)).1
        → (cut atom_at (b ∷ bs)).1 ≡ (cut atom_at (drop (cond t (1 + prefix_len is_plain bs) 0) (b ∷ bs))).1
    step b bs true e more = rw one-add (ap (λ c. c.1) (cut-some atoms (b ∷ bs) (Plain b) 1 (plain_atom b bs e)) ∙ more)
    step b bs false e more = refl

    all : (bs : List ℕ) → (cut atom_at bs).1 ≡ (cut atom_at (drop (prefix_len is_plain bs) bs)).1
    all [] = refl
    all (b ∷ bs) = step b bs (is_plain b) refl (all bs)

-- they and the bytes of what is behind them are the string's
pub plain_bytes : (bytes : List ℕ) (n : ℕ) → n ≡ prefix_len is_plain bytes → string_bytes bytes ≡ take n bytes ++ string_bytes (drop n bytes)
plain_bytes bytes n is = all bytes ∙ ap (λ (k : ℕ). take k bytes ++ string_bytes (drop k bytes)) (sym is)
  where
    step : (b : ℕ) (bs : List ℕ) (t : Bool) → is_plain b ≡ t → string_bytes bs ≡ take (prefix_len is_plain bs) bs ++ string_bytes (drop (prefix_len is_plain bs) bs)
        → string_bytes (b ∷ bs) ≡ take (cond t (1 + prefix_len is_plain bs) 0) (b ∷ bs) ++ string_bytes (drop (cond t (1 + prefix_len is_plain bs) 0) (b ∷ bs))
    step b bs true e more = rw one-add (one_plain b bs e ∙ ap (λ xs. b ∷ xs) more)
    step b bs false e more = refl

    all : (bs : List ℕ) → string_bytes bs ≡ take (prefix_len is_plain bs) bs ++ string_bytes (drop (prefix_len is_plain bs) bs)
    all [] = refl
    all (b ∷ bs) = step b bs (is_plain b) refl (all bs)

pub in_two : (bytes plain behind : List ℕ) (n : ℕ) → n ≡ prefix_len is_plain bytes → plain ≡ take n bytes → behind ≡ drop n bytes → string_bytes bytes ≡ plain ++ string_bytes behind
in_two bytes plain behind n is front back = rw (front, back) (plain_bytes bytes n is)

-- an atom, the bytes behind it that stand as they are, and what is behind them
pub atom_and_plain : (bytes after plain behind : List ℕ) (b n k : ℕ) → ◌≡◌ {A = Option (ℕ × ℕ)} (Some (b, n)) (option_map (λ f. (byte_of f.0, f.1)) (atom_at bytes)) → after ≡ drop n bytes
    → k ≡ prefix_len is_plain after → plain ≡ take k after → behind ≡ drop k after → string_bytes bytes ≡ b ∷ (plain ++ string_bytes behind)
atom_and_plain bytes after plain behind b n k atom is count front back =
    string_more bytes b n atom
    ∙ ap (λ r. b ∷ string_bytes r) (sym is)
    ∙ ap (λ l. b ∷ l) (in_two after plain behind k count front back)

-- whether a byte is among those of a string that begins with another one
pub any_behind : (w b : ℕ) (bytes plain behind : List ℕ) → string_bytes bytes ≡ b ∷ (plain ++ string_bytes behind) → (b == w) ≡ false
    → list_any (λ byte. byte == w) (string_bytes bytes) ≡ (list_any (λ byte. byte == w) plain || list_any (λ byte. byte == w) (string_bytes behind))
any_behind w b bytes plain behind is other =
    ap (list_any (λ byte. byte == w)) is
    ∙ ap (λ t. t || list_any (λ byte. byte == w) (plain ++ string_bytes behind)) other
    ∙ list_any-append (λ byte. byte == w) plain (string_bytes behind)

pub plain_size : (bytes behind : List ℕ) (n : ℕ) → n ≡ prefix_len is_plain bytes → n ≤ length bytes → behind ≡ drop n bytes → n + length (string_bytes behind) ≡ length (string_bytes bytes)
plain_size bytes behind n is within back =
    let whole = ap length (plain_bytes bytes n is) ∙ length-append (take n bytes) (string_bytes (drop n bytes)) in
    omega (arith, whole, length-take-le n bytes within, ap (λ r. length (string_bytes r)) back)

-- a byte is found where it is among them
none_any : (w : ℕ) (hay : List ℕ) → ((k : ℕ) → k < length hay → (get_or hay k 0 == w) ≡ true → ⊥) → list_any (λ byte. byte == w) hay ≡ false
none_any w [] h = refl
none_any w (b ∷ bs) h = go (b == w) refl (none_any w bs (λ k lt e. h (suc k) (omega arith) e))
  where
    go : (t : Bool) → (b == w) ≡ t → list_any (λ byte. byte == w) bs ≡ false → (t || list_any (λ byte. byte == w) bs) ≡ false
    go true e more = absurd (h 0 (omega arith) e)
    go false e more = more

pub found_any : (w : ℕ) (hay : List ℕ) (r : Option ℕ) → IsFirstByte (is_byte w) hay r → is_some r ≡ list_any (λ byte. byte == w) hay
found_any w hay None h = sym (none_any w hay (λ k lt e. h k (omega arith) lt e))
found_any w hay (Some k) h = sym (list_any_at (λ byte. byte == w) hay k 0 h.0.high h.1)
