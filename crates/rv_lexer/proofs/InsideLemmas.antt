-- The inside of a string: what its atoms are, up to the quote.

use Rattle.std.proofs.Common.{◌≡◌, ℕ, suc, ◌+◌, ◌<◌, ◌≤◌, Bool, true, false, cond, ◌==◌, List, [], ◌∷◌, ◌++◌, length, take, drop, map, refl, sym, ◌∙◌, ap, arith, length-append, Option, Some, None, option_map}
use Rattle.std.proofs.lemmas.List.{append-nil}
use Rattle.std.proofs.lemmas.Option.{some_pair_parts}
use Rattle.std.proofs.Math.Seq.{take-append_seam}
use Rattle.rv_expression_laws.specs.Cut.{Piece, texts, Each, cut}
use Rattle.rv_expression_laws.specs.Strings.{Atom, byte_of, SpellsAtom, StopsAtom}
use Rattle.rv_expression_laws.specs.Grammar as grammar
use Rattle.rv_expression_laws.specs.Front.{has_first, atom_at, closed_string, closed_escape, character_at}
use Rattle.rv_expression_laws.proofs.CutLemmas.{front, cuts, unique, cut-some, cut-none}
use Rattle.rv_expression_laws.proofs.AtomsLemmas.{atoms}
use Rattle.rv_expression_laws.proofs.CommentsLemmas.{begins_is}
use Rattle.rv_lexer.specs.Token.{string_bytes}

-- what an atom takes
pub atom_within : (bytes : List ℕ) (b n : ℕ) → ◌≡◌ {A = Option (ℕ × ℕ)} (Some (b, n)) (option_map (λ f. (byte_of f.0, f.1)) (atom_at bytes)) → (0 < n) × (n ≤ length bytes) × ((cut atom_at bytes).1 ≡ (cut atom_at (drop n bytes)).1)
atom_within bytes b n e = go (atom_at bytes) refl e
  where
    go : (o : Option (Atom × ℕ)) → atom_at bytes ≡ o → ◌≡◌ {A = Option (ℕ × ℕ)} (Some (b, n)) (option_map (λ f. (byte_of f.0, f.1)) o) → (0 < n) × (n ≤ length bytes) × ((cut atom_at bytes).1 ≡ (cut atom_at (drop n bytes)).1)
    go None at is = cc
    go (Some (a, m)) at is =
        let same : n ≡ m = (some_pair_parts b (byte_of a) n m is).1 in
        let f = front atoms bytes a m at in
        let some : 0 < m = f.some in
        let within : m ≤ length bytes = omega (arith, f.is_length, ap length f.whole, length-append (take m bytes) (drop m bytes)) in
        let more : (cut atom_at bytes).1 ≡ (cut atom_at (drop m bytes)).1 = ap (λ c. c.1) (cut-some atoms bytes a m at) in
        (omega arith, omega arith, more ∙ ap (λ k. (cut atom_at (drop k bytes)).1) (sym same))

pub atoms_end : (bytes : List ℕ) → ◌≡◌ {A = Option (ℕ × ℕ)} None (option_map (λ f. (byte_of f.0, f.1)) (atom_at bytes)) → (cut atom_at bytes).1 ≡ bytes
atoms_end bytes e = go (atom_at bytes) refl e
  where
    go : (o : Option (Atom × ℕ)) → atom_at bytes ≡ o → ◌≡◌ {A = Option (ℕ × ℕ)} None (option_map (λ f. (byte_of f.0, f.1)) o) → (cut atom_at bytes).1 ≡ bytes
    go None at is = ap (λ c. c.1) (cut-none atoms bytes at)
    go (Some f) at is = cc

stops_end : (a : Atom) (xs rest : List ℕ) → StopsAtom a (xs ++ rest) → StopsAtom a (xs ++ [])
stops_end a [] rest s = tt
stops_end a (x ∷ xs) rest s = s

each_end : (ps : List (Piece Atom ℕ)) (rest : List ℕ) → Each SpellsAtom StopsAtom ps rest → Each SpellsAtom StopsAtom ps []
each_end [] rest e = tt
each_end (p ∷ ps) rest e = (e.0, stops_end p.kind (texts ps) rest e.1, each_end ps rest e.2)

nothing_left : atom_at [] ≡ None
unfolding atom_at
nothing_left = refl

inside_bytes : (ps : List (Piece Atom ℕ)) → Each SpellsAtom StopsAtom ps [] → string_bytes (texts ps) ≡ map (λ a. byte_of a.kind) ps
unfolding string_bytes
inside_bytes ps each = ap (λ c. map (λ a. byte_of a.kind) c.0) (unique atoms (texts ps) ps [] (record { whole = sym (append-nil (texts ps)); each = each }) nothing_left)

-- a string that is closed, and one that is not
pub closed : (bytes rest : List ℕ) (n : ℕ) → (cut atom_at bytes).1 ≡ rest → has_first 34 rest ≡ true → n + length rest ≡ length bytes
    → Some (grammar.Text (string_bytes (take n bytes)), n + 2) ≡ closed_string (cut atom_at bytes)
closed bytes rest n end quote count =
    let c = (cuts atoms bytes).0 in
    by_cut (cut atom_at bytes).0 (cut atom_at bytes).1 c.whole c.each end
  where
    by_cut : (ps : List (Piece Atom ℕ)) (after : List ℕ) → bytes ≡ texts ps ++ after → Each SpellsAtom StopsAtom ps after → after ≡ rest
        → Some (grammar.Text (string_bytes (take n bytes)), n + 2) ≡ closed_string (ps, after)
    by_cut ps after whole each same =
        let len : n ≡ length (texts ps) = omega (arith, ap length whole, length-append (texts ps) after, ap length same) in
        let inside : take n bytes ≡ texts ps = ap (λ m. take m bytes) len ∙ ap (take (length (texts ps))) whole ∙ take-append_seam (texts ps) after in
        let text : string_bytes (take n bytes) ≡ map (λ a. byte_of a.kind) ps = ap string_bytes inside ∙ inside_bytes ps (each_end ps after each) in
        let size : n + 2 ≡ suc (suc (length (texts ps))) = omega arith in
        let test : has_first 34 after ≡ true = ap (has_first 34) same ∙ quote in
        ap (λ b. Some (grammar.Text b, n + 2)) text
        ∙ ap (λ m. Some (grammar.Text (map (λ a. byte_of a.kind) ps), m)) size
        ∙ sym (ap (λ t. cond t (Some (grammar.Text (map (λ a. byte_of a.kind) ps), suc (suc (length (texts ps))))) None) test)

pub unclosed : (bytes rest : List ℕ) → (cut atom_at bytes).1 ≡ rest → has_first 34 rest ≡ false → None ≡ closed_string (cut atom_at bytes)
unclosed bytes rest end quote =
    let test : has_first 34 (cut atom_at bytes).1 ≡ false = ap (has_first 34) end ∙ quote in
    sym (ap (λ t. cond t (Some (grammar.Text (map (λ a. byte_of a.kind) (cut atom_at bytes).0), suc (suc (length (texts (cut atom_at bytes).0))))) None) test)

-- the bounds of a string
pub string_within : (bs : List ℕ) (k : grammar.Kind) (n : ℕ) → Some (k, n + 2) ≡ closed_string (cut atom_at bs) → n + 1 ≤ length bs
string_within bs k n e = go (cut atom_at bs).0 (cut atom_at bs).1 (cuts atoms bs).0.whole e
  where
    by_test : (t : Bool) (ps : List (Piece Atom ℕ)) (rest : List ℕ) → has_first 34 rest ≡ t → bs ≡ texts ps ++ rest
        → ◌≡◌ {A = Option (grammar.Kind × ℕ)} (Some (k, n + 2)) (cond t (Some (grammar.Text (map (λ a. byte_of a.kind) ps), suc (suc (length (texts ps))))) None) → n + 1 ≤ length bs
    by_test false ps rest test whole is = cc
    by_test true ps rest test whole is =
        let size = (some_pair_parts k (grammar.Text (map (λ a. byte_of a.kind) ps)) (n + 2) (suc (suc (length (texts ps)))) is).1 in
        let r = begins_is 34 rest test in
        omega (arith, size, ap length whole, length-append (texts ps) rest, ap length r.1)

    go : (ps : List (Piece Atom ℕ)) (rest : List ℕ) → bs ≡ texts ps ++ rest → Some (k, n + 2) ≡ closed_string (ps, rest) → n + 1 ≤ length bs
    go ps rest whole is = by_test (has_first 34 rest) ps rest refl whole is

-- a character by an escape

by_escape : (x : ℕ) (xs : List ℕ) → (x == 92) ≡ true → character_at (x ∷ xs) ≡ closed_escape (x ∷ xs) (atom_at (x ∷ xs))
unfolding atom_at
by_escape x xs t = rw t refl

pub escaped : (bytes : List ℕ) (b n : ℕ) (t : Bool) → has_first 92 bytes ≡ true → ◌≡◌ {A = Option (ℕ × ℕ)} (Some (b, n)) (option_map (λ f. (byte_of f.0, f.1)) (atom_at bytes)) → has_first 39 (drop n bytes) ≡ t
    → cond {A = Option (grammar.Kind × ℕ)} t (Some (grammar.Character b, suc (suc n))) None ≡ character_at bytes
escaped [] b n t back atom quote = cc
escaped (x ∷ xs) b n t back atom quote = go (atom_at (x ∷ xs)) (by_escape x xs back) atom
  where
    go : (o : Option (Atom × ℕ)) → character_at (x ∷ xs) ≡ closed_escape (x ∷ xs) o → ◌≡◌ {A = Option (ℕ × ℕ)} (Some (b, n)) (option_map (λ f. (byte_of f.0, f.1)) o)
        → cond {A = Option (grammar.Kind × ℕ)} t (Some (grammar.Character b, suc (suc n))) None ≡ character_at (x ∷ xs)
    go None is e = cc
    go (Some (a, m)) is e =
        let same : b ≡ byte_of a = (some_pair_parts b (byte_of a) n m e).0 in
        let len : n ≡ m = (some_pair_parts b (byte_of a) n m e).1 in
        let test : has_first 39 (drop m (x ∷ xs)) ≡ t = ap (λ k. has_first 39 (drop k (x ∷ xs))) (sym len) ∙ quote in
        ap (λ k. cond {A = Option (grammar.Kind × ℕ)} t (Some (grammar.Character k, suc (suc n))) None) same
        ∙ ap (λ k. cond {A = Option (grammar.Kind × ℕ)} t (Some (grammar.Character (byte_of a), suc (suc k))) None) len
        ∙ ap (λ u. cond {A = Option (grammar.Kind × ℕ)} u (Some (grammar.Character (byte_of a), suc (suc m))) None) (sym test)
        ∙ sym is

pub not_escaped : (bytes : List ℕ) → has_first 92 bytes ≡ true → ◌≡◌ {A = Option (ℕ × ℕ)} None (option_map (λ f. (byte_of f.0, f.1)) (atom_at bytes)) → None ≡ character_at bytes
not_escaped [] back atom = cc
not_escaped (x ∷ xs) back atom = go (atom_at (x ∷ xs)) (by_escape x xs back) atom
  where
    go : (o : Option (Atom × ℕ)) → character_at (x ∷ xs) ≡ closed_escape (x ∷ xs) o → ◌≡◌ {A = Option (ℕ × ℕ)} None (option_map (λ f. (byte_of f.0, f.1)) o) → None ≡ character_at (x ∷ xs)
    go None is e = sym is
    go (Some f) is e = cc

-- a string's bytes, one by one
pub string_more : (bytes : List ℕ) (b n : ℕ) → ◌≡◌ {A = Option (ℕ × ℕ)} (Some (b, n)) (option_map (λ f. (byte_of f.0, f.1)) (atom_at bytes)) → string_bytes bytes ≡ b ∷ string_bytes (drop n bytes)
unfolding string_bytes
string_more bytes b n e = go (atom_at bytes) refl e
  where
    go : (o : Option (Atom × ℕ)) → atom_at bytes ≡ o → ◌≡◌ {A = Option (ℕ × ℕ)} (Some (b, n)) (option_map (λ f. (byte_of f.0, f.1)) o)
        → map (λ a. byte_of a.kind) (cut atom_at bytes).0 ≡ b ∷ map (λ a. byte_of a.kind) (cut atom_at (drop n bytes)).0
    go None at is = cc
    go (Some (a, m)) at is =
        let byte : b ≡ byte_of a = (some_pair_parts b (byte_of a) n m is).0 in
        let size : n ≡ m = (some_pair_parts b (byte_of a) n m is).1 in
        ap (λ c. map (λ (p : Piece Atom ℕ). byte_of p.kind) c.0) (cut-some atoms bytes a m at)
        ∙ ap (λ x. x ∷ map (λ (p : Piece Atom ℕ). byte_of p.kind) (cut atom_at (drop m bytes)).0) (sym byte)
        ∙ ap (λ k. b ∷ map (λ (p : Piece Atom ℕ). byte_of p.kind) (cut atom_at (drop k bytes)).0) (sym size)

pub string_none : (bytes : List ℕ) → ◌≡◌ {A = Option (ℕ × ℕ)} None (option_map (λ f. (byte_of f.0, f.1)) (atom_at bytes)) → string_bytes bytes ≡ []
unfolding string_bytes
string_none bytes e = go (atom_at bytes) refl e
  where
    go : (o : Option (Atom × ℕ)) → atom_at bytes ≡ o → ◌≡◌ {A = Option (ℕ × ℕ)} None (option_map (λ f. (byte_of f.0, f.1)) o) → map (λ a. byte_of a.kind) (cut atom_at bytes).0 ≡ []
    go None at is = ap (λ c. map (λ (p : Piece Atom ℕ). byte_of p.kind) c.0) (cut-none atoms bytes at)
    go (Some f) at is = cc
