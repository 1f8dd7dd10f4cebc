-- Symbols and their names, one after another.

use Rattle.std.proofs.Common.{◌≡◌, ◌∙◌, ℕ, ◌+◌, ◌<◌, ◌^◌, List, [], ◌∷◌, ◌++◌, length, drop, map, replicate, ap, sym, append-nil, append_assoc, arith}
use Rattle.std.proofs.lemmas.List.{length-append}
use Rattle.rv_list_laws.proofs.ElementsLemmas.{append_some_more}
use Rattle.rv_elf_laws.specs.Records.{symbol_bytes}
use Rattle.rv_map_laws.specs.Map.{Map}
use Rattle.rv_debug_laws.specs.Symbols.{KnownName, Names, name_strings, name_symbol, symbol_table, symbols_from}
use Rattle.rv_labels.specs.declared.known.KnownName.{KnownName as DeclaredName}
use Rattle.rv_labels.specs.Known.{known_of}

abbrev pub names_in : List DeclaredName → List ℕ
names_in gs = name_strings (map known_of gs)

-- a name more
pub name_more : (out new whole : List ℕ) (gs : List DeclaredName) (i : ℕ) (g : DeclaredName) → drop i gs ≡ g ∷ drop (i + 1) gs →
    new ≡ out ++ name_strings (known_of g ∷ []) → out ++ names_in (drop i gs) ≡ whole → new ++ names_in (drop (i + 1) gs) ≡ whole
name_more out new whole gs i g here added before =
    append_some_more out new (name_strings (known_of g ∷ [])) (names_in (drop (i + 1) gs)) (names_in (drop i gs)) whole added
    (ap names_in here ∙ one (known_of g).name (names_in (drop (i + 1) gs))) before
  where
    one : (name rest : List ℕ) → (name ++ 0 ∷ []) ++ rest ≡ ((name ++ 0 ∷ []) ++ []) ++ rest
    one name rest = ap (λ l. l ++ rest) (sym (append-nil (name ++ 0 ∷ [])))

-- a symbol more
pub symbol_more : (m : Map) (binding name size : ℕ) (out new whole : List ℕ) (gs : List DeclaredName) (i : ℕ) (g : DeclaredName) →
    size ≡ length (known_of g).name →
    drop i gs ≡ g ∷ drop (i + 1) gs → new ≡ out ++ symbol_bytes (name_symbol m binding name (known_of g)) →
    out ++ symbols_from m binding name (map known_of (drop i gs)) ≡ whole →
    new ++ symbols_from m binding (name + size + 1) (map known_of (drop (i + 1) gs)) ≡ whole
symbol_more m binding name size out new whole gs i g is here added before =
    ap (λ n. new ++ symbols_from m binding (name + n + 1) (map known_of (drop (i + 1) gs))) is
    ∙ append_some_more out new (symbol_bytes (name_symbol m binding name (known_of g)))
    (symbols_from m binding (name + length (known_of g).name + 1) (map known_of (drop (i + 1) gs)))
    (symbols_from m binding name (map known_of (drop i gs))) whole added
    (ap (λ l. symbols_from m binding name (map known_of l)) here) before

-- the offset behind its name
pub offset_more : (name size sum : ℕ) (gs : List DeclaredName) (i : ℕ) (g : DeclaredName) → size ≡ length (known_of g).name →
    drop i gs ≡ g ∷ drop (i + 1) gs → name + length (names_in (drop i gs)) ≡ sum → name + size + 1 + length (names_in (drop (i + 1) gs)) ≡ sum
offset_more name size sum gs i g is here before =
    let own : List ℕ = (known_of g).name in
    let all : length (names_in (drop i gs)) ≡ length own + 1 + length (names_in (drop (i + 1) gs)) =
    ap (λ l. length (names_in l)) here ∙ length-append (own ++ 0 ∷ []) (names_in (drop (i + 1) gs))
    ∙ ap (λ n. n + length (names_in (drop (i + 1) gs))) (length-append own (0 ∷ [])) in
    omega (arith, is, before, all)

-- the offsets of names have 32 bits
pub names_fit : (labels globals : List ℕ) → length (0 ∷ (labels ++ globals)) < 2 ^ 32 → (1 + length labels < 2 ^ 32) × (1 + length labels + length globals < 2 ^ 32)
names_fit labels globals short =
    let both = length-append labels globals in
    let one : length (0 ∷ (labels ++ globals)) ≡ 1 + length (labels ++ globals) = omega arith in
    (omega (arith, short, both, one), omega (arith, short, both, one))

-- the symbols one after another
pub symbols_joined : (m : Map) (names : Names) (ls gs : List KnownName) (start i1 i2 i3 : List ℕ) (name : ℕ) → ls ≡ names.labels → gs ≡ names.globals →
    start ≡ [] → i1 ≡ start ++ replicate 24 0 → i2 ≡ i1 ++ symbols_from m 0 1 ls → name ≡ 1 + length (name_strings ls) →
    i3 ≡ i2 ++ symbols_from m 1 name gs → i3 ≡ symbol_table m names
symbols_joined m names ls gs start i1 i2 i3 name labels globals empty one two at three =
    let L : List ℕ = symbols_from m 0 1 names.labels in
    let G : List ℕ = symbols_from m 1 (1 + length (name_strings names.labels)) names.globals in
    three ∙ (λ i. i2 ++ symbols_from m 1 ((at ∙ ap (λ l. 1 + length (name_strings l)) labels) i) (globals i))
    ∙ ap (λ l. l ++ G) (two ∙ (λ i. i1 ++ symbols_from m 0 1 (labels i)) ∙ ap (λ l. l ++ L) (one ∙ ap (λ l. l ++ replicate 24 0) empty))
    ∙ append_assoc (replicate 24 0) L G
