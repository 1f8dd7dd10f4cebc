-- The symbols of names are found, with their names.

use Rattle.std.proofs.Common.{◌≡◌, ◌∙◌, ℕ, ◌+◌, ◌*◌, ◌/◌, ◌%◌, ◌<◌, ◌≤◌, ◌^◌, ◌==◌, Bool, true, false, List, [], ◌∷◌, ◌++◌, length, drop, map, flat_map, replicate, Some, refl, ap, sym, append_assoc, append-nil, arith}
use Rattle.std.specs.List.{AllByRecursion, list_all, list_any}
use Rattle.std.specs.Prelude.{if◌then◌else◌}
use Rattle.std.proofs.lemmas.Bool.{and_parts, or_from}
use Rattle.std.proofs.lemmas.Bool.Decides.{nat_tests}
use Rattle.std.proofs.lemmas.List.{length-append, map-append}
use Rattle.std.proofs.lemmas.List.Concat.{flat_map-append}
use Rattle.rv_list_laws.proofs.EachLemmas.{each_append}
use Rattle.rv_elf_laws.specs.declared.symbol.Symbol.{Symbol}
use Rattle.rv_elf_laws.specs.Numbers.{shn_abs, stb_local, stb_global}
use Rattle.rv_elf_laws.specs.ReadBack.{FitsSymbol, string_again}
use Rattle.rv_elf_laws.specs.Records.{symbol_bytes}
use Rattle.rv_elf_laws.specs.Sections.{string_at, symbols_in}
use Rattle.rv_map_laws.specs.Map.{Map}
use Rattle.rv_map_laws.specs.Name.{is_name_byte}
use Rattle.rv_debug_laws.specs.declared.mark.SymbolType.{SymbolType}
use Rattle.rv_debug_laws.specs.declared.mark.SymbolType.TheVariants.{NoType, Datum, Function}
use Rattle.rv_debug_laws.specs.Symbols.{KnownName, IsKnownName, Names, expected_symbol, has_address, named_symbol, name_strings, address_section, string_table, name_symbol, symbol_table, symbols_from, type_number}
use Rattle.rv_debug_laws.proofs.RecordsLemmas.{symbols_back, length-symbols}

-- a name has no zero byte
no_zero : (bytes : List ℕ) → list_all is_name_byte bytes ≡ true → list_any (λ byte. byte == 0) bytes ≡ false
no_zero [] h = refl
no_zero (b ∷ bs) h =
    let both = and_parts (is_name_byte b) (list_all is_name_byte bs) h in
    or_from (b == 0) (list_any (λ byte. byte == 0) bs) (not_null b both.0) (no_zero bs both.1)
  where
    not_null : (b : ℕ) → is_name_byte b ≡ true → (b == 0) ≡ false
    not_null b e = grind (arith, nat_tests)

-- symbols as they are read
abbrev pub list_of : Map → ℕ → ℕ → List KnownName → List Symbol
list_of m b name [] = []
list_of m b name (g ∷ gs) = name_symbol m b name g ∷ list_of m b (name + length g.name + 1) gs

from_list : (m : Map) (b name : ℕ) (gs : List KnownName) → symbols_from m b name gs ≡ flat_map symbol_bytes (list_of m b name gs)
from_list m b name [] = refl
from_list m b name (g ∷ gs) = ap (λ l. symbol_bytes (name_symbol m b name g) ++ l) (from_list m b (name + length g.name + 1) gs)

null_bytes : replicate 24 0 ≡ symbol_bytes (record { st_name = 0; st_info = 0; st_other = 0; st_shndx = 0; st_value = 0; st_size = 0 })
unfolding symbol_bytes
null_bytes = refl

abbrev locals_list : Map → Names → List Symbol
locals_list m names = list_of m 0 1 names.labels

abbrev globals_list : Map → Names → List Symbol
globals_list m names = list_of m 1 (1 + length (name_strings names.labels)) names.globals

abbrev whole_list : Map → Names → List Symbol
whole_list m names =
    record { st_name = 0; st_info = 0; st_other = 0; st_shndx = 0; st_value = 0; st_size = 0 } ∷ (locals_list m names ++ globals_list m names)

table_is : (m : Map) (names : Names) → symbol_table m names ≡ flat_map symbol_bytes (whole_list m names)
table_is m names =
    let first = from_list m 0 1 names.labels in
    let second = from_list m 1 (1 + length (name_strings names.labels)) names.globals in
    (λ i. null_bytes i ++ (first i ++ second i))
    ∙ ap (λ l. symbol_bytes (record { st_name = 0; st_info = 0; st_other = 0; st_shndx = 0; st_value = 0; st_size = 0 }) ++ l)
    (sym (flat_map-append symbol_bytes (locals_list m names) (globals_list m names)))

-- ---- the numbers of symbols fit

chosen : (b : Bool) (x y : ℕ) → x < 65536 → y < 65536 → (if b then x else y) < 65536
chosen true x y h k = h
chosen false x y h k = k

section_small : (m : Map) (a : ℕ) → address_section m a < 65536
section_small m a =
    chosen (has_address m.text a) 1 _ (omega arith)
    (chosen (has_address m.rodata a) 2 _ (omega arith)
    (chosen (has_address m.data a) 3 _ (omega arith)
    (chosen (has_address m.bss a) 4 _ (omega arith)
    (chosen (m.text.end == a) 1 _ (omega arith)
    (chosen (m.rodata.end == a) 2 _ (omega arith)
    (chosen (m.data.end == a) 3 _ (omega arith)
    (chosen (m.bss.end == a) 4 shn_abs (omega arith) (omega arith))))))))

type_small : (t : SymbolType) → type_number t < 16
type_small NoType = omega arith
type_small Datum = omega arith
type_small Function = omega arith

length-names : (g : KnownName) (gs : List KnownName) → length (name_strings (g ∷ gs)) ≡ length g.name + 1 + length (name_strings gs)
length-names g gs = length-append (g.name ++ 0 ∷ []) (name_strings gs) ∙ ap (λ n. n + length (name_strings gs)) (length-append g.name (0 ∷ []))

-- there are no more names than bytes of them
pub few_names : (gs : List KnownName) → length gs ≤ length (name_strings gs)
few_names [] = omega arith
few_names (g ∷ gs) = let rest = few_names gs in omega (arith, rest, length-names g gs)

list_fits : (m : Map) (b name : ℕ) (gs : List KnownName) → b < 16 → name + length (name_strings gs) < 2 ^ 32 → AllByRecursion IsKnownName gs →
    AllByRecursion FitsSymbol (list_of m b name gs)
list_fits m b name [] low room known = tt
list_fits m b name (g ∷ gs) low room known = (
  record {
    st_name = omega (arith, room);
    st_info = let t = type_small g.kind in omega (arith, low, t);
    st_other = omega arith;
    st_shndx = section_small m g.address;
    st_value = known.0.1;
    st_size = known.0.2;
  },
  list_fits m b (name + length g.name + 1) gs low (omega (arith, room, length-names g gs)) known.1,
)

-- ---- names are read

named : (m : Map) (b : ℕ) (gs : List KnownName) (before after : List ℕ) (name : ℕ) → length before ≡ name → AllByRecursion IsKnownName gs →
    map (named_symbol (before ++ (name_strings gs ++ after))) (list_of m b name gs) ≡ map (expected_symbol m b) gs
named m b [] before after name long known = refl
named m b (g ∷ gs) before after name long known =
    let strings : List ℕ = before ++ (name_strings (g ∷ gs) ++ after) in
    let parts : name_strings (g ∷ gs) ++ after ≡ (g.name ++ 0 ∷ []) ++ (name_strings gs ++ after) = append_assoc (g.name ++ 0 ∷ []) (name_strings gs) after in
    let here : strings ≡ before ++ (g.name ++ (0 ∷ (name_strings gs ++ after))) =
    ap (λ l. before ++ l) (parts ∙ append_assoc g.name (0 ∷ []) (name_strings gs ++ after)) in
    let clean = no_zero g.name (and_parts _ (list_all is_name_byte g.name) known.0.0).1 in
    let read : string_at strings name ≡ Some g.name =
    (λ i. string_at (here i) (sym long i)) ∙ string_again before g.name (name_strings gs ++ after) clean in
    let t = type_small g.kind in
    let bound : (b * 16 + type_number g.kind) / 16 ≡ b = omega (arith, t) in
    let typed : (b * 16 + type_number g.kind) % 16 ≡ type_number g.kind = omega (arith, t) in
    let next : strings ≡ (before ++ (g.name ++ 0 ∷ [])) ++ (name_strings gs ++ after) =
    ap (λ l. before ++ l) parts ∙ sym (append_assoc before (g.name ++ 0 ∷ []) (name_strings gs ++ after)) in
    let longer : length (before ++ (g.name ++ 0 ∷ [])) ≡ name + length g.name + 1 =
    omega (arith, long, length-append before (g.name ++ 0 ∷ []), length-append g.name (0 ∷ [])) in
    let others : map (named_symbol strings) (list_of m b (name + length g.name + 1) gs) ≡ map (expected_symbol m b) gs =
    ap (λ s. map (named_symbol s) (list_of m b (name + length g.name + 1) gs)) next
    ∙ named m b gs (before ++ (g.name ++ 0 ∷ [])) after (name + length g.name + 1) longer known.1 in
    (λ i. record { name = read i; binding = bound i; kind = typed i; section = address_section m g.address; address = g.address; size = g.size } ∷ others i)

pub symbols_found : (m : Map) (names : Names) → length (string_table names) < 2 ^ 32 →
    AllByRecursion IsKnownName names.labels → AllByRecursion IsKnownName names.globals →
    map (named_symbol (string_table names)) (drop 1 (symbols_in (symbol_table m names)))
    ≡ map (expected_symbol m stb_local) names.labels ++ map (expected_symbol m stb_global) names.globals
symbols_found m names short labelled known =
    let strings = string_table names in
    let sizes = length-append (name_strings names.labels) (name_strings names.globals) in
    let fits : AllByRecursion FitsSymbol (whole_list m names) = (
      record {
        st_name = omega arith;
        st_info = omega arith;
        st_other = omega arith;
        st_shndx = omega arith;
        st_value = omega arith;
        st_size = omega arith;
      },
      each_append FitsSymbol (locals_list m names) (globals_list m names)
          (list_fits m 0 1 names.labels (omega arith) (omega (arith, short, sizes)) labelled)
          (list_fits m 1 (1 + length (name_strings names.labels)) names.globals (omega arith) (omega (arith, short, sizes)) known),
    ) in
    let read : symbols_in (symbol_table m names) ≡ whole_list m names = ap symbols_in (table_is m names) ∙ symbols_back (whole_list m names) fits in
    let first : map (named_symbol strings) (locals_list m names) ≡ map (expected_symbol m 0) names.labels =
    named m 0 names.labels (0 ∷ []) (name_strings names.globals) 1 refl labelled in
    let padded : strings ≡ (0 ∷ name_strings names.labels) ++ (name_strings names.globals ++ []) =
    ap (λ l. 0 ∷ (name_strings names.labels ++ l)) (sym (append-nil (name_strings names.globals))) in
    let begins : length (0 ∷ name_strings names.labels) ≡ 1 + length (name_strings names.labels) = omega arith in
    let second : map (named_symbol strings) (globals_list m names) ≡ map (expected_symbol m 1) names.globals =
    ap (λ s. map (named_symbol s) (globals_list m names)) padded
    ∙ named m 1 names.globals (0 ∷ name_strings names.labels) [] (1 + length (name_strings names.labels)) begins known in
    ap (λ ss. map (named_symbol strings) (drop 1 ss)) read
    ∙ map-append (named_symbol strings) (locals_list m names) (globals_list m names)
    ∙ (λ i. first i ++ second i)

-- how long the table is
pub length-table : (m : Map) (names : Names) → length (string_table names) < 2 ^ 32 → length (symbol_table m names) < 2 ^ 40
length-table m names short =
    let sizes = length-append (name_strings names.labels) (name_strings names.globals) in
    let all = length-append (locals_list m names) (globals_list m names) in
    let size : length (symbol_table m names) ≡ 24 * length (whole_list m names) = ap length (table_is m names) ∙ length-symbols (whole_list m names) in
    let locals = length-list m 0 1 names.labels in
    let globals = length-list m 1 (1 + length (name_strings names.labels)) names.globals in
    omega (arith, short, sizes, all, size, locals, globals, few_names names.labels, few_names names.globals)
  where
    length-list : (m : Map) (b name : ℕ) (gs : List KnownName) → length (list_of m b name gs) ≡ length gs
    length-list m b name [] = refl
    length-list m b name (g ∷ gs) = let rest = length-list m b (name + length g.name + 1) gs in omega (arith, rest)
