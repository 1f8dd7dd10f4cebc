-- The symbols of the names of an executable, with what is known of each (gABI, "Symbol Table").

use Rattle.std.specs.Prelude.{ℕ, ◌+◌, ◌*◌, ◌/◌, ◌%◌, ◌==◌, nat_le, nat_lt, Bool, ◌&&◌, if◌then◌else◌, IsTrue, List, [], ◌∷◌, ◌++◌, length, flat_map, Option, Some, replicate}
use Rattle.rv_elf_laws.specs.declared.symbol.Symbol.{Symbol}
use Rattle.rv_elf_laws.specs.Numbers.{shn_abs, stb_local, stb_global}
use Rattle.rv_elf_laws.specs.Fields.{symbol_size}
use Rattle.rv_elf_laws.specs.Records.{symbol_bytes}
use Rattle.rv_elf_laws.specs.Sections.{string_at}
use Rattle.rv_map_laws.specs.declared.map.Region.{Region}
use Rattle.rv_map_laws.specs.Limits.{IsNumber}
use Rattle.rv_map_laws.specs.Map.{Map}
use Rattle.rv_map_laws.specs.Name.{is_name}
use Rattle.rv_debug_laws.specs.declared.mark.SymbolType.{SymbolType}
use Rattle.rv_debug_laws.specs.declared.mark.SymbolType.TheVariants.{NoType, Datum, Function}

-- a name with its address, its type, and how many bytes it has; 0 where that is not known
pub record KnownName : Type 0 where
  pub name : List ℕ
  pub address : ℕ
  pub kind : SymbolType
  pub size : ℕ

-- a name that fits the fields of a symbol
abbrev pub IsKnownName : KnownName → Type 0
IsKnownName k = IsTrue (is_name k.name) × IsNumber k.address × IsNumber k.size

-- those of an executable: the labels, which are no globals, and the globals of its map
pub record Names : Type 0 where
  pub labels : List KnownName
  pub globals : List KnownName

-- STT_NOTYPE, STT_OBJECT, STT_FUNC
abbrev pub type_number : SymbolType → ℕ
type_number NoType = 0
type_number Datum = 1
type_number Function = 2

abbrev pub has_address : Region → ℕ → Bool
has_address r address = nat_le r.start address && nat_lt address r.end

-- the section of an address: that of the region in which it lies, or else at whose end it stands;
-- another address is a plain number
abbrev pub address_section : Map → ℕ → ℕ
address_section m address =
    if has_address m.text address then 1
    else if has_address m.rodata address then 2
    else if has_address m.data address then 3
    else if has_address m.bss address then 4
    else if m.text.end == address then 1
    else if m.rodata.end == address then 2
    else if m.data.end == address then 3
    else if m.bss.end == address then 4
    else shn_abs

-- the symbol of a name that stands at this offset of the strings
abbrev pub name_symbol : Map → (binding name : ℕ) → KnownName → Symbol
name_symbol m binding name k = record {
  st_name = name;
  st_info = binding * 16 + type_number k.kind;
  st_other = 0;
  st_shndx = address_section m k.address;
  st_value = k.address;
  st_size = k.size;
}

-- the names, each with a zero behind it
abbrev pub name_strings : List KnownName → List ℕ
name_strings names = flat_map (λ k. k.name ++ 0 ∷ []) names

-- the symbols of names whose strings stand one after another from an offset on
abbrev pub symbols_from : Map → (binding name : ℕ) → List KnownName → List ℕ
symbols_from m binding name [] = []
symbols_from m binding name (k ∷ ks) =
    symbol_bytes (name_symbol m binding name k)
    ++ symbols_from m binding (name + length k.name + 1) ks

-- .strtab: the empty name, those of labels, those of globals
abbrev pub string_table : Names → List ℕ
string_table names = 0 ∷ (name_strings names.labels ++ name_strings names.globals)

-- .symtab: symbol 0, then the labels, which are local, then the globals
abbrev pub symbol_table : Map → Names → List ℕ
symbol_table m names =
    replicate symbol_size 0 ++ (symbols_from m stb_local 1 names.labels
    ++ symbols_from m stb_global (1 + length (name_strings names.labels)) names.globals)

-- a symbol as a reader finds it
pub record NamedSymbol : Type 0 where
  pub name : Option (List ℕ)
  pub binding : ℕ
  pub kind : ℕ
  pub section : ℕ
  pub address : ℕ
  pub size : ℕ

abbrev pub named_symbol : (strings : List ℕ) → Symbol → NamedSymbol
named_symbol strings s = record {
  name = string_at strings s.st_name;
  binding = s.st_info / 16;
  kind = s.st_info % 16;
  section = s.st_shndx;
  address = s.st_value;
  size = s.st_size;
}

-- what is to be found of a name
abbrev pub expected_symbol : Map → (binding : ℕ) → KnownName → NamedSymbol
expected_symbol m binding k = record {
  name = Some k.name;
  binding = binding;
  kind = type_number k.kind;
  section = address_section m k.address;
  address = k.address;
  size = k.size;
}
