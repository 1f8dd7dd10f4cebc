-- Symbols: their records, and their names.

use Rattle.std.proofs.Common.{◌≡◌, ◌⊎◌, inr, ℕ, ◌+◌, Bool, true, false, List, drop, Option, Some, None, refl, ap, sym, ◌∙◌, subst, arith}
use Rattle.std.specs.Prelude.{◌&&◌, not, flat_map, Result, MatchResult}
use Rattle.std.specs.declared.result.Result.TheVariants.{Ok, Err}
use Rattle.rv_map_laws.specs.Name.{is_name}
use Rattle.std.proofs.lemmas.List.{drop-drop}
use Rattle.byteorder.specs.Endian.{little_number}
use Rattle.rv_fault.specs.declared.file_fault.FileFault.{FileFault}
use Rattle.rv_fault.specs.declared.file_fault.FileFault.TheVariants.{OutOfMemory}
use Rattle.rv_elf_laws.specs.FirstFault.{Finds, first_true}
use Rattle.rv_elf_laws.specs.declared.symbol.Symbol.{Symbol}
use Rattle.rv_elf_laws.specs.Fields as at
use Rattle.rv_elf_laws.specs.Records.{symbol_at}
use Rattle.rv_elf_laws.specs.Sections.{string_at, symbols_in}
use Rattle.rv_object_file_laws.specs.FirstFault.{is_none, is_bad_name, is_shared_record, symbol_tests}
use Rattle.rv_object_file_laws.specs.Parts.{name_at}
use Rattle.rv_object_reader.specs.Names.{can_show}
use Rattle.rv_object_reader.proofs.ShownStringsLemmas.{name_is}

pub number_behind : (f : at.Field) (p : ℕ) (bytes : List ℕ) → at.number_in f 0 (drop p bytes) ≡ at.number_in f p bytes
unfolding at.number_in
number_behind f p bytes =
    let same : 0 + f.offset ≡ f.offset = omega arith in
    ap (λ n. little_number f.width (drop n (drop p bytes))) same ∙ ap (little_number f.width) (drop-drop f.offset p bytes)

pub symbol_behind : (p : ℕ) (bytes : List ℕ) → symbol_at 0 (drop p bytes) ≡ symbol_at p bytes
symbol_behind p bytes = λ i. record {
  st_name = number_behind at.st_name p bytes i;
  st_info = number_behind at.st_info p bytes i;
  st_other = number_behind at.st_other p bytes i;
  st_shndx = number_behind at.st_shndx p bytes i;
  st_value = number_behind at.st_value p bytes i;
  st_size = number_behind at.st_size p bytes i;
}

-- a symbol that all objects see wants a name that a map can show, any other one that ends
shared_name : (s : Symbol) (o : Option (List ℕ)) → is_shared_record s ≡ true → not (can_show o) ≡ is_bad_name s o
shared_name s None global = refl
shared_name s (Some name) global = ap (λ b. b && not (is_name name)) (sym global)

local_name : (s : Symbol) (o : Option (List ℕ)) → is_shared_record s ≡ false → is_none o ≡ is_bad_name s o
local_name s None local = refl
local_name s (Some name) local = ap (λ b. b && not (is_name name)) (sym local)

pub bad_shared : (names : List ℕ) (s : Symbol) → (s.st_name ≡ 0 → ⊥) → is_shared_record s ≡ true → not (can_show (string_at names s.st_name)) ≡ is_bad_name s (name_at names s.st_name)
bad_shared names s some global = shared_name s (string_at names s.st_name) global ∙ ap (is_bad_name s) (name_is names s.st_name some)

twice : (b : Bool) → not (not b) ≡ b
twice true = refl
twice false = refl

pub bad_local : (names : List ℕ) (s : Symbol) → (s.st_name ≡ 0 → ⊥) → is_shared_record s ≡ false → not (not (is_none (string_at names s.st_name))) ≡ is_bad_name s (name_at names s.st_name)
bad_local names s some local =
    twice (is_none (string_at names s.st_name)) ∙ local_name s (string_at names s.st_name) local ∙ ap (is_bad_name s) (name_is names s.st_name some)

-- the first fault of the symbols in a table, or want of memory
found_or_short : {X : Type 0} (tests : List (Bool × FileFault)) (r : Result X FileFault) → Finds tests r → MatchResult r (λ _. first_true tests ≡ None) (λ fault. (fault ≡ OutOfMemory) ⊎ (first_true tests ≡ Some fault))
found_or_short tests (Ok x) h = h
found_or_short tests (Err fault) h = inr h

abbrev table_tests : List ℕ → List ℕ → List ℕ → List (Bool × FileFault)
table_tests file names bytes = flat_map (symbol_tests file names) (drop 1 (symbols_in bytes))

pub found_or_short_of : {X : Type 0} (file names others bytes more : List ℕ) (r : Result X FileFault) → names ≡ others → bytes ≡ more → Finds (table_tests file names bytes) r →
    MatchResult r (λ _. first_true (table_tests file others more) ≡ None) (λ fault. (fault ≡ OutOfMemory) ⊎ (first_true (table_tests file others more) ≡ Some fault))
found_or_short_of file names others bytes more r same equal h =
    found_or_short (table_tests file others more) r (subst (λ t. Finds t r) (ap (λ ns. table_tests file ns bytes) same ∙ ap (table_tests file others) equal) h)
