-- The object of a source has a file.

use Rattle.std.proofs.Common.{◌≡◌, ℕ, suc, ◌+◌, ◌*◌, ◌≤◌, Bool, true, false, ◌==◌, List, [], ◌∷◌, ◌++◌, flat_map, map, length, length-append, Option, Some, None, refl, sym, ap, ◌∙◌, subst, arith}
use Rattle.std.specs.Prelude.{codes, bytes_eq, if◌then◌else◌}
use Rattle.std.specs.List.{list_any}
use Rattle.std.proofs.lemmas.List.{map-append, length-map}
use Rattle.rv_statement_laws.specs.declared.directive.Standard.{Standard}
use Rattle.rv_statement_laws.specs.declared.directive.Standard.TheVariants.{Text, Data, Rodata, Bss}
use Rattle.rv_statement_laws.specs.Statement.{StatementKind, Label, Numbered, Instruction, Directs, Statement, Directive, Enters, Opens}
use Rattle.rv_parse_laws.specs.Reading.{Reads}
use Rattle.rv_unit_laws.specs.Sections.{Section as SourceSection, Opened, entered_by}
use Rattle.rv_unit_laws.specs.Tables.{Tables, at_start, with_section, after, after_all, tables, opened_of}
use Rattle.rv_unit_laws.proofs.EnteringLemmas.{sections_more, entering}
use Rattle.rv_unit_laws.proofs.OpenedLemmas.{entered_in, after_opened}
use Rattle.rv_elf_laws.specs.Fields.{symbol_size, rela_size}
use Rattle.rv_elf_laws.specs.Numbers.{sht_symtab, sht_strtab, sht_rela}
use Rattle.rv_object_laws.specs.declared.row.Row.{Row}
use Rattle.rv_object_laws.specs.Object.{Section, Symbol, Object}
use Rattle.rv_object_file_laws.specs.Written.{unseen, strings_of, table_of, UnplacedSection, section_piece, table_piece, relocations_bytes, rela_pieces, row_pieces, symbol_names, symbols_bytes, locals, symtab_index, last_index, first_pieces, section_names, HasFile}
use Rattle.rv_assemble_laws.specs.ShownNames.{said_names}
use Rattle.rv_assemble_laws.specs.LaidStatements.{LaidStatement}
use Rattle.rv_assemble_laws.specs.IsObjectOf.{Numbering, AreSectionsOf, IsObjectOf}
use Rattle.rv_unique_theorems.proofs.SmallLemmas.{few_sections}
use Rattle.rv_assemble_laws.specs.Small.{weight, all_said}
use Rattle.rv_assemble_laws.proofs.WeightsLemmas.{weight_append, light_names}
use Rattle.rv_assemble_laws.proofs.UseWeightsLemmas.{statement_said, laid_said}
use Rattle.rv_unique_theorems.proofs.SymbolWeightsLemmas.{symbol_weight, symbols_names, symbols_count, symbols_light}

-- ---- tables of strings

strings_long : (ns : List (List ℕ)) → length (flat_map (λ name. name ++ 0 ∷ []) ns) ≡ weight ns
strings_long [] = refl
strings_long (n ∷ ns) =
    let a = length-append (n ++ 0 ∷ []) (flat_map (λ name. name ++ 0 ∷ []) ns) in
    let b : length (n ++ 0 ∷ []) ≡ length n + 1 = length-append n (0 ∷ []) in
    let c = strings_long ns in
    omega (arith, a, b, c)

unseen_light : (seen ns : List (List ℕ)) → weight (unseen seen ns) ≤ weight ns
unseen_light seen [] = omega arith
unseen_light seen (n ∷ ns) = go (list_any (bytes_eq n) seen) (unseen_light seen ns) (unseen_light (seen ++ n ∷ []) ns)
  where
    go : (b : Bool) → weight (unseen seen ns) ≤ weight ns → weight (unseen (seen ++ n ∷ []) ns) ≤ weight ns
        → weight (if b then unseen seen ns else n ∷ unseen (seen ++ n ∷ []) ns) ≤ 1 + (length n + weight ns)
    go true h k = omega (arith, h)
    go false h k = omega (arith, k)

table_light : (names : List (List ℕ)) → length (table_of names) ≤ 1 + weight names
table_light names =
    let a = strings_long (strings_of names) in
    let b = unseen_light [] ([] ∷ names) in
    let c : weight ([] ∷ names) ≡ 1 + (0 + weight names) = refl in
    omega (arith, a, b, c)

-- ---- the names of sections

abbrev home_names : List SourceSection → List (List ℕ)
home_names sections = map (λ s. s.name) sections

abbrev opened_weight : Opened → ℕ
opened_weight o = weight (home_names o.sections)

abbrev found_weight : Option SourceSection → ℕ
found_weight None = 0
found_weight (Some s) = 1 + length s.name

standard_light : (s : Standard) → found_weight (entered_by (Enters s)) ≤ 8
standard_light Text = omega arith
standard_light Data = omega arith
standard_light Rodata = omega arith
standard_light Bss = omega arith

directive_light : (d : Directive) → found_weight (entered_by d) ≤ 8 + weight (said_names (Directs d))
directive_light (Enters s) = let a = standard_light s in omega (arith, a)
directive_light (Opens name flags kind) = omega arith
directive_light _ = omega arith

entered_light : (kind : StatementKind) → found_weight (entered_in kind) ≤ 8 + weight (said_names kind)
entered_light (Label name) = omega arith
entered_light (Numbered number) = omega arith
entered_light (Instruction mnemonic operands) = omega arith
entered_light (Directs d) = directive_light d

section_light : (t : Tables) (found : Option SourceSection) → opened_weight (opened_of (with_section t found)) ≤ opened_weight (opened_of t) + found_weight found
section_light t None = omega arith
section_light t (Some s) =
    entering (λ (u : Tables). opened_weight (opened_of u) ≤ opened_weight (opened_of t) + found_weight (Some s)) t s (λ n at. omega arith)
    (λ room. (
    let a : home_names ((opened_of t).sections ++ s ∷ []) ≡ home_names (opened_of t).sections ++ s.name ∷ [] = map-append (λ (z : SourceSection). z.name) (opened_of t).sections (s ∷ []) in
    let b = ap (λ l. weight (home_names l)) (sections_more t s) ∙ ap weight a ∙ weight_append (home_names (opened_of t).sections) (s.name ∷ []) in
    omega (arith, b)
    )) (omega arith)

after_light : (t : Tables) (k : ℕ) (ss : List Statement) → opened_weight (opened_of (after_all t k ss)) ≤ opened_weight (opened_of t) + (8 * length ss + all_said ss)
after_light t k [] = omega arith
after_light t k (s ∷ ss) =
    let a = after_light (after t k s.kind) (suc k) ss in
    let b = ap opened_weight (after_opened t k s.kind) in
    let c = section_light t (entered_in s.kind) in
    let d = entered_light s.kind in
    omega (arith, a, b, c, d)

start_light : (ss : List Statement) → opened_weight (opened_of (at_start ss)) ≡ 6
start_light ss = refl

abbrev names_in : List Section → List (List ℕ)
names_in xs = map (λ s. s.name) xs

same_names : (t : Tables) (all : List LaidStatement) (number : Numbering) (symbols : List Symbol) (k : ℕ) (homes : List SourceSection) (xs : List Section) → AreSectionsOf t all number symbols k homes xs
    → names_in xs ≡ home_names homes
same_names t all number symbols k [] [] h = refl
same_names t all number symbols k [] (x ∷ xs) h = absurd h
same_names t all number symbols k (home ∷ homes) [] h = absurd h
same_names t all number symbols k (home ∷ homes) (x ∷ xs) (h, hs) =
    ap (λ n. n ∷ names_in xs) h.name ∙ ap (λ l. home.name ∷ l) (same_names t all number symbols (suc k) homes xs hs)

sections_light : (ss : List Statement) (o : Object) → IsObjectOf ss o → weight (names_in o.sections) ≤ 6 + (8 * length ss + all_said ss)
sections_light ss o h =
    let a = ap weight (same_names (tables ss) h.laid h.number o.symbols 0 (opened_of (tables ss)).sections o.sections h.sections) in
    let b = after_light (at_start ss) 1 ss in
    let c = start_light ss in
    omega (arith, a, b, c)

-- ---- the sections of the file

abbrev piece_weight : List UnplacedSection → ℕ
piece_weight [] = 0
piece_weight (p ∷ ps) = 1 + (length p.name + piece_weight ps)

pieces_append : (xs ys : List UnplacedSection) → piece_weight (xs ++ ys) ≡ piece_weight xs + piece_weight ys
pieces_append [] ys = let n = piece_weight ys in let e : n ≡ 0 + n = omega arith in e
pieces_append (x ∷ xs) ys = let rest = pieces_append xs ys in omega (arith, rest)

pieces_names : (ps : List UnplacedSection) → weight (map (λ p. p.name) ps) ≡ piece_weight ps
pieces_names [] = refl
pieces_names (p ∷ ps) = ap (λ w. 1 + (length p.name + w)) (pieces_names ps)

kept_pieces : (xs : List Section) → piece_weight (map section_piece xs) ≡ weight (names_in xs)
kept_pieces [] = refl
kept_pieces (x ∷ xs) = ap (λ w. 1 + (length x.name + w)) (kept_pieces xs)

-- what they weigh, and how many there are
abbrev Bounded : List UnplacedSection → (count heft : ℕ) → Type 0
Bounded ps count heft = (length ps ≤ count) × (piece_weight ps ≤ heft)

relas_light : (symtab index : ℕ) (xs : List Section) → Bounded (rela_pieces symtab index xs) (length xs) (5 * length xs + weight (names_in xs))
relas_light symtab index [] = (omega arith, omega arith)
relas_light symtab index (x ∷ xs) = go (length x.relocations == 0) (relas_light symtab (suc index) xs)
  where
    long : length (codes ".rela" ++ x.name) ≡ 5 + length x.name
    long = length-append (codes ".rela") x.name

    go : (b : Bool) → Bounded (rela_pieces symtab (suc index) xs) (length xs) (5 * length xs + weight (names_in xs))
        → Bounded (if b then rela_pieces symtab (suc index) xs else table_piece (codes ".rela" ++ x.name) sht_rela (relocations_bytes x.relocations) symtab index 8 rela_size ∷ rela_pieces symtab (suc index) xs) (suc (length xs))
        (5 * suc (length xs) + (1 + (length x.name + weight (names_in xs))))
    go true (h, k) = (omega (arith, h), omega (arith, k))
    go false (h, k) = (omega (arith, h), omega (arith, k, long))

rows_light : (rs : List Row) → Bounded (row_pieces rs) 1 9
rows_light [] = (omega arith, omega arith)
rows_light (r ∷ rs) = (omega arith, omega arith)

-- the table of symbols and that of their names
tables_light : (o : Object) → Bounded
    (table_piece (codes ".symtab") sht_symtab (symbols_bytes (last_index o) o) (symtab_index o + 1) (1 + locals o.symbols) 8 symbol_size
    ∷ table_piece (codes ".strtab") sht_strtab (table_of (symbol_names o)) 0 0 1 0 ∷ []) 2 16
tables_light o = (omega arith, omega arith)

joined : (xs ys : List UnplacedSection) (a b m n : ℕ) → Bounded xs a m → Bounded ys b n → Bounded (xs ++ ys) (a + b) (m + n)
joined xs ys a b m n (h, k) (p, q) =
    let c = length-append xs ys in
    let d = pieces_append xs ys in
    (omega (arith, h, p, c), omega (arith, k, q, d))

first_light : (o : Object) → Bounded (first_pieces o) (length o.sections + (length o.sections + (1 + 2))) (weight (names_in o.sections) + ((5 * length o.sections + weight (names_in o.sections)) + (9 + 16)))
first_light o =
    joined (map section_piece o.sections) _ (length o.sections) _ (weight (names_in o.sections)) _ own
    (joined (rela_pieces (symtab_index o) 1 o.sections) _ (length o.sections) _ (5 * length o.sections + weight (names_in o.sections)) _ (relas_light (symtab_index o) 1 o.sections)
    (joined (row_pieces o.rows) _ 1 2 9 16 (rows_light o.rows) (tables_light o)))
  where
    own : Bounded (map section_piece o.sections) (length o.sections) (weight (names_in o.sections))
    own =
        let a = length-map o.sections section_piece in
        let b = kept_pieces o.sections in
        (omega (arith, a), omega (arith, b))

last_names : (o : Object) → weight (section_names o) ≡ piece_weight (first_pieces o) + 10
last_names o =
    let a = weight_append (map (λ p. p.name) (first_pieces o)) (codes ".shstrtab" ∷ []) in
    let b = pieces_names (first_pieces o) in
    let c : weight (codes ".shstrtab" ∷ []) ≡ 10 = refl in
    omega (arith, a, b, c)

-- ---- the whole

pub has_file : (bytes : List ℕ) (ss : List Statement) (o : Object) → Reads bytes ss → IsObjectOf ss o → HasFile o
has_file bytes ss o reads h =
    let count : length ss ≤ 4194304 = reads.2 in
    let said : all_said ss ≤ 33554432 = light_names bytes ss reads in
    let sections : length o.sections ≤ 32000 = few_sections ss o h in
    let names = sections_light ss o h in
    let first = first_light o in
    let first_count = first.0 in
    let first_weight = first.1 in
    let told = laid_said 1 (at_start ss) ss h.laid h.located in
    let told_said = told.0 in
    let told_count = told.1 in
    let symbols : symbol_weight o.symbols ≤ length h.laid + 4 * statement_said h.laid = subst (λ l. symbol_weight l ≤ length h.laid + 4 * statement_said h.laid) (sym h.symbols) (symbols_light (tables ss) h.laid) in
    let counted = symbols_count o.symbols in
    let named : weight (symbol_names o) ≡ symbol_weight o.symbols = symbols_names o.symbols in
    let symbol_table = table_light (symbol_names o) in
    let section_table = table_light (section_names o) in
    let last = last_names o in
    let all = length-append (first_pieces o) (table_piece (codes ".shstrtab") sht_strtab (table_of (section_names o)) 0 0 1 0 ∷ []) in
    record {
      sections = omega (arith, all, first_count, sections);
      symbols = omega (arith, counted, symbols, told_said, told_count, count, said);
      symbol_strings = omega (arith, symbol_table, named, symbols, told_said, told_count, count, said);
      section_strings = omega (arith, section_table, last, first_weight, names, sections, count, said);
    }
