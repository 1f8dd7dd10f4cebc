-- Objects whose symbols stand where they end: their names mean the same, and their sections are the same.

use Rattle.std.proofs.Common.{◌≡◌, ◌+◌, ◌<◌, ◌≤◌, ℕ, zero, suc, Option, Some, None, option_map, List, [], ◌∷◌, length, map, slice_get, get_or, refl, sym, ap, ◌∙◌, arith}
use Rattle.std.proofs.lemmas.Option.{slice_get-map, slice_get_past, slice_get_read}
use Rattle.rv_object_laws.specs.declared.symbol.Definition.{Definition}
use Rattle.rv_object_laws.specs.declared.symbol.Definition.TheVariants as definitions
use Rattle.rv_object_types.specs.declared.symbol.Symbol.{Symbol as DeclaredSymbol}
use Rattle.rv_object_types.specs.Parts.{symbol_of}
use Rattle.rv_object_laws.specs.Object.{Section, Symbol, Object}
use Rattle.rv_link_laws.specs.Moves.{Move}
use Rattle.rv_link_laws.specs.Names.{defined_address, offset_address}
use Rattle.rv_names.specs.declared.names.Names.{Names}
use Rattle.rv_names.specs.Chosen.{Seen, seen, seen_of}
use Rattle.rv_names.specs.Names.{IsNames}
use Rattle.rv_names.proofs.AlikeLemmas.{still_names}
use Rattle.rv_cut_laws.specs.Cutting.{cut_symbol}
use Rattle.rv_shorten.specs.declared.object.ShortObject.{ShortObject}
use Rattle.rv_shorten.specs.View.{moves_by_section, short_object_of, whole_object_of}
use Rattle.rv_addresses.specs.Ended.{short_ends, short_ended, short_ended_from}
use Rattle.rv_addresses.specs.Extents.{SymbolSizes, ended_symbol, ended_symbols}

-- ---- one symbol

pub ended_get : (o : Object) (sizes : ℕ → ℕ) (index : ℕ) (ss : List Symbol) (i : ℕ) → slice_get (ended_symbols o sizes index ss) i ≡ option_map (ended_symbol o (sizes (index + i))) (slice_get ss i)
ended_get o sizes index [] i = refl
ended_get o sizes index (s ∷ ss) zero = ap (λ n. Some (ended_symbol o (sizes n) s)) (omega arith)
ended_get o sizes index (s ∷ ss) (suc i) = ended_get o sizes (suc index) ss i ∙ ap (λ n. option_map (ended_symbol o (sizes n)) (slice_get ss i)) (omega arith)

-- as it is left of an object
abbrev pub moved_end : (sizes : ℕ → ℕ) → ShortObject → ℕ → Symbol → Symbol
moved_end sizes o index s = cut_symbol (moves_by_section o) (ended_symbol (whole_object_of o) (sizes index) s)

ends_get : (sizes : ℕ → ℕ) (o : ShortObject) (i : ℕ) → slice_get (short_ends sizes o) i ≡ option_map (moved_end sizes o i) (slice_get (whole_object_of o).symbols i)
ends_get sizes o i =
    slice_get-map (cut_symbol (moves_by_section o)) (ended_symbols (whole_object_of o) sizes 0 (whole_object_of o).symbols) i
    ∙ ap (option_map (cut_symbol (moves_by_section o))) (ended_get (whole_object_of o) sizes 0 (whole_object_of o).symbols i)
    ∙ ap (λ n. option_map (cut_symbol (moves_by_section o)) (option_map (ended_symbol (whole_object_of o) (sizes n)) (slice_get (whole_object_of o).symbols i))) (omega arith)
    ∙ both (slice_get (whole_object_of o).symbols i)
  where
    both : (f : Option Symbol) → option_map (cut_symbol (moves_by_section o)) (option_map (ended_symbol (whole_object_of o) (sizes i)) f) ≡ option_map (moved_end sizes o i) f
    both None = refl
    both (Some s) = refl

-- by its symbols as the code looks at them
module _ (sizes : ℕ → ℕ) (o : ShortObject) (xs : List DeclaredSymbol) (index : ℕ) (same : xs ≡ o.whole.now.symbols.items) where
  looked_up : slice_get (short_ends sizes o) index ≡ option_map (moved_end sizes o index) (option_map symbol_of (slice_get xs index))
  looked_up =
      ends_get sizes o index
      ∙ ap (option_map (moved_end sizes o index)) (ap (λ l. slice_get (map symbol_of l) index) (sym same) ∙ slice_get-map symbol_of xs index)

  pub end_there : (x : DeclaredSymbol) → index < length xs → x ≡ get_or xs index x → slice_get (short_ends sizes o) index ≡ Some (moved_end sizes o index (symbol_of x))
  end_there x inside is = looked_up ∙ ap (λ f. option_map (moved_end sizes o index) (option_map symbol_of f)) (slice_get_read xs (length xs) index x refl inside is)

  pub end_past : length xs ≤ index → slice_get (short_ends sizes o) index ≡ None
  end_past past = looked_up ∙ ap (λ f. option_map (moved_end sizes o index) (option_map symbol_of f)) (slice_get_past xs index past)

-- ---- one object

pub file_get : (sizes : SymbolSizes) (file : ℕ) (xs : List ShortObject) (i : ℕ) → slice_get (short_ended_from sizes file xs) i ≡ option_map (short_ended (sizes (file + i))) (slice_get xs i)
file_get sizes file [] i = refl
file_get sizes file (x ∷ xs) zero = ap (λ n. Some (short_ended (sizes n) x)) (omega arith)
file_get sizes file (x ∷ xs) (suc i) = file_get sizes (suc file) xs i ∙ ap (λ n. option_map (short_ended (sizes n)) (slice_get xs i)) (omega arith)

pub file_there : (sizes : SymbolSizes) (xs : List ShortObject) (file : ℕ) → slice_get (short_ended_from sizes 0 xs) file ≡ option_map (short_ended (sizes file)) (slice_get xs file)
file_there sizes xs file = file_get sizes 0 xs file ∙ ap (λ n. option_map (short_ended (sizes n)) (slice_get xs file)) (omega arith)

-- as the code looks at it
pub ended_is : (sizes : SymbolSizes) (xs : List ShortObject) (file : ℕ) (x : ShortObject) (e : Object) → file < length xs → x ≡ get_or xs file x → slice_get (short_ended_from sizes 0 xs) file ≡ Some e → short_ended (sizes file) x ≡ e
ended_is sizes xs file x e inside is at =
    let same : Some (short_ended (sizes file) x) ≡ Some e = sym (file_there sizes xs file ∙ ap (option_map (short_ended (sizes file))) (slice_get_read xs (length xs) file x refl inside is)) ∙ at in
    cc

pub ended_past : (sizes : SymbolSizes) (xs : List ShortObject) (file : ℕ) → length xs ≤ file → slice_get (short_ended_from sizes 0 xs) file ≡ None
ended_past sizes xs file past = file_there sizes xs file ∙ ap (option_map (short_ended (sizes file))) (slice_get_past xs file past)

-- it has the sections of what is left of the object
pub record IsOver (xs : List ShortObject) (file : ℕ) (e : Object) : Type 0 where
  pub object : Object
  pub at : slice_get (map short_object_of xs) file ≡ Some object
  pub sections : e.sections ≡ object.sections

pub is_over : (sizes : SymbolSizes) (xs : List ShortObject) (file : ℕ) (e : Object) → slice_get (short_ended_from sizes 0 xs) file ≡ Some e → IsOver xs file e
is_over sizes xs file e at = by (slice_get xs file) refl (sym (file_there sizes xs file) ∙ at)
  where
    by : (f : Option ShortObject) → slice_get xs file ≡ f → option_map (short_ended (sizes file)) f ≡ Some e → IsOver xs file e
    by None is h = absurd (cc)
    by (Some x) is h =
        let same : short_ended (sizes file) x ≡ e = let t : ◌≡◌ {A = Option Object} (Some (short_ended (sizes file) x)) (Some e) = h in cc in
        record {
          object = short_object_of x;
          at = slice_get-map short_object_of xs file ∙ ap (option_map short_object_of) is;
          sections = ap (λ (o : Object). o.sections) (sym same);
        }

-- so what stands in them has the same address
pub same_address : (starts : ℕ → ℕ) (e o : Object) → e.sections ≡ o.sections → (d : Definition) → defined_address starts o d ≡ defined_address starts e d
same_address starts e o same definitions.Undefined = refl
same_address starts e o same (definitions.Absolute n) = refl
same_address starts e o same (definitions.InSection section offset) = ap (λ (l : List Section). offset_address (starts section) offset (slice_get l section)) (sym same)
same_address starts e o same (definitions.Skipped n) = refl

-- ---- what names mean does not depend on the ends

seen_end : (cuts : List (List Move)) (o : Object) (size : ℕ) (s : Symbol) → seen (cut_symbol cuts (ended_symbol o size s)) ≡ seen (cut_symbol cuts s)
seen_end cuts o size s = by s.definition
  where
    by : (d : Definition) → seen (cut_symbol cuts (ended_symbol o size (record s { definition = d }))) ≡ seen (cut_symbol cuts (record s { definition = d }))
    by definitions.Undefined = refl
    by (definitions.Absolute n) = refl
    by (definitions.InSection section offset) = refl
    by (definitions.Skipped n) = refl

seen_ends : (cuts : List (List Move)) (o : Object) (sizes : ℕ → ℕ) (index : ℕ) (ss : List Symbol) → map seen (map (cut_symbol cuts) (ended_symbols o sizes index ss)) ≡ map seen (map (cut_symbol cuts) ss)
seen_ends cuts o sizes index [] = refl
seen_ends cuts o sizes index (s ∷ ss) =
    ap (λ x. x ∷ map seen (map (cut_symbol cuts) (ended_symbols o sizes (suc index) ss))) (seen_end cuts o (sizes index) s)
    ∙ ap (λ l. seen (cut_symbol cuts s) ∷ l) (seen_ends cuts o sizes (suc index) ss)

seen_files : (sizes : SymbolSizes) (file : ℕ) (xs : List ShortObject) → seen_of (short_ended_from sizes file xs) ≡ seen_of (map short_object_of xs)
seen_files sizes file [] = refl
seen_files sizes file (x ∷ xs) =
    ap (λ (l : List Seen). l ∷ seen_of (short_ended_from sizes (suc file) xs)) (seen_ends (moves_by_section x) (whole_object_of x) (sizes file) 0 (whole_object_of x).symbols)
    ∙ ap (λ l. map seen (short_object_of x).symbols ∷ l) (seen_files sizes (suc file) xs)

pub ends_named : (sizes : SymbolSizes) (xs : List ShortObject) (names : Names) → IsNames (map short_object_of xs) names → IsNames (short_ended_from sizes 0 xs) names
ends_named sizes xs names h = still_names (map short_object_of xs) (short_ended_from sizes 0 xs) names (seen_files sizes 0 xs) h
