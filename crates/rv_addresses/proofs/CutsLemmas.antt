-- What names mean of an object of which calls are cut short.

use Rattle.std.proofs.Common.{◌≡◌, ◌<◌, ◌≤◌, ℕ, Option, Some, None, option_map, List, [], ◌∷◌, length, map, slice_get, get_or, refl, sym, ap, ◌∙◌}
use Rattle.std.specs.Option.{option_or}
use Rattle.std.proofs.lemmas.List.{length-map}
use Rattle.std.proofs.lemmas.Option.{slice_get-map, slice_get_past, slice_get_read}
use Rattle.rv_list_laws.proofs.MapLemmas.{map_composed}
use Rattle.rv_object_laws.specs.declared.symbol.Binding.{Binding}
use Rattle.rv_object_laws.specs.declared.symbol.Definition.{Definition}
use Rattle.rv_object_laws.specs.declared.symbol.Definition.TheVariants as definitions
use Rattle.rv_object_types.specs.declared.symbol.Symbol.{Symbol as DeclaredSymbol}
use Rattle.rv_object_laws.specs.Object.{Relocation, Symbol, Object}
use Rattle.rv_object_types.specs.Parts.{symbol_of}
use Rattle.rv_link_laws.specs.Moves.{Move}
use Rattle.rv_link_laws.specs.Names.{is_defined, is_sure_by}
use Rattle.rv_shorten.specs.declared.object.ShortObject.{ShortObject}
use Rattle.rv_cut_laws.specs.Cutting.{cut_definition, cut_relocation, cut_symbol}
use Rattle.rv_shorten.specs.View.{moves_by_section, short_object_of}
use Rattle.rv_addresses.specs.Moved.{moved_in, short_symbols}
use Rattle.rv_link_laws.specs.Undefined.{first_some, has_address}

-- ---- the symbols that it has

pub symbols_are : (o : ShortObject) → short_symbols o ≡ (short_object_of o).symbols
symbols_are o = map_composed (cut_symbol (moves_by_section o)) symbol_of o.whole.now.symbols.items

pub many_symbols : (o : ShortObject) → length (short_object_of o).symbols ≡ length o.whole.now.symbols.items
many_symbols o = ap length (sym (symbols_are o)) ∙ length-map o.whole.now.symbols.items (moved_in o)

-- by its symbols as the code looks at them
module _ (o : ShortObject) (xs : List DeclaredSymbol) (index : ℕ) (same : xs ≡ o.whole.now.symbols.items) where
  looked_up : slice_get (short_object_of o).symbols index ≡ option_map (moved_in o) (slice_get xs index)
  looked_up =
      ap (λ l. slice_get l index) (sym (symbols_are o) ∙ ap (map (moved_in o)) (sym same)) ∙ slice_get-map (moved_in o) xs index

  pub symbol_there : (x : DeclaredSymbol) → index < length xs → x ≡ get_or xs index x → slice_get (short_object_of o).symbols index ≡ Some (moved_in o x)
  symbol_there x inside is = looked_up ∙ ap (option_map (moved_in o)) (slice_get_read xs (length xs) index x refl inside is)

  pub symbol_past : length xs ≤ index → slice_get (short_object_of o).symbols index ≡ None
  symbol_past past = looked_up ∙ ap (option_map (moved_in o)) (slice_get_past xs index past)

  pub symbol_is : (x : DeclaredSymbol) (s : Symbol) → index < length xs → x ≡ get_or xs index x → slice_get (short_object_of o).symbols index ≡ Some s → moved_in o x ≡ s
  symbol_is x s inside is at =
      let same : Some (moved_in o x) ≡ Some s = sym (symbol_there x inside is) ∙ at in
      cc

pub object_is : (xs : List ShortObject) (file : ℕ) (x : ShortObject) (o : Object) → file < length xs → x ≡ get_or xs file x → slice_get (map short_object_of xs) file ≡ Some o → short_object_of x ≡ o
object_is xs file x o inside is at =
    let same : Some (short_object_of x) ≡ Some o = sym (slice_get-map short_object_of xs file ∙ ap (option_map short_object_of) (slice_get_read xs (length xs) file x refl inside is)) ∙ at in
    cc

-- ---- whether its symbols are definitions does not depend on the cuts

pub defined_cut : (cuts : List (List Move)) (d : Definition) → is_defined (cut_definition cuts d) ≡ is_defined d
defined_cut cuts definitions.Undefined = refl
defined_cut cuts (definitions.Absolute n) = refl
defined_cut cuts (definitions.InSection section offset) = refl
defined_cut cuts (definitions.Skipped n) = refl

-- ---- nor does whether they are their own objects' whatever others define

pub sure_cut : (cuts : List (List Move)) (b : Binding) (d : Definition) → is_sure_by b (cut_definition cuts d) ≡ is_sure_by b d
sure_cut cuts b definitions.Undefined = refl
sure_cut cuts b (definitions.Absolute n) = refl
sure_cut cuts b (definitions.InSection section offset) = refl
sure_cut cuts b (definitions.Skipped n) = refl

-- ---- nor does whether they have addresses

pub address_cut : (o : Object) (cuts : List (List Move)) (d : Definition) → has_address o (cut_definition cuts d) ≡ has_address o d
address_cut o cuts definitions.Undefined = refl
address_cut o cuts (definitions.Absolute n) = refl
address_cut o cuts (definitions.InSection section offset) = refl
address_cut o cuts (definitions.Skipped n) = refl

-- ---- nor do the symbols of its relocations

pub same_symbols : (name : Option ℕ → Option (List ℕ)) (ms : List Move) (rs : List Relocation)
    → first_some (λ (r : Relocation). name r.symbol) (map (cut_relocation ms) rs) ≡ first_some (λ (r : Relocation). name r.symbol) rs
same_symbols name ms [] = refl
same_symbols name ms (r ∷ rs) = ap (option_or (name r.symbol)) (same_symbols name ms rs)
