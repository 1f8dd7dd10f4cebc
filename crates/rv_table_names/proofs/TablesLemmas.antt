-- The names of objects, one symbol after another.

use Rattle.std.proofs.Common.{◌≡◌, ◌∙◌, ℕ, suc, ◌+◌, List, ◌∷◌, ◌++◌, drop, map, ap, arith}
use Rattle.rv_list_laws.proofs.ElementsLemmas.{append_some_more}
use Rattle.rv_object_laws.specs.declared.symbol.Binding.{Binding}
use Rattle.rv_object_types.specs.declared.symbol.Symbol.{Symbol as DeclaredSymbol}
use Rattle.rv_object_types.specs.Parts.{symbol_of}
use Rattle.rv_debug_laws.specs.Symbols.{KnownName}
use Rattle.rv_table_names.specs.declared.tabled.Tabled.{Tabled as DeclaredTabled}
use Rattle.rv_table_names.specs.Tables.{Tabled, names_from, wanted_names, object_names, wanted_name}
use Rattle.rv_table_names.specs.Views.{tabled_of}

pub symbol_more : (binding : Binding) (o : Tabled) (out new whole : List KnownName) (xs : List DeclaredSymbol) (i : ℕ) (x : DeclaredSymbol)
    → drop i xs ≡ x ∷ drop (i + 1) xs → new ≡ out ++ wanted_name binding o i (symbol_of x) → out ++ names_from binding o i (map symbol_of (drop i xs)) ≡ whole
    → new ++ names_from binding o (i + 1) (map symbol_of (drop (i + 1) xs)) ≡ whole
symbol_more binding o out new whole xs i x here added before =
    append_some_more out new (wanted_name binding o i (symbol_of x)) (names_from binding o (i + 1) (map symbol_of (drop (i + 1) xs))) (names_from binding o i (map symbol_of (drop i xs))) whole added
    (ap (λ l. names_from binding o i (map symbol_of l)) here
    ∙ ap (λ n. wanted_name binding o i (symbol_of x) ++ names_from binding o n (map symbol_of (drop (i + 1) xs))) (let next : suc i ≡ i + 1 = omega arith in next)) before

pub object_more : (binding : Binding) (out new whole : List KnownName) (os : List DeclaredTabled) (i : ℕ) (o : DeclaredTabled)
    → drop i os ≡ o ∷ drop (i + 1) os → new ≡ out ++ object_names binding (tabled_of o) → out ++ wanted_names binding (map tabled_of (drop i os)) ≡ whole
    → new ++ wanted_names binding (map tabled_of (drop (i + 1) os)) ≡ whole
object_more binding out new whole os i o here added before =
    append_some_more out new (object_names binding (tabled_of o)) (wanted_names binding (map tabled_of (drop (i + 1) os))) (wanted_names binding (map tabled_of (drop i os))) whole added
    (ap (λ l. wanted_names binding (map tabled_of l)) here) before
