-- Records of symbols, one after another.

use Rattle.std.proofs.Common.{◌≡◌, ◌∙◌, ℕ, suc, ◌+◌, ◌<◌, List, ◌++◌, length, get_or, drop, flat_map, ap, sym, arith}
use Rattle.std.specs.List.{slice_get}
use Rattle.std.proofs.lemmas.List.{drop_more}
use Rattle.rv_list_laws.proofs.ElementsLemmas.{append_some_more}
use Rattle.rv_elf_laws.specs.declared.symbol.Symbol.{Symbol as SymbolRecord}
use Rattle.rv_elf_laws.specs.Records.{symbol_bytes}
use Rattle.rv_object_laws.specs.Object.{Object}
use Rattle.rv_debug_laws.specs.Labels.{Mark}
use Rattle.rv_typed_objects.specs.Typed.{typed_record, typed_records}

pub record_more : (o : Object) (ms : List Mark) (out new whole : List ℕ) (xs : List SymbolRecord) (i : ℕ) (d y : SymbolRecord)
    → i < length xs → y ≡ typed_record o ms (get_or xs i d) (slice_get o.symbols i) → new ≡ out ++ symbol_bytes y
    → out ++ flat_map symbol_bytes (typed_records o ms i (drop i xs)) ≡ whole
    → new ++ flat_map symbol_bytes (typed_records o ms (i + 1) (drop (i + 1) xs)) ≡ whole
record_more o ms out new whole xs i d y inside is more before =
    let rest : ℕ → List ℕ = λ n. flat_map symbol_bytes (typed_records o ms n (drop (i + 1) xs)) in
    let next : suc i ≡ i + 1 = omega arith in
    append_some_more out new (symbol_bytes y) (rest (i + 1)) (flat_map symbol_bytes (typed_records o ms i (drop i xs))) whole more
    (ap (λ l. flat_map symbol_bytes (typed_records o ms i l)) (drop_more xs i d inside)
    ∙ ap (λ n. symbol_bytes (typed_record o ms (get_or xs i d) (slice_get o.symbols i)) ++ rest n) next
    ∙ ap (λ r. symbol_bytes r ++ rest (i + 1)) (sym is)) before
