use Rattle.std.proofs.Common.{◌≡◌, ◌<◌, ◌≤◌, ◌*◌, ◌^◌, ℕ, List, [], ◌++◌, length, map, take, drop}
use Rattle.std.specs.Prelude.{Some, flat_map, slice_get}
use Rattle.std.specs.HashSet.{contains}
use Rattle.rv_object_types.specs.Parts.{symbol_of}
use Rattle.rv_assemble_laws.specs.LaidStatements.{LaidStatement}
use Rattle.rv_assemble_laws.specs.Symbols.{references, local_symbols, exports_of, exports}
use Rattle.rv_symbols.specs.Source.{tables_of, IsSource}
use Rattle.rv_symbols.specs.Found.{same_place, is_seen, AreMarks}
use Rattle.rv_symbols.proofs.own.own_symbols_by.Given as goal

-- two a statement at most, and one that other files can mean; the symbols so far, and those of the statements that are left, are all of them; the places that have one are seen; the offsets so far are low
abbrev pub invariant-loop-i : goal.invariant-loop-i
invariant-loop-i l = record {
  few : length l.symbols.items ≤ 2 * l.i;
  few_exported : length l.exported.items ≤ l.i;
  exported : (laid : List LaidStatement) → IsSource l.source laid
      → map symbol_of l.exported.items ++ flat_map (exports_of (tables_of l.source) laid) (drop l.i laid)
      ≡ exports (tables_of l.source) laid;
  symbols : (laid : List LaidStatement) → IsSource l.source laid → AreMarks (tables_of l.source) (references (tables_of l.source) laid) l.meant (length l.meant)
      → map symbol_of l.symbols.items ++ local_symbols (tables_of l.source) laid (take l.i laid) (drop l.i laid)
      ≡ local_symbols (tables_of l.source) laid [] laid;
  seen : (laid : List LaidStatement) → IsSource l.source laid → AreMarks (tables_of l.source) (references (tables_of l.source) laid) l.meant (length l.meant)
      → (q : ℕ × ℕ) → contains same_place l.seen q ≡ is_seen (tables_of l.source) (references (tables_of l.source) laid) (take l.i laid) q;
  low : (laid : List LaidStatement) → IsSource l.source laid → (j : ℕ) (s : LaidStatement) → j < l.i → slice_get laid j ≡ Some s → s.offset < 2 ^ 64;
}
