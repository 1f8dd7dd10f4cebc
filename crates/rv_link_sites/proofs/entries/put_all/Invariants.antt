use Rattle.std.proofs.Common.{◌≡◌, ◌<◌, ◌++◌, ℕ, length, map, take}
use Rattle.rv_object_types.specs.Parts.{symbol_of}
use Rattle.rv_link_sites.specs.Entries.{list_at, offsets_in}
use Rattle.rv_link_sites.proofs.entries.put_all.Given as goal

-- the offsets of the symbols so far are added
abbrev pub invariant-loop-symbol : goal.invariant-loop-symbol
invariant-loop-symbol l =
    (length l.lists ≡ length l.fn.lists)
    × ((index : ℕ) → index < length l.fn.lists → list_at l.lists index ≡ list_at l.fn.lists index ++ offsets_in index (map symbol_of (take l.symbol-index l.symbols)))
