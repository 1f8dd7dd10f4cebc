use Rattle.std.proofs.Common.{◌≡◌, ◌++◌, drop, map}
use Rattle.rv_statement.specs.View.{quoted}
use Rattle.rv_unit_laws.specs.Tables.{string_bytes}
use Rattle.rv_draft.proofs.data.put_strings.Given as goal

-- what is there so far, and what is left, are all strings
abbrev pub invariant-loop-text : goal.invariant-loop-text
invariant-loop-text l =
    l.bytes.items ++ string_bytes l.ended (drop l.text-index (map quoted l.strings)) ≡ l.fn.bytes.items ++ string_bytes l.ended (map quoted l.strings)
