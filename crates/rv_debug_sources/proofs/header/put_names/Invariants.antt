use Rattle.std.proofs.Common.{◌≡◌, drop}
use Rattle.rv_debug_sources.specs.LineText.{with_names}
use Rattle.rv_debug_sources.proofs.header.put_names.Given as goal

-- what the files that are left make of the text so far
abbrev pub invariant-loop-name : goal.invariant-loop-name
invariant-loop-name l =
    with_names l.source l.behind l.text.items (drop l.name-index l.names) ≡ with_names l.source l.behind l.fn.text.items l.names
