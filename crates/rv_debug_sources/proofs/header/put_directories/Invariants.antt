use Rattle.std.proofs.Common.{◌≡◌, drop}
use Rattle.rv_debug_sources.specs.LineText.{with_directories}
use Rattle.rv_debug_sources.proofs.header.put_directories.Given as goal

-- what the directories that are left make of the text so far
abbrev pub invariant-loop-directory : goal.invariant-loop-directory
invariant-loop-directory l =
    with_directories l.source l.text.items (drop l.directory-index l.directories) ≡ with_directories l.source l.fn.text.items l.directories
