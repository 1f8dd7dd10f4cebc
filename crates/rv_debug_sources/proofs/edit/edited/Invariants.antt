use Rattle.std.proofs.Common.{◌≡◌, drop}
use Rattle.rv_debug_sources.specs.Sources.{edited, with_edited}
use Rattle.rv_debug_sources.proofs.edit.edited.Given as goal

-- what the edits that are left make of the text so far
abbrev pub invariant-loop-edit : goal.invariant-loop-edit
invariant-loop-edit l =
    with_edited l.is_plain l.source l.text.items l.at (drop l.edit-index l.edits) ≡ edited l.is_plain l.source l.edits
