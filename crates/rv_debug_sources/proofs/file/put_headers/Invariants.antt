use Rattle.std.proofs.Common.{◌≡◌, ◌++◌, map}
use Rattle.rv_object_types.specs.Sections.{section_of}
use Rattle.rv_debug_sources.specs.Unloaded.{headers_bytes}
use Rattle.rv_debug_sources.proofs.HeadersLemmas.{headers_left}
use Rattle.rv_debug_sources.proofs.file.put_headers.Given as goal

-- the bytes so far, with the headers that are left
abbrev pub invariant-loop-index : goal.invariant-loop-index
invariant-loop-index l = l.out ++ headers_left (map section_of l.own) l.view.file.now l.index ≡ l.initial.out ++ headers_bytes (map section_of l.own) l.view.file.now
