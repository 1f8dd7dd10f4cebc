use Rattle.rv_map.specs.Views.{map_of}
use Rattle.rv_debug.specs.Views.{places_of, unloaded_of}
use Rattle.rv_debug.proofs.WritingLemmas.{wrote_parts}
use Rattle.rv_debug.proofs.writing.put_parts.Goals as goal

pub returns : goal.returns
returns c =
    wrote_parts c.args.exe.now (map_of c.args.map.now) (places_of c.args.places) (unloaded_of c.args.pieces.now) c.args.out.now _ _ _
    c.in_ok-put_executable.ensures c.in_ok-put_headers.ensures c.in_ok-put_contents.ensures
