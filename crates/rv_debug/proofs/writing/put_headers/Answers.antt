use Rattle.std.proofs.Common.{◌≡◌, ◌+◌, ◌*◌, length}
use Rattle.rv_map.specs.Views.{map_of}
use Rattle.rv_debug.specs.Views.{places_of, unloaded_of}
use Rattle.rv_debug_laws.specs.File.{table_place}
use Rattle.rv_debug.proofs.WritingLemmas.{wrote_headers}
use Rattle.rv_debug.proofs.writing.put_headers.Goals as goal

pub returns : goal.returns
returns c =
    let at : length c.args.exe.now + c.gap_behind.result + 64 * c.from.result ≡ table_place c.args.exe.now + 64 * 12 =
    λ i. length c.args.exe.now + c.gap_behind.ensures i + 64 * c.from.ensures i in
    wrote_headers c.args.exe.now (map_of c.args.map.now) (places_of c.args.places) (unloaded_of c.args.pieces.now) c.args.out.now _ _ _ at
    c.in_ok-put_loaded_headers.ensures c.in_ok-put_piece_headers.ensures
