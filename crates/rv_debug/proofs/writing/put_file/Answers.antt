use Rattle.std.proofs.Common.{◌∙◌, ◌++◌, ap}
use Rattle.rv_map.specs.Views.{map_of}
use Rattle.rv_debug.specs.Views.{places_of, unloaded_of}
use Rattle.rv_debug_laws.specs.File.{file_with}
use Rattle.rv_debug.proofs.WritingLemmas.{pieces_fit}
use Rattle.rv_debug.proofs.writing.put_file.Goals as goal

pub put_parts-requires-clause-sizes : goal.put_parts-requires-clause-sizes
put_parts-requires-clause-sizes c =
    pieces_fit c.args.tables.now (unloaded_of c.as_slice.result.now) c.requires.tables (ap unloaded_of c.as_slice.ensures.value ∙ c.in_ok-pieces.ensures)

pub returns : goal.returns
returns c =
    c.finish.ensures ∙ c.in_ok-put_parts.ensures
    ∙ ap (λ l. l ++ file_with c.args.exe.now (map_of c.args.map.now) (places_of c.args.places) (unloaded_of c.as_slice.result.now)) c.new-out.ensures
    ∙ ap (file_with c.args.exe.now (map_of c.args.map.now) (places_of c.args.places)) (ap unloaded_of c.as_slice.ensures.value ∙ c.in_ok-pieces.ensures)
