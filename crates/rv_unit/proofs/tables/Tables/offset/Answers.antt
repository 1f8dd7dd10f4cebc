use Rattle.std.proofs.Common.{◌∙◌, sym, ap, List, length, map, slice_index_or}
use Rattle.std.proofs.lemmas.Bool.{ltb-true}
use Rattle.rv_unit_laws.specs.Tables as laws
use Rattle.rv_unit.specs.declared.section.Extent.{Extent}
use Rattle.rv_unit.specs.Sections.{extent_of}
use Rattle.rv_unit.proofs.LookupsLemmas.{bytes_found}
use Rattle.rv_unit.proofs.tables.Tables.offset.Goals as goal

pub returns-in-Some : goal.returns-in-Some
returns-in-Some c =
    let found = c.in-Some.ensures.lookup in
    bytes_found c.deref.result.now c.args.self.now.current c.in-Some.extent.now _ 0 (ltb-true c.args.self.now.current (length c.deref.result.now) (sym found.0)) found.1
    ∙ ap (λ (es : List Extent). slice_index_or (map (λ (x : laws.Extent). x.bytes) (map extent_of es)) c.args.self.now.current 0) c.deref.ensures.value
