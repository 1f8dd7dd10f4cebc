use Rattle.std.proofs.Common.{◌≡◌, [], ◌∷◌, ◌++◌, map, ap, ◌∙◌}
use Rattle.std.proofs.lemmas.List.{map-append}
use Rattle.rv_object_laws.specs.Valid.{are_indexed, are_defined, are_rows}
use Rattle.rv_object_types.specs.Parts.{symbol_of}
use Rattle.rv_object_types.specs.Sections.{section_of}
use Rattle.rv_debug_laws.specs.SourceNames.{source_section}
use Rattle.rv_debug.specs.NameViews.{called}
use Rattle.rv_debug.proofs.NamedLemmas.{indexed_more, defined_more, rows_more}
use Rattle.rv_debug.proofs.naming.named_object.Goals as goal

pub invariant_of-result : goal.invariant_of-result
invariant_of-result c =
    let x = c.args.object in
    let name = called c.args.directory.now c.args.path.now in
    let ss = map section_of x.sections.items in
    let more : map section_of c.push.new.self.items ≡ ss ++ source_section name ∷ [] =
    ap (map section_of) c.in_ok-push.ensures.items ∙ map-append section_of x.sections.items _ ∙ ap (λ s. ss ++ s ∷ []) c.in_ok-source_section.ensures in
    record {
      indexed = ap (are_indexed (map symbol_of x.symbols.items)) more ∙ indexed_more (map symbol_of x.symbols.items) ss name x.indexed;
      defined = ap (λ l. are_defined l (map symbol_of x.symbols.items)) more ∙ defined_more ss (source_section name ∷ []) (map symbol_of x.symbols.items) x.defined;
      lie = ap (λ l. are_rows l x.rows.items) more ∙ rows_more ss (source_section name ∷ []) x.rows.items x.lie;
      counted = x.counted;
    }
