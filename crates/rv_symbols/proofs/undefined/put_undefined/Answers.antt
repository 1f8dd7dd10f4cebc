use Rattle.std.proofs.Common.{◌+◌, [], ◌∷◌, ◌++◌, map, drop, get_or, refl, sym, ap, ◌∙◌, append_assoc}
use Rattle.std.proofs.lemmas.List.{map-append}
use Rattle.rv_object_laws.specs.declared.symbol.Definition.TheVariants.{Undefined}
use Rattle.rv_object_types.specs.Parts.{symbol_of}
use Rattle.rv_assemble_laws.specs.Symbols.{shared_symbol}
use Rattle.rv_symbols.specs.Source.{tables_of}
use Rattle.std.specs.Prelude.{option_map}
use Rattle.std.proofs.lemmas.Option.{slice_get-map}
use Rattle.rv_list_laws.proofs.ElementsLemmas.{get_index_or}
use Rattle.rv_list_laws.proofs.TestsLemmas.{get_all}
use Rattle.rv_list_laws.proofs.TakeDropLemmas.{drop_next}
use Rattle.rv_map_laws.specs.Name.{is_name}
use Rattle.rv_statement.specs.View.{now_of}
use Rattle.rv_symbols.proofs.undefined.put_undefined.Goals as goal

pub invariant_of-undefined : goal.invariant_of-undefined
invariant_of-undefined c =
    let i = c.loop-name.name-index in
    let names = c.args.names.now in
    let name = get_or names i (record { ref_ptr = (0, 0); now = [] }) in
    let at = slice_get-map now_of names i ∙ ap (option_map now_of) (get_index_or names i (record { ref_ptr = (0, 0); now = [] }) c.loop-name-test.true) in
    record { shown = c.outer_binding.ensures.shown (get_all is_name (map now_of names) i name.now at c.requires); low = refl }

pub loop-name-preserved : goal.loop-name-preserved
loop-name-preserved c = λ laid h.
    let t = tables_of c.args.source.now in
    let i = c.loop-name.name-index in
    let names = c.args.names.now in
    let name = get_or names i (record { ref_ptr = (0, 0); now = [] }) in
    let old = map symbol_of c.loop-name.symbols.items in
    let rest = map (λ name. shared_symbol t name Undefined) (drop (i + 1) (map now_of names)) in
    ap (λ l. map symbol_of l ++ rest) c.in_ok-push.ensures.items
    ∙ ap (λ l. l ++ rest) (map-append symbol_of c.loop-name.symbols.items _)
    ∙ ap (λ b. (old ++ record { name = name.now; binding = b; definition = Undefined } ∷ []) ++ rest) (c.outer_binding.ensures.binding laid h)
    ∙ append_assoc old (shared_symbol t name.now Undefined ∷ []) rest
    ∙ ap (λ l. old ++ map (λ name. shared_symbol t name Undefined) l) (sym (drop_next (map now_of names) i name.now (slice_get-map now_of names i ∙ ap (option_map now_of) (get_index_or names i (record { ref_ptr = (0, 0); now = [] }) c.loop-name-test.true))))
    ∙ c.loop-name.invariant laid h
