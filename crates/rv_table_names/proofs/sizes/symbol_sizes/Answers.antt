use Rattle.std.proofs.Common.{◌∙◌, ◌∷◌, [], ◌++◌, map, sym, ap}
use Rattle.std.proofs.lemmas.List.{take_all}
use Rattle.rv_elf_laws.specs.declared.symbol.Symbol.{Symbol}
use Rattle.rv_labels.proofs.LabelsLemmas.{more_map}
use Rattle.rv_table_names.proofs.sizes.symbol_sizes.Goals as goal

pub loop-symbol-preserved : goal.loop-symbol-preserved
loop-symbol-preserved c =
    c.in_ok-push.ensures.items
    ∙ (λ j. c.loop-symbol.invariant j ++ c.size_of.ensures j ∷ [])
    ∙ sym (more_map (λ (r : Symbol). r.st_size) c.args.records.now c.loop-symbol.symbol-index _ c.loop-symbol-test.true)

pub returns : goal.returns
returns c =
    c.loop-symbol.invariant ∙ ap (map (λ (r : Symbol). r.st_size)) (take_all c.loop-symbol.symbol-index c.args.records.now c.loop-symbol-test.false)
