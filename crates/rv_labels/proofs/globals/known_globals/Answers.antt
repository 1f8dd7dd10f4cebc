use Rattle.std.proofs.Common.{◌∙◌, ◌∷◌, [], ◌++◌, map, take, sym, ap}
use Rattle.std.proofs.lemmas.List.{map-append, take_all}
use Rattle.rv_map.specs.Views.{global_of}
use Rattle.rv_debug_laws.specs.Labels.{known_global}
use Rattle.rv_labels.specs.Known.{known_of}
use Rattle.rv_labels.proofs.LabelsLemmas.{taken_map}
use Rattle.rv_labels.proofs.globals.known_globals.Goals as goal

pub loop-global-preserved : goal.loop-global-preserved
loop-global-preserved c =
    let i = c.loop-global.global-index in
    let globals = c.args.globals.now in
    let g = c.global-item.result in
    let names = map known_of c.args.names.now in
    ap (map known_of) c.in_ok-push.ensures.items ∙ map-append known_of c.loop-global.known.items (c.known_global.result ∷ [])
    ∙ (λ j. c.loop-global.invariant j ++ c.known_global.ensures names c.in_ok-last.ensures j ∷ [])
    ∙ sym (ap (map (known_global names)) (taken_map global_of globals i g c.loop-global-test.true c.global-item.is)
    ∙ map-append (known_global names) (map global_of (take i globals)) (global_of g ∷ []))

pub returns : goal.returns
returns c =
    c.loop-global.invariant
    ∙ ap (λ l. map (known_global (map known_of c.args.names.now)) (map global_of l)) (take_all c.loop-global.global-index c.args.globals.now c.loop-global-test.false)
