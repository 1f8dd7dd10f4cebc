use Rattle.std.proofs.Common.{◌∙◌, map, ap, sym}
use Rattle.std.specs.Prelude.{option_map}
use Rattle.std.proofs.lemmas.List.{map-append}
use Rattle.rv_object_types.specs.Parts.{symbol_of}
use Rattle.rv_debug_laws.specs.Labels.{is_asked, symbol_name}
use Rattle.rv_labels.specs.Known.{known_of}
use Rattle.rv_labels.proofs.LabelsLemmas.{symbol_added, symbol_left, symbol_nowhere}
use Rattle.rv_labels.proofs.objects.put_symbol.Goals as goal

pub returns-then-not-is_asked : goal.returns-then-not-is_asked
returns-then-not-is_asked c = λ known rows marks are.
    symbol_left (map known_of c.args.names.now.items) (is_asked c.args.shared (symbol_of c.args.symbol.now))
    (symbol_name known c.args.places.now.file rows marks (symbol_of c.args.symbol.now)) (sym c.is_asked.ensures.is ∙ c.if-not-is_asked.true)

pub returns-in_default : goal.returns-in_default
returns-in_default c = λ known rows marks are.
    symbol_nowhere (map known_of c.args.names.now.items) (is_asked c.args.shared (symbol_of c.args.symbol.now))
    (symbol_name known c.args.places.now.file rows marks (symbol_of c.args.symbol.now)) (ap (option_map known_of) (sym c.in_default.is) ∙ c.known.ensures known rows marks are)

pub returns : goal.returns
returns c = λ known rows marks are.
    ap (map known_of) c.in_ok-push.ensures.items ∙ map-append known_of c.args.names.now.items _
    ∙ symbol_added (map known_of c.args.names.now.items) (is_asked c.args.shared (symbol_of c.args.symbol.now))
    (symbol_name known c.args.places.now.file rows marks (symbol_of c.args.symbol.now)) _ (sym c.is_asked.ensures.is ∙ c.if-not-is_asked.false)
    (ap (option_map known_of) (sym c.in-Some.is) ∙ c.known.ensures known rows marks are)
