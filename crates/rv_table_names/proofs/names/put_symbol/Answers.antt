use Rattle.std.proofs.Common.{◌∙◌, map, ap, sym}
use Rattle.std.specs.Prelude.{option_map}
use Rattle.std.proofs.lemmas.List.{map-append}
use Rattle.rv_object_types.specs.Parts.{symbol_of}
use Rattle.rv_labels.specs.Known.{known_of}
use Rattle.rv_labels.proofs.LabelsLemmas.{symbol_added, symbol_left, symbol_nowhere}
use Rattle.rv_table_names.specs.Tables.{is_wanted, symbol_name}
use Rattle.rv_table_names.specs.Views.{tabled_of}
use Rattle.rv_table_names.proofs.names.put_symbol.Goals as goal

pub returns-then-not-is_wanted : goal.returns-then-not-is_wanted
returns-then-not-is_wanted c =
    symbol_left (map known_of c.args.names.now.items) (is_wanted c.args.binding (symbol_of c.args.symbol.now))
    (symbol_name (tabled_of c.args.object.now) c.args.index (symbol_of c.args.symbol.now)) (sym c.is_wanted.ensures.is ∙ c.if-not-is_wanted.true)

pub returns-in_default : goal.returns-in_default
returns-in_default c =
    symbol_nowhere (map known_of c.args.names.now.items) (is_wanted c.args.binding (symbol_of c.args.symbol.now))
    (symbol_name (tabled_of c.args.object.now) c.args.index (symbol_of c.args.symbol.now)) (ap (option_map known_of) (sym c.in_default.is) ∙ c.known.ensures)

pub returns : goal.returns
returns c =
    ap (map known_of) c.in_ok-push.ensures.items ∙ map-append known_of c.args.names.now.items _
    ∙ symbol_added (map known_of c.args.names.now.items) (is_wanted c.args.binding (symbol_of c.args.symbol.now))
    (symbol_name (tabled_of c.args.object.now) c.args.index (symbol_of c.args.symbol.now)) _ (sym c.is_wanted.ensures.is ∙ c.if-not-is_wanted.false)
    (ap (option_map known_of) (sym c.in-Some.is) ∙ c.known.ensures)
