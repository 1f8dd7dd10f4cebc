use Rattle.std.proofs.Common.{◌<◌, ◌∙◌, [], length, map, take, rules, ap, sym}
use Rattle.std.specs.Prelude.{reverse}
use Rattle.rv_expression.specs.declared.evaluation.SymbolMeaning.TheVariants as meanings
use Rattle.rv_unit.specs.declared.tables.Assignment.{Assignment}
use Rattle.rv_unit.specs.Tables.{assignment_of}
use Rattle.rv_symbols.specs.Settings.{first_ordinal}
use Rattle.rv_symbols.proofs.FirstsLemmas.{settings_more}
use Rattle.rv_symbols.proofs.settings.FirstSettings.of.Goals as goal

abbrev no_setting : Assignment
no_setting = record { name = record { ref_ptr = (0, 0); now = [] }; ordinal = 0; meaning = meanings.Constant 0; plus = 0 }

pub loop-setting-preserved : goal.loop-setting-preserved
loop-setting-preserved c = λ q.
    let i = c.loop-setting.setting-index in
    let xs = c.args.assignments.now in
    let inside : i < length xs = search rules in
    c.in_ok-put.ensures (reverse (map assignment_of (take i xs))) c.loop-setting.invariant q ∙ ap (λ l. first_ordinal l q.now) (sym (settings_more xs i no_setting inside))
