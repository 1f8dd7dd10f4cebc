use Rattle.std.proofs.Common.{◌∙◌, ap}
use Rattle.rv_debug_laws.specs.Code.{are_by_file}
use Rattle.rv_debug.proofs.ChainLemmas.{to_the_end}
use Rattle.rv_debug.proofs.CodeLemmas.{by_file_behind, own_code}
use Rattle.rv_debug.proofs.UnitsLemmas.{files_more}
use Rattle.rv_debug.proofs.units.own_code.Goals as goal

pub count_up_to-count-requires : goal.count_up_to-count-requires
count_up_to-count-requires c =
    ap (are_by_file 0) (to_the_end c.args.first c.args.rows.now) ∙ by_file_behind c.args.first c.args.rows.now c.requires.sorted

pub returns-clause-code : goal.returns-clause-code
returns-clause-code c =
    c.in_ok-code.ensures.is
    ∙ own_code c.args.text c.args.number c.args.first c.count_up_to-count.result c.args.rows.now _ (to_the_end c.args.first c.args.rows.now)
    c.requires.earlier c.count_up_to-count.ensures.later

pub returns-clause-earlier : goal.returns-clause-earlier
returns-clause-earlier c =
    files_more c.args.number c.args.first c.count_up_to-count.result c.args.rows.now _ (to_the_end c.args.first c.args.rows.now) c.requires.earlier
    c.count_up_to-count.ensures.own
