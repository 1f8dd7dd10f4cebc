use Rattle.std.proofs.Common.{sym, ap, ◌∙◌}
use Rattle.std.specs.Option.{option_copied}
use Rattle.rv_archive_laws.specs.Taken.{is_asked, is_given, is_wanted}
use Rattle.rv_inputs.proofs.search.Search.is_asked.Goals as goal

pub returns-in-Some : goal.returns-in-Some
returns-in-Some c = λ names_of wanted taken state.
    c.is_open.ensures (is_given names_of wanted taken) (is_wanted names_of wanted taken) state.standings
    ∙ ap (λ n. is_asked names_of wanted taken (option_copied n)) (sym c.in-Some.is)
