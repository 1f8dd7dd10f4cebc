use Rattle.rv_link_laws.proofs.NamesLeftLemmas.{global_names_left, chosen_left, chosen_exports_left, is_some_left, shared_place_left, symbol_place_left, target_place_left}
use Rattle.rv_link_laws.proofs.law.names_stay.Goals as goal

pub returns-clause-global : goal.returns-clause-global
returns-clause-global c = global_names_left

pub returns-clause-chosen : goal.returns-clause-chosen
returns-clause-chosen c = chosen_left

pub returns-clause-exports : goal.returns-clause-exports
returns-clause-exports c = chosen_exports_left

pub returns-clause-is_some : goal.returns-clause-is_some
returns-clause-is_some c = is_some_left

pub returns-clause-shared : goal.returns-clause-shared
returns-clause-shared c = shared_place_left

pub returns-clause-symbol : goal.returns-clause-symbol
returns-clause-symbol c = symbol_place_left

pub returns-clause-target : goal.returns-clause-target
returns-clause-target c = target_place_left
