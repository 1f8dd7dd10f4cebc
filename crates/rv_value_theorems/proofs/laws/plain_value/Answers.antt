use Rattle.rv_value_theorems.proofs.AgreementLemmas.{plain_value, plain_found, value_by_addresses, found_by_addresses}
use Rattle.rv_value_theorems.proofs.laws.plain_value.Goals as goal

pub returns-clause-is : goal.returns-clause-is
returns-clause-is c = plain_value

pub returns-clause-found : goal.returns-clause-found
returns-clause-found c = plain_found

pub returns-clause-by_addresses : goal.returns-clause-by_addresses
returns-clause-by_addresses c = value_by_addresses

pub returns-clause-found_by_addresses : goal.returns-clause-found_by_addresses
returns-clause-found_by_addresses c = found_by_addresses
