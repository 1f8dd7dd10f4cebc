use Rattle.std.proofs.Common.{refl}
use Rattle.rv_statement_laws.specs.declared.mnemonic.Mnemonic.TheVariants.{Store}
use Rattle.rv_parse.proofs.LocatedLemmas.{accesses}
use Rattle.rv_parse.proofs.access.store.Goals as goal

pub returns : goal.returns
returns c = rw (accesses _ _ _ (Store c.args.operation) _ _ refl c.in_ok-rs2.ensures c.in_ok-comma.ensures) c.stored.ensures
