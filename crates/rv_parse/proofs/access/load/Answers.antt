use Rattle.std.proofs.Common.{refl}
use Rattle.rv_statement_laws.specs.declared.mnemonic.Mnemonic.TheVariants.{Load}
use Rattle.rv_parse.proofs.LocatedLemmas.{accesses}
use Rattle.rv_parse.proofs.access.load.Goals as goal

pub returns : goal.returns
returns c = rw (accesses _ _ _ (Load c.args.operation) _ _ refl c.in_ok-rd.ensures c.in_ok-comma.ensures) c.loaded.ensures
