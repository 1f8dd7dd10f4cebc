use Rattle.std.proofs.Common.{ap, ◌∙◌, arith}
use Rattle.std.specs.Prelude.{nat_lt}
use Rattle.rv_object_reader.proofs.ShownStringsLemmas.{named}
use Rattle.rv_object_reader.proofs.names.Names.has_name.Goals as goal

pub returns-else-header-eq0 : goal.returns-else-header-eq0
returns-else-header-eq0 c =
    ap (λ offset. nat_lt offset c.args.self.now.end) c.from.ensures ∙ ap (nat_lt c.args.header.now.sh_name) c.args.self.now.ended
    ∙ named c.args.self.now.view.file.now c.args.header.now (omega arith) c.if-header-eq0.false
