use Rattle.std.proofs.Common.{◌∙◌, arith}
use Rattle.memchr.specs.Find.{is_byte}
use Rattle.rv_object_reader.proofs.StringsLemmas.{no_name, name_until}
use Rattle.rv_object_reader.proofs.strings.Strings.name.Goals as goal

pub returns-in-Some : goal.returns-in-Some
returns-in-Some c =
    name_until c.args.self.now.table.now c.args.offset c.in-Some.end c.if-offset-eq0.false
    (c.in-Some.ensures (is_byte 0) c.args.self.now.table.now (c.deref.ensures.value ∙ c.args.self.now.ended))

pub returns-in-None : goal.returns-in-None
returns-in-None c =
    no_name c.args.self.now.table.now c.args.offset (λ e. omega (arith, e))
    (c.in-None.ensures (is_byte 0) c.args.self.now.table.now (c.deref.ensures.value ∙ c.args.self.now.ended))
