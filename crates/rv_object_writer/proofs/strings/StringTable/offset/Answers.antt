use Rattle.std.proofs.Common.{◌≡◌, arith, ◌∙◌, sym, ap, length, option_copied}
use Rattle.rv_object_writer.proofs.NamingLemmas.{offset_found, offset_end}
use Rattle.rv_object_writer.proofs.strings.StringTable.offset.Goals as goal

pub returns-in-Some : goal.returns-in-Some
returns-in-Some c = λ strings table.
    offset_found strings c.args.name.now _ (sym (table.found c.args.name.now) ∙ sym c.get.ensures.value ∙ ap option_copied c.in-Some.is)

pub returns-in-None : goal.returns-in-None
returns-in-None c = λ strings table.
    let at : c.len.result ≡ length c.args.self.now.bytes.items = omega (arith, c.len.ensures, c.args.self.now.bytes.ok.0) in
    at ∙ ap length table.all ∙ offset_end strings c.args.name.now (sym (table.found c.args.name.now) ∙ sym c.get.ensures.value ∙ ap option_copied c.in-None.is)
