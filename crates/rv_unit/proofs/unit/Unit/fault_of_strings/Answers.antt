use Rattle.std.proofs.Common.{◌∙◌, subst, length, map, refl}
use Rattle.rv_statement_laws.specs.Statement.{StatementKind, Directs, Strings, Emits}
use Rattle.rv_statement.specs.View.{quoted}
use Rattle.rv_unit_laws.specs.Sections.{current_section}
use Rattle.rv_unit_laws.specs.Tables as laws
use Rattle.rv_fault.specs.SourceFault.{IsLowest}
use Rattle.rv_unit.specs.Unit.{said, passed}
use Rattle.rv_unit_laws.specs.Faults.{stored_faults}
use Rattle.rv_unit.proofs.SizedLemmas.{data_shown}
use Rattle.rv_unit.proofs.StandingLemmas.{at_here, at_home}
use Rattle.rv_unit.proofs.unit.Unit.fault_of_strings.Goals as goal

pub returns : goal.returns
returns c = λ i o at.
    let u = c.args.self.now in
    let t = passed (said u) i in
    let r = c.data_fault.result in
    let strings = map quoted c.args.strings.now in
    let kind : StatementKind = Directs (Emits (Strings c.args.ended strings)) in
    let section = current_section (laws.opened_of t) in
    let offset = (laws.here t).offset in
    subst (IsLowest r) (data_shown section offset (length (laws.string_bytes c.args.ended strings)))
    (subst (λ b. IsLowest r (stored_faults section offset b)) c.strings_size-bytes.ensures
    (subst (λ (q : laws.SectionOffset). IsLowest r (stored_faults section q.offset c.strings_size-bytes.result)) (at_here u i o c.args.place kind at refl)
    (subst (λ k. IsLowest r (stored_faults k c.args.place.offset c.strings_size-bytes.result)) (c.section_at.ensures ∙ at_home u i o c.args.place kind at refl) c.data_fault.ensures)))
