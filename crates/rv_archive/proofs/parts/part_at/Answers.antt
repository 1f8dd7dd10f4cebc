use Rattle.std.proofs.Common.{◌+◌, ◌≤◌, Some, None, length, sym, subst, ◌∙◌, arith}
use Rattle.std.specs.Prelude.{Result}
use Rattle.rv_archive_laws.specs.declared.fault.ArchiveFault.{ArchiveFault}
use Rattle.rv_archive_laws.specs.Outcomes.{GivesOrRefuses}
use Rattle.rv_archive_laws.specs.Parts.{ArchivePart}
use Rattle.rv_archive.specs.View.{plain_part}
use Rattle.rv_archive.proofs.PartsLemmas.{part_by}
use Rattle.rv_archive.proofs.parts.part_at.Goals as goal

pub returns-in-Some-clause-exact : goal.returns-in-Some-clause-exact
returns-in-Some-clause-exact c =
    let file = c.args.file.now in let place = c.args.place in
    let within : place + 60 ≤ length file = omega (arith, c.if-file-place-lt-HEAD_SIZE.false, c.requires) in
    subst (λ (r : Result ArchivePart ArchiveFault). GivesOrRefuses plain_part c.sized_part.result r)
    (sym (part_by file place (Some c.in-Some.size) within (sym c.has_end.ensures ∙ c.if-not-has_end.false) (sym c.in-Some.ensures.exact))) c.sized_part.ensures.exact

pub returns-in-None-clause-exact : goal.returns-in-None-clause-exact
returns-in-None-clause-exact c =
    let file = c.args.file.now in let place = c.args.place in
    let within : place + 60 ≤ length file = omega (arith, c.if-file-place-lt-HEAD_SIZE.false, c.requires) in
    part_by file place None within (sym c.has_end.ensures ∙ c.if-not-has_end.false) (sym c.in-None.ensures.exact)
