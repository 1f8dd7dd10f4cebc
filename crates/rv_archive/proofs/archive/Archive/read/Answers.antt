use Rattle.std.proofs.Common.{List, map, refl, sym, subst}
use Rattle.std.specs.Prelude.{Ok, Err}
use Rattle.std.proofs.lemmas.Result.{err_from_is_err_and}
use Rattle.rv_archive_laws.specs.Parts.{FindsParts, magic_size}
use Rattle.rv_archive.specs.declared.parts.Part.{Part}
use Rattle.rv_archive.specs.View.{plain_part, plain_archive}
use Rattle.rv_archive.proofs.ReadingLemmas.{reads_by, refused_by, is_for_weaker}
use Rattle.rv_archive.proofs.archive.Archive.read.Goals as goal

pub archive_of-requires : goal.archive_of-requires
archive_of-requires c =
    (c.args.file.now, subst (λ (ps : List Part). FindsParts c.args.file.now magic_size (Ok (map plain_part ps))) (sym c.as_slice.ensures.value) c.in_ok-parts.ensures.found)

pub returns-in_err-check_magic-clause-refuses : goal.returns-in_err-check_magic-clause-refuses
returns-in_err-check_magic-clause-refuses c =
    let found = err_from_is_err_and c.from_residual.result c.from_residual.ensures.1 in
    rw (found.1, found.2) (refused_by c.args.file.now c.in_err-check_magic.field-0.0 c.in_err-check_magic.ensures.refuses)

pub returns-in_err-parts-clause-refuses : goal.returns-in_err-parts-clause-refuses
returns-in_err-parts-clause-refuses c =
    let file = c.args.file.now in
    let found = err_from_is_err_and c.from_residual-in_err-parts.result c.from_residual-in_err-parts.ensures.1 in
    rw (found.1, found.2) (is_for_weaker c.in_err-parts.field-0.0 _ _ (λ fault h. reads_by file (Err fault) (Err fault) c.in_ok-check_magic.ensures.ok h refl) c.in_err-parts.ensures.refuses)

pub returns-in_err-archive-clause-refuses : goal.returns-in_err-archive-clause-refuses
returns-in_err-archive-clause-refuses c =
    let file = c.args.file.now in
    let finds = subst (λ (ps : List Part). FindsParts file magic_size (Ok (map plain_part ps))) (sym c.as_slice.ensures.value) c.in_ok-parts.ensures.found in
    let found = err_from_is_err_and c.from_residual-in_err-archive.result c.from_residual-in_err-archive.ensures.1 in
    rw (found.1, found.2) (is_for_weaker c.in_err-archive.field-0.0 _ _ (λ fault h. reads_by file (Ok (map plain_part c.as_slice.result.now)) (Err fault) c.in_ok-check_magic.ensures.ok finds (sym h)) c.in_err-archive.ensures.refuses)

pub returns-clause-found : goal.returns-clause-found
returns-clause-found c =
    let file = c.args.file.now in
    let finds = subst (λ (ps : List Part). FindsParts file magic_size (Ok (map plain_part ps))) (sym c.as_slice.ensures.value) c.in_ok-parts.ensures.found in
    reads_by file (Ok (map plain_part c.as_slice.result.now)) (Ok (plain_archive c.in_ok-archive.archive)) c.in_ok-check_magic.ensures.ok finds (sym c.in_ok-archive.ensures.found)
