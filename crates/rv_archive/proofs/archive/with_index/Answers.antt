use Rattle.std.proofs.Common.{◌≡◌, List, map, sym, ap, subst}
use Rattle.std.specs.Prelude.{Ok, Err}
use Rattle.std.specs.List.Sorted.{IsNonDecreasingBy}
use Rattle.std.proofs.lemmas.Result.{err_from_is_err_and}
use Rattle.rv_archive_laws.specs.Index.{index_of}
use Rattle.rv_archive_laws.specs.Reads.{with_entries}
use Rattle.rv_archive.specs.declared.members.Member.{Member}
use Rattle.rv_archive.specs.View.{plain_part, plain_member, plain_entry}
use Rattle.rv_archive.proofs.ReadingLemmas.{is_for_weaker}
use Rattle.rv_archive.proofs.archive.with_index.Goals as goal

pub entries-requires : goal.entries-requires
entries-requires c = subst (IsNonDecreasingBy (λ (m : Member). m.place)) (sym c.as_slice.ensures.value) c.requires

pub returns-in_err-entries-clause-refuses : goal.returns-in_err-entries-clause-refuses
returns-in_err-entries-clause-refuses c =
    let ms = map plain_member c.args.members.items in
    let found = err_from_is_err_and c.from_residual.result c.from_residual.ensures.1 in
    rw (found.1, found.2)
    (is_for_weaker c.in_err-entries.field-0.0 _ _
    (λ fault h. ap (with_entries ms) (subst (λ (xs : List Member). index_of (plain_part c.args.index.now) (map plain_member xs) ≡ Err fault) c.as_slice.ensures.value h)) c.in_err-entries.ensures.refuses)

pub returns-clause-found : goal.returns-clause-found
returns-clause-found c =
    ap (with_entries (map plain_member c.args.members.items))
    (subst (λ (xs : List Member). index_of (plain_part c.args.index.now) (map plain_member xs) ≡ Ok (map plain_entry c.in_ok-entries.entries.items)) c.as_slice.ensures.value c.in_ok-entries.ensures.found)
