use Rattle.std.proofs.Common.{map, sym, ap, ◌∙◌}
use Rattle.std.specs.Prelude.{Ok, Err, option_map}
use Rattle.std.proofs.lemmas.Result.{err_from_is_err_and, IfOk-weaker, IfErr-weaker}
use Rattle.rv_archive_laws.specs.Members as laws
use Rattle.rv_archive_laws.specs.Reads.{indexed}
use Rattle.rv_archive.specs.View.{plain_part, plain_member}
use Rattle.rv_archive.proofs.ReadingLemmas.{in_order, archive_is, index_refused, is_for_weaker}
use Rattle.rv_archive.proofs.archive.archive_of.Goals as goal

pub returns-in_err-members-clause-refuses : goal.returns-in_err-members-clause-refuses
returns-in_err-members-clause-refuses c =
    let index = option_map plain_part c.index_part-index.result in
    let found = err_from_is_err_and c.from_residual.result c.from_residual.ensures.1 in
    rw (found.1, found.2)
    (is_for_weaker c.in_err-members.field-0.0 _ _
    (λ fault h.
    sym (archive_is (map plain_part c.args.parts.now) (map plain_part c.behind_index-rest.result.now) (map plain_part c.behind_table-own.result.now) index c.long_names-table.result.now (Err fault)
    c.index_part-index.ensures c.behind_index-rest.ensures c.long_names-table.ensures c.behind_table-own.ensures h)
    ∙ index_refused index fault)
    c.in_err-members.ensures.refuses)

pub with_index-requires : goal.with_index-requires
with_index-requires c =
    in_order c.requires.0 c.long_names-table.result.now (map plain_part c.args.parts.now) (map plain_part c.behind_table-own.result.now) c.in_ok-members.members.items c.requires.1
    (c.behind_table-own.ensures ∙ ap (laws.behind_such laws.is_table) c.behind_index-rest.ensures) c.in_ok-members.ensures.found

pub returns-in-Some-clause-found : goal.returns-in-Some-clause-found
returns-in-Some-clause-found c =
    let ms = map plain_member c.in_ok-members.members.items in
    let whole =
    archive_is (map plain_part c.args.parts.now) (map plain_part c.behind_index-rest.result.now) (map plain_part c.behind_table-own.result.now) (option_map plain_part c.index_part-index.result) c.long_names-table.result.now (Ok ms)
    c.index_part-index.ensures c.behind_index-rest.ensures c.long_names-table.ensures c.behind_table-own.ensures c.in_ok-members.ensures.found in
    IfOk-weaker c.with_index.result _ _ (λ archive h. sym whole ∙ ap (λ i. indexed (option_map plain_part i) (Ok ms)) c.in-Some.is ∙ h) c.with_index.ensures.found

pub returns-in-Some-clause-refuses : goal.returns-in-Some-clause-refuses
returns-in-Some-clause-refuses c =
    let ms = map plain_member c.in_ok-members.members.items in
    let whole =
    archive_is (map plain_part c.args.parts.now) (map plain_part c.behind_index-rest.result.now) (map plain_part c.behind_table-own.result.now) (option_map plain_part c.index_part-index.result) c.long_names-table.result.now (Ok ms)
    c.index_part-index.ensures c.behind_index-rest.ensures c.long_names-table.ensures c.behind_table-own.ensures c.in_ok-members.ensures.found in
    IfErr-weaker c.with_index.result _ _
    (λ refused h. is_for_weaker refused _ _ (λ fault k. sym whole ∙ ap (λ i. indexed (option_map plain_part i) (Ok ms)) c.in-Some.is ∙ k) h) c.with_index.ensures.refuses

pub returns-in-None-clause-found : goal.returns-in-None-clause-found
returns-in-None-clause-found c =
    let ms = map plain_member c.in_ok-members.members.items in
    let whole =
    archive_is (map plain_part c.args.parts.now) (map plain_part c.behind_index-rest.result.now) (map plain_part c.behind_table-own.result.now) (option_map plain_part c.index_part-index.result) c.long_names-table.result.now (Ok ms)
    c.index_part-index.ensures c.behind_index-rest.ensures c.long_names-table.ensures c.behind_table-own.ensures c.in_ok-members.ensures.found in
    IfOk-weaker c.without_index.result _ _ (λ archive h. sym whole ∙ ap (λ i. indexed (option_map plain_part i) (Ok ms)) c.in-None.is ∙ h) c.without_index.ensures.found

pub returns-in-None-clause-refuses : goal.returns-in-None-clause-refuses
returns-in-None-clause-refuses c =
    let ms = map plain_member c.in_ok-members.members.items in
    let whole =
    archive_is (map plain_part c.args.parts.now) (map plain_part c.behind_index-rest.result.now) (map plain_part c.behind_table-own.result.now) (option_map plain_part c.index_part-index.result) c.long_names-table.result.now (Ok ms)
    c.index_part-index.ensures c.behind_index-rest.ensures c.long_names-table.ensures c.behind_table-own.ensures c.in_ok-members.ensures.found in
    IfErr-weaker c.without_index.result _ _
    (λ refused h. is_for_weaker refused _ _ (λ fault k. sym whole ∙ ap (λ i. indexed (option_map plain_part i) (Ok ms)) c.in-None.is ∙ k) h) c.without_index.ensures.refuses
