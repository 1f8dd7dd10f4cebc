use Rattle.std.proofs.Common.{◌∷◌, [], map, refl, sym, ap, subst, ◌∙◌, arith}
use Rattle.std.specs.Prelude.{Ok, Err, ◌≡◌}
use Rattle.std.proofs.lemmas.List.{map-append}
use Rattle.std.proofs.lemmas.Result.{err_from_is_err_and}
use Rattle.rv_archive_laws.specs.Index.{entries_in, index_entry, member_placed}
use Rattle.rv_elf_laws.specs.Sections.{before_zero}
use Rattle.rv_archive.specs.View.{plain_member, plain_entry}
use Rattle.rv_archive.proofs.EntriesLemmas.{all_entries, too_many, entries_first, entries_more, entries_refused, entries_done, entry_within}
use Rattle.rv_archive.proofs.index.entries_in.Goals as goal

pub loop-i-init : goal.loop-i-init
loop-i-init c =
    let w = c.args.width in let bytes = c.args.bytes.now in let ms = map plain_member c.args.members.now in let count = c.in_ok-count.count in
    entries_first w bytes ms count _ (map plain_entry c.in_ok-entries.entries.items) (ap (map plain_entry) c.in_ok-entries.ensures.items)
    ∙ sym (all_entries w bytes ms count c.in_ok-count.ensures.count c.in_ok-count.ensures.within)

pub loop-i-preserved : goal.loop-i-preserved
loop-i-preserved c =
    let w = c.args.width in let bytes = c.args.bytes.now in let ms = map plain_member c.args.members.now in let count = c.in_ok-count.count in
    let entry = c.in_ok-entry.entry in
    let made = subst (λ n. index_entry (before_zero c.loop-i.names.now) (member_placed ms n) ≡ Ok (plain_entry entry)) c.index_number.ensures c.in_ok-entry.ensures in
    let is = ap (map plain_entry) c.in_ok-push.ensures.items ∙ map-append plain_entry c.loop-i.entries.items (entry ∷ []) in
    entries_more w bytes ms count c.loop-i.i c.loop-i.names.now _ (map plain_entry c.loop-i.entries.items) (map plain_entry c.push.new.self.items) (plain_entry entry) (entries_in w bytes ms)
    c.loop-i-test.true made refl is c.loop-i.invariant

pub slice_bounds-names-count-in-loop-i : goal.slice_bounds-names-count-in-loop-i
slice_bounds-names-count-in-loop-i c =
    let within = entry_within c.loop-i.names.now _ (plain_entry c.in_ok-entry.entry) c.in_ok-entry.ensures in omega (arith, within)

pub slice_bounds-names-start-in-loop-i : goal.slice_bounds-names-start-in-loop-i
slice_bounds-names-start-in-loop-i c =
    let within = entry_within c.loop-i.names.now _ (plain_entry c.in_ok-entry.entry) c.in_ok-entry.ensures in omega (arith, within)

pub returns-in_err-entry-clause-refuses : goal.returns-in_err-entry-clause-refuses
returns-in_err-entry-clause-refuses c =
    let w = c.args.width in let bytes = c.args.bytes.now in let ms = map plain_member c.args.members.now in let count = c.in_ok-count.count in
    let fault = c.in_err-entry.field-0.0 in
    let made = subst (λ n. index_entry (before_zero c.loop-i.names.now) (member_placed ms n) ≡ Err fault) c.index_number.ensures c.in_err-entry.ensures in
    let found = err_from_is_err_and c.from_residual-in_err-entry.result c.from_residual-in_err-entry.ensures.1 in
    rw (found.1, found.2)
    (entries_refused w bytes ms count c.loop-i.i c.loop-i.names.now (map plain_entry c.loop-i.entries.items) fault (entries_in w bytes ms) c.loop-i-test.true made c.loop-i.invariant)

pub returns-in_err-count-clause-refuses : goal.returns-in_err-count-clause-refuses
returns-in_err-count-clause-refuses c =
    let w = c.args.width in let bytes = c.args.bytes.now in let ms = map plain_member c.args.members.now in
    let found = err_from_is_err_and c.from_residual.result c.from_residual.ensures.1 in
    rw (found.1, found.2) (too_many w bytes ms c.in_err-count.ensures.refuses.1 ∙ ap (λ f. Err f) (sym c.in_err-count.ensures.refuses.0))

pub returns-clause-found : goal.returns-clause-found
returns-clause-found c =
    let w = c.args.width in let bytes = c.args.bytes.now in let ms = map plain_member c.args.members.now in let count = c.in_ok-count.count in
    entries_done w bytes ms count c.loop-i.i c.loop-i.names.now (map plain_entry c.loop-i.entries.items) (entries_in w bytes ms) (omega (arith, c.loop-i-test.false)) c.loop-i.invariant
