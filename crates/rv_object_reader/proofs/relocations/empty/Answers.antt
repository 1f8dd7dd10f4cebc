use Rattle.std.proofs.Common.{◌+◌, ◌-◌, ◌<◌, [], not, map, sym, ap, ◌∙◌, arith}
use Rattle.rv_elf_laws.specs.Sections.{section_count}
use Rattle.rv_object_types.specs.Parts.{relocation_of}
use Rattle.rv_object_reader.specs.Found.{section_at}
use Rattle.rv_object_file_laws.specs.Parts.{kept}
use Rattle.rv_object_reader.specs.Collected.{list_so_far, lists_in}
use Rattle.rv_object_reader.proofs.CollectingLemmas.{kept_left, kept_all, kept_here, kept_past, all_units, lists_empty}
use Rattle.rv_object_reader.proofs.MadeLemmas.{so_far_start, so_far_past, so_far_more}
use Rattle.rv_object_reader.proofs.relocations.empty.Goals as goal

pub loop-earlier-init : goal.loop-earlier-init
loop-earlier-init c =
    let file = c.args.checked.now.view.file.now in
    so_far_start (λ _. Unit {0}) (list_so_far file []) (kept file) _ _ (all_units (kept file)) (ap (λ lists. lists_in lists) c.new-lists.ensures.items) (sym (kept_all file))

pub loop-earlier-preserved-then-is_none : goal.loop-earlier-preserved-then-is_none
loop-earlier-preserved-then-is_none c =
    let file = c.args.checked.now.view.file.now in
    let i = c.loop-earlier.earlier in
    let below : i < section_count file - 1 = omega (arith, c.loop-earlier-test.true, c.count_sections-earlier-end.ensures) in
    so_far_past (λ _. Unit {0}) (list_so_far file []) (kept file) _ (kept_left file i) (kept_left file (i + 1)) c.loop-earlier.invariant
    (kept_past file i below (sym (c.place.ensures.kept (omega arith)) ∙ c.is_none.ensures ∙ ap not c.if-is_none.true))

pub loop-earlier-preserved : goal.loop-earlier-preserved
loop-earlier-preserved c =
    let file = c.args.checked.now.view.file.now in
    let i = c.loop-earlier.earlier in
    let below : i < section_count file - 1 = omega (arith, c.loop-earlier-test.true, c.count_sections-earlier-end.ensures) in
    so_far_more (λ _. Unit {0}) (list_so_far file []) (kept file) (λ list. map relocation_of list.items) c.loop-earlier.lists.items c.push.new.self.items
    (section_at file (i + 1)) c.new.result (kept_left file i) (kept_left file (i + 1)) c.loop-earlier.invariant
    (kept_here file i below (sym (c.place.ensures.kept (omega arith)) ∙ c.is_none.ensures ∙ ap not c.if-is_none.false))
    (ap (map relocation_of) c.new.ensures.items ∙ lists_empty file (section_at file (i + 1))) c.in_ok-push.ensures.items
