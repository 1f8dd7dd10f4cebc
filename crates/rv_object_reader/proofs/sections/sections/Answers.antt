use Rattle.std.proofs.Common.{◌≡◌, ◌+◌, ◌-◌, ◌<◌, true, false, map, sym, ap, ◌∙◌, arith}
use Rattle.rv_elf_laws.specs.Sections.{section_count}
use Rattle.rv_object_types.specs.Parts.{relocation_of}
use Rattle.rv_object_types.specs.Sections.{section_of}
use Rattle.rv_object_reader.specs.Found.{section_at}
use Rattle.rv_object_file_laws.specs.ObjectOf.{section_in}
use Rattle.rv_object_file_laws.specs.Parts.{is_kept, kept}
use Rattle.rv_object_reader.proofs.CollectingLemmas.{kept_left, kept_all, kept_here, kept_past, all_units, left_first, left_taken, taken_below, taken_is}
use Rattle.rv_object_reader.proofs.MadeLemmas.{so_far_start, so_far_more, so_far_past}
use Rattle.rv_object_reader.proofs.sections.sections.Goals as goal

pub loop-earlier-init : goal.loop-earlier-init
loop-earlier-init c =
    let file = c.args.checked.now.view.file.now in record {
      made = so_far_start (λ _. Unit {0}) (section_in file) (kept file) _ _ (all_units (kept file)) (ap (map section_of) c.in_ok-sections.ensures.items) (sym (kept_all file));
      left = left_first file c.args.relocations.items c.requires;
    }

pub index_mut-requires : goal.index_mut-requires
index_mut-requires c =
    let lists = c.loop-earlier.relocations in
    omega (arith, taken_below c.args.checked.now.view.file.now c.loop-earlier.earlier c.in-Some.place lists.items (sym c.in-Some.ensures.place) c.loop-earlier.invariant.left, lists.ok.0)

pub section-requires-clause-own : goal.section-requires-clause-own
section-requires-clause-own c =
    ap (λ list. map relocation_of list.items) c.replace-own.ensures.value
    ∙ taken_is c.args.checked.now.view.file.now c.loop-earlier.earlier c.in-Some.place c.loop-earlier.relocations.items c.index_mut.result.now
    (sym c.in-Some.ensures.place) c.index_mut.ensures.value c.loop-earlier.invariant.left

pub loop-earlier-preserved : goal.loop-earlier-preserved
loop-earlier-preserved c =
    let file = c.args.checked.now.view.file.now in
    let i = c.loop-earlier.earlier in
    let was = c.loop-earlier.invariant in
    let below : i < section_count file - 1 = omega (arith, c.loop-earlier-test.true, c.count_sections-earlier-end.ensures) in
    let keeps : is_kept file (section_at file (i + 1)) ≡ true = sym (c.in-Some.ensures.kept (omega arith)) in
    record {
      made = so_far_more (λ _. Unit {0}) (section_in file) (kept file) section_of c.loop-earlier.sections.items c.push.new.self.items
          (section_at file (i + 1)) c.section.result (kept_left file i) (kept_left file (i + 1)) was.made
          (kept_here file i below keeps) c.section.ensures c.in_ok-push.ensures.items;
      left = left_taken file i c.in-Some.place c.loop-earlier.relocations.items _ (sym c.in-Some.ensures.place) was.left;
    }

pub loop-earlier-preserved-in_default : goal.loop-earlier-preserved-in_default
loop-earlier-preserved-in_default c =
    let file = c.args.checked.now.view.file.now in
    let i = c.loop-earlier.earlier in
    let was = c.loop-earlier.invariant in
    let below : i < section_count file - 1 = omega (arith, c.loop-earlier-test.true, c.count_sections-earlier-end.ensures) in
    let left_out : is_kept file (section_at file (i + 1)) ≡ false = sym (c.in_default.ensures.kept (omega arith)) in
    record {
      made = so_far_past (λ _. Unit {0}) (section_in file) (kept file) (map section_of c.loop-earlier.sections.items) (kept_left file i) (kept_left file (i + 1))
          was.made (kept_past file i below left_out);
      left = λ j past. was.left j (omega (arith, past));
    }
