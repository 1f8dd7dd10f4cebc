use Rattle.std.proofs.Common.{◌≡◌, ◌∙◌, ◌≤◌, ◌<◌, ◌++◌, ℕ, List, length, map, ap, sym, subst, refl, arith}
use Rattle.std.proofs.Math.Nat.{le_trans}
use Rattle.std.specs.Vec.{with_items}
use Rattle.std.proofs.lemmas.List.{with_items_is}
use Rattle.rv_list_laws.proofs.OptionsLemmas.{of_if_some}
use Rattle.rv_isa_laws.specs.Platform.{memory_limit}
use Rattle.rv_image_laws.proofs.FreeLemmas.{free_low}
use Rattle.rv_link_laws.specs.declared.bounds.Ground.{Ground}
use Rattle.rv_link_laws.specs.Layout.{IsTooLarge}
use Rattle.rv_shorten.specs.declared.object.ShortObject.{ShortObject}
use Rattle.rv_shorten.specs.View.{short_object_of}
use Rattle.rv_relax.specs.Kept.{kept_in}
use Rattle.rv_placement.specs.declared.placement.Placement.{Placement}
use Rattle.rv_placement.specs.Placement.{IsPlacement}
use Rattle.rv_placement.specs.Walk.{lists_of, behind_files, gapped_files}
use Rattle.rv_placement.proofs.BehindLemmas.{rodata_up, data_up}
use Rattle.rv_placement.proofs.TextsLemmas.{told_none}
use Rattle.rv_placement.proofs.PlacedLemmas.{each_list, is_placement, text_too_large, behind_too_large, memory_too_large}
use Rattle.rv_placement.proofs.RoomsStandLemmas.{has_room_anywhere, placed_roomy}
use Rattle.rv_placement.proofs.placement.Placement.of.Goals as goal

-- a placement of the same objects
of_same : (g : Ground) (p : Placement) (xs ys : List ShortObject) → xs ≡ ys → IsPlacement (map short_object_of xs) g p → IsPlacement (map short_object_of ys) g p
of_same g p xs ys same placed = subst (λ l. IsPlacement (map short_object_of l) g p) same placed

pub put_files-requires-clause-plans : goal.put_files-requires-clause-plans
put_files-requires-clause-plans c =
    ap (map _) c.as_slice.ensures.value ∙ c.args.plan.now.planned ∙ sym (ap (map (λ (o : ShortObject). map kept_in o.sections.items)) c.as_slice-objects.ensures.value)

pub put_files-requires-clause-high : goal.put_files-requires-clause-high
put_files-requires-clause-high c = le_trans c.requires.free (free_low c.args.bounds.text)

pub regions_behind-requires-clause-high : goal.regions_behind-requires-clause-high
regions_behind-requires-clause-high c = le_trans c.requires.free (free_low c.args.bounds.text)

pub returns-in_default-clause-refuses : goal.returns-in_default-clause-refuses
returns-in_default-clause-refuses c = (
  subst (λ l. IsTooLarge (map short_object_of l) c.args.bounds) c.as_slice-objects.ensures.value
      (text_too_large (map short_object_of c.as_slice-objects.result.now) c.args.bounds (told_none _ c.in_ok-found.found c.in_default.is c.in_ok-found.ensures.far)),
  has_room_anywhere c.args.plan.now.objects.items c.args.bounds.text c.requires.roomy,
)

pub regions_behind-requires-clause-each : goal.regions_behind-requires-clause-each
regions_behind-requires-clause-each c =
    let placed = of_if_some _ c.in_ok-found.found c.in-Some.end c.in-Some.is c.in_ok-found.ensures.placed in
    ap (λ l. map length (lists_of l)) c.as_mut_slice.ensures.value ∙ each_list c.put_files.new.files.items (map short_object_of c.as_slice-objects.result.now) placed.3

pub returns-in_default-regions_behind-clause-refuses : goal.returns-in_default-regions_behind-clause-refuses
returns-in_default-regions_behind-clause-refuses c =
    let placed = of_if_some _ c.in_ok-found.found c.in-Some.end c.in-Some.is c.in_ok-found.ensures.placed in (
      subst (λ l. IsTooLarge (map short_object_of l) c.args.bounds) c.as_slice-objects.ensures.value
          (behind_too_large (map short_object_of c.as_slice-objects.result.now) c.args.bounds c.in-Some.end placed.0 c.in_default-regions_behind.ensures.far),
      has_room_anywhere c.args.plan.now.objects.items c.args.bounds.text c.requires.roomy,
    )

pub memory_of-requires : goal.memory_of-requires
memory_of-requires c =
    let r = c.in-Some-regions_behind.behind in
    let h = c.in-Some-regions_behind.ensures.behind in
    let os = map short_object_of c.as_slice-objects.result.now in
    let up = rodata_up os c.in-Some.end r.rodata r.data r.bss h in
    (up.0, up.1, (data_up os c.in-Some.end r.rodata r.data r.bss h).0)

pub returns-then-memory_of-gt-MEMORY_LIMIT-clause-refuses : goal.returns-then-memory_of-gt-MEMORY_LIMIT-clause-refuses
returns-then-memory_of-gt-MEMORY_LIMIT-clause-refuses c =
    let placed = of_if_some _ c.in_ok-found.found c.in-Some.end c.in-Some.is c.in_ok-found.ensures.placed in
    let r = c.in-Some-regions_behind.behind in (
      subst (λ l. IsTooLarge (map short_object_of l) c.args.bounds) c.as_slice-objects.ensures.value
          (memory_too_large (map short_object_of c.as_slice-objects.result.now) c.args.bounds (record { start = c.args.bounds.text; end = c.in-Some.end }) r.rodata r.data r.bss refl placed.0 c.in-Some-regions_behind.ensures.behind
          (subst (λ n. memory_limit < n) c.memory_of.ensures c.if-memory_of-gt-MEMORY_LIMIT.true)),
      has_room_anywhere c.args.plan.now.objects.items c.args.bounds.text c.requires.roomy,
    )

pub returns-clause-placement : goal.returns-clause-placement
returns-clause-placement c =
    let placed = of_if_some _ c.in_ok-found.found c.in-Some.end c.in-Some.is c.in_ok-found.ensures.placed in
    let r = c.in-Some-regions_behind.behind in
    let os = map short_object_of c.as_slice-objects.result.now in
    let v = c.put_files.new.files in
    let long : length c.regions_behind.new.files ≡ v.len = omega (arith, c.regions_behind.auto.files, ap length c.as_mut_slice.ensures.value, v.ok.0) in
    let lists : lists_of (with_items v c.regions_behind.new.files).items ≡ behind_files (lists_of v.items) r.rodata r.data r.bss os =
    ap lists_of (with_items_is v c.regions_behind.new.files long) ∙ c.in-Some-regions_behind.ensures.moved ∙ ap (λ l. behind_files (lists_of l) r.rodata r.data r.bss os) c.as_mut_slice.ensures.value in
    let gaps : c.put_files.new.gaps.items ≡ gapped_files c.args.bounds.text os = placed.4 ∙ ap (λ l. l ++ gapped_files c.args.bounds.text os) c.new-gaps.ensures.items in
    of_same c.args.bounds _ _ _ c.as_slice-objects.ensures.value
    (is_placement os c.args.bounds c.requires.free _ (lists_of v.items) refl placed.0 c.in-Some-regions_behind.ensures.behind c.in-Some-regions_behind.ensures.low placed.2 placed.3 lists gaps
    (subst (λ n. n ≤ memory_limit) c.memory_of.ensures c.if-memory_of-gt-MEMORY_LIMIT.false))

pub returns-clause-room : goal.returns-clause-room
returns-clause-room c = placed_roomy c.args.plan.now.objects.items c.args.bounds.text c.requires.roomy c.args.bounds.ceiling _ (returns-clause-placement c)
