use Rattle.std.proofs.Common.{◌≡◌, ◌+◌, ◌<◌, ◌≤◌, ◌^◌, ℕ, ◌∷◌, [], true, false, Some, length, drop, get_or, reverse, sym, ap, subst, ◌∙◌, arith, length-append}
use Rattle.std.specs.Prelude.{slice_get, slice_index, slice_index_or, ◌&&◌}
use Rattle.std.proofs.lemmas.List.{reverse-reverse, length-set, at_drop_all}
use Rattle.rv_list_laws.proofs.TakeDropLemmas.{reverse_some_left, drop_zero}
use Rattle.rv_statement.specs.Statements.{statements_of}
use Rattle.rv_statement.specs.View.{statement_of}
use Rattle.rv_statement_laws.specs.Statement.{Statement}
use Rattle.rv_unit.specs.declared.section_offset.SectionOffset.{SectionOffset}
use Rattle.rv_unit.specs.Unit.{said, passed, IsFilled}
use Rattle.rv_unit.specs.Sections.{offset_of, zeros_offset}
use Rattle.rv_unit_laws.specs.Tables.{stood, tables, value_by_tables as value_of}
use Rattle.rv_source_laws.specs.Located.{is_placed}
use Rattle.rv_unit.proofs.StandingLemmas.{places_count}
use Rattle.rv_draft.specs.Items.{IsItem, grown}
use Rattle.rv_draft.specs.Sized.{IsSized, bytes_of_sizes, size_bytes}
use Rattle.rv_draft.specs.Contents.{IsExtentAt}
use Rattle.rv_draft.specs.Measured.{HasRoom}
use Rattle.rv_draft.proofs.StandingLemmas.{StandsAt, stands_at, located_at}
use Rattle.rv_draft.proofs.TakenLemmas.{rest_is, next_is, mapped_next}
use Rattle.rv_draft.proofs.ItemizedLemmas.{item_at, room_at, sized_at, grown_by, low_by}
use Rattle.rv_draft.proofs.ExtentsLemmas.{stands_inside, place_inside}
use Rattle.rv_draft.proofs.RoomyLemmas.{err_always}
use Rattle.rv_draft.proofs.RoomsLemmas.{rooms_begin, rooms_more, roomy_now}
use Rattle.rv_draft.proofs.SoFarItemsLemmas.{AreItemsSoFar, items_begin, items_more, items_all}
use Rattle.rv_draft.proofs.SoFarSizedLemmas.{AreSizedSoFar, IsSizedAt, sized_begin, sized_more, sized_all}
use Rattle.rv_draft.proofs.items.items.Goals.{In-loop-index, After-read-statement, After-loop-index}
use Rattle.rv_draft.proofs.items.items.Goals as goal

-- The statement's index is below their number, and its place is in a section.
module _ (c : In-loop-index) where
  abbrev place : SectionOffset
  place = slice_index_or c.places-places.result.now c.loop-index.index zeros_offset

  inside : c.loop-index.index < length (said c.args.unit.now)
  inside = subst (λ n. c.loop-index.index < n) (c.len-index-end.ensures ∙ ap (λ l. length (statements_of l)) c.statements-statements.ensures) c.loop-index-test.true

  known : c.loop-index.index < length c.args.sizes.items
  known = subst (λ n. c.loop-index.index < n) (sym c.requires.sizes) inside

  stands : place.section < length c.args.unit.now.tables.extents.items
  stands = place_inside c.args.unit.now c.loop-index.index zeros_offset place c.args.unit.now.filled inside (ap (λ l. get_or l c.loop-index.index zeros_offset) c.places-places.ensures)

-- The statement that is read, where it stands, its section and its size.
module _ (c : After-read-statement) where
  abbrev statement : Statement
  statement = statement_of c.read-statement.result.now

  abbrev home : SectionOffset
  home = slice_index_or c.places-places.result.now c.loop-index.index zeros_offset

  standing : StandsAt c.args.unit.now c.loop-index.index statement home
  standing =
      let is : slice_get (said c.args.unit.now) c.loop-index.index ≡ Some statement = subst (λ l. slice_get (statements_of l) c.loop-index.index ≡ Some statement) c.statements-statements.ensures c.read-statement.ensures in
      stands_at c.args.unit.now c.loop-index.index statement zeros_offset home c.args.unit.now.filled is (ap (λ l. get_or l c.loop-index.index zeros_offset) c.places-places.ensures)

  extent : IsExtentAt c.args.unit.now.tables.extents.items home.section c.extent_at-extent.result
  extent = subst (λ l. IsExtentAt l home.section c.extent_at-extent.result) c.sections-extents.ensures c.extent_at-extent.ensures

  offset_is : c.end-offset.result ≡ slice_index c.loop-index.ends.items home.section
  offset_is = c.end-offset.ensures ∙ ap (λ l. slice_index l home.section) c.as_slice.ensures.value

  filled_now : IsFilled c.loop-index.scope.unit.now
  filled_now = subst IsFilled (sym c.loop-index.invariant.unit) c.args.unit.now.filled

  place_now : offset_of home ≡ stood (passed (said c.loop-index.scope.unit.now) c.loop-index.index) (c.loop-index.index + 1) statement.kind
  place_now = subst (λ w. offset_of home ≡ stood (passed (said w) c.loop-index.index) (c.loop-index.index + 1) statement.kind) (sym c.loop-index.invariant.unit) standing.place

  sizes_from : c.loop-index.index < length c.args.sizes.items
      → drop c.loop-index.index (bytes_of_sizes c.args.sizes.items) ≡ size_bytes c.take_size-code.result ∷ drop (c.loop-index.index + 1) (bytes_of_sizes c.args.sizes.items)
  sizes_from low = mapped_next c.args.sizes.items c.loop-index.sizes.items c.take_size-code.new.sizes.items c.loop-index.index c.take_size-code.result low c.loop-index.invariant.left c.take_size-code.ensures size_bytes

-- No statement is left behind the loop.
module _ (c : After-loop-index) where
  none_left : drop c.loop-index.index (said c.args.unit.now) ≡ []
  none_left =
      let past : length (said c.args.unit.now) ≤ c.loop-index.index = subst (λ n. n ≤ c.loop-index.index) (c.len-index-end.ensures ∙ ap (λ l. length (statements_of l)) c.statements-statements.ensures) c.loop-index-test.false in
      at_drop_all (λ l. l) (said c.args.unit.now) c.loop-index.index past

pub loop-index-init : goal.loop-index-init
loop-index-init c =
    let ss = said c.args.unit.now in
    let none = c.in_ok-ends.ensures.none in
    record {
      unit = c.new-scope.ensures.unit;
      scope = c.new-scope.ensures.start;
      items =
          subst (λ l. AreItemsSoFar ss 0 (λ j. slice_index c.in_ok-ends.ends.items j) l) (sym c.in_ok-items.ensures.items)
          (items_begin ss (λ j. slice_index c.in_ok-ends.ends.items j) none);
      sized = subst (λ l. AreSizedSoFar (tables ss) ss c.args.sizes.items 0 l) (sym c.in_ok-items.ensures.items) (sized_begin (tables ss) ss c.args.sizes.items);
      left = ap reverse c.reverse.ensures.items ∙ reverse-reverse c.args.sizes.items ∙ sym (drop_zero c.args.sizes.items);
      sections = c.in_ok-ends.ensures.count ∙ ap length c.sections-extents.ensures;
      count = ap length c.in_ok-items.ensures.items;
      room = λ good sizes. rooms_begin ss c.args.sizes.items (λ j. slice_index c.in_ok-ends.ends.items j) sizes none;
      low = λ j. subst (λ n. n ≤ 2 ^ 28) (sym (none j)) (omega arith);
    }

pub bounds-places-index : goal.bounds-places-index
bounds-places-index c =
    let within = subst (λ n. c.loop-index.index < n) (sym (places_count c.args.unit.now c.args.unit.now.filled)) (inside (goal.at.bounds-places-index c).In-loop-index) in
    subst (λ l. c.loop-index.index < length l) (sym c.places-places.ensures) within

pub extent_at-extent-requires : goal.extent_at-extent-requires
extent_at-extent-requires c =
    let h = (goal.at.extent_at-extent-requires c).In-loop-index in
    subst (λ l. (place h).section < length l) (sym c.sections-extents.ensures) (stands h)

pub end-offset-requires : goal.end-offset-requires
end-offset-requires c =
    let h = (goal.at.end-offset-requires c).In-loop-index in
    subst (λ l. (place h).section < length l) (sym c.as_slice.ensures.value) (subst (λ n. (place h).section < n) (sym c.loop-index.invariant.sections) (stands h))

pub take_size-code-requires : goal.take_size-code-requires
take_size-code-requires c =
    reverse_some_left c.args.sizes.items c.loop-index.sizes.items c.loop-index.index (known (goal.at.take_size-code-requires c).In-loop-index) c.loop-index.invariant.left

pub read-statement-requires : goal.read-statement-requires
read-statement-requires c = subst (λ n. c.loop-index.index < n) c.len-index-end.ensures c.loop-index-test.true

pub next_item-requires : goal.next_item-requires
next_item-requires c =
    let h = (goal.at.next_item-requires c).After-read-statement in
    subst (λ n. n ≤ 2 ^ 28) (sym (offset_is h)) (c.loop-index.invariant.low (home h).section)

pub grow-requires-clause-section : goal.grow-requires-clause-section
grow-requires-clause-section c =
    let h = (goal.at.grow-requires-clause-section c).In-loop-index in
    let count = length c.loop-index.ends.items in
    subst (λ n. n < count) (sym c.in_ok-item.ensures.section) (subst (λ n. (place h).section < n) (sym c.loop-index.invariant.sections) (stands h))

pub grow-requires-clause-fits : goal.grow-requires-clause-fits
grow-requires-clause-fits c = c.in_ok-item.ensures.fits

pub returns-in_err-item-clause-refuses : goal.returns-in_err-item-clause-refuses
returns-in_err-item-clause-refuses c =
    let b = (goal.at.returns-in_err-item-clause-refuses c).In-loop-index in
    let h = (goal.at.returns-in_err-item-clause-refuses c).After-read-statement in
    let u = c.args.unit.now in
    let ss = said u in
    let i = c.loop-index.index in
    let inv = c.loop-index.invariant in
    let before = λ (j : ℕ). slice_index c.loop-index.ends.items j in
    let x = statement h in
    let p = home h in
    let own = c.take_size-code.result in
    let e = c.extent_at-extent.result in
    err_always c.from_residual-in_err-item.result (λ y good sizes.
    absurd (c.in_err-item.ensures.refuses i (filled_now h) inv.scope (place_now h)
    (subst
    (λ w. is_placed (passed (said w) i) (i + 1) x.kind ≡ true → HasRoom (λ t. value_of (tables (said w)) true (i + 1) (offset_of p) t) e.section.executable e.alignment c.end-offset.result own x.kind)
    (sym inv.unit)
    (λ placed.
    subst (λ n. HasRoom (λ t. value_of (tables ss) true (i + 1) (offset_of p) t) e.section.executable e.alignment n own x.kind) (sym (offset_is h))
    (room_at u i x p e own before _ u.filled (standing h) (extent h) (roomy_now ss i x (standing h).here good c.args.sizes.items own (sizes_from h (known b)) before inv.low (inv.room good sizes) placed))))))

pub loop-index-preserved : goal.loop-index-preserved
loop-index-preserved c =
    let b = (goal.at.loop-index-preserved c).In-loop-index in
    let h = (goal.at.loop-index-preserved c).After-read-statement in
    let u = c.args.unit.now in
    let ss = said u in
    let i = c.loop-index.index in
    let inv = c.loop-index.invariant in
    let ends = c.loop-index.ends.items in
    let before = λ (j : ℕ). slice_index ends j in
    let behind = λ (j : ℕ). slice_index c.grow.new.ends.items j in
    let x = statement h in
    let p = home h in
    let at = standing h in
    let sizes = c.args.sizes.items in
    let own = c.take_size-code.result in
    let taken = c.take_size-code.new.sizes.items in
    let same = inv.unit in
    let within = subst (λ w. i < length (said w)) (sym same) (inside b) in
    let e = c.extent_at-extent.result in
    let y = c.in_ok-item.item in
    let told = c.in_ok-item.ensures in
    let section : y.section ≡ p.section = told.section in
    let offset : y.offset ≡ slice_index ends p.section = told.offset ∙ offset_is h in
    let room : y.section < length ends = subst (λ n. n < length ends) (sym section) (subst (λ n. p.section < n) (sym inv.sections) (stands_inside u i x p at)) in
    let shown : y.shown ≡ (is_placed (passed ss i) (i + 1) x.kind && e.section.loaded) =
    subst (λ w. y.shown ≡ (is_placed (passed (said w) i) (i + 1) x.kind && e.section.loaded)) same (told.shown i (filled_now h) inv.scope (place_now h)) in
    let absent : is_placed (passed ss i) (i + 1) x.kind ≡ false → y.bytes ≡ 0 =
    subst (λ w. is_placed (passed (said w) i) (i + 1) x.kind ≡ false → y.bytes ≡ 0) same (told.absent i (filled_now h) inv.scope (place_now h)) in
    let one : IsItem (located_at ss i x) before y = item_at u i x p e before y at (extent h) section offset told.line shown absent in
    let sized : IsSizedAt (tables ss) ss i x own y =
    sized_at u i x p e own y u.filled at (extent h) section
    (subst (λ w. is_placed (passed (said w) i) (i + 1) x.kind ≡ true → IsSized (λ t. value_of (tables (said w)) true (i + 1) (offset_of p) t) e.section.executable y e.alignment own x.kind) same (told.sized i (filled_now h) inv.scope (place_now h))) in
    let at_end : y.offset ≡ slice_index ends y.section = offset ∙ ap (λ n. slice_index ends n) (sym section) in
    let grows : (j : ℕ) → behind j ≡ grown before y j = λ j. ap (λ l. slice_index l j) c.grow.ensures ∙ grown_by ends y j room at_end in
    record {
      unit = ap (λ b. b.now) c.pass.ensures.unit ∙ same;
      scope = c.pass.ensures.passes i within inv.scope;
      items =
          subst (λ l. AreItemsSoFar ss (i + 1) behind l) (sym c.in_ok-push.ensures.items)
          (items_more ss i x before behind c.loop-index.items.items y at.here one grows inv.items);
      sized =
          subst (λ l. AreSizedSoFar (tables ss) ss c.args.sizes.items (i + 1) l) (sym c.in_ok-push.ensures.items)
          (sized_more (tables ss) ss c.args.sizes.items i x own c.loop-index.items.items y at.here (next_is sizes c.loop-index.sizes.items taken i own (known b) inv.left c.take_size-code.ensures) sized inv.sized);
      left = rest_is sizes c.loop-index.sizes.items taken i own (known b) inv.left c.take_size-code.ensures;
      sections = ap length c.grow.ensures ∙ length-set ends y.section (y.offset + y.bytes) ∙ inv.sections;
      count = ap length c.in_ok-push.ensures.items ∙ length-append c.loop-index.items.items (y ∷ []) ∙ ap (λ n. n + 1) inv.count;
      room = λ good sizes. rooms_more ss i x at.here good c.args.sizes.items own (sizes_from h (known b)) before inv.low (inv.room good sizes) y one sized behind grows;
      low = λ j. subst (λ l. slice_index l j ≤ 2 ^ 28) (sym c.grow.ensures) (low_by ends y.section (y.offset + y.bytes) j room told.fits inv.low);
    }

pub returns-clause-items : goal.returns-clause-items
returns-clause-items c =
    let none = none_left (goal.at.returns-clause-items c).After-loop-index in
    items_all (said c.args.unit.now) c.loop-index.index (λ j. slice_index c.loop-index.ends.items j) c.loop-index.items.items none c.loop-index.invariant.items

pub returns-clause-sized : goal.returns-clause-sized
returns-clause-sized c =
    let u = c.args.unit.now in
    let none = none_left (goal.at.returns-clause-sized c).After-loop-index in
    sized_all (tables (said u)) (said u) c.args.sizes.items c.loop-index.index c.loop-index.items.items none c.loop-index.invariant.sized

pub returns-clause-low : goal.returns-clause-low
returns-clause-low c = c.loop-index.invariant.low
