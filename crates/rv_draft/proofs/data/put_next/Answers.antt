use Rattle.std.proofs.Common.{◌≡◌, ◌+◌, ◌<◌, ◌∷◌, length, map, drop, get_or, refl, sym, ap, subst, ◌∙◌, Some, arith}
use Rattle.std.specs.Prelude.{slice_index_or, slice_get}
use Rattle.std.proofs.lemmas.List.{drop_more, length-map}
use Rattle.std.proofs.lemmas.Result.{on_ok_weaker}
use Rattle.std.proofs.lemmas.Option.{slice_get_within}
use Rattle.rv_list_laws.proofs.MapLemmas.{get_map_is}
use Rattle.rv_statement.specs.View.{statement_of}
use Rattle.rv_statement_laws.specs.Statement.{Statement}
use Rattle.rv_unit.specs.Items.{zeros_item}
use Rattle.rv_unit.specs.declared.section.Extent.{Extent}
use Rattle.rv_unit.specs.declared.section_offset.SectionOffset.{SectionOffset}
use Rattle.rv_unit.specs.Unit.{said, passed, IsFilled}
use Rattle.rv_unit.specs.Sections.{extent_section, offset_of, zeros_offset}
use Rattle.rv_unit_laws.specs.Options.{Options}
use Rattle.rv_unit_laws.specs.Sections.{Section}
use Rattle.rv_unit_laws.specs.Tables.{at_start, tables, stood}
use Rattle.rv_source_laws.specs.Located.{Located, located_from}
use Rattle.rv_unit.specs.declared.item.Item.{Item}
use Rattle.rv_unit.proofs.StandingLemmas.{places_count}
use Rattle.rv_draft.specs.Coded.{IsCodedAt}
use Rattle.rv_draft.specs.DataParts.{is_filled}
use Rattle.rv_draft.specs.Draft.{field_of}
use Rattle.rv_draft.proofs.StandingLemmas.{StandsAt, stands_at, located_at}
use Rattle.rv_draft.proofs.DataSoFarLemmas.{puts_at, code_at, code_of, coded_here, bytes_here, data_more, code_more, room_for, item_low}
use Rattle.rv_draft.proofs.MadeLemmas.{made_left, made_spot}
use Rattle.rv_draft.proofs.data.put_next.Goals.{After-sections}
use Rattle.rv_draft.proofs.data.put_next.Goals as goal

-- The statement where it stands, its section and its item.
module _ (c : After-sections) where
  abbrev statement : Statement
  statement = statement_of c.args.statement.now

  abbrev place : SectionOffset
  place = slice_index_or c.places.result.now c.args.index zeros_offset

  abbrev none : Item
  none = zeros_item

  abbrev item : Item
  item = slice_index_or c.args.items.now c.args.index none

  abbrev located : Located
  located = located_at (said c.args.unit.now) c.args.index statement

  standing : StandsAt c.args.unit.now c.args.index statement place
  standing = stands_at c.args.unit.now c.args.index statement zeros_offset place c.args.unit.now.filled c.requires.said (ap (λ l. get_or l c.args.index zeros_offset) c.places.ensures)

  section_low : place.section < length (map extent_section c.args.unit.now.tables.extents.items)
  section_low = slice_get_within (map extent_section c.args.unit.now.tables.extents.items) place.section located.home standing.home

  home_is : (d : Extent) → extent_section (get_or c.sections.result.now place.section d) ≡ located.home
  home_is d =
      let here : slice_get (map extent_section c.sections.result.now) place.section ≡ Some located.home = ap (λ l. slice_get (map extent_section l) place.section) c.sections.ensures ∙ standing.home in
      get_map_is extent_section c.sections.result.now place.section d located.home here

  item_next : drop c.args.index c.args.items.now ≡ item ∷ drop (c.args.index + 1) c.args.items.now
  item_next = drop_more c.args.items.now c.args.index none c.requires.item

pub bounds-places-index : goal.bounds-places-index
bounds-places-index c =
    let u = c.args.unit.now in
    let i = c.args.index in
    let inside = subst (λ n. i < n) (sym (places_count u c.args.unit.now.filled)) c.requires.within in
    subst (λ l. i < length l) (sym c.places.ensures) inside

pub bounds-sections-place : goal.bounds-sections-place
bounds-sections-place c =
    let h = (goal.at.bounds-sections-place c).After-sections in
    subst (λ n. (place h).section < n) (length-map c.args.unit.now.tables.extents.items extent_section ∙ sym (ap length c.sections.ensures)) (section_low h)

pub put_statement-requires : goal.put_statement-requires
put_statement-requires c =
    let h = (goal.at.put_statement-requires c).After-sections in
    record {
      room = room_for (said c.args.unit.now) c.args.items.now c.args.index (statement h) (item h) c.requires.laid (standing h).here (item_next h);
      section = subst (λ n. (place h).section < n) (length-map c.args.unit.now.tables.extents.items extent_section ∙ sym c.requires.each) (section_low h);
    }

pub ordinal-requires : goal.ordinal-requires
ordinal-requires c = let within = c.requires.within in let few = c.requires.few in omega (arith, within, few)

pub put_code-requires : goal.put_code-requires
put_code-requires c =
    let h = (goal.at.put_code-requires c).After-sections in
    let u = c.args.unit.now in
    let ss = said u in
    let i = c.args.index in
    let options = c.options_at-options.ensures c.requires.within in
    let all = located_from 1 1 (at_start ss) ss in
    record {
      fits = item_low ss c.args.items.now i (statement h) (item h) c.requires.laid (standing h).here (item_next h);
      made = made_spot _ u i (statement h) c.rvc.result (item h).bytes c.requires.same u.filled c.requires.next (standing h) (c.rvc.ensures ∙ ap (λ (o : Options). o.rvc) options)
          (made_left (tables ss) all c.args.items.now i (located h) (drop (i + 1) all) (item h) (drop (i + 1) c.args.items.now) c.requires.made (standing h).next (item_next h));
    }

pub returns-then-extent-clause-data : goal.returns-then-extent-clause-data
returns-then-extent-clause-data c =
    let h = (goal.at.returns-then-extent-clause-data c).After-sections in
    let ss = said c.args.unit.now in
    let i = c.args.index in
    let x = statement h in
    let p = place h in
    let at = standing h in
    let st = located h in
    let home = home_is h _ in
    let options = c.options_at-options.ensures c.requires.within in
    on_ok_weaker c.put_code.result
    (λ told start codes have so_far.
    let same = c.requires.same in
    let coded = code_of i codes in
    let filled = subst IsFilled (sym same) c.args.unit.now.filled in
    let own = told i filled c.requires.next st coded
    (record {
      ordinal = c.ordinal.ensures;
      own = refl;
      kind = refl;
      place = sym at.place;
      compressed = sym (c.rvc.ensures ∙ ap (λ (o : Options). o.rvc) options);
      relax = sym (c.relax.ensures ∙ ap (λ (o : Options). o.relax) options);
    })
    (bytes_here ss c.args.items.now codes i x (item h) have at.here (item_next h))
    (subst (λ w. IsCodedAt (tables (said w)) st coded) (sym same) (coded_here ss c.args.items.now codes i x have at.here)) in
    code_more ss c.args.items.now codes start i x (item h) c.args.sections.now c.args.sections.now c.args.fields.now.items c.put_code.new.fields.items at.here (item_next h)
    (sym (ap (λ (h : Section). h.executable) home) ∙ c.if-extent.true) refl
    (code_at (tables (said c.args.scope.now.unit.now)) (tables ss) (offset_of p) (stood (passed ss i) (i + 1) x.kind) _ st.home st (item h) coded (map field_of c.args.fields.now.items) (map field_of c.put_code.new.fields.items)
    (ap (λ w. tables (said w)) same) at.place home own)
    so_far)
    c.put_code.ensures

pub returns-clause-data : goal.returns-clause-data
returns-clause-data c =
    let h = (goal.at.returns-clause-data c).After-sections in
    let ss = said c.args.unit.now in
    let i = c.args.index in
    let x = statement h in
    let p = place h in
    let at = standing h in
    let st = located h in
    let home = home_is h _ in
    let told = c.in_ok-put_statement.ensures in
    let same = c.requires.same in
    let scope = c.requires.next in
    λ start codes have so_far.
    let filled = subst IsFilled (sym same) c.args.unit.now.filled in
    data_more ss c.args.items.now codes start i x (item h) c.args.sections.now c.put_statement.new.sections c.args.fields.now.items c.put_statement.new.fields.items
    at.here (item_next h)
    (sym (ap (λ (h : Section). h.executable) home) ∙ c.if-extent.false)
    (λ f.
    puts_at (tables (said c.args.scope.now.unit.now)) (tables ss) (i + 1) c.ordinal.result (offset_of p) (stood (passed ss i) (i + 1) x.kind) _ st.home x.kind (item h)
    c.args.sections.now c.put_statement.new.sections c.args.fields.now.items c.put_statement.new.fields.items
    (ap (λ w. tables (said w)) same) c.ordinal.ensures at.place home
    (record { grows = told.bytes (ap is_filled home ∙ f) i filled scope; fields = told.fields (ap is_filled home ∙ f) i filled scope }))
    (λ f. told.left (ap is_filled home ∙ f))
    so_far
