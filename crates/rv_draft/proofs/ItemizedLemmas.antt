-- The item of a unit's statement at an index, and the bytes of each section after it.

use Rattle.std.proofs.Common.{◌≡◌, ℕ, ◌+◌, ◌<◌, ◌≤◌, ◌^◌, ◌≢◌, ◌==◌, ◌&&◌, Bool, true, false, List, length, set, get_or, inl, inr, refl, sym, ap, ◌∙◌, subst}
use Rattle.std.specs.Prelude.{if◌then◌else◌, slice_index, slice_index_or}
use Rattle.std.proofs.lemmas.List.{get_or-set_same, get_or-set_other}
use Rattle.std.proofs.lemmas.Bool.{eqb-true, eqb-false, cases_eq}
use Rattle.rv_statement_laws.specs.Statement.{Statement}
use Rattle.rv_unit_laws.specs.Sections.{Section}
use Rattle.rv_unit_laws.specs.Tables.{Tables, SectionOffset as Standing, tables, value_by_tables, stood, alignments_of}
use Rattle.rv_unit.specs.declared.section_offset.SectionOffset.{SectionOffset}
use Rattle.rv_unit.specs.declared.section.Extent.{Extent}
use Rattle.rv_unit.specs.declared.unit.Unit.{Unit as SourceUnit}
use Rattle.rv_unit.specs.Sections.{offset_of, extent_section}
use Rattle.rv_unit.proofs.LookupsLemmas.{alignments_are}
use Rattle.rv_unit.specs.Unit.{said, passed, IsFilled}
use Rattle.rv_source_laws.specs.Located.{is_placed}
use Rattle.rv_assemble_laws.specs.LaidStatements.{expression_value}
use Rattle.rv_draft.specs.declared.item.CodeSize.{CodeSize}
use Rattle.rv_unit.specs.declared.item.Item.{Item}
use Rattle.rv_draft.specs.Items.{IsItem, grown}
use Rattle.rv_draft.specs.Sized.{IsSized}
use Rattle.rv_draft.specs.Contents.{IsExtentAt}
use Rattle.rv_draft.proofs.ExtentsLemmas.{home_at}
use Rattle.rv_draft.specs.Measured.{HasRoom}
use Rattle.rv_draft.proofs.RoomyLemmas.{IsRoomy}
use Rattle.rv_draft.proofs.StandingLemmas.{StandsAt, located_at}
use Rattle.rv_draft.proofs.SoFarSizedLemmas.{IsSizedAt}

-- ---- the bytes of each section

grown_at : (b : Bool) (ends : List ℕ) (k n bytes j : ℕ) → k < length ends → n ≡ slice_index ends k + bytes → (b ≡ true → j ≡ k) → (b ≡ false → j ≢ k)
    → slice_index (set ends k n) j ≡ (if b then slice_index ends j + bytes else slice_index ends j)
grown_at true ends k n bytes j inside grows here other =
    ap (λ i. get_or (set ends k n) i 0) (here refl) ∙ get_or-set_same ends k n 0 inside ∙ grows ∙ ap (λ i. slice_index ends i + bytes) (sym (here refl))
grown_at false ends k n bytes j inside grows here other = get_or-set_other ends k j n 0 (other refl)

-- the bytes of each section after an item that stands at the end of its own
pub grown_by : (ends : List ℕ) (x : Item) (j : ℕ) → x.section < length ends → x.offset ≡ slice_index ends x.section
    → slice_index (set ends x.section (x.offset + x.bytes)) j ≡ grown (λ k. slice_index ends k) x j
grown_by ends x j inside at =
    grown_at (j == x.section) ends x.section (x.offset + x.bytes) x.bytes j inside (ap (λ n. n + x.bytes) at) (eqb-true j x.section) (eqb-false j x.section)

pub low_by : (ends : List ℕ) (k n j : ℕ) → k < length ends → n ≤ 2 ^ 28 → ((i : ℕ) → slice_index ends i ≤ 2 ^ 28) → slice_index (set ends k n) j ≤ 2 ^ 28
low_by ends k n j inside low all =
    elim (cases_eq j k) [
      | inl here ↦ subst (λ m. m ≤ 2 ^ 28) (sym (ap (λ i. get_or (set ends k n) i 0) here ∙ get_or-set_same ends k n 0 inside)) low
      | inr other ↦ subst (λ m. m ≤ 2 ^ 28) (sym (get_or-set_other ends k j n 0 other)) (all j)
    ]

-- ---- the item of a statement

pub item_at : (u : SourceUnit) (i : ℕ) (s : Statement) (p : SectionOffset) (e : Extent) (before : ℕ → ℕ) (x : Item) → StandsAt u i s p → IsExtentAt u.tables.extents.items p.section e
    → x.section ≡ p.section → x.offset ≡ before p.section → x.line ≡ s.line
    → x.shown ≡ (is_placed (passed (said u) i) (i + 1) s.kind && e.section.loaded) → (is_placed (passed (said u) i) (i + 1) s.kind ≡ false → x.bytes ≡ 0)
    → IsItem (located_at (said u) i s) before x
item_at u i s p e before x at there section offset line shown absent =
    let seat = ap (λ (q : Standing). q.section) at.place in
    let home = home_at u i s p e at there in
    record {
      section = section ∙ seat;
      offset = offset ∙ ap before seat;
      line = line;
      shown = shown ∙ ap (λ (h : Section). is_placed (passed (said u) i) (i + 1) s.kind && h.loaded) home;
      absent = absent;
    }

pub sized_at : (u : SourceUnit) (i : ℕ) (s : Statement) (p : SectionOffset) (e : Extent) (size : CodeSize) (x : Item) → IsFilled u → StandsAt u i s p → IsExtentAt u.tables.extents.items p.section e → x.section ≡ p.section
    → (is_placed (passed (said u) i) (i + 1) s.kind ≡ true → IsSized (λ t. value_by_tables (tables (said u)) true (i + 1) (offset_of p) t) e.section.executable x e.alignment size s.kind)
    → IsSizedAt (tables (said u)) (said u) i s size x
sized_at u i s p e size x filled at there section h shown =
    let all = tables (said u) in
    let begins : e.alignment ≡ slice_index_or (alignments_of all) x.section 1 =
    sym there.alignment ∙ ap (λ l. slice_index_or l p.section 1) (alignments_are u.tables.extents.items ∙ ap (λ (t : Tables). alignments_of t) filled.tables) ∙ ap (λ n. slice_index_or (alignments_of all) n 1) (sym section) in
    let home = home_at u i s p e at there in
    subst (λ (h : Section). IsSized (λ t. value_by_tables all true (i + 1) (stood (passed (said u) i) (i + 1) s.kind) t) h.executable x (slice_index_or (alignments_of all) x.section 1) size s.kind) home
    (subst (λ n. IsSized (λ t. value_by_tables all true (i + 1) (stood (passed (said u) i) (i + 1) s.kind) t) e.section.executable x n size s.kind) begins
    (subst (λ (q : Standing). IsSized (λ t. value_by_tables all true (i + 1) q t) e.section.executable x e.alignment size s.kind) at.place (h shown)))

-- a statement that has a size, and for which its section has room
pub room_at : (u : SourceUnit) (i : ℕ) (s : Statement) (p : SectionOffset) (e : Extent) (size : CodeSize) (ends : ℕ → ℕ) (stop : ℕ) → IsFilled u → StandsAt u i s p → IsExtentAt u.tables.extents.items p.section e
    → (let st = located_at (said u) i s in
    IsRoomy (λ t. expression_value (tables (said u)) st t) st.home.executable (slice_index_or (alignments_of (tables (said u))) st.section 1) (ends st.section) stop size s.kind)
    → HasRoom (λ t. value_by_tables (tables (said u)) true (i + 1) (offset_of p) t) e.section.executable e.alignment (ends p.section) size s.kind
room_at u i s p e size ends stop filled at there roomy =
    let all = tables (said u) in
    let st = located_at (said u) i s in
    let RoomAt : Standing → Section → ℕ → Type 0 = λ q home begins. HasRoom (λ t. value_by_tables all true (i + 1) q t) home.executable begins (ends q.section) size s.kind in
    let begins : slice_index_or (alignments_of all) p.section 1 ≡ e.alignment =
    ap (λ l. slice_index_or l p.section 1) (sym (alignments_are u.tables.extents.items ∙ ap (λ (t : Tables). alignments_of t) filled.tables)) ∙ there.alignment in
    let room : RoomAt (stood (passed (said u) i) (i + 1) s.kind) st.home (slice_index_or (alignments_of all) st.section 1) = record { size = roomy.size; room = roomy.room } in
    subst (RoomAt (offset_of p) (extent_section e)) begins
    (subst (λ h. RoomAt (offset_of p) h (slice_index_or (alignments_of all) p.section 1)) (sym (home_at u i s p e at there))
    (subst (λ q. RoomAt q st.home (slice_index_or (alignments_of all) q.section 1)) (sym at.place) room))
