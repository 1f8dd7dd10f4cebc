-- Along a source without faults each section has room for the statements that are left.

use Rattle.std.proofs.Common.{◌≡◌, ℕ, suc, ◌+◌, ◌<◌, ◌≤◌, Bool, true, false, ◌==◌, nat_lt, List, [], ◌∷◌, length, take, drop, refl, sym, ap, ◌∙◌, subst, append-nil, arith, Option, Some, None}
use Rattle.std.proofs.lemmas.Bool.{eqb-true, ltb-false}
use Rattle.std.specs.Prelude.{slice_index_or, if◌then◌else◌}
use Rattle.rv_list_laws.proofs.EachLemmas.{each_dropped}
use Rattle.rv_list_laws.proofs.ElementsLemmas.{index_or_get}
use Rattle.rv_list_laws.proofs.TakeDropLemmas.{drop_zero, drop_inside}
use Rattle.rv_statement_laws.specs.Statement.{StatementKind, Label, Numbered, Instruction, Directs, Statement, Expression, Directive, Sets, Aligns, Emits}
use Rattle.rv_expression_laws.specs.Values.{Value}
use Rattle.rv_expression_laws.specs.Codes.{limit}
use Rattle.rv_unit_laws.specs.Sections.{Section, Opened, text_section, section_at, current_section}
use Rattle.rv_unit_laws.specs.Tables.{Tables, SectionOffset, at_start, here, value_by_tables, alignment_of, stood, after, after_all, tables, longest_section, opened_of, ends_of, alignments_of}
use Rattle.rv_unit_laws.specs.Faults.{first_unit_fault}
use Rattle.rv_unit_laws.proofs.GrownLemmas.{BeginsAt, puts, grows_after, grown_all, begins_multiple}
use Rattle.rv_unit_laws.proofs.OpenedLemmas.{after_opened, open_inside, stood_all, stood_start}
use Rattle.rv_unit.specs.Unit.{passed}
use Rattle.rv_unit.proofs.ConstantsLemmas.{constant_past, constant_whole}
use Rattle.rv_source_laws.specs.Located.{Located, located, located_from, is_placed, is_placed_directive}
use Rattle.rv_source_laws.proofs.HeldLemmas.{no_fault}
use Rattle.rv_source_laws.proofs.HomesLemmas.{IsHomeIn, homes_from}
use Rattle.rv_assemble_laws.specs.Refusals.{grown as grown_by, size_fault_from}
use Rattle.rv_assemble_laws.specs.LaidStatements.{expression_value}
use Rattle.rv_draft.specs.declared.item.CodeSize.{CodeSize}
use Rattle.rv_unit.specs.declared.item.Item.{Item}
use Rattle.rv_unit.proofs.PassedLemmas.{passed_rest}
use Rattle.rv_draft.specs.Items.{IsItem, grown}
use Rattle.rv_draft.specs.Sized.{IsItemPadded, IsSizedDirective, IsSized, bytes_of_sizes, size_bytes}
use Rattle.rv_draft.specs.Measured.{stretch, IsSize}
use Rattle.rv_draft.proofs.StandingLemmas.{located_at, stated_next}
use Rattle.rv_draft.proofs.SoFarItemsLemmas.{passed_next}
use Rattle.rv_draft.proofs.SoFarSizedLemmas.{IsSizedAt}
use Rattle.rv_draft.proofs.SoundLemmas.{sound_at}
use Rattle.rv_draft.proofs.RoomyLemmas.{IsRoomy, statement_here}

-- the bytes of each section before the statement at an index: those of code are no more than what the sizes of
-- code have counted, and these have room for what is left; those of others are no more than the tables'
pub record HasRoomLeft (ss : List Statement) (sizes : List CodeSize) (i : ℕ) (ends : ℕ → ℕ) : Type 0 where
  pub counted : ℕ → ℕ
  pub rest : size_fault_from counted (drop i (located_from 1 1 (at_start ss) ss)) (drop i (bytes_of_sizes sizes)) ≡ None
  pub code : (j : ℕ) → (section_at (opened_of (tables ss)) j).executable ≡ true → ends j ≤ counted j
  pub stored : (j : ℕ) → (section_at (opened_of (tables ss)) j).executable ≡ false → ends j ≤ slice_index_or (ends_of (passed ss i)) j 0

pub rooms_begin : (ss : List Statement) (sizes : List CodeSize) (ends : ℕ → ℕ) → size_fault_from (λ j. 0) (located (ss ∷ [])) (bytes_of_sizes sizes) ≡ None → ((j : ℕ) → ends j ≡ 0) → HasRoomLeft ss sizes 0 ends
rooms_begin ss sizes ends good zeros = record {
  counted = λ j. 0;
  rest =
      ap (λ l. size_fault_from (λ j. 0) l (drop 0 (bytes_of_sizes sizes))) (drop_zero (located_from 1 1 (at_start ss) ss) ∙ sym (append-nil (located_from 1 1 (at_start ss) ss)))
      ∙ ap (λ l. size_fault_from (λ j. 0) (located (ss ∷ [])) l) (drop_zero (bytes_of_sizes sizes)) ∙ good;
  code = λ j code. let e = zeros j in omega (arith, e);
  stored = λ j other. let e = zeros j in omega (arith, e);
}

-- ---- a statement that has a row enters no section

stood_directive : (t : Tables) (k : ℕ) (d : Directive) → is_placed_directive t k d ≡ true → (stood t k (Directs d) ≡ here t) × (opened_of (after t k (Directs d)) ≡ opened_of t)
stood_directive t k (Sets name e) placed = (refl, after_opened t k (Directs (Sets name e)))
stood_directive t k (Aligns form e) placed = (refl, after_opened t k (Directs (Aligns form e)))
stood_directive t k (Emits contents) placed = (refl, after_opened t k (Directs (Emits contents)))
stood_directive t k _ placed = absurd (cc)

stood_here : (t : Tables) (k : ℕ) (says : StatementKind) → is_placed t k says ≡ true → (stood t k says ≡ here t) × (opened_of (after t k says) ≡ opened_of t)
stood_here t k (Label name) placed = (refl, after_opened t k (Label name))
stood_here t k (Numbered number) placed = (refl, refl)
stood_here t k (Instruction mnemonic operands) placed = (refl, refl)
stood_here t k (Directs d) placed = stood_directive t k d placed

-- ---- sizes of items

padded_as : (b : Bool) (own : CodeSize) (x : Item) (begins : ℕ) (alignment : Option ℕ) → IsItemPadded b own x begins alignment → IsItemPadded b own (stretch x.offset x.bytes) begins alignment
padded_as true own x begins alignment h = h
padded_as false own x begins alignment h = h

directive_as : (v : Expression → Value) (b : Bool) (own : CodeSize) (x : Item) (begins : ℕ) (d : Directive) → IsSizedDirective v b own x begins d → IsSizedDirective v b own (stretch x.offset x.bytes) begins d
directive_as v b own x begins (Sets name e) h = h
directive_as v b own x begins (Emits contents) h = h
directive_as v b own x begins (Aligns form e) h = (h.0, padded_as b own x begins (alignment_of v (Aligns form e)) h.1)
directive_as v b own x begins _ h = tt

size_as : (v : Expression → Value) (b : Bool) (x : Item) (begins : ℕ) (own : CodeSize) (says : StatementKind) → IsSized v b x begins own says → IsSize v b begins x.offset own says x.bytes
size_as v b x begins own (Label name) h = h.0
size_as v b x begins own (Numbered number) h = h.0
size_as v b x begins own (Instruction mnemonic operands) h = h.0
size_as v b x begins own (Directs d) h = directive_as v b own x begins d h.1

-- ---- one statement

if_some : (b : Bool) (code : ℕ) → (if b then Some code else None) ≡ None → b ≡ false
if_some true code e = absurd (cc)
if_some false code e = refl

module _ (ss : List Statement) (i : ℕ) (s : Statement) (here_is : drop i ss ≡ s ∷ drop (i + 1) ss) (good : first_unit_fault ss ≡ None) where
  abbrev t : Tables
  t = passed ss i

  abbrev all : Tables
  all = tables ss

  abbrev k : ℕ
  k = i + 1

  abbrev st : Located
  st = located_at ss i s

  within : i ≤ length ss
  within = let l = drop_inside ss i s (drop (i + 1) ss) here_is in omega (arith, l)

  inside : t.current < length (opened_of t).sections
  inside = open_inside (opened_of t) (stood_all (at_start ss) 1 (take i ss) (stood_start ss)).opened

  next : drop i (located_from 1 1 (at_start ss) ss) ≡ st ∷ drop (i + 1) (located_from 1 1 (at_start ss) ss)
  next = stated_next ss i s (drop (i + 1) ss) here_is

  -- the section of the statement
  home_is : section_at (opened_of all) st.section ≡ st.home
  home_is =
      index_or_get (opened_of all).sections st.section text_section st.home
      (each_dropped (IsHomeIn (λ file. (opened_of all).sections)) (located_from 1 1 (at_start ss) ss) i st (drop (i + 1) (located_from 1 1 (at_start ss) ss)) next
      (homes_from (λ file. (opened_of all).sections) 1 1 (at_start ss) ss refl (text_section, refl)))

  multiples : (d : Directive) → s.kind ≡ Directs d → puts d ≡ true → BeginsAt (alignment_of (value_by_tables t false k (here t)) d) (slice_index_or (alignments_of all) t.current 1)
  multiples d is h =
      subst (λ (u : Tables). BeginsAt (alignment_of (value_by_tables t false k (here t)) d) (slice_index_or (alignments_of u) t.current 1))
      (sym (passed_rest ss i within ∙ ap (after_all t k) here_is ∙ ap (λ y. after_all (after t k y) (suc k) (drop (i + 1) ss)) is))
      (begins_multiple t k (suc k) d (drop (i + 1) ss) h (grown_all ss 1 (take i ss)) inside)

  -- the section where a statement that has a row stands is the current one
  home_here : is_placed t k s.kind ≡ true → st.home ≡ current_section (opened_of t)
  home_here placed =
      let (place, opened) = stood_here t k s.kind placed in
      ap (λ o. section_at o st.section) opened ∙ ap (λ (p : SectionOffset). section_at (opened_of t) p.section) place

  module _ (sizes : List CodeSize) (own : CodeSize) (size_is : drop i (bytes_of_sizes sizes) ≡ size_bytes own ∷ drop (i + 1) (bytes_of_sizes sizes)) where
    -- what a place with its section says
    abbrev RoomyIn : ℕ → SectionOffset → Opened → Type 0
    RoomyIn offset p o =
        IsRoomy (λ e. value_by_tables all true k p e) (section_at o p.section).executable (slice_index_or (alignments_of all) p.section 1) offset (slice_index_or (ends_of (after t k s.kind)) p.section 0) own s.kind

    pub roomy_at : (offset : ℕ) → offset ≤ longest_section → is_placed t k s.kind ≡ true → (st.home.executable ≡ true → offset + size_bytes own ≤ longest_section)
        → (st.home.executable ≡ false → offset ≤ slice_index_or (ends_of t) st.section 0)
        → IsRoomy (λ e. expression_value all st e) st.home.executable (slice_index_or (alignments_of all) st.section 1) offset (slice_index_or (ends_of (after t k s.kind)) st.section 0) own s.kind
    roomy_at offset low placed fits before =
        let (place, opened) = stood_here t k s.kind placed in
        let home = home_here placed in
        let before' : (current_section (opened_of t)).executable ≡ false → offset ≤ (here t).offset =
        λ e. subst (λ (p : SectionOffset). offset ≤ slice_index_or (ends_of t) p.section 0) place (before (ap (λ (h : Section). h.executable) home ∙ e)) in
        let fits' : (current_section (opened_of t)).executable ≡ true → offset + size_bytes own ≤ longest_section = λ e. fits (ap (λ (h : Section). h.executable) home ∙ e) in
        subst (λ p. RoomyIn offset p (opened_of (after t k s.kind))) (sym place)
        (subst (λ o. RoomyIn offset (here t) o) (sym opened)
        (statement_here all t k (slice_index_or (alignments_of all) t.current 1) offset own low inside (constant_whole ss k (here t)) (constant_past ss i (here t) within inside) before' s.kind placed
        multiples ((grows_after t k s.kind).ends t.current) fits' (sound_at ss i s (drop (i + 1) ss) here_is good)))

    module _ (ends : ℕ → ℕ) (low : (j : ℕ) → ends j ≤ longest_section) (left : HasRoomLeft ss sizes i ends) where
      -- whether the section of the statement is too long after it
      abbrev full : Option ℕ
      full = if nat_lt longest_section (left.counted st.section + size_bytes own) then Some limit else None

      parts : (full ≡ None) × (size_fault_from (grown_by left.counted st.section (size_bytes own)) (drop (i + 1) (located_from 1 1 (at_start ss) ss)) (drop (i + 1) (bytes_of_sizes sizes)) ≡ None)
      parts =
          no_fault st.line full
          (size_fault_from (grown_by left.counted st.section (size_bytes own)) (drop (i + 1) (located_from 1 1 (at_start ss) ss)) (drop (i + 1) (bytes_of_sizes sizes)))
          (ap (λ l. size_fault_from left.counted l (size_bytes own ∷ drop (i + 1) (bytes_of_sizes sizes))) (sym next)
          ∙ ap (λ l. size_fault_from left.counted (drop i (located_from 1 1 (at_start ss) ss)) l) (sym size_is) ∙ left.rest)

      fits : st.home.executable ≡ true → ends st.section + size_bytes own ≤ longest_section
      fits e =
          let l = left.code st.section (ap (λ (h : Section). h.executable) home_is ∙ e) in
          let m : left.counted st.section + size_bytes own ≤ longest_section = ltb-false longest_section (left.counted st.section + size_bytes own) (if_some (nat_lt longest_section (left.counted st.section + size_bytes own)) 17 parts.0) in
          omega (arith, l, m)

      -- the next statement has a size, and its section has room for it
      pub roomy_now : is_placed t k s.kind ≡ true
          → IsRoomy (λ e. expression_value all st e) st.home.executable (slice_index_or (alignments_of all) st.section 1) (ends st.section) (slice_index_or (ends_of (after t k s.kind)) st.section 0) own s.kind
      roomy_now placed = roomy_at (ends st.section) (low st.section) placed fits (λ e. left.stored st.section (ap (λ (h : Section). h.executable) home_is ∙ e))

      module _ (x : Item) (one : IsItem st ends x) (sized : IsSizedAt all ss i s own x) where
        -- the size of an item that has a place
        placed_size : is_placed t k s.kind ≡ true → IsSize (λ e. expression_value all st e) st.home.executable (slice_index_or (alignments_of all) st.section 1) (ends st.section) own s.kind x.bytes
        placed_size e =
            subst (λ n. IsSize (λ e. expression_value all st e) st.home.executable (slice_index_or (alignments_of all) st.section 1) n own s.kind x.bytes) one.offset
            (subst (λ n. IsSize (λ e. expression_value all st e) st.home.executable (slice_index_or (alignments_of all) n 1) x.offset own s.kind x.bytes) one.section
            (size_as (λ e. expression_value all st e) st.home.executable x (slice_index_or (alignments_of all) x.section 1) own s.kind (sized e)))

        in_code : (b : Bool) → is_placed t k s.kind ≡ b → st.home.executable ≡ true → x.bytes ≤ size_bytes own
        in_code true e code = (roomy_now e).code code x.bytes (placed_size e)
        in_code false e code = let none = one.absent e in omega (arith, none)

        in_store : (b : Bool) → is_placed t k s.kind ≡ b → st.home.executable ≡ false → ends st.section + x.bytes ≤ slice_index_or (ends_of (after t k s.kind)) st.section 0
        in_store true e other = (roomy_now e).stored other x.bytes (placed_size e)
        in_store false e other =
            let none = one.absent e in
            let l = left.stored st.section (ap (λ (h : Section). h.executable) home_is ∙ other) in
            let m = (grows_after t k s.kind).ends st.section in
            omega (arith, none, l, m)

        code_by : (j : ℕ) (b : Bool) → (j == st.section) ≡ b → (section_at (opened_of all) j).executable ≡ true
            → (if b then ends j + x.bytes else ends j) ≤ (if b then left.counted j + size_bytes own else left.counted j)
        code_by j true is e =
            let at : j ≡ st.section = eqb-true j st.section is in
            let l = left.code j e in
            let m = in_code (is_placed t k s.kind) refl (ap (λ (h : Section). h.executable) (sym home_is ∙ sym (ap (section_at (opened_of all)) at)) ∙ e) in
            omega (arith, l, m)
        code_by j false is e = left.code j e

        store_by : (j : ℕ) (b : Bool) → (j == st.section) ≡ b → (section_at (opened_of all) j).executable ≡ false → (if b then ends j + x.bytes else ends j) ≤ slice_index_or (ends_of (after t k s.kind)) j 0
        store_by j true is e =
            let at : st.section ≡ j = sym (eqb-true j st.section is) in
            subst (λ n. ends n + x.bytes ≤ slice_index_or (ends_of (after t k s.kind)) n 0) at
            (in_store (is_placed t k s.kind) refl (ap (λ (h : Section). h.executable) (sym home_is ∙ ap (section_at (opened_of all)) at) ∙ e))
        store_by j false is e = let l = left.stored j e in let m = (grows_after t k s.kind).ends j in omega (arith, l, m)

        pub rooms_more : (behind : ℕ → ℕ) → ((j : ℕ) → behind j ≡ grown ends x j) → HasRoomLeft ss sizes (i + 1) behind
        rooms_more behind grows = record {
          counted = grown_by left.counted st.section (size_bytes own);
          rest = parts.1;
          code = λ j e. subst (λ n. n ≤ grown_by left.counted st.section (size_bytes own) j) (sym (at_section j)) (code_by j (j == st.section) refl e);
          stored = λ j e.
              subst (λ (u : Tables). behind j ≤ slice_index_or (ends_of u) j 0) (sym (passed_next ss i s (drop (i + 1) ss) here_is))
              (subst (λ n. n ≤ slice_index_or (ends_of (after t k s.kind)) j 0) (sym (at_section j)) (store_by j (j == st.section) refl e));
        }
          where
            at_section : (j : ℕ) → behind j ≡ (if j == st.section then ends j + x.bytes else ends j)
            at_section j = grows j ∙ ap (λ n. if j == n then ends j + x.bytes else ends j) one.section
