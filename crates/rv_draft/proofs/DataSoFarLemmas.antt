-- One statement more of the data so far.

use Rattle.std.proofs.Common.{◌≡◌, ℕ, zero, suc, ◌+◌, ◌*◌, ◌≤◌, ◌==◌, Bool, true, false, List, [], ◌∷◌, ◌++◌, length, map, take, drop, refl, sym, ap, ◌∙◌, subst, append-nil, append_assoc, arith}
use Rattle.std.specs.Global.{Vec}
use Rattle.std.specs.Prelude.{flat_map, slice_index_or, not, ◌&&◌, if◌then◌else◌}
use Rattle.std.proofs.lemmas.Bool.{eqb-true, eq-eqb}
use Rattle.rv_list_laws.proofs.ElementsLemmas.{first_same}
use Rattle.rv_list_laws.proofs.TakeDropLemmas.{drop_zero}
use Rattle.rv_expression_laws.specs.Values.{Value}
use Rattle.rv_statement_laws.specs.Statement.{StatementKind, Label, Numbered, Instruction, Directs, Expression, Statement}
use Rattle.rv_unit_laws.specs.Sections.{Section, is_nobits}
use Rattle.rv_unit_laws.specs.Tables.{Tables, SectionOffset as Standing, at_start, after, after_all, tables, stood, value_by_tables, alignments_of, longest_section}
use Rattle.rv_unit.specs.Unit.{passed}
use Rattle.rv_source_laws.specs.Located.{Located, located_now, located_from, is_placed}
use Rattle.rv_assemble_laws.specs.LaidStatements.{LaidStatement, LaidPart, part_bytes, laid_in, expression_value}
use Rattle.rv_assemble_laws.specs.Fields.{Field}
use Rattle.rv_instruction.specs.declared.encoded.Coded.{Coded}
use Rattle.rv_assemble_laws.proofs.FilledLemmas.{bytes_append}
use Rattle.rv_draft.specs.declared.field.OpenField.{OpenField}
use Rattle.rv_draft.specs.declared.item.CodeSize.{CodeSize}
use Rattle.rv_unit.specs.declared.item.Item.{Item}
use Rattle.rv_draft.specs.Code.{GrowsBy, bytes_in, code_size, sizes_of}
use Rattle.rv_draft.specs.Contents.{statement_padding, padding_at, bytes_coded}
use Rattle.rv_draft.specs.Coded.{IsCodedAt, AreCoded}
use Rattle.rv_draft.specs.DataParts.{is_filled, data_said, fields_said, data_parts, code_said, open_fields, data_bytes, laid_statements, HasRoomFor, HaveCode, IsLaid, IsDataTo, IsData}
use Rattle.rv_draft.specs.Draft.{field_of}
use Rattle.rv_draft.specs.Items.{IsItem, AreItems, grown}
use Rattle.rv_draft.specs.Seated.{laid_of, first_code, other_codes, laid_from}
use Rattle.rv_draft.specs.Sized.{IsSized, AreSized, first_size, other_sizes}
use Rattle.rv_draft.specs.Spots.{HasBytesOf}
use Rattle.rv_draft.proofs.EvensLemmas.{none_more}
use Rattle.rv_draft.proofs.StandingLemmas.{located_at, stated_next}

-- ---- the bytes of sections never fall

le_if : (b : Bool) (n more : ℕ) → n ≤ (if b then n + more else n)
le_if true n more = omega arith
le_if false n more = omega arith

grown_more : (before : ℕ → ℕ) (x : Item) (j : ℕ) → before j ≤ grown before x j
grown_more before x j = le_if (j == x.section) (before j) x.bytes

pub items_more : (k : ℕ) (t : Tables) (before last : ℕ → ℕ) (ss : List Statement) (is : List Item) → AreItems k t before ss is last → (j : ℕ) → before j ≤ last j
items_more k t before last [] [] h j = let e = h j in omega (arith, e)
items_more k t before last [] (x ∷ is) h j = absurd h
items_more k t before last (s ∷ ss) [] h j = absurd h
items_more k t before last (s ∷ ss) (x ∷ is) h j =
    let more = items_more (suc k) (after t k s.kind) (grown before x) last ss is h.1 j in
    let here = grown_more before x j in
    omega (arith, more, here)

-- an item ends in its section
item_here : (s : Located) (before last : ℕ → ℕ) (x : Item) → IsItem s before x → ((j : ℕ) → grown before x j ≤ last j) → x.offset + x.bytes ≤ last x.section
item_here s before last x one more =
    let own : (x.section == x.section) ≡ true = eq-eqb x.section x.section refl in
    let here : before x.section + x.bytes ≤ last x.section = subst (λ b. (if b then before x.section + x.bytes else before x.section) ≤ last x.section) own (more x.section) in
    let offset : x.offset ≡ before x.section = one.offset ∙ ap before (sym one.section) in
    omega (arith, here, offset)

pub item_ends : (k i : ℕ) (t : Tables) (before last : ℕ → ℕ) (ss : List Statement) (is : List Item) (s : Statement) (rest : List Statement) (x : Item) (more : List Item)
    → AreItems k t before ss is last → drop i ss ≡ s ∷ rest → drop i is ≡ x ∷ more → x.offset + x.bytes ≤ last x.section
item_ends k zero t before last [] is s rest x more h e g = absurd (cc)
item_ends k (suc i) t before last [] is s rest x more h e g = absurd (cc)
item_ends k zero t before last (y ∷ ys) [] s rest x more h e g = absurd (cc)
item_ends k (suc i) t before last (y ∷ ys) [] s rest x more h e g = absurd (cc)
item_ends k zero t before last (y ∷ ys) (z ∷ zs) s rest x more h e g =
    let alike : z ≡ x = cc in
    subst (λ (x : Item). x.offset + x.bytes ≤ last x.section) alike
    (item_here (located_now 1 k t y) before last z h.0 (items_more (suc k) (after t k y.kind) (grown before z) last ys zs h.1))
item_ends k (suc i) t before last (y ∷ ys) (z ∷ zs) s rest x more h e g =
    item_ends (suc k) i (after t k y.kind) (grown before z) last ys zs s rest x more h.1 e g

-- ---- the size of the item at an index

-- with this size of its code
record SizedAt (all : Tables) (k : ℕ) (t : Tables) (s : Statement) (x : Item) (code : CodeSize) : Type 0 where
  sized : (located_now 1 k t s).placed ≡ true → IsSized (λ e. expression_value all (located_now 1 k t s) e) (located_now 1 k t s).home.executable x (slice_index_or (alignments_of all) x.section 1) code s.kind

sizes_left : (i : ℕ) (sizes : List CodeSize) → drop i (other_sizes sizes) ≡ drop (suc i) sizes
sizes_left zero [] = refl
sizes_left (suc i) [] = refl
sizes_left i (size ∷ sizes) = refl

sized_left : (all : Tables) (k i : ℕ) (t : Tables) (ss : List Statement) (is : List Item) (sizes : List CodeSize) (s : Statement) (rest : List Statement) (x : Item) (more : List Item)
    → AreSized all k t ss is sizes → drop i ss ≡ s ∷ rest → drop i is ≡ x ∷ more → SizedAt all (i + k) (after_all t k (take i ss)) s x (first_size (drop i sizes))
sized_left all k zero t [] is sizes s rest x more h e g = absurd (cc)
sized_left all k (suc i) t [] is sizes s rest x more h e g = absurd (cc)
sized_left all k zero t (y ∷ ys) [] sizes s rest x more h e g = absurd (cc)
sized_left all k (suc i) t (y ∷ ys) [] sizes s rest x more h e g = absurd (cc)
sized_left all k zero t (y ∷ ys) (z ∷ zs) sizes s rest x more h e g =
    let same : y ≡ s = cc in
    let alike : z ≡ x = cc in
    let n : k ≡ 0 + k = omega arith in
    let one : SizedAt all k t y z (first_size sizes) = record { sized = h.0 } in
    subst (λ l. SizedAt all (0 + k) t s x (first_size l)) (sym (drop_zero sizes))
    (subst (λ n. SizedAt all n t s x (first_size sizes)) n (subst (λ s. SizedAt all k t s x (first_size sizes)) same (subst (λ x. SizedAt all k t y x (first_size sizes)) alike one)))
sized_left all k (suc i) t (y ∷ ys) (z ∷ zs) sizes s rest x more h e g =
    let n : i + suc k ≡ suc i + k = omega arith in
    subst (λ l. SizedAt all (suc i + k) (after_all (after t k y.kind) (suc k) (take i ys)) s x (first_size l)) (sizes_left i sizes)
    (subst (λ n. SizedAt all n (after_all (after t k y.kind) (suc k) (take i ys)) s x (first_size (drop i (other_sizes sizes)))) n
    (sized_left all (suc k) i (after t k y.kind) ys zs (other_sizes sizes) s rest x more h.1 e g))

-- values of data end where a section may end
pub room_for : (ss : List Statement) (is : List Item) (i : ℕ) (s : Statement) (x : Item) → IsLaid ss is → drop i ss ≡ s ∷ drop (i + 1) ss → drop i is ≡ x ∷ drop (i + 1) is → HasRoomFor s.kind x.offset
room_for ss is i s x laid here item w vs says =
    let ends : x.offset + x.bytes ≤ laid.last x.section = item_ends 1 i (at_start ss) (λ j. 0) laid.last ss is s (drop (i + 1) ss) x (drop (i + 1) is) laid.items here item in
    let low = laid.low x.section in
    let size = sized_left (tables ss) 1 i (at_start ss) ss is laid.sizes s (drop (i + 1) ss) x (drop (i + 1) is) laid.sized here item in
    let st = located_at ss i s in
    let placed : is_placed (passed ss i) (i + 1) s.kind ≡ true = ap (is_placed (passed ss i) (i + 1)) says in
    let sized = subst (λ k. IsSized (λ e. expression_value (tables ss) st e) st.home.executable x (slice_index_or (alignments_of (tables ss)) x.section 1) (first_size (drop i laid.sizes)) k) says (size.sized placed) in
    let bytes : x.bytes ≡ w * length vs = sized.1 in
    omega (arith, ends, low, bytes)

-- an item ends where a section may end
pub item_low : (ss : List Statement) (is : List Item) (i : ℕ) (s : Statement) (x : Item) → IsLaid ss is → drop i ss ≡ s ∷ drop (i + 1) ss → drop i is ≡ x ∷ drop (i + 1) is → x.offset + x.bytes ≤ longest_section
item_low ss is i s x laid here item =
    let ends : x.offset + x.bytes ≤ laid.last x.section = item_ends 1 i (at_start ss) (λ j. 0) laid.last ss is s (drop (i + 1) ss) x (drop (i + 1) is) laid.items here item in
    let low = laid.low x.section in
    omega (arith, ends, low)

-- ---- the code of the statement at an index

codes_left : (i : ℕ) (codes : List (List Coded)) → drop i (other_codes codes) ≡ drop (suc i) codes
codes_left zero [] = refl
codes_left (suc i) [] = refl
codes_left i (coded ∷ codes) = refl

abbrev pub code_of : ℕ → List (List Coded) → List Coded
code_of i codes = first_code (drop i codes)

size_left : (t : Tables) (ls : List Located) (codes : List (List Coded)) (i : ℕ) (l : Located) (rest : List Located) → AreCoded t ls codes → drop i ls ≡ l ∷ rest
    → first_size (drop i (sizes_of t ls codes)) ≡ code_size (padding_at t l) (code_of i codes)
size_left t [] codes zero l rest h e = absurd (cc)
size_left t [] codes (suc i) l rest h e = absurd (cc)
size_left t (y ∷ ys) [] i l rest h e = absurd h
size_left t (y ∷ ys) (coded ∷ codes) zero l rest h e = ap (λ (l : Located). code_size (padding_at t l) coded) (first_same y l ys rest e)
size_left t (y ∷ ys) (coded ∷ codes) (suc i) l rest h e = size_left t ys codes i l rest h.1 e

coded_left : (t : Tables) (ls : List Located) (codes : List (List Coded)) (i : ℕ) (l : Located) (rest : List Located) → AreCoded t ls codes → drop i ls ≡ l ∷ rest → IsCodedAt t l (code_of i codes)
coded_left t [] codes zero l rest h e = absurd (cc)
coded_left t [] codes (suc i) l rest h e = absurd (cc)
coded_left t (y ∷ ys) [] i l rest h e = absurd h
coded_left t (y ∷ ys) (coded ∷ codes) zero l rest h e = subst (λ l. IsCodedAt t l coded) (first_same y l ys rest e) h.0
coded_left t (y ∷ ys) (coded ∷ codes) (suc i) l rest h e = coded_left t ys codes i l rest h.1 e

pub coded_here : (ss : List Statement) (is : List Item) (codes : List (List Coded)) (i : ℕ) (s : Statement) → HaveCode ss is codes → drop i ss ≡ s ∷ drop (i + 1) ss → IsCodedAt (tables ss) (located_at ss i s) (code_of i codes)
coded_here ss is codes i s have here =
    let all = located_from 1 1 (at_start ss) ss in
    coded_left (tables ss) all codes i (located_at ss i s) (drop (i + 1) all) have.coded (stated_next ss i s (drop (i + 1) ss) here)

-- an instruction has the bytes of its code
bytes_by_kind : (t : Tables) (k : ℕ) (v : Expression → Value) (b : Bool) (x : Item) (begins : ℕ) (coded : List Coded) (kind : StatementKind)
    → (is_placed t k kind ≡ true → IsSized v b x begins (code_size (statement_padding b v kind) coded) kind) → HasBytesOf coded x kind
bytes_by_kind t k v b x begins coded (Label name) h = tt
bytes_by_kind t k v b x begins coded (Numbered number) h = tt
bytes_by_kind t k v b x begins coded (Instruction mnemonic operands) h = (h refl).0 ∙ sym (none_more (length (bytes_coded coded)))
bytes_by_kind t k v b x begins coded (Directs directive) h = tt

pub bytes_here : (ss : List Statement) (is : List Item) (codes : List (List Coded)) (i : ℕ) (s : Statement) (x : Item) → HaveCode ss is codes → drop i ss ≡ s ∷ drop (i + 1) ss → drop i is ≡ x ∷ drop (i + 1) is → HasBytesOf (code_of i codes) x s.kind
bytes_here ss is codes i s x have here item =
    let all = located_from 1 1 (at_start ss) ss in
    let size = sized_left (tables ss) 1 i (at_start ss) ss is (sizes_of (tables ss) all codes) s (drop (i + 1) ss) x (drop (i + 1) is) have.sized here item in
    let st = located_at ss i s in
    bytes_by_kind (passed ss i) (i + 1) (λ e. expression_value (tables ss) st e) st.home.executable x (slice_index_or (alignments_of (tables ss)) x.section 1) (code_of i codes) s.kind
    (subst (λ c. st.placed ≡ true → IsSized (λ e. expression_value (tables ss) st e) st.home.executable x (slice_index_or (alignments_of (tables ss)) x.section 1) c s.kind)
    (size_left (tables ss) all codes i st (drop (i + 1) all) have.coded (stated_next ss i s (drop (i + 1) ss) here)) size.sized)

-- ---- laid statements

drop_laid : (i : ℕ) (ls : List Located) (is : List Item) (codes : List (List Coded)) → drop i (laid_from ls is codes) ≡ laid_from (drop i ls) (drop i is) (drop i codes)
drop_laid zero [] is codes = refl
drop_laid (suc i) [] is codes = refl
drop_laid zero (l ∷ ls) [] codes = refl
drop_laid (suc i) (l ∷ ls) [] codes = none (drop i ls) (drop (suc i) codes)
  where
    none : (ms : List Located) (more : List (List Coded)) → [] ≡ laid_from ms [] more
    none [] more = refl
    none (m ∷ ms) more = refl
drop_laid zero (l ∷ ls) (x ∷ is) codes = ap (laid_from (l ∷ ls) (x ∷ is)) (sym (drop_zero codes))
drop_laid (suc i) (l ∷ ls) (x ∷ is) codes = drop_laid i ls is (other_codes codes) ∙ ap (laid_from (drop i ls) (drop i is)) (codes_left i codes)

others_left : (i : ℕ) (codes : List (List Coded)) → other_codes (drop i codes) ≡ drop (suc i) codes
others_left zero [] = refl
others_left (suc i) [] = refl
others_left zero (coded ∷ codes) = sym (drop_zero codes)
others_left (suc i) (coded ∷ codes) = others_left i codes

pub laid_next : (ss : List Statement) (is : List Item) (codes : List (List Coded)) (i : ℕ) (s : Statement) (x : Item) → drop i ss ≡ s ∷ drop (i + 1) ss → drop i is ≡ x ∷ drop (i + 1) is
    → drop i (laid_statements ss is codes) ≡ laid_of (located_at ss i s) x (code_of i codes) ∷ drop (i + 1) (laid_statements ss is codes)
laid_next ss is codes i s x here item =
    let all = located_from 1 1 (at_start ss) ss in
    let st = located_at ss i s in
    drop_laid i all is codes ∙ ap (λ l. laid_from l (drop i is) (drop i codes)) (stated_next ss i s (drop (i + 1) ss) here)
    ∙ ap (λ l. laid_from (st ∷ drop (i + 1) all) l (drop i codes)) item
    ∙ ap (λ l. laid_of st x (code_of i codes) ∷ laid_from (drop (i + 1) all) (drop (i + 1) is) l) (others_left i codes ∙ ap (λ n. drop n codes) (let e : suc i ≡ i + 1 = omega arith in e))
    ∙ ap (λ l. laid_of st x (code_of i codes) ∷ l) (sym (drop_laid (i + 1) all is codes))

-- ---- one statement

-- what a statement puts into its section, by where it stands
pub record Puts (t : Tables) (k o : ℕ) (q : Standing) (loaded : Bool) (says : StatementKind) (x : Item) (old new : List (Vec ℕ)) (had found : List OpenField) : Type 0 where
  pub grows : GrowsBy old new q.section (flat_map part_bytes (data_said o (λ e. value_by_tables t true k q e) says x.bytes))
  pub fields : map field_of found ≡ map field_of had ++ fields_said loaded q.section x.offset (data_said o (λ e. value_by_tables t true k q e) says x.bytes)

pub puts_at : (t u : Tables) (k o : ℕ) (p q : Standing) (h g : Section) (says : StatementKind) (x : Item) (old new : List (Vec ℕ)) (had found : List OpenField) → t ≡ u → o ≡ k → p ≡ q → h ≡ g
    → Puts t k o p h.loaded says x old new had found → Puts u k k q g.loaded says x old new had found
puts_at t u k o p q h g says x old new had found tables ordinal place home put =
    subst (λ (g : Section). Puts u k k q g.loaded says x old new had found) home
    (subst (λ (q : Standing). Puts u k k q h.loaded says x old new had found) place
    (subst (λ n. Puts u k n p h.loaded says x old new had found) ordinal
    (subst (λ (u : Tables). Puts u k o p h.loaded says x old new had found) tables put)))

-- what code leaves open, by where it stands
pub code_at : (t u : Tables) (p q : Standing) (h g : Section) (l : Located) (x : Item) (coded : List Coded) (had found : List Field) → t ≡ u → p ≡ q → h ≡ g
    → found ≡ had ++ fields_said h.loaded p.section x.offset (code_said t (laid_of l x coded) l.kind)
    → found ≡ had ++ fields_said g.loaded q.section x.offset (code_said u (laid_of l x coded) l.kind)
code_at t u p q h g l x coded had found tables place home own =
    own ∙ ap (λ (u : Tables). had ++ fields_said h.loaded p.section x.offset (code_said u (laid_of l x coded) l.kind)) tables
    ∙ ap (λ (q : Standing). had ++ fields_said h.loaded q.section x.offset (code_said u (laid_of l x coded) l.kind)) place
    ∙ ap (λ (g : Section). had ++ fields_said g.loaded q.section x.offset (code_said u (laid_of l x coded) l.kind)) home

swapped : (a b : ℕ) (c : Bool) → (a == b) ≡ c → (b == a) ≡ c
swapped a b true e = eq-eqb b a (sym (eqb-true a b e))
swapped a b false e = go (b == a) refl
  where
    go : (x : Bool) → (b == a) ≡ x → (b == a) ≡ false
    go true f = let g : (a == b) ≡ true = eq-eqb a b (sym (eqb-true b a f)) in absurd (cc)
    go false f = f

module _ (ss : List Statement) (is : List Item) (codes : List (List Coded)) (start : List (Vec ℕ)) (i : ℕ) (s : Statement) (x : Item) (old new : List (Vec ℕ)) (had found : List OpenField)
    (here : drop i ss ≡ s ∷ drop (i + 1) ss) (item : drop i is ≡ x ∷ drop (i + 1) is) where
  abbrev t : Tables
  t = tables ss

  abbrev st : Located
  st = located_at ss i s

  -- without its code, and with it
  abbrev laid_statement : LaidStatement
  laid_statement = laid_of st x (code_of i [])

  abbrev full : LaidStatement
  full = laid_of st x (code_of i codes)

  abbrev rest : List LaidStatement
  rest = drop (i + 1) (laid_statements ss is [])

  abbrev full_rest : List LaidStatement
  full_rest = drop (i + 1) (laid_statements ss is codes)

  abbrev said : List LaidPart
  said = data_said (i + 1) (λ e. value_by_tables t true (i + 1) (stood (passed ss i) (i + 1) s.kind) e) s.kind x.bytes

  abbrev PutsHere : Type 0
  PutsHere = Puts t (i + 1) (i + 1) (stood (passed ss i) (i + 1) s.kind) st.home.loaded s.kind x old new had found

  -- by whether the section is one of data
  abbrev Parts : Bool → List LaidPart
  Parts b = if b then said else []

  bytes_by : (b : Bool) → is_filled st.home ≡ b → (is_filled st.home ≡ true → PutsHere) → (is_filled st.home ≡ false → new ≡ old)
      → (j : ℕ) → bytes_in new j ≡ (if j == st.section then bytes_in old j ++ flat_map part_bytes (Parts b) else bytes_in old j)
  bytes_by true e put left j = (put e).grows.1 j
  bytes_by false e put left j = ap (λ l. bytes_in l j) (left e) ∙ go (j == st.section)
    where
      go : (c : Bool) → bytes_in old j ≡ (if c then bytes_in old j ++ [] else bytes_in old j)
      go true = sym (append-nil (bytes_in old j))
      go false = refl

  no_fields : (loaded : Bool) → fields_said loaded st.section x.offset [] ≡ []
  no_fields true = refl
  no_fields false = refl

  fields_by : (b : Bool) → is_filled st.home ≡ b → (is_filled st.home ≡ true → PutsHere) → (is_filled st.home ≡ false → found ≡ had)
      → map field_of found ≡ map field_of had ++ fields_said st.home.loaded st.section x.offset (Parts b)
  fields_by true e put left = (put e).fields
  fields_by false e put left =
      ap (λ l. map field_of l) (left e) ∙ sym (append-nil (map field_of had)) ∙ ap (λ l. map field_of had ++ l) (sym (no_fields st.home.loaded))

  joined : (j : ℕ) (c : Bool) → (j == st.section) ≡ c → (st.section == j) ≡ c
      → (if j == st.section then bytes_in old j ++ flat_map part_bytes (data_parts t laid_statement) else bytes_in old j) ++ data_bytes t j rest
      ≡ bytes_in old j ++ data_bytes t j (laid_statement ∷ rest)
  joined j true e f =
      ap (λ b. (if b then bytes_in old j ++ flat_map part_bytes (data_parts t laid_statement) else bytes_in old j) ++ data_bytes t j rest) e
      ∙ append_assoc (bytes_in old j) (flat_map part_bytes (data_parts t laid_statement)) (data_bytes t j rest)
      ∙ ap (λ l. bytes_in old j ++ l) (sym (bytes_append (data_parts t laid_statement) (flat_map (data_parts t) (laid_in j rest))))
      ∙ ap (λ b. bytes_in old j ++ flat_map part_bytes (flat_map (data_parts t) (if b then laid_statement ∷ laid_in j rest else laid_in j rest))) (sym f)
  joined j false e f =
      ap (λ b. (if b then bytes_in old j ++ flat_map part_bytes (data_parts t laid_statement) else bytes_in old j) ++ data_bytes t j rest) e
      ∙ ap (λ b. bytes_in old j ++ flat_map part_bytes (flat_map (data_parts t) (if b then laid_statement ∷ laid_in j rest else laid_in j rest))) (sym f)

  -- the parts whose fields may stay open, by whether the section is one of code
  abbrev Opens : Bool → List LaidPart
  Opens b = if b then code_said t full s.kind else data_parts t full

  -- one statement more, by what it adds
  more : (b : Bool) → st.home.executable ≡ b → (is_filled st.home ≡ true → PutsHere) → (is_filled st.home ≡ false → new ≡ old)
      → map field_of found ≡ map field_of had ++ fields_said st.home.loaded st.section x.offset (Opens b)
      → IsDataTo ss is codes start i old had → IsDataTo ss is codes start (i + 1) new found
  more b e put left own h =
      let own' : map field_of found ≡ map field_of had ++ open_fields t full =
      own ∙ ap (λ c. map field_of had ++ fields_said st.home.loaded st.section x.offset (Opens c)) (sym e) in
      record {
        bytes = λ j.
            ap (λ l. l ++ data_bytes t j rest) (bytes_by (is_filled st.home) refl put left j)
            ∙ joined j (j == st.section) refl (swapped j st.section (j == st.section) refl)
            ∙ ap (λ l. bytes_in old j ++ data_bytes t j l) (sym (laid_next ss is [] i s x here item)) ∙ h.bytes j;
        fields =
            ap (λ l. l ++ flat_map (open_fields t) full_rest) own'
            ∙ append_assoc (map field_of had) (open_fields t full) (flat_map (open_fields t) full_rest)
            ∙ ap (λ l. map field_of had ++ flat_map (open_fields t) l) (sym (laid_next ss is codes i s x here item)) ∙ h.fields;
      }

  -- in a section of data, or without bytes in the file
  pub data_more : st.home.executable ≡ false → (is_filled st.home ≡ true → PutsHere) → (is_filled st.home ≡ false → (new ≡ old) × (found ≡ had))
      → IsDataTo ss is codes start i old had → IsDataTo ss is codes start (i + 1) new found
  data_more other put left h =
      more false other put (λ e. (left e).0) (fields_by (is_filled st.home) refl put (λ e. (left e).1)) h

  -- in a section of code
  pub code_more : st.home.executable ≡ true → new ≡ old
      → map field_of found ≡ map field_of had ++ fields_said st.home.loaded st.section x.offset (code_said t full s.kind)
      → IsDataTo ss is codes start i old had → IsDataTo ss is codes start (i + 1) new found
  code_more code same own h =
      let none : is_filled st.home ≡ false = ap (λ b. not b && not (is_nobits st.home)) code in
      more true code (λ e. absurd (cc)) (λ e. same) own h

-- ---- before the first, and after the last

pub data_begin : (ss : List Statement) (is : List Item) (codes : List (List Coded)) (start : List (Vec ℕ)) (found : List OpenField) → found ≡ [] → IsDataTo ss is codes start 0 start found
data_begin ss is codes start found none = record {
  bytes = λ j. ap (λ l. bytes_in start j ++ data_bytes (tables ss) j l) (drop_zero (laid_statements ss is []));
  fields =
      ap (λ l. map field_of l ++ flat_map (open_fields (tables ss)) (drop 0 (laid_statements ss is codes))) none
      ∙ ap (flat_map (open_fields (tables ss))) (drop_zero (laid_statements ss is codes));
}

pub data_all : (ss : List Statement) (is : List Item) (codes : List (List Coded)) (start : List (Vec ℕ)) (i : ℕ) (sections : List (Vec ℕ)) (found : List OpenField) → drop i (located_from 1 1 (at_start ss) ss) ≡ []
    → IsDataTo ss is codes start i sections found → IsData ss is codes start sections found
data_all ss is codes start i sections found past h =
    let none : (more : List (List Coded)) → drop i (laid_statements ss is more) ≡ [] =
    λ more. drop_laid i (located_from 1 1 (at_start ss) ss) is more ∙ ap (λ l. laid_from l (drop i is) (drop i more)) past in
    record {
      bytes = λ j.
          sym (append-nil (bytes_in sections j))
          ∙ ap (λ l. bytes_in sections j ++ data_bytes (tables ss) j l) (sym (none [])) ∙ h.bytes j;
      fields =
          sym (append-nil (map field_of found)) ∙ ap (λ l. map field_of found ++ flat_map (open_fields (tables ss)) l) (sym (none codes)) ∙ h.fields;
    }
