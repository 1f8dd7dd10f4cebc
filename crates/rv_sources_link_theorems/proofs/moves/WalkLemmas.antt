-- The statements of a section as the linker moves them: each stands where what is kept before it ends.

use Rattle.std.proofs.Common.{◌≡◌, ℕ, suc, ◌+◌, ◌-◌, ◌%◌, ◌≤◌, ◌<◌, Bool, true, false, List, [], ◌∷◌, ◌++◌, length, length-append, map, take, drop, refl, sym, ap, ◌∙◌, subst, arith, pos, Some, None, ◌⊎◌, inl, inr}
use Rattle.std.proofs.lemmas.List.{append_assoc}
use Rattle.std.proofs.lemmas.Bool.{and_parts, lt-ltb, ltb-true, le-leb, lt-leb}
use Rattle.std.proofs.lemmas.List.Sums.{sum_by-cons}
use Rattle.std.specs.Prelude.{◌&&◌, nat_lt, nat_le, min, if◌then◌else◌, filter, flat_map}
use Rattle.std.specs.List.{AllByRecursion}
use Rattle.rv_size_laws.specs.Alignment.{aligned}
use Rattle.rv_isa.specs.declared.kind.Kind.TheVariants.{Align}
use Rattle.rv_expression_laws.specs.Values.{Value, Constant, Symbolic, Difference, Faulty}
use Rattle.rv_unit_laws.specs.Sections.{Section as SourceSection}
use Rattle.rv_unit_laws.specs.Tables.{Tables, padding}
use Rattle.rv_object_laws.specs.Object.{Relocation}
use Rattle.rv_object_laws.specs.Padding.{no_operations, operations_in}
use Rattle.rv_object_laws.specs.Valid.{is_align}
use Rattle.rv_object_laws.proofs.NopsLemmas.{length_even}
use Rattle.rv_link_laws.specs.Moves.{Move, dropped, new_offset, kept, full_padding, has_padding, alignment_of, inserted, by_place, plan, lost, lost_in}
use Rattle.rv_assemble_laws.specs.Templates.{Template, Fixed, Datum, Coded, Open, value_fields, template_fields, align_field}
use Rattle.rv_assemble_laws.specs.LaidStatements.{LaidStatement, LaidPart, laid_part, part_bytes}
use Rattle.rv_sources_link_theorems.proofs.sections.AssembledLemmas.{parts_of, parts, assembled_templates}
pub use Rattle.rv_sources_link_theorems.proofs.sections.AssembledLemmas.{Tile}
use Rattle.rv_assemble_laws.specs.IsObjectOf.{Numbering, relocation_at, relocations_from}
use Rattle.rv_assemble_laws.proofs.TemplatesLemmas.{absolute_plain, add_plain, subtract_plain}
use Rattle.rv_sources_link_theorems.proofs.statements.FieldedLemmas.{IsPlain}
use Rattle.rv_sources_link_theorems.proofs.statements.FittingLemmas.{padding_moves}
use Rattle.rv_sources_link_theorems.proofs.statements.PadsLemmas.{IsPower, by_power, at, padded, IsPlainLaid, IsPadLaid}

-- ---- fields that are no alignments

abbrev ArePlain : List Open → Type 0
ArePlain fs = AllByRecursion (λ (f : Open). is_align f.kind ≡ false) fs

value_plain : (ordinal width : ℕ) (v : Value) → ArePlain (value_fields ordinal width v)
value_plain ordinal width (Constant n) = tt
value_plain ordinal width (Symbolic q at plus) = (absolute_plain width, tt)
value_plain ordinal width (Difference q r plus) = (add_plain width, (subtract_plain width, tt))
value_plain ordinal width (Faulty code) = tt

pub template_plain : (ordinal : ℕ) (q : Template) → IsPlain q → ArePlain (template_fields ordinal q)
template_plain ordinal (Fixed bytes) h = tt
template_plain ordinal (Datum width v) h = value_plain ordinal width v
template_plain ordinal (Coded bytes fields) h = h

-- ---- lists

filter_join : (xs ys : List Relocation) → filter has_padding (xs ++ ys) ≡ filter has_padding xs ++ filter has_padding ys
filter_join [] ys = refl
filter_join (x ∷ xs) ys = go (has_padding x) (filter_join xs ys)
  where
    go : (b : Bool) → filter has_padding (xs ++ ys) ≡ filter has_padding xs ++ filter has_padding ys
        → (if b then x ∷ filter has_padding (xs ++ ys) else filter has_padding (xs ++ ys)) ≡ (if b then x ∷ filter has_padding xs else filter has_padding xs) ++ filter has_padding ys
    go true ih = ap (λ l. x ∷ l) ih
    go false ih = ih

pub take_past : (own rest : List ℕ) (k : ℕ) → take (length own + k) (own ++ rest) ≡ own ++ take k rest
take_past [] rest k = ap (λ n. take n rest) (let e : 0 + k ≡ k = omega arith in e)
take_past (x ∷ own) rest k = ap (λ n. take n (x ∷ (own ++ rest))) (let e : suc (length own) + k ≡ suc (length own + k) = omega arith in e) ∙ ap (λ l. x ∷ l) (take_past own rest k)

pub drop_past : (own rest : List ℕ) (k : ℕ) → drop (length own + k) (own ++ rest) ≡ drop k rest
drop_past [] rest k = ap (λ n. drop n rest) (let e : 0 + k ≡ k = omega arith in e)
drop_past (x ∷ own) rest k = ap (λ n. drop n (x ∷ (own ++ rest))) (let e : suc (length own) + k ≡ suc (length own + k) = omega arith in e) ∙ drop_past own rest k

-- ---- moves ahead

abbrev pub Ahead : ℕ → List Move → Type 0
Ahead p ms = AllByRecursion (λ (m : Move). (p ≤ m.place) × (0 < m.full)) ms

abbrev pub Past : ℕ → List Relocation → Type 0
Past p rs = AllByRecursion (λ (r : Relocation). (p ≤ r.place) × (0 < full_padding r)) rs

pub plan_ahead : (p base gone : ℕ) (rs : List Relocation) → Past p rs → Ahead p (plan base gone rs)
plan_ahead p base gone [] h = tt
plan_ahead p base gone (r ∷ rs) (h, hs) =
    let stands = base + (r.place - gone) in
    let least = aligned (alignment_of r) stands - stands in (h, plan_ahead p base (gone + (full_padding r - least)) rs hs)

pub dropped_none : (p old : ℕ) (ms : List Move) → Ahead p ms → old ≤ p → dropped ms old ≡ 0
dropped_none p old [] h low = refl
dropped_none p old (m ∷ ms) (h, hs) low =
    let ih = dropped_none p old ms hs low in
    let past = h.0 in
    let e : old - (m.place + length m.text) ≡ 0 = omega (arith, past, low) in
    ap (λ n. min (m.full - length m.text) n + dropped ms old) e ∙ ap (λ n. min (m.full - length m.text) 0 + n) ih ∙ (let k = m.full - length m.text in let f : min k 0 + 0 ≡ 0 = omega arith in f)

pub lost_none : (p offset bytes : ℕ) (ms : List Move) → Ahead p ms → offset + bytes ≤ p → lost ms offset bytes ≡ 0
lost_none p offset bytes [] h low = refl
lost_none p offset bytes (m ∷ ms) (h, hs) low =
    let past = h.0 in
    let some = h.1 in
    let ih = lost_none p offset bytes ms hs low in
    let test : nat_le (m.place + m.full) (offset + bytes) ≡ false = lt-leb (m.place + m.full) (offset + bytes) (omega (arith, past, some, low)) in
    sum_by-cons (λ m. lost_in offset bytes m) m ms
    ∙ ap (λ b. (if nat_le offset m.place && b then operations_in m.full - operations_in (length m.text) else 0) + lost ms offset bytes) test
    ∙ ap (λ n. n + lost ms offset bytes) (go (nat_le offset m.place)) ∙ ap (λ n. 0 + n) ih
  where
    go : (b : Bool) → (if b && false then operations_in m.full - operations_in (length m.text) else 0) ≡ 0
    go true = refl
    go false = refl

-- those that lie before an offset lose nothing behind it
pub lost_before : (m : Move) (offset bytes : ℕ) → m.place < offset → lost_in offset bytes m ≡ 0
lost_before m offset bytes h =
    ap (λ b. if b && nat_le (m.place + m.full) (offset + bytes) then operations_in m.full - operations_in (length m.text) else 0) (lt-leb offset m.place h)

-- what stands before all moves is kept
pub kept_front : (o : ℕ) (ms : List Move) (own rest : List ℕ) → Ahead (o + length own) ms → kept o ms (own ++ rest) ≡ own ++ kept (o + length own) ms rest
kept_front o [] own rest h = refl
kept_front o (m ∷ ms) own rest (h, hs) =
    let past = h.0 in
    let k = m.place - (o + length own) in
    let j = m.place + m.full - (o + length own) in
    let e : m.place - o ≡ length own + k = omega (arith, past) in
    let f : m.place + m.full - o ≡ length own + j = omega (arith, past) in
    ap (λ n. take n (own ++ rest) ++ (m.text ++ kept (m.place + m.full) ms (drop (m.place + m.full - o) (own ++ rest)))) e
    ∙ ap (λ n. take (length own + k) (own ++ rest) ++ (m.text ++ kept (m.place + m.full) ms (drop n (own ++ rest)))) f
    ∙ ap (λ l. l ++ (m.text ++ kept (m.place + m.full) ms (drop (length own + j) (own ++ rest)))) (take_past own rest k)
    ∙ ap (λ l. (own ++ take k rest) ++ (m.text ++ kept (m.place + m.full) ms l)) (drop_past own rest j)
    ∙ append_assoc own (take k rest) (m.text ++ kept (m.place + m.full) ms (drop j rest))

pub some_true : (n : ℕ) → 0 < n → nat_lt 0 n ≡ true
some_true n h = lt-ltb 0 n h

-- ---- the alignment

abbrev pub align_at : ℕ → ℕ → Relocation
align_at place n = record { place = place; kind = Align; symbol = None; addend = pos n }

pub alignment_is : (o a : ℕ) → IsPower a → alignment_of (align_at o (a - 2)) ≡ a
alignment_is o a h = by_power (λ a. alignment_of (align_at o (a - 2)) ≡ a) refl refl refl refl refl refl refl refl refl refl refl a h

even_start : (a : ℕ) → IsPower a → (n : ℕ) → n % a ≡ 0 → n % 2 ≡ 0
even_start a h =
    by_power (λ a. (n : ℕ) → n % a ≡ 0 → n % 2 ≡ 0)
    (λ n e. omega (arith, e)) (λ n e. omega (arith, e)) (λ n e. omega (arith, e)) (λ n e. omega (arith, e)) (λ n e. omega (arith, e)) (λ n e. omega (arith, e))
    (λ n e. omega (arith, e)) (λ n e. omega (arith, e)) (λ n e. omega (arith, e)) (λ n e. omega (arith, e)) (λ n e. omega (arith, e)) a h

pub power_some : (a : ℕ) → IsPower a → (0 < a) × ((a - 2) % 2 ≡ 0)
power_some a h =
    by_power (λ a. (0 < a) × ((a - 2) % 2 ≡ 0)) (omega arith, refl) (omega arith, refl) (omega arith, refl) (omega arith, refl) (omega arith, refl) (omega arith, refl)
    (omega arith, refl) (omega arith, refl) (omega arith, refl) (omega arith, refl) (omega arith, refl) a h

-- the least padding is even and has room
least_room : (a : ℕ) → IsPower a → (s : ℕ) → s % 2 ≡ 0 → (aligned a s - s ≤ a - 2) × ((aligned a s - s) % 2 ≡ 0)
least_room a h =
    by_power (λ a. (s : ℕ) → s % 2 ≡ 0 → (aligned a s - s ≤ a - 2) × ((aligned a s - s) % 2 ≡ 0))
    (λ s e. (omega (arith, e), omega (arith, e))) (λ s e. (omega (arith, e), omega (arith, e))) (λ s e. (omega (arith, e), omega (arith, e)))
    (λ s e. (omega (arith, e), omega (arith, e))) (λ s e. (omega (arith, e), omega (arith, e))) (λ s e. (omega (arith, e), omega (arith, e)))
    (λ s e. (omega (arith, e), omega (arith, e))) (λ s e. (omega (arith, e), omega (arith, e))) (λ s e. (omega (arith, e), omega (arith, e)))
    (λ s e. (omega (arith, e), omega (arith, e))) (λ s e. (omega (arith, e), omega (arith, e))) a h

fewer : (m n : ℕ) → m ≤ n → operations_in m ≤ operations_in n
fewer m n h = omega (arith, h)

-- ---- relocations

module _ (t : Tables) (number : Numbering) where
  pub relocations_join : (o : ℕ) (xs ys : List LaidPart)
      → relocations_from number o (xs ++ ys) ≡ relocations_from number o xs ++ relocations_from number (o + length (flat_map part_bytes xs)) ys
  relocations_join o [] ys = ap (λ n. relocations_from number n ys) (let e : o ≡ o + 0 = omega arith in e)
  relocations_join o (x ∷ xs) ys =
      let own = map (relocation_at number o) (template_fields x.ordinal x.template) in
      let next = o + length (part_bytes x) in
      let long : length (part_bytes x ++ flat_map part_bytes xs) ≡ length (part_bytes x) + length (flat_map part_bytes xs) = length-append (part_bytes x) (flat_map part_bytes xs) in
      ap (λ l. own ++ l) (relocations_join next xs ys)
      ∙ ap (λ n. own ++ (relocations_from number next xs ++ relocations_from number n ys))
      (let e : next + length (flat_map part_bytes xs) ≡ o + length (part_bytes x ++ flat_map part_bytes xs) = omega (arith, long) in e)
      ∙ sym (assoc own (relocations_from number next xs) (relocations_from number (o + length (flat_map part_bytes (x ∷ xs))) ys))
    where
      assoc : (xs ys zs : List Relocation) → (xs ++ ys) ++ zs ≡ xs ++ (ys ++ zs)
      assoc xs ys zs = append_assoc xs ys zs

  fields_none : (o : ℕ) (fs : List Open) → ArePlain fs → filter has_padding (map (relocation_at number o) fs) ≡ []
  fields_none o [] h = refl
  fields_none o (f ∷ fs) (h, hs) =
      ap (λ b. if b && nat_lt 0 (full_padding (relocation_at number o f)) then relocation_at number o f ∷ filter has_padding (map (relocation_at number o) fs) else filter has_padding (map (relocation_at number o) fs)) h
      ∙ fields_none o fs hs

  pub parts_none : (o : ℕ) (ps : List LaidPart) → AllByRecursion (λ p. IsPlain p.template) ps → filter has_padding (relocations_from number o ps) ≡ []
  parts_none o [] h = refl
  parts_none o (p ∷ ps) (h, hs) =
      filter_join (map (relocation_at number o) (template_fields p.ordinal p.template)) (relocations_from number (o + length (part_bytes p)) ps)
      ∙ ap (λ l. l ++ filter has_padding (relocations_from number (o + length (part_bytes p)) ps)) (fields_none o (template_fields p.ordinal p.template) (template_plain p.ordinal p.template h))
      ∙ parts_none (o + length (part_bytes p)) ps hs

  pub of_ordinal : (ordinal : ℕ) (ts : List Template) → AllByRecursion IsPlain ts → AllByRecursion (λ p. IsPlain p.template) (map (laid_part ordinal) ts)
  of_ordinal ordinal [] h = tt
  of_ordinal ordinal (q ∷ ts) (h, hs) = (h, of_ordinal ordinal ts hs)

  abbrev pub From : ℕ → List Relocation → Type 0
  From o rs = AllByRecursion (λ (r : Relocation). o ≤ r.place) rs

  from_join : (o : ℕ) (xs ys : List Relocation) → From o xs → From o ys → From o (xs ++ ys)
  from_join o [] ys h k = k
  from_join o (x ∷ xs) ys (h, hs) k = (h, from_join o xs ys hs k)

  from_less : (o p : ℕ) (rs : List Relocation) → o ≤ p → From p rs → From o rs
  from_less o p [] l h = tt
  from_less o p (r ∷ rs) l (h, hs) = (omega (arith, l, h), from_less o p rs l hs)

  fields_from : (o : ℕ) (fs : List Open) → From o (map (relocation_at number o) fs)
  fields_from o [] = tt
  fields_from o (f ∷ fs) = (omega arith, fields_from o fs)

  pub parts_from : (o : ℕ) (ps : List LaidPart) → From o (relocations_from number o ps)
  parts_from o [] = tt
  parts_from o (p ∷ ps) =
      from_join o (map (relocation_at number o) (template_fields p.ordinal p.template)) (relocations_from number (o + length (part_bytes p)) ps)
      (fields_from o (template_fields p.ordinal p.template))
      (from_less o (o + length (part_bytes p)) (relocations_from number (o + length (part_bytes p)) ps) (omega arith) (parts_from (o + length (part_bytes p)) ps))

  past_filter : (o : ℕ) (rs : List Relocation) → From o rs → Past o (filter has_padding rs)
  past_filter o [] h = tt
  past_filter o (r ∷ rs) (h, hs) = go (has_padding r) refl (past_filter o rs hs)
    where
      go : (b : Bool) → has_padding r ≡ b → Past o (filter has_padding rs) → Past o (if b then r ∷ filter has_padding rs else filter has_padding rs)
      go true e ih = ((h, ltb-true 0 (full_padding r) (and_parts (is_align r.kind) (nat_lt 0 (full_padding r)) e).1), ih)
      go false e ih = ih

  -- the alignments of statements that follow one another from an offset on
  abbrev pub pads : ℕ → List LaidStatement → List Relocation
  pads o zs = filter has_padding (relocations_from number o (parts t zs))

  pub pads_past : (o : ℕ) (zs : List LaidStatement) → Past o (pads o zs)
  pads_past o zs = past_filter o (relocations_from number o (parts t zs)) (parts_from o (parts t zs))

  pads_split : (o : ℕ) (z : LaidStatement) (zs : List LaidStatement) → z.bytes ≡ length (flat_map part_bytes (parts_of t z))
      → pads o (z ∷ zs) ≡ filter has_padding (relocations_from number o (parts_of t z)) ++ pads (o + z.bytes) zs
  pads_split o z zs bytes =
      ap (filter has_padding) (relocations_join o (parts_of t z) (parts t zs))
      ∙ filter_join (relocations_from number o (parts_of t z)) (relocations_from number (o + length (flat_map part_bytes (parts_of t z))) (parts t zs))
      ∙ ap (λ n. filter has_padding (relocations_from number o (parts_of t z)) ++ filter has_padding (relocations_from number (o + n) (parts t zs))) (sym bytes)

  module _ (section : SourceSection) (multiple : ℕ) where
    abbrev pub Plain : LaidStatement → Type 0
    Plain z = IsPlainLaid t section multiple z z.located.kind

    abbrev pub Pad : LaidStatement → Type 0
    Pad z = IsPadLaid t section multiple z z.located.kind

    abbrev pub Sorted : LaidStatement → Type 0
    Sorted z = Plain z ⊎ Pad z

    pub pads_plain : (o : ℕ) (z : LaidStatement) (zs : List LaidStatement) → z.bytes ≡ length (flat_map part_bytes (parts_of t z)) → Plain z → pads o (z ∷ zs) ≡ pads (o + z.bytes) zs
    pads_plain o z zs bytes h =
        pads_split o z zs bytes
        ∙ ap (λ l. l ++ pads (o + z.bytes) zs) (parts_none o (parts_of t z) (of_ordinal z.located.ordinal (assembled_templates t z z.located.kind) h.none))

    pad_some : (z : LaidStatement) → Pad z → 0 < z.bytes
    pad_some z h =
        let full = h.full in
        let some = by_power (λ a. 0 < a - 2) (omega arith) (omega arith) (omega arith) (omega arith) (omega arith) (omega arith) (omega arith) (omega arith) (omega arith) (omega arith) (omega arith) h.a h.power in
        omega (arith, full, some)

    -- what an alignment has in the object
    pub pad_parts : (z : LaidStatement) → Pad z → parts_of t z ≡ laid_part z.located.ordinal (Coded (no_operations z.bytes) (align_field z.located.ordinal z.bytes ∷ [])) ∷ []
    pad_parts z h = ap (map (laid_part z.located.ordinal)) h.was

    pub pads_pad : (o : ℕ) (z : LaidStatement) (zs : List LaidStatement) → z.bytes ≡ length (flat_map part_bytes (parts_of t z)) → Pad z → pads o (z ∷ zs) ≡ align_at o z.bytes ∷ pads (o + z.bytes) zs
    pads_pad o z zs bytes h =
        pads_split o z zs bytes
        ∙ ap (λ l. filter has_padding (relocations_from number o l) ++ pads (o + z.bytes) zs) (pad_parts z h)
        ∙ ap (λ b. (if b then align_at o z.bytes ∷ [] else []) ++ pads (o + z.bytes) zs) (lt-ltb 0 z.bytes (pad_some z h))

    -- they stand in order
    in_front : (o full : ℕ) (rs : List Relocation) → Past (o + full) rs → inserted (align_at o full) rs ≡ align_at o full ∷ rs
    in_front o full [] h = refl
    in_front o full (r ∷ rs) (h, hs) =
        ap (λ b. if b then align_at o full ∷ r ∷ rs else r ∷ inserted (align_at o full) rs) (le-leb (o + full) r.place h.0)

    pub in_order : (o : ℕ) (zs : List LaidStatement) → Tile t o zs → AllByRecursion Sorted zs → by_place (pads o zs) ≡ pads o zs
    in_order o [] tile h = refl
    in_order o (z ∷ zs) (off, bytes, tile) (inl h, hs) = ap by_place (pads_plain o z zs bytes h) ∙ in_order (o + z.bytes) zs tile hs ∙ sym (pads_plain o z zs bytes h)
    in_order o (z ∷ zs) (off, bytes, tile) (inr h, hs) =
        ap by_place (pads_pad o z zs bytes h) ∙ ap (inserted (align_at o z.bytes)) (in_order (o + z.bytes) zs tile hs)
        ∙ in_front o z.bytes (pads (o + z.bytes) zs) (pads_past (o + z.bytes) zs) ∙ sym (pads_pad o z zs bytes h)

    -- ---- the walk

    module _ (start : ℕ) (ms : List Move) (begins : (m : ℕ) → 0 < m → multiple % m ≡ 0 → section.executable ≡ true → start % m ≡ 0) where
      abbrev N : ℕ → ℕ
      N n = new_offset ms n

      abbrev pub statement_by : LaidStatement → LaidStatement
      statement_by z = record {
        located = z.located;
        offset = new_offset ms z.offset;
        bytes = new_offset ms (z.offset + z.bytes) - new_offset ms z.offset;
        instructions = z.instructions - lost ms z.offset z.bytes;
        coded = z.coded;
      }

      pub record PlainStep (o gone : ℕ) (z : LaidStatement) : Type 0 where
        pub plain_kind : Plain z
        pub plain_is : statement_by z ≡ at (o - gone) z
        pub shift : (d : ℕ) → d ≤ z.bytes → N (o + d) ≡ (o - gone) + d
        pub aside : section.executable ≡ false → o - gone ≡ z.offset

      pub record PadStep (o gone : ℕ) (z : LaidStatement) : Type 0 where
        pub pad_kind : Pad z
        pub least : ℕ
        pub fits : least ≤ z.bytes
        pub pad_is : statement_by z ≡ padded (o - gone) least z
        pub pads_to : least ≡ padding (Some pad_kind.a) (o - gone)
        pub least_even : least % 2 ≡ 0
        pub chosen : aligned (alignment_of (align_at o z.bytes)) (start + (o - gone)) - (start + (o - gone)) ≡ least

      abbrev pub Evens : ℕ → ℕ → Type 0
      Evens o gone = section.executable ≡ true → (o % 2 ≡ 0) × ((o - gone) % 2 ≡ 0)

      abbrev pub Steps : ℕ → ℕ → List LaidStatement → Type 0
      Steps o gone [] = N o ≡ o - gone
      Steps o gone (z ∷ zs) =
          (z.offset ≡ o) × (z.bytes ≡ length (flat_map part_bytes (parts_of t z))) × (gone ≤ o) × Evens o gone
          × ((PlainStep o gone z × Steps (o + z.bytes) gone zs) ⊎ ((s : PadStep o gone z) × Steps (o + z.bytes) (gone + (z.bytes - s.least)) zs))

      laid_is : (z : LaidStatement) (a b c : ℕ) → N z.offset ≡ a → N (z.offset + z.bytes) - N z.offset ≡ b → z.instructions - lost ms z.offset z.bytes ≡ c
          → statement_by z ≡ record { located = z.located; offset = a; bytes = b; instructions = c; coded = z.coded }
      laid_is z a b c e f g =
          let mk : ℕ → ℕ → ℕ → LaidStatement = λ a b c. record { located = z.located; offset = a; bytes = b; instructions = c; coded = z.coded } in
          ap (λ n. mk n (N (z.offset + z.bytes) - N z.offset) (z.instructions - lost ms z.offset z.bytes)) e
          ∙ ap (λ n. mk a n (z.instructions - lost ms z.offset z.bytes)) f ∙ ap (mk a b) g

      module _ (o gone : ℕ) (z : LaidStatement) (zs : List LaidStatement) (off : z.offset ≡ o) (bytes : z.bytes ≡ length (flat_map part_bytes (parts_of t z)))
          (low : gone ≤ o) (still : section.executable ≡ false → gone ≡ 0) (evens : Evens o gone)
          (before : (old : ℕ) → o ≤ old → dropped ms old ≡ gone + dropped (plan start gone (pads o (z ∷ zs))) old)
          (losses : (a b : ℕ) → o ≤ a → lost ms a b ≡ lost (plan start gone (pads o (z ∷ zs))) a b) where
        -- ---- bytes that stay

        module _ (h : Plain z) where
          abbrev T : List Move
          T = plan start gone (pads (o + z.bytes) zs)

          ahead : Ahead (o + z.bytes) T
          ahead = plan_ahead (o + z.bytes) start gone (pads (o + z.bytes) zs) (pads_past (o + z.bytes) zs)

          before_plain : (old : ℕ) → o ≤ old → dropped ms old ≡ gone + dropped T old
          before_plain old l = before old l ∙ ap (λ rs. gone + dropped (plan start gone rs) old) (pads_plain o z zs bytes h)

          losses_plain : (a b : ℕ) → o ≤ a → lost ms a b ≡ lost T a b
          losses_plain a b l = losses a b l ∙ ap (λ rs. lost (plan start gone rs) a b) (pads_plain o z zs bytes h)

          shift_plain : (d : ℕ) → d ≤ z.bytes → N (o + d) ≡ (o - gone) + d
          shift_plain d l =
              let e : dropped ms (o + d) ≡ gone = before_plain (o + d) (omega arith) ∙ ap (λ n. gone + n) (dropped_none (o + z.bytes) (o + d) T ahead (omega (arith, l))) ∙ (let f : gone + 0 ≡ gone = omega arith in f) in
              ap (λ n. o + d - n) e ∙ (let f : o + d - gone ≡ (o - gone) + d = omega (arith, low) in f)

          pub step_plain : PlainStep o gone z
          step_plain = record {
            plain_kind = h;
            plain_is = laid_is z (o - gone) z.bytes z.instructions here (ap (λ n. n - N z.offset) there ∙ ap (λ n. (o - gone) + z.bytes - n) here ∙ (let f : (o - gone) + z.bytes - (o - gone) ≡ z.bytes = omega arith in f))
                (ap (λ n. z.instructions - n) none ∙ (let f : z.instructions - 0 ≡ z.instructions = omega arith in f));
            shift = shift_plain;
            aside = λ e. let f = still e in (let g : o - gone ≡ o = omega (arith, f) in g) ∙ sym off;
          }
            where
              here : N z.offset ≡ o - gone
              here = ap N (off ∙ (let e : o ≡ o + 0 = omega arith in e)) ∙ shift_plain 0 (omega arith) ∙ (let f : (o - gone) + 0 ≡ o - gone = omega arith in f)

              there : N (z.offset + z.bytes) ≡ (o - gone) + z.bytes
              there = ap (λ n. N (n + z.bytes)) off ∙ shift_plain z.bytes (omega arith)

              none : lost ms z.offset z.bytes ≡ 0
              none = ap (λ n. lost ms n z.bytes) off ∙ losses_plain o z.bytes (omega arith) ∙ lost_none (o + z.bytes) o z.bytes T ahead (omega arith)

        -- ---- an alignment

        module _ (h : Pad z) where
          abbrev stands : ℕ
          stands = start + (o - gone)

          abbrev L : ℕ
          L = aligned (alignment_of (align_at o z.bytes)) stands - stands

          abbrev move : Move
          move = record { place = o; full = z.bytes; text = no_operations L }

          abbrev T' : List Move
          T' = plan start (gone + (z.bytes - L)) (pads (o + z.bytes) zs)

          of_a : L ≡ aligned h.a stands - stands
          of_a = ap (λ n. aligned (alignment_of (align_at o n)) stands - stands) h.full ∙ ap (λ a. aligned a stands - stands) (alignment_is o h.a h.power)

          begin : start % h.a ≡ 0
          begin = begins h.a (power_some h.a h.power).0 h.divides h.code

          stands_even : stands % 2 ≡ 0
          stands_even = let a = even_start h.a h.power start begin in let b = (evens h.code).1 in omega (arith, a, b)

          room : (L ≤ z.bytes) × (L % 2 ≡ 0)
          room =
              let both = least_room h.a h.power stands stands_even in
              (subst (λ n. n ≤ z.bytes) (sym of_a) (subst (λ n. aligned h.a stands - stands ≤ n) (sym h.full) both.0), ap (λ n. n % 2) of_a ∙ both.1)

          text_long : length (no_operations L) ≡ L
          text_long = length_even L room.1

          ahead' : Ahead (o + z.bytes) T'
          ahead' = plan_ahead (o + z.bytes) start (gone + (z.bytes - L)) (pads (o + z.bytes) zs) (pads_past (o + z.bytes) zs)

          before_here : (old : ℕ) → o ≤ old → dropped ms old ≡ gone + (min (z.bytes - L) (old - (o + L)) + dropped T' old)
          before_here old l =
              before old l ∙ ap (λ rs. gone + dropped (plan start gone rs) old) (pads_pad o z zs bytes h)
              ∙ ap (λ n. gone + (min (z.bytes - n) (old - (o + n)) + dropped T' old)) text_long

          pub before_pad : (old : ℕ) → o + z.bytes ≤ old → dropped ms old ≡ (gone + (z.bytes - L)) + dropped T' old
          before_pad old l =
              let fit = room.0 in
              let rest = dropped T' old in
              let e : min (z.bytes - L) (old - (o + L)) ≡ z.bytes - L = omega (arith, l, fit) in
              before_here old (omega (arith, l)) ∙ ap (λ n. gone + (n + rest)) e ∙ (let f : gone + (z.bytes - L + rest) ≡ (gone + (z.bytes - L)) + rest = omega arith in f)

          losses_here : (a b : ℕ) → o ≤ a → lost ms a b ≡ lost_in a b move + lost T' a b
          losses_here a b l = losses a b l ∙ ap (λ rs. lost (plan start gone rs) a b) (pads_pad o z zs bytes h) ∙ sum_by-cons (λ m. lost_in a b m) move T'

          pub losses_pad : (a b : ℕ) → o + z.bytes ≤ a → lost ms a b ≡ lost T' a b
          losses_pad a b l =
              let some = pad_some z h in
              losses_here a b (omega (arith, l)) ∙ ap (λ n. n + lost T' a b) (lost_before move a b (omega (arith, l, some))) ∙ (let n = lost T' a b in let f : 0 + n ≡ n = omega arith in f)

          pub step_pad : PadStep o gone z
          step_pad = record {
            pad_kind = h;
            least = L;
            fits = room.0;
            pad_is = laid_is z (o - gone) L (operations_in L) here (ap (λ n. n - N z.offset) there ∙ ap (λ n. (o - gone) + L - n) here ∙ (let f : (o - gone) + L - (o - gone) ≡ L = omega arith in f)) left;
            pads_to = of_a ∙ padding_moves (Some h.a) start (o - gone) ((power_some h.a h.power).0, begin);
            least_even = room.1;
            chosen = refl;
          }
            where
              here : N z.offset ≡ o - gone
              here =
                  let none = dropped_none (o + z.bytes) o T' ahead' (omega arith) in
                  let e : o - (o + L) ≡ 0 = omega arith in
                  let k = z.bytes - L in
                  ap N off
                  ∙ ap (λ n. o - n)
                  (before_here o (omega arith) ∙ ap (λ n. gone + (min k n + dropped T' o)) e ∙ ap (λ n. gone + (min k 0 + n)) none ∙ (let f : gone + (min k 0 + 0) ≡ gone = omega arith in f))

              there : N (z.offset + z.bytes) ≡ (o - gone) + L
              there =
                  let none = dropped_none (o + z.bytes) (o + z.bytes) T' ahead' (omega arith) in
                  let fit = room.0 in
                  ap (λ n. N (n + z.bytes)) off
                  ∙ ap (λ n. o + z.bytes - n) (before_pad (o + z.bytes) (omega arith) ∙ ap (λ n. (gone + (z.bytes - L)) + n) none)
                  ∙ (let f : o + z.bytes - ((gone + (z.bytes - L)) + 0) ≡ (o - gone) + L = omega (arith, low, fit) in f)

              gives : lost ms z.offset z.bytes ≡ operations_in z.bytes - operations_in L
              gives =
                  let none = lost_none (o + z.bytes) o z.bytes T' ahead' (omega arith) in
                  let gone_here = operations_in z.bytes - operations_in (length (no_operations L)) in
                  ap (λ n. lost ms n z.bytes) off ∙ losses_here o z.bytes (omega arith)
                  ∙ ap (λ b. (if b && nat_le (o + z.bytes) (o + z.bytes) then gone_here else 0) + lost T' o z.bytes) (le-leb o o (omega arith))
                  ∙ ap (λ b. (if b then gone_here else 0) + lost T' o z.bytes) (le-leb (o + z.bytes) (o + z.bytes) (omega arith))
                  ∙ ap (λ n. gone_here + n) none ∙ (let f : gone_here + 0 ≡ gone_here = omega arith in f)
                  ∙ ap (λ n. operations_in z.bytes - operations_in n) text_long

              left : z.instructions - lost ms z.offset z.bytes ≡ operations_in L
              left =
                  let less = fewer L z.bytes room.0 in
                  let a = operations_in z.bytes in
                  let b = operations_in L in
                  ap (λ n. n - lost ms z.offset z.bytes) h.count ∙ ap (λ n. a - n) gives ∙ monus a b less
                where
                  monus : (a b : ℕ) → b ≤ a → a - (a - b) ≡ b
                  monus a b l = omega (arith, l)

      pub steps : (o gone : ℕ) (zs : List LaidStatement) → Tile t o zs → AllByRecursion Sorted zs → gone ≤ o → (section.executable ≡ false → gone ≡ 0) → Evens o gone
          → ((old : ℕ) → o ≤ old → dropped ms old ≡ gone + dropped (plan start gone (pads o zs)) old)
          → ((a b : ℕ) → o ≤ a → lost ms a b ≡ lost (plan start gone (pads o zs)) a b) → Steps o gone zs
      unfolding step_pad
      steps o gone [] tile h low still evens before losses =
          ap (λ n. o - n) (before o (omega arith) ∙ (let f : gone + 0 ≡ gone = omega arith in f))
      steps o gone (z ∷ zs) (off, bytes, tile) (inl h, hs) low still evens before losses = (
        off,
        bytes,
        low,
        evens,
        inl (
          step_plain o gone z zs off bytes low still evens before losses h,
          steps (o + z.bytes) gone zs tile hs (omega (arith, low)) still
              (λ code. let even = h.even code in let both = evens code in let first = both.0 in let second = both.1 in (omega (arith, even, first), omega (arith, even, second, low)))
              (λ old l. before_plain o gone z zs off bytes low still evens before losses h old (omega (arith, l)))
              (λ a b l. losses_plain o gone z zs off bytes low still evens before losses h a b (omega (arith, l))),
        ),
      )
      steps o gone (z ∷ zs) (off, bytes, tile) (inr h, hs) low still evens before losses =
          let s = step_pad o gone z zs off bytes low still evens before losses h in
          let fit = s.fits in
          let even = s.least_even in
          let whole : z.bytes % 2 ≡ 0 = ap (λ n. n % 2) h.full ∙ (power_some h.a h.power).1 in (
            off,
            bytes,
            low,
            evens,
            inr (
              s,
              steps (o + z.bytes) (gone + (z.bytes - s.least)) zs tile hs (omega (arith, low, fit))
                  (λ e. let f : true ≡ false = sym h.code ∙ e in absurd (cc))
                  (λ code. let both = evens code in let first = both.0 in let second = both.1 in (omega (arith, whole, first), omega (arith, whole, even, second, low, fit)))
                  (before_pad o gone z zs off bytes low still evens before losses h)
                  (losses_pad o gone z zs off bytes low still evens before losses h),
            ),
          )
