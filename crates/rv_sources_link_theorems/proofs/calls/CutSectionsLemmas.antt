-- A section of code whose calls are cut is that of its source, with calls of one instruction.

use Rattle.std.proofs.Common.{◌≡◌, ℕ, ◌+◌, ◌-◌, ◌*◌, ◌^◌, ◌≤◌, ◌<◌, Bool, true, false, List, [], ◌∷◌, ◌++◌, length, length-append, map, take, drop, refl, sym, ap, ◌∙◌, subst, arith, pos, inl, inr}
use Rattle.std.proofs.lemmas.List.{append_assoc, append-nil}
use Rattle.std.proofs.lemmas.Bool.{and_parts, le-leb}
use Rattle.std.specs.Prelude.{◌&&◌, nat_lt, nat_le, if◌then◌else◌, filter, flat_map}
use Rattle.std.specs.Int.{w32, from_le_bytes}
use Rattle.std.specs.List.{AllByRecursion}
use Rattle.rv_isa.specs.declared.kind.Kind.TheVariants as kinds
use Rattle.rv_isa_laws.specs.Bytes.{little_endian}
use Rattle.rv_isa_laws.specs.Word.{form as form_of, word}
use Rattle.rv_statement_laws.specs.declared.mnemonic.Mnemonic.{Mnemonic}
use Rattle.rv_statement_laws.specs.Statement.{Operand}
use Rattle.rv_pseudo_laws.specs.Code.{auipc, jalr}
use Rattle.rv_unit_laws.specs.declared.section_type.SectionType.{SectionType}
use Rattle.rv_unit_laws.specs.declared.section_type.SectionType.TheVariants as types
use Rattle.rv_unit_laws.specs.Sections.{Section as SourceSection, is_nobits_type, is_nobits, goes_to_text as source_text}
use Rattle.rv_unit_laws.specs.Tables.{Tables, longest_section}
use Rattle.rv_object_laws.specs.Object.{Progbits, Note, Nobits, Relocation, Section, Symbol, stored}
use Rattle.rv_object_laws.specs.Valid.{held}
use Rattle.rv_link_laws.specs.CallSites.{word_at, link_register as linked_by, inserted_change, in_order}
use Rattle.rv_link_laws.specs.Inputs.{goes_to_text}
use Rattle.rv_link_laws.specs.Moves.{Move, dropped, new_offset, kept, lost}
use Rattle.rv_link_laws.specs.Shortened.{Sizes, short_call, is_shortened, cut, cuts, shortened_relocation, shortened_contents, shortened_text}
use Rattle.rv_source_laws.specs.Shortened.{link_register}
use Rattle.rv_assemble_laws.specs.LaidStatements.{LaidStatement, LaidPart, part_bytes, end_of}
use Rattle.rv_assemble_laws.specs.Symbols.{references_in}
use Rattle.rv_assemble_laws.specs.Templates.{Open, IsTemplate}
use Rattle.rv_assemble_laws.specs.IsObjectOf.{Numbering, IsNumbered, ArePartsNumbered, contents_of, relocation_at, relocations_from}
use Rattle.rv_assemble_laws.proofs.FilledLemmas.{bytes_append}
use Rattle.rv_sources_link_theorems.proofs.statements.OrderedLemmas.{filled}
use Rattle.rv_sources_link_theorems.proofs.sections.AssembledLemmas.{parts_of, parts, Tile, IsSectionOf}
use Rattle.rv_sources_link_theorems.proofs.calls.CutsLemmas.{link_of, AreCalm}
use Rattle.rv_sources_link_theorems.proofs.calls.CutStepsLemmas as walk
use Rattle.rv_sources_link_theorems.proofs.calls.CutStepsLemmas.{cut_statement, cut_move, cuts_from}
use Rattle.rv_sources_link_theorems.proofs.calls.LongCallsLemmas as long
use Rattle.rv_sources_link_theorems.proofs.calls.LongCallsLemmas.{IsLongCall}
use Rattle.rv_sources_link_theorems.proofs.moves.WalkLemmas.{drop_past, relocations_join, From, parts_from}
use Rattle.rv_sources_link_theorems.proofs.moves.ShrunkSectionsLemmas.{none_long}

-- ---- the words of a call

word_back : (w : ℕ) → w < 2 ^ 32 → from_le_bytes w32 (little_endian 4 w) ≡ w
word_back w low = omega (arith, low)

upper_word : (by : ℕ) → by < 32 → word (form_of (auipc by)) ≡ 0x17 + by * 128
upper_word by low = omega arith

lower_word : (link by : ℕ) → word (form_of (jalr link by (pos 0))) ≡ 0x67 + link * 128 + by * 32768
lower_word link by = omega arith

four_taken : (w : ℕ) (rest : List ℕ) → take 4 (little_endian 4 w ++ rest) ≡ little_endian 4 w
four_taken w [] = refl
four_taken w (x ∷ rest) = refl

-- the words that stand at a call
pub record HasWords (bytes : List ℕ) (o link by : ℕ) : Type 0 where
  pub first : word_at bytes o ≡ 0x17 + by * 128
  pub second : word_at bytes (o + 4) ≡ 0x67 + link * 128 + by * 32768

pub has_words : (t : Tables) (z : LaidStatement) (m : Mnemonic) (os : List Operand) (h : IsLongCall t z m os) (front rest : List ℕ)
    → HasWords (front ++ ((h.first ++ h.second) ++ rest)) (length front) (link_register m os) h.goes.by
has_words t z m os h front rest =
    let by = h.goes.by in
    let link = link_register m os in
    let u = word (form_of (auipc by)) in
    let l = word (form_of (jalr link by (pos 0))) in
    let by_low = h.by_low in
    let link_low = h.link_low in
    let upper = upper_word by by_low in
    let lower = lower_word link by in
    let said : (h.first ++ h.second) ++ rest ≡ little_endian 4 u ++ (little_endian 4 l ++ rest) =
    append_assoc h.first h.second rest ∙ ap (λ x. x ++ (h.second ++ rest)) h.upper ∙ ap (λ x. little_endian 4 u ++ (x ++ rest)) h.lower in
    record {
      first =
          ap (λ x. from_le_bytes w32 (take 4 (drop (length front) (front ++ x)))) said
          ∙ ap (λ n. from_le_bytes w32 (take 4 (drop n (front ++ (little_endian 4 u ++ (little_endian 4 l ++ rest)))))) (let e : length front ≡ length front + 0 = omega arith in e)
          ∙ ap (λ x. from_le_bytes w32 (take 4 x)) (drop_past front (little_endian 4 u ++ (little_endian 4 l ++ rest)) 0)
          ∙ ap (from_le_bytes w32) (four_taken u (little_endian 4 l ++ rest)) ∙ word_back u (omega (arith, upper, by_low)) ∙ upper;
      second =
          ap (λ x. from_le_bytes w32 (take 4 (drop (length front + 4) (front ++ x)))) said
          ∙ ap (λ x. from_le_bytes w32 (take 4 x)) (drop_past front (little_endian 4 u ++ (little_endian 4 l ++ rest)) 4)
          ∙ ap (from_le_bytes w32) (four_taken l rest) ∙ word_back l (omega (arith, lower, by_low, link_low)) ∙ lower;
    }

pub links : (bytes : List ℕ) (o link by : ℕ) → HasWords bytes o link by → link < 32 → by < 32 → linked_by bytes o ≡ link
links bytes o link by h low by_low =
    let w = word_at bytes (o + 4) in
    let e : w ≡ 0x67 + link * 128 + by * 32768 = h.second in
    omega (arith, e, low, by_low)

-- ---- calls in their order

filter_join : (sizes : Sizes) (xs ys : List Relocation) → filter (is_shortened sizes) (xs ++ ys) ≡ filter (is_shortened sizes) xs ++ filter (is_shortened sizes) ys
filter_join sizes [] ys = refl
filter_join sizes (x ∷ xs) ys = go (is_shortened sizes x) (filter_join sizes xs ys)
  where
    go : (b : Bool) → filter (is_shortened sizes) (xs ++ ys) ≡ filter (is_shortened sizes) xs ++ filter (is_shortened sizes) ys
        → (if b then x ∷ filter (is_shortened sizes) (xs ++ ys) else filter (is_shortened sizes) (xs ++ ys))
        ≡ (if b then x ∷ filter (is_shortened sizes) xs else filter (is_shortened sizes) xs) ++ filter (is_shortened sizes) ys
    go true ih = ap (λ l. x ∷ l) ih
    go false ih = ih

calm_none : (sizes : Sizes) (rs : List Relocation) → AreCalm sizes rs → filter (is_shortened sizes) rs ≡ []
calm_none sizes [] h = refl
calm_none sizes (r ∷ rs) (h, hs) = ap (λ b. if b then r ∷ filter (is_shortened sizes) rs else filter (is_shortened sizes) rs) h ∙ calm_none sizes rs hs

from_filter : (sizes : Sizes) (t : Tables) (number : Numbering) (o : ℕ) (rs : List Relocation) → From t number o rs → From t number o (filter (is_shortened sizes) rs)
from_filter sizes t number o [] h = tt
from_filter sizes t number o (r ∷ rs) (h, hs) = go (is_shortened sizes r) (from_filter sizes t number o rs hs)
  where
    go : (b : Bool) → From t number o (filter (is_shortened sizes) rs) → From t number o (if b then r ∷ filter (is_shortened sizes) rs else filter (is_shortened sizes) rs)
    go true ih = (h, ih)
    go false ih = ih

module _ (t : Tables) (number : Numbering) (sizes : Sizes) (multiple : ℕ) where
  abbrev Still : LaidStatement → Type 0
  Still z = walk.Still t number sizes multiple z

  abbrev Cut : LaidStatement → Type 0
  Cut z = walk.Cut t number sizes multiple z

  abbrev Sorted : LaidStatement → Type 0
  Sorted z = walk.Sorted t number sizes multiple z

  abbrev call_field : (z : LaidStatement) → Cut z → Open
  call_field z h = long.field t z multiple h.m h.os h.is_kind h.call h.long kinds.CallPlt

  -- the calls that are cut
  abbrev shorts : ℕ → List LaidStatement → List Relocation
  shorts o zs = filter (is_shortened sizes) (relocations_from number o (parts t zs))

  shorts_split : (o : ℕ) (z : LaidStatement) (zs : List LaidStatement) → z.bytes ≡ length (flat_map part_bytes (parts_of t z))
      → shorts o (z ∷ zs) ≡ filter (is_shortened sizes) (relocations_from number o (parts_of t z)) ++ shorts (o + z.bytes) zs
  shorts_split o z zs bytes =
      ap (filter (is_shortened sizes)) (relocations_join t number o (parts_of t z) (parts t zs))
      ∙ filter_join sizes (relocations_from number o (parts_of t z)) (relocations_from number (o + length (flat_map part_bytes (parts_of t z))) (parts t zs))
      ∙ ap (λ n. filter (is_shortened sizes) (relocations_from number o (parts_of t z)) ++ filter (is_shortened sizes) (relocations_from number (o + n) (parts t zs))) (sym bytes)

  shorts_still : (o : ℕ) (z : LaidStatement) (zs : List LaidStatement) → z.offset ≡ o → z.bytes ≡ length (flat_map part_bytes (parts_of t z)) → Still z → shorts o (z ∷ zs) ≡ shorts (o + z.bytes) zs
  shorts_still o z zs off bytes h =
      shorts_split o z zs bytes
      ∙ ap (λ l. l ++ shorts (o + z.bytes) zs) (calm_none sizes (relocations_from number o (parts_of t z)) (subst (λ n. AreCalm sizes (relocations_from number n (parts_of t z))) off h.none))

  shorts_cut : (o : ℕ) (z : LaidStatement) (zs : List LaidStatement) → z.offset ≡ o → z.bytes ≡ length (flat_map part_bytes (parts_of t z)) → (h : Cut z)
      → shorts o (z ∷ zs) ≡ relocation_at number o (call_field z h) ∷ shorts (o + z.bytes) zs
  shorts_cut o z zs off bytes h =
      shorts_split o z zs bytes
      ∙ ap (λ l. filter (is_shortened sizes) (relocations_from number o l) ++ shorts (o + z.bytes) zs) (walk.long_part t number sizes multiple [] z h)
      ∙ ap (λ b. (if b then relocation_at number o (call_field z h) ∷ filter (is_shortened sizes) (marks ++ []) else filter (is_shortened sizes) (marks ++ [])) ++ shorts (o + z.bytes) zs)
      (ap (λ n. nat_lt (sizes n) 8) (sym off) ∙ h.less)
      ∙ ap (λ l. (relocation_at number o (call_field z h) ∷ filter (is_shortened sizes) l) ++ shorts (o + z.bytes) zs) (no_more marks)
      ∙ ap (λ l. (relocation_at number o (call_field z h) ∷ l) ++ shorts (o + z.bytes) zs)
      (calm_none sizes marks (walk.marks_calm t number sizes multiple [] o z.located.options.relax z.located.ordinal))
    where
      marks : List Relocation
      marks = map (relocation_at number o) (long.mark t z multiple h.m h.os h.is_kind h.call h.long)

      no_more : (xs : List Relocation) → xs ++ [] ≡ xs
      no_more [] = refl
      no_more (x ∷ xs) = ap (λ l. x ∷ l) (no_more xs)

  shorts_past : (o : ℕ) (zs : List LaidStatement) → From t number o (shorts o zs)
  shorts_past o zs = from_filter sizes t number o (relocations_from number o (parts t zs)) (parts_from t number o (parts t zs))

  in_front : (o p : ℕ) (f : Open) (rs : List Relocation) → f.kind ≡ kinds.CallPlt → o + 8 ≤ p → From t number p rs → inserted_change (relocation_at number o f) rs ≡ relocation_at number o f ∷ rs
  in_front o p f [] e l h = refl
  in_front o p f (r ∷ rs) e l (h, hs) =
      ap (λ b. if b then relocation_at number o f ∷ r ∷ rs else r ∷ inserted_change (relocation_at number o f) rs)
      (ap (λ k. nat_le (o + held (record { place = o; kind = k; symbol = (relocation_at number o f).symbol; addend = f.addend })) r.place) e ∙ le-leb (o + 8) r.place (omega (arith, l, h)))

  ordered : (o : ℕ) (zs : List LaidStatement) → Tile t o zs → AllByRecursion Sorted zs → in_order (shorts o zs) ≡ shorts o zs
  ordered o [] tile h = refl
  ordered o (z ∷ zs) (off, bytes, tile) (inl h, hs) =
      ap in_order (shorts_still o z zs off bytes h) ∙ ordered (o + z.bytes) zs tile hs ∙ sym (shorts_still o z zs off bytes h)
  ordered o (z ∷ zs) (off, bytes, tile) (inr h, hs) =
      let eight = h.long.bytes in
      ap in_order (shorts_cut o z zs off bytes h) ∙ ap (inserted_change (relocation_at number o (call_field z h))) (ordered (o + z.bytes) zs tile hs)
      ∙ in_front o (o + z.bytes) (call_field z h) (shorts (o + z.bytes) zs) refl (omega (arith, eight)) (shorts_past (o + z.bytes) zs) ∙ sym (shorts_cut o z zs off bytes h)

  -- each is cut by the words that stand there
  module _ (x : Section) where
    cuts_are : (front : List ℕ) (o : ℕ) (zs : List LaidStatement) → o ≡ length front → Tile t o zs → AllByRecursion Sorted zs → stored x.contents ≡ front ++ flat_map part_bytes (parts t zs)
        → map (cut sizes x) (shorts o zs) ≡ cuts_from sizes o zs
    cuts_are front o [] long tile h whole = refl
    cuts_are front o (z ∷ zs) long (off, bytes, tile) (inl h, hs) whole =
        let own = flat_map part_bytes (parts_of t z) in
        let rest = flat_map part_bytes (parts t zs) in
        let more : length (front ++ own) ≡ length front + length own = length-append front own in
        ap (map (cut sizes x)) (shorts_still o z zs off bytes h)
        ∙ cuts_are (front ++ own) (o + z.bytes) zs (omega (arith, long, bytes, more)) tile hs
        (whole ∙ ap (λ l. front ++ l) (bytes_append (parts_of t z) (parts t zs)) ∙ sym (append_assoc front own rest))
        ∙ sym (walk.cuts_still t number sizes multiple o z zs h)
    cuts_are front o (z ∷ zs) long (off, bytes, tile) (inr h, hs) whole =
        let own = flat_map part_bytes (parts_of t z) in
        let rest = flat_map part_bytes (parts t zs) in
        let more : length (front ++ own) ≡ length front + length own = length-append front own in
        let split_whole : stored x.contents ≡ front ++ (own ++ rest) = whole ∙ ap (λ l. front ++ l) (bytes_append (parts_of t z) (parts t zs)) in
        let own_is : own ≡ h.long.first ++ h.long.second = ap (flat_map part_bytes) (walk.long_part t number sizes multiple [] z h) ∙ append-nil (h.long.first ++ h.long.second) in
        let words = has_words t z h.m h.os h.long front rest in
        let linked : linked_by (stored x.contents) o ≡ link_of z.located.kind =
        ap (λ l. linked_by l o) (split_whole ∙ ap (λ l. front ++ (l ++ rest)) own_is)
        ∙ ap (linked_by (front ++ ((h.long.first ++ h.long.second) ++ rest))) long
        ∙ links (front ++ ((h.long.first ++ h.long.second) ++ rest)) (length front) (link_register h.m h.os) h.long.goes.by words h.long.link_low h.long.by_low
        ∙ ap link_of (sym h.is_kind) in
        ap (map (cut sizes x)) (shorts_cut o z zs off bytes h)
        ∙ ap (λ k. moved o (short_call (sizes o) k) ∷ map (cut sizes x) (shorts (o + z.bytes) zs)) linked
        ∙ ap (λ l. cut_move sizes o z ∷ l)
        (cuts_are (front ++ own) (o + z.bytes) zs (omega (arith, long, bytes, more)) tile hs (split_whole ∙ sym (append_assoc front own rest)))
        ∙ sym (walk.cuts_cut t number sizes multiple o z zs h)
      where
        moved : ℕ → List ℕ → Move
        moved place text = record { place = place; full = 8; text = text }

-- ---- a section

-- what stands in a section of text
module _ (t : Tables) (laid : List LaidStatement) (number : Numbering) (symbols : List Symbol) (j : ℕ) (s : SourceSection) (x : Section) (zs : List LaidStatement) (h : IsSectionOf t laid number symbols j s zs x) (text : source_text s ≡ true) where
  stored_by : (k : SectionType) → s.section_type ≡ k → stored (contents_of k (end_of 0 zs) (flat_map part_bytes (parts t zs))) ≡ flat_map part_bytes (parts t zs)
  stored_by types.Progbits e = refl
  stored_by types.Note e = refl
  stored_by types.Nobits e = sym (h.code text (ap is_nobits_type e))

  pub stored_is : stored x.contents ≡ flat_map part_bytes (parts t zs)
  stored_is = ap stored h.contents ∙ stored_by s.section_type refl

module _ (t : Tables) (laid laid' : List LaidStatement) (number : Numbering) (symbols symbols' : List Symbol) (j : ℕ) (s : SourceSection) (x : Section) (sizes : Sizes)
    (zs : List LaidStatement) (h : IsSectionOf t laid number symbols j s zs x) (text : source_text s ≡ true)
    (sorted : AllByRecursion (λ z. walk.Sorted t number sizes x.alignment z) zs)
    (stands : (p : LaidPart) → AllByRecursion (IsNumbered t laid number symbols) (references_in p) → AllByRecursion (IsNumbered t laid' number symbols') (references_in p)) where
  abbrev ms : List Move
  ms = cuts sizes x

  abbrev zs' : List LaidStatement
  zs' = map (cut_statement true sizes ms) zs

  loaded : s.loaded ≡ true
  loaded = (and_parts s.loaded s.executable text).0

  code : s.executable ≡ true
  code = (and_parts s.loaded s.executable text).1

  in_text : goes_to_text x ≡ true
  in_text = ap (λ b. b && x.executable) h.loaded ∙ ap (λ b. s.loaded && b) h.executable ∙ text

  relocations_are : x.relocations ≡ relocations_from number 0 (parts t zs)
  relocations_are = h.relocations ∙ ap (λ b. if b then relocations_from number 0 (parts t zs) else []) loaded

  pub moves_are : ms ≡ cuts_from sizes 0 zs
  moves_are =
      ap (λ b. if b then map (cut sizes x) (in_order (filter (is_shortened sizes) x.relocations)) else []) in_text
      ∙ ap (λ rs. map (cut sizes x) (in_order (filter (is_shortened sizes) rs))) relocations_are
      ∙ ap (map (cut sizes x)) (ordered t number sizes x.alignment 0 zs h.tile sorted)
      ∙ cuts_are t number sizes x.alignment x [] 0 zs refl h.tile sorted (stored_is t laid number symbols j s x zs h text)

  st : walk.Steps t number sizes x.alignment ms 0 0 zs
  st = walk.steps t number sizes x.alignment ms 0 0 zs h.tile sorted (omega arith)
      (λ old low. ap (λ k. dropped k old) moves_are ∙ (let n = dropped (cuts_from sizes 0 zs) old in let f : n ≡ 0 + n = omega arith in f))
      (λ a b low. ap (λ k. lost k a b) moves_are)

  tile_left : Tile t 0 zs'
  tile_left = walk.tiled t number sizes x.alignment ms 0 0 zs st

  bytes_left : kept 0 ms (flat_map part_bytes (parts t zs)) ≡ flat_map part_bytes (parts t zs')
  bytes_left = ap (λ k. kept 0 k (flat_map part_bytes (parts t zs))) moves_are ∙ walk.bytes_kept t number sizes x.alignment ms 0 0 zs st

  end_left : new_offset ms (end_of 0 zs) ≡ end_of 0 zs'
  end_left = walk.ended t number sizes x.alignment ms 0 0 zs st

  -- no code stands where there are no bytes in the file
  nothing_left : is_nobits s ≡ true → (end_of 0 zs ≡ 0) × (end_of 0 zs' ≡ 0) × (flat_map part_bytes (parts t zs') ≡ [])
  nothing_left none =
      let before : end_of 0 zs ≡ 0 + length (flat_map part_bytes (parts t zs)) = filled (parts_of t) 0 zs h.tile in
      let long_after : end_of 0 zs' ≡ 0 + length (flat_map part_bytes (parts t zs')) = filled (parts_of t) 0 zs' tile_left in
      let empty : length (flat_map part_bytes (parts t zs)) ≡ 0 = ap length (h.code text none) in
      let stop : end_of 0 zs ≡ 0 = omega (arith, before, empty) in
      let after : end_of 0 zs' ≡ 0 = sym end_left ∙ ap (new_offset ms) stop ∙ (let n = dropped ms 0 in let e : 0 - n ≡ 0 = omega arith in e) in
      (stop, after, none_long (flat_map part_bytes (parts t zs')) (let e : length (flat_map part_bytes (parts t zs')) ≡ 0 = omega (arith, long_after, after) in e))

  contents_left : (k : SectionType) → s.section_type ≡ k
      → shortened_contents ms (contents_of k (end_of 0 zs) (flat_map part_bytes (parts t zs))) ≡ contents_of k (end_of 0 zs') (flat_map part_bytes (parts t zs'))
  contents_left types.Progbits e = ap Progbits bytes_left
  contents_left types.Note e = ap Note bytes_left
  contents_left types.Nobits e = let (a, b, c) = nothing_left (ap is_nobits_type e) in ap Nobits (a ∙ sym b)

  stand_all : (ps : List LaidPart) → ArePartsNumbered t laid number symbols ps → AllByRecursion (λ p. AllByRecursion (IsNumbered t laid' number symbols') (references_in p)) ps
  stand_all [] k = tt
  stand_all (p ∷ ps) (k, ks) = (stands p k, stand_all ps ks)

  pub section_left : IsSectionOf t laid' number symbols' j s zs' (shortened_text sizes x)
  section_left = record {
    loaded = h.loaded;
    executable = h.executable;
    writable = h.writable;
    alignment = h.alignment;
    some = h.some;
    tile = tile_left;
    contents = ap (shortened_contents ms) h.contents ∙ contents_left s.section_type refl;
    code = λ k none. (nothing_left none).2;
    relocations = ap (map (shortened_relocation sizes ms)) relocations_are ∙ walk.relocations_kept t number sizes x.alignment ms 0 0 zs st
        ∙ ap (λ b. if b then relocations_from number 0 (parts t zs') else []) (sym loaded);
    numbered = λ k. walk.parts_kept t number sizes x.alignment ms (λ p. AllByRecursion (IsNumbered t laid' number symbols') (references_in p)) (λ o b b' q f fs y. y) 0 0 zs st
        (stand_all (parts t zs) (h.numbered k));
    sizes = walk.sizes_kept t number sizes x.alignment ms 0 0 zs st;
    fields = walk.parts_kept t number sizes x.alignment ms (λ p. IsTemplate p.template) (λ o b b' q f fs y. tt) 0 0 zs st h.fields;
    short = λ k. let low = h.short k in let n = dropped ms (end_of 0 zs) in let e : end_of 0 zs' ≡ end_of 0 zs - n = sym end_left in let m = longest_section in
        let f : end_of 0 zs' ≤ m = omega (arith, low, e) in f;
  }

  pub resized : AllByRecursion (λ z. walk.IsResized t number sizes x.alignment ms z) zs
  resized = walk.resized t number sizes x.alignment ms 0 0 zs st
