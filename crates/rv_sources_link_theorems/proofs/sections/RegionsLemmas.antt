-- The regions of the program hold the sections of the sources.

use Rattle.std.proofs.Common.{◌≡◌, ℕ, suc, ◌+◌, ◌-◌, ◌%◌, Bool, true, false, List, [], ◌∷◌, ◌++◌, length, refl, sym, ap, ◌∙◌, subst, arith, map, max, Some}
use Rattle.std.specs.Prelude.{⊤, ℤ, ◌&&◌, nat_lt, if◌then◌else◌, flat_map, option_and_then}
use Rattle.std.specs.List.{AllByRecursion, slice_get}
use Rattle.rv_size_laws.specs.Alignment.{aligned}
use Rattle.rv_isa_laws.specs.Bytes.{zeros}
use Rattle.rv_unit_laws.specs.declared.section_type.SectionType.{SectionType}
use Rattle.rv_unit_laws.specs.declared.section_type.SectionType.TheVariants as types
use Rattle.rv_unit_laws.specs.Sections.{Section as SourceSection}
use Rattle.rv_unit_laws.specs.Tables.{Tables}
use Rattle.rv_map_laws.specs.declared.map.Region.{Region}
use Rattle.rv_map_laws.specs.declared.map.SectionId.{SectionId}
use Rattle.rv_map_laws.specs.Limits.{IsGlobal}
use Rattle.rv_collect_laws.specs.Graph.{is_dropped}
use Rattle.rv_source_laws.specs.Located.{without_address, has_row}
use Rattle.rv_source_laws.specs.Program.{Mapped, Program, tables_in, address_at}
use Rattle.rv_source_laws.specs.Fits as source
use Rattle.rv_chain_laws.specs.Contents.{contents as source_contents}
use Rattle.rv_runs_theorems.proofs.RegionsLemmas.{AllIn}
use Rattle.rv_object_laws.specs.Object.{Section, Object, size_of}
use Rattle.rv_link_laws.specs.Moves.{alignments_of}
use Rattle.rv_link_laws.specs.Inputs.{Starts, InputSection, inputs_from, begins_at, start_of, size, Stand, sections_end, gaps_of, raised, greatest, contents, goes_to_text}
use Rattle.rv_link_laws.specs.Values.{initial_bytes, linked_bytes, IsRelocated}
use Rattle.rv_link_laws.specs.IsLinkOf.{is_loaded}
use Rattle.rv_assemble_laws.specs.Templates.{Open}
use Rattle.rv_assemble_laws.specs.LaidStatements.{LaidStatement, part_bytes, laid_in, end_of as laid_end}
use Rattle.rv_assemble_laws.specs.Symbols.{laid_at}
use Rattle.rv_assemble_laws.specs.IsObjectOf.{Numbering, contents_of}
use Rattle.rv_sources_link_theorems.proofs.sections.MaskedLemmas.{masked_sections, stays}
use Rattle.rv_sources_link_theorems.proofs.statements.OrderedLemmas.{filled}
use Rattle.rv_sources_link_theorems.proofs.fields.PatchesLemmas.{written, written_from}
use Rattle.rv_sources_link_theorems.proofs.statements.StatementsLemmas.{mapped_at, mapped_from, row_address}
use Rattle.rv_sources_link_theorems.proofs.statements.SettledLemmas.{IsSettled, IsLaidIn, laid_are_in, follows, sized, bytes_are}
use Rattle.rv_sources_link_theorems.proofs.names.KnownLemmas.{still, outer_in}
use Rattle.rv_sources_link_theorems.proofs.fields.WholesLemmas.{IsWhole}
use Rattle.rv_sources_link_theorems.proofs.sections.SectionsLemmas.{meant_in, said, multiple_from}
use Rattle.rv_sources_link_theorems.proofs.statements.CodeOfLemmas.{IsCodeOf}
use Rattle.rv_sources_link_theorems.proofs.sections.PlacedLemmas.{IsFit, bytes_linked, section_fits}
use Rattle.rv_sources_link_theorems.proofs.moves.ShrunkLemmas.{parts_of, parts, IsSectionOf, AreSectionsOf}

-- ---- a region, section by section

module _ (p : Program) (all : List Object) (starts : Starts) (spells : Mapped → List ℕ) (stores : Bool) (P : Mapped → Type 0) where
  -- what a section of an object and that of the source have in common
  pub record IsGood (i : InputSection) (b : source.InputSection) : Type 0 where
    pub alignment : begins_at i.section ≡ b.alignment
    pub follow : source.Follow (start_of starts i) (source.rows_of b)
    pub count : size starts i ≡ source.size (source.rows_of b)
    pub bytes : (stop : ℕ) → start_of starts i ≡ aligned (begins_at i.section) stop → stores ≡ true → linked_bytes (outer_in p all) starts all i ≡ flat_map spells b.mapped
    pub each : (stop : ℕ) → start_of starts i ≡ aligned (begins_at i.section) stop → AllByRecursion P b.mapped

  abbrev pub AreGood : List InputSection → List source.InputSection → Type 0
  AreGood [] [] = ⊤
  AreGood [] (b ∷ bs) = ⊥
  AreGood (i ∷ is) [] = ⊥
  AreGood (i ∷ is) (b ∷ bs) = IsGood i b × AreGood is bs

  pub record IsRegion (stop : ℕ) (is : List InputSection) (bs : List source.InputSection) : Type 0 where
    pub stand : source.Stand stop bs
    pub end : sections_end starts stop is ≡ source.layout_end stop bs
    pub gaps : gaps_of starts stop is ≡ source.gaps_of stop bs
    pub bytes : stores ≡ true → contents (linked_bytes (outer_in p all) starts all) starts stop is ≡ source_contents spells stop bs
    pub each : AllIn P bs

  pub region : (stop : ℕ) (is : List InputSection) (bs : List source.InputSection) → AreGood is bs → Stand starts stop is → IsRegion stop is bs
  region stop [] [] h st = record { stand = tt; end = refl; gaps = refl; bytes = λ e. refl; each = tt }
  region stop [] (b ∷ bs) h st = absurd h
  region stop (i ∷ is) [] h st = absurd h
  region stop (i ∷ is) (b ∷ bs) (h, hs) (at, st) =
      let start = start_of starts i in
      let there = aligned b.alignment stop in
      let here : start ≡ there = at ∙ ap (λ n. aligned n stop) h.alignment in
      let next : start + size starts i ≡ there + source.size (source.rows_of b) = ap (λ n. n + size starts i) here ∙ ap (λ n. there + n) h.count in
      let rest = subst (λ n. IsRegion n is bs) next (region (start + size starts i) is bs hs st) in
      let after = there + source.size (source.rows_of b) in
      record {
        stand = (subst (λ n. source.Follow n (source.rows_of b)) here h.follow, rest.stand);
        end = ap (λ n. sections_end starts n is) next ∙ rest.end;
        gaps = ap (λ n. if nat_lt stop n then record { start = stop; end = n } ∷ gaps_of starts (n + size starts i) is else gaps_of starts (n + size starts i) is) here
            ∙ ap (λ n. if nat_lt stop there then record { start = stop; end = there } ∷ gaps_of starts n is else gaps_of starts n is) (ap (λ n. there + n) h.count)
            ∙ ap (λ (l : List Region). if nat_lt stop there then record { start = stop; end = there } ∷ l else l) rest.gaps;
        bytes = λ e.
            ap (λ n. zeros (n - stop) ++ (linked_bytes (outer_in p all) starts all i ++ contents (linked_bytes (outer_in p all) starts all) starts (start + size starts i) is)) here
            ∙ ap (λ l. zeros (there - stop) ++ (l ++ contents (linked_bytes (outer_in p all) starts all) starts (start + size starts i) is)) (h.bytes stop at e)
            ∙ ap (λ n. zeros (there - stop) ++ (flat_map spells b.mapped ++ contents (linked_bytes (outer_in p all) starts all) starts n is)) next
            ∙ ap (λ l. zeros (there - stop) ++ (flat_map spells b.mapped ++ l)) (rest.bytes e);
        each = (h.each stop at, rest.each);
      }

  pub greatest_same : (is : List InputSection) (bs : List source.InputSection) → AreGood is bs → greatest is ≡ source.greatest bs
  greatest_same [] [] h = refl
  greatest_same [] (b ∷ bs) h = absurd h
  greatest_same (i ∷ is) [] h = absurd h
  greatest_same (i ∷ is) (b ∷ bs) (h, hs) = ap (λ n. max n (greatest is)) h.alignment ∙ ap (λ n. max b.alignment n) (greatest_same is bs hs)

  pub good_join : (is js : List InputSection) (bs cs : List source.InputSection) → AreGood is bs → AreGood js cs → AreGood (is ++ js) (bs ++ cs)
  good_join [] js [] cs h k = k
  good_join [] js (b ∷ bs) cs h k = absurd h
  good_join (i ∷ is) js [] cs h k = absurd h
  good_join (i ∷ is) js (b ∷ bs) cs (h, hs) k = (h, good_join is js bs cs hs k)

  -- ---- a section

  all_mapped : (file : ℕ) (zs : List LaidStatement) → AllByRecursion (λ z. has_row z.located ≡ true → P (mapped_at starts file z)) zs → AllByRecursion P (mapped_from starts file zs)
  all_mapped file [] h = tt
  all_mapped file (z ∷ zs) (h, hs) = go (has_row z.located) refl (all_mapped file zs hs)
    where
      go : (b : Bool) → has_row z.located ≡ b → AllByRecursion P (mapped_from starts file zs)
          → AllByRecursion P (if b then mapped_at starts file z ∷ mapped_from starts file zs else mapped_from starts file zs)
      go true e ih = (h e, ih)
      go false e ih = ih

  both : (Q R S : LaidStatement → Type 0) (zs : List LaidStatement) → ((z : LaidStatement) → Q z → R z → S z) → AllByRecursion Q zs → AllByRecursion R zs → AllByRecursion S zs
  both Q R S [] f h k = tt
  both Q R S (z ∷ zs) f (h, hs) (k, ks) = (f z h k, both Q R S zs f hs ks)

  stored_size : (kind : SectionType) (count : ℕ) (bytes : List ℕ) → count ≡ length bytes → size_of (contents_of kind count bytes) ≡ count
  stored_size types.Progbits count bytes e = sym e
  stored_size types.Note count bytes e = sym e
  stored_size types.Nobits count bytes e = refl

  module _ (code : Mapped → List ℕ) (all_worths : ℕ → ℕ → ℕ → Open → ℤ) (goes : Section → Bool) (goes_source : SourceSection → Bool)
      (loads : (s : SourceSection) → goes_source s ≡ true → s.loaded ≡ true)
      (same_by : (t : Tables) (laid : List LaidStatement) (number : Numbering) (o : Object) (index : ℕ) (s : SourceSection) (x : Section)
      → IsSectionOf t laid number o.symbols index s (laid_in index laid) x → goes x ≡ goes_source s)
      (holds : (t : Tables) (laid : List LaidStatement) (number : Numbering) (o : Object) (index : ℕ) (s : SourceSection) (x : Section)
      → IsSectionOf t laid number o.symbols index s (laid_in index laid) x → goes_source s ≡ true → stores ≡ true → initial_bytes x.contents ≡ flat_map part_bytes (parts t (laid_in index laid)))
      (spell : (file : ℕ) (s : SourceSection) (z : LaidStatement) → goes_source s ≡ true → z.located.home ≡ s → IsFit p starts code all_worths file z
      → spells (mapped_at starts file z) ≡ said p file (all_worths file) z)
      (fitted : (file : ℕ) (s : SourceSection) (z : LaidStatement) → goes_source s ≡ true → z.located.home ≡ s → IsFit p starts code all_worths file z → P (mapped_at starts file z)) where
    module _ (drops : List SectionId) (file : ℕ) (laid : List LaidStatement) (number : Numbering) (o : Object) (opened sections : List SourceSection)
        (masks : sections ≡ masked_sections (is_dropped drops file) 0 opened) (low : AllByRecursion IsGlobal p.map.globals) (are : AreSectionsOf (tables_in p file) laid number o.symbols 0 sections o.sections)
        (settled : AllByRecursion (IsSettled sections) laid) (whole : IsWhole p all starts file laid number o (all_worths file))
        (codes : AllByRecursion (IsCodeOf starts (λ n z. said p n (all_worths n) z) code file) laid)
        (plain : (j : ℕ) (x : Section) → slice_get o.sections j ≡ Some x → alignments_of x ≡ [])
        (address : (n : ℕ) → address_at p.statements file n ≡ option_and_then (row_address starts file) (laid_at laid n)) where
      abbrev t : Tables
      t = tables_in p file

      abbrev Q : InputSection → Type 0
      Q i = AllByRecursion (IsRelocated (outer_in p all) starts all i) i.section.relocations

      good_one : (index : ℕ) (s : SourceSection) (x : Section) → IsSectionOf t laid number o.symbols index s (laid_in index laid) x → slice_get sections index ≡ Some s → slice_get o.sections index ≡ Some x → alignments_of x ≡ []
          → goes_source s ≡ true → Q (record { file = file; object = o; index = index; section = x })
          → IsGood (record { file = file; object = o; index = index; section = x }) (source.input_section t s p.mapped file index)
      good_one index s x is at there none goes_there relocated =
          let own = laid_in index laid in
          let loaded = loads s goes_there in
          let inside = laid_are_in sections index s laid at settled in
          let begins_as : begins_at x ≡ max (if goes_to_text x then 2 else 1) x.alignment = ap (λ rs. raised rs (max (if goes_to_text x then 2 else 1) x.alignment)) none in
          let flags : goes_to_text x ≡ (s.loaded && s.executable) = ap (λ b. b && x.executable) is.loaded ∙ ap (λ b. s.loaded && b) is.executable in
          let count_is : laid_end 0 own ≡ length (flat_map part_bytes (parts t own)) = filled (parts_of t) 0 own is.tile ∙ (let n = length (flat_map part_bytes (parts t own)) in let e : 0 + n ≡ n = omega arith in e) in
          let rows_count = sized starts file t index s loaded 0 own inside is.tile in
          let fits : (stop : ℕ) → starts file index ≡ aligned (begins_at x) stop → AllByRecursion (λ z. has_row z.located ≡ true → IsFit p starts code all_worths file z) own =
          λ stop starts_at. section_fits p all starts file laid number o sections low are settled code all_worths whole codes plain address index s x is at there none loaded relocated
          (λ m some divides.
          ap (λ n. n % m) (starts_at ∙ ap (λ n. aligned n stop) begins_as)
          ∙ multiple_from (goes_to_text x) m x.alignment stop some is.some divides) in
          record {
            alignment = begins_as ∙ ap (λ b. max (if b then 2 else 1) x.alignment) flags ∙ ap (λ n. max (if s.loaded && s.executable then 2 else 1) n) is.alignment;
            follow = subst (λ n. source.Follow n (source.rows_of (source.input_section t s p.mapped file index))) (let e : starts file index + 0 ≡ starts file index = omega arith in e)
                (subst (λ l. source.Follow (starts file index + 0) (map (λ s. s.row) l)) (sym (whole.mapped index)) (follows starts file t index s loaded 0 own inside is.tile));
            count = still x none (starts file index) (size_of x.contents) ∙ ap size_of is.contents ∙ stored_size s.section_type (laid_end 0 own) (flat_map part_bytes (parts t own)) count_is
                ∙ sym rows_count ∙ plus_zero (source.size (map (λ s. s.row) (mapped_from starts file own))) ∙ ap (λ l. source.size (map (λ s. s.row) l)) (sym (whole.mapped index));
            bytes = λ stop starts_at e.
                bytes_linked p all starts file laid number o sections low are settled code all_worths whole codes plain address index s x is at there none loaded relocated (holds t laid number o index s x is goes_there e)
                ∙ sym (bytes_are starts file t index s loaded spells (written (meant_in p file) (all_worths file index)) 0 own inside is.tile
                (both (λ z. has_row z.located ≡ true → IsFit p starts code all_worths file z) (IsLaidIn index s)
                (λ z. has_row z.located ≡ true → spells (mapped_at starts file z) ≡ written_from (written (meant_in p file) (all_worths file index)) z.offset (parts_of t z)) own
                (λ z h k row. spell file s z goes_there k.home (h row)
                ∙ ap (λ j. written_from (written (meant_in p file) (all_worths file j)) z.offset (parts_of t z)) k.stands) (fits stop starts_at) inside))
                ∙ ap (flat_map spells) (sym (whole.mapped index));
            each = λ stop starts_at.
                subst (λ l. AllByRecursion P l) (sym (whole.mapped index))
                (all_mapped file own (both (λ z. has_row z.located ≡ true → IsFit p starts code all_worths file z) (IsLaidIn index s) (λ z. has_row z.located ≡ true → P (mapped_at starts file z)) own
                (λ z h k row. fitted file s z goes_there k.home (h row)) (fits stop starts_at) inside));
          }
        where
          plus_zero : (n : ℕ) → 0 + n ≡ n
          plus_zero n = omega arith

      abbrev dropped : ℕ → Bool
      dropped = is_dropped drops file

      -- one that goes somewhere has its address
      good_left : (d : Bool) (index : ℕ) (s : SourceSection) (x : Section) → IsSectionOf t laid number o.symbols index (without_address d s) (laid_in index laid) x
          → slice_get sections index ≡ Some (without_address d s) → slice_get o.sections index ≡ Some x → alignments_of x ≡ []
          → goes_source (without_address d s) ≡ true → Q (record { file = file; object = o; index = index; section = x })
          → IsGood (record { file = file; object = o; index = index; section = x }) (source.input_section t s p.mapped file index)
      good_left d index s x is at there none goes_there relocated =
          subst (λ y. IsGood (record { file = file; object = o; index = index; section = x }) (source.input_section t y p.mapped file index)) (stays d s (loads (without_address d s) goes_there))
          (good_one index (without_address d s) x is at there none goes_there relocated)

      good_from : (index : ℕ) (ss : List SourceSection) (xs : List Section) → AreSectionsOf t laid number o.symbols index (masked_sections dropped index ss) xs
          → ((j : ℕ) → slice_get sections (index + j) ≡ slice_get (masked_sections dropped index ss) j) → ((j : ℕ) → slice_get o.sections (index + j) ≡ slice_get xs j)
          → AllByRecursion Q (inputs_from is_loaded file o index xs)
          → AreGood (inputs_from goes file o index xs) (source.input_sections_of_file goes_source drops t p.mapped file index ss)
      good_from index [] [] h at at' r = tt
      good_from index [] (x ∷ xs) h at at' r = absurd h
      good_from index (s ∷ ss) [] h at at' r = absurd h
      good_from index (s ∷ ss) (x ∷ xs) (is, h) at at' r =
          let here : slice_get sections index ≡ Some kept = ap (slice_get sections) (let e : index ≡ index + 0 = omega arith in e) ∙ at 0 in
          let there : slice_get o.sections index ≡ Some x = ap (slice_get o.sections) (let e : index ≡ index + 0 = omega arith in e) ∙ at' 0 in
          let next : (j : ℕ) → suc index + j ≡ index + suc j = λ j. omega arith in
          go (goes x) (goes_source kept) refl (same_by t laid number o index kept x is)
          (λ e. good_left (dropped index) index s x is here there (plain index x there) e (first x.loaded (is.loaded ∙ loads kept e) r))
          (good_from (suc index) ss xs h (λ j. ap (slice_get sections) (next j) ∙ at (suc j)) (λ j. ap (slice_get o.sections) (next j) ∙ at' (suc j)) (rest x.loaded r))
        where
          kept : SourceSection
          kept = without_address (dropped index) s

          i : InputSection
          i = record { file = file; object = o; index = index; section = x }

          others : List InputSection
          others = inputs_from is_loaded file o (suc index) xs

          first : (b : Bool) → b ≡ true → AllByRecursion Q (if b then i ∷ others else others) → Q i
          first true e (q, qs) = q
          first false e qs = absurd (cc)

          rest : (b : Bool) → AllByRecursion Q (if b then i ∷ others else others) → AllByRecursion Q others
          rest true (q, qs) = qs
          rest false qs = qs

          go : (b c : Bool) → goes x ≡ b → b ≡ c → (c ≡ true → IsGood i (source.input_section t s p.mapped file index))
              → AreGood (inputs_from goes file o (suc index) xs) (source.input_sections_of_file goes_source drops t p.mapped file (suc index) ss)
              → AreGood (if b then i ∷ inputs_from goes file o (suc index) xs else inputs_from goes file o (suc index) xs)
              (if c then source.input_section t s p.mapped file index ∷ source.input_sections_of_file goes_source drops t p.mapped file (suc index) ss else source.input_sections_of_file goes_source drops t p.mapped file (suc index) ss)
          go true true e f good ih = (good refl, ih)
          go false false e f good ih = ih
          go true false e f good ih = absurd (cc)
          go false true e f good ih = absurd (cc)

      pub good_file : AllByRecursion Q (inputs_from is_loaded file o 0 o.sections) → AreGood (inputs_from goes file o 0 o.sections) (source.input_sections_of_file goes_source drops t p.mapped file 0 opened)
      good_file r =
          let zero_plus : (j : ℕ) → 0 + j ≡ j = λ j. omega arith in
          good_from 0 opened o.sections (subst (λ l. AreSectionsOf t laid number o.symbols 0 l o.sections) masks are)
          (λ j. ap (slice_get sections) (zero_plus j) ∙ ap (λ l. slice_get l j) masks) (λ j. ap (slice_get o.sections) (zero_plus j)) r
