-- One step of each loop, and its end.

use Rattle.std.proofs.Common.{◌≡◌, ℕ, suc, ◌+◌, ◌*◌, ◌<◌, ◌≤◌, Bool, true, false, not, ◌==◌, List, [], ◌∷◌, ◌++◌, length, map, drop, get_or, replicate, refl, sym, ap, ◌∙◌, append_assoc, length-append, arith, ne_eqb, if◌then◌else◌}
use Rattle.std.specs.Prelude.{flat_map}
use Rattle.std.proofs.Math.Seq.{drop-append_seam}
use Rattle.rv_list_laws.proofs.TakeDropLemmas.{drop_read_or}
use mir.Val.{bool_byte}
use Rattle.rv_elf_laws.specs.declared.file_header.FileHeader.{FileHeader}
use Rattle.rv_elf_laws.specs.Records.{file_header_bytes, section_header_bytes}
use Rattle.rv_object_laws.specs.declared.row.Row.{Row}
use Rattle.rv_object_types.specs.declared.section.Section.{Section as DeclaredSection}
use Rattle.rv_object_laws.specs.Object.{Section}
use Rattle.rv_object_types.specs.Sections.{section_of}
use Rattle.rv_size_laws.specs.Alignment.{aligned}
use Rattle.rv_object_writer.specs.declared.piece.Piece.{Piece as DeclaredPiece}
use Rattle.rv_object_writer.specs.Pieces.{body_bytes, piece_of, rows_bytes}
use Rattle.rv_object_file_laws.proofs.SymbolsReadLemmas.{length-rows}
use Rattle.rv_object_file_laws.specs.Written.{UnplacedSection, contents_from, headers_offset, headers_from, header_of, rela_pieces, row_pieces}
pub use Rattle.rv_object_file_laws.proofs.LaidLemmas.{aligned_up as not_below}
use Rattle.rv_object_file_laws.proofs.LaidLemmas.{length-contents}

-- what is there so far and what the rest gives, one item later
pub step : {A B : Type 0} (F : List A → List B) (g : A → List B) → ((y : A) (ys : List A) → F (y ∷ ys) ≡ g y ++ F ys)
    → (xs : List A) (i : ℕ) (x d : A) → i < length xs → x ≡ get_or xs i d
    → (old new whole : List B) → new ≡ old ++ g x → old ++ F (drop i xs) ≡ whole → new ++ F (drop (i + 1) xs) ≡ whole
step F g law xs i x d inside is old new whole grown so_far =
    ap (λ l. l ++ F (drop (i + 1) xs)) grown ∙ append_assoc old (g x) (F (drop (i + 1) xs))
    ∙ ap (λ l. old ++ l) (sym (law x (drop (i + 1) xs))) ∙ ap (λ l. old ++ F l) (sym (drop_read_or xs i x d inside is)) ∙ so_far

-- three lists and two items, one after the other
pub five : {A : Type 0} (a b c : List A) (x y : A) {one two more most all : List A} → one ≡ a → two ≡ one ++ b → more ≡ two ++ c → most ≡ more ++ x ∷ []
    → all ≡ most ++ y ∷ [] → all ≡ a ++ (b ++ (c ++ (x ∷ y ∷ [])))
five a b c x y e f g h k =
    k ∙ ap (λ l. l ++ y ∷ []) (h ∙ ap (λ l. l ++ x ∷ []) (g ∙ ap (λ l. l ++ c) (f ∙ ap (λ l. l ++ b) e)))
    ∙ append_assoc ((a ++ b) ++ c) (x ∷ []) (y ∷ []) ∙ append_assoc (a ++ b) c (x ∷ y ∷ []) ∙ append_assoc a b (c ++ (x ∷ y ∷ []))

-- ---- contents and headers

pub begins_below : (at : ℕ) (ps : List UnplacedSection) → aligned 8 at ≤ headers_offset at ps
begins_below at [] = omega arith
begins_below at (p ∷ ps) =
    let next = aligned 8 at + length p.bytes in
    let up = not_below next in
    let more = begins_below next ps in
    omega arith

-- one section header later
pub ends_on : (ps : List DeclaredPiece) (i at offset total : ℕ) (d : DeclaredPiece) → i < length ps → offset ≡ aligned 8 at
    → headers_offset at (map piece_of (drop i ps)) ≡ total
    → headers_offset (offset + length (body_bytes (get_or ps i d).body)) (map piece_of (drop (i + 1) ps)) ≡ total
ends_on ps i at offset total d inside is end =
    ap (λ n. headers_offset (n + length (body_bytes (get_or ps i d).body)) (map piece_of (drop (i + 1) ps))) is
    ∙ ap (λ l. headers_offset at (map piece_of l)) (sym (drop_read_or ps i (get_or ps i d) d inside refl)) ∙ end

-- the parts of a file, whose header is written over the zeros that keep its place
pub whole_file : (h : FileHeader) (ps : List UnplacedSection) (start one two set later new rest : List ℕ) → start ≡ [] → one ≡ start ++ replicate 64 0
    → two ≡ one ++ contents_from (length one) ps → set ≡ file_header_bytes h ++ drop 64 two → later ≡ set ++ replicate 64 0 → new ≡ later ++ rest
    → new ≡ file_header_bytes h ++ (contents_from 64 ps ++ (replicate 64 0 ++ rest))
whole_file h ps start one two set later new rest empty place contents header zeros headers =
    let zero_header : List ℕ = replicate 64 0 in
    let first : one ≡ zero_header = place ∙ ap (λ l. l ++ zero_header) empty in
    let size : length one ≡ 64 = ap length first in
    let second : two ≡ zero_header ++ contents_from 64 ps =
    contents ∙ ap (λ n. one ++ contents_from n ps) size ∙ ap (λ l. l ++ contents_from 64 ps) first in
    let third : set ≡ file_header_bytes h ++ contents_from 64 ps =
    header ∙ ap (λ l. file_header_bytes h ++ drop 64 l) second ∙ ap (λ l. file_header_bytes h ++ l) (drop-append_seam zero_header (contents_from 64 ps)) in
    headers ∙ ap (λ l. l ++ rest) (zeros ∙ ap (λ l. l ++ zero_header) third)
    ∙ append_assoc (file_header_bytes h ++ contents_from 64 ps) zero_header rest ∙ append_assoc (file_header_bytes h) (contents_from 64 ps) (zero_header ++ rest)

-- with the place of its header, a file that ends with contents has the length up to the section headers
pub length_so_far : (ps : List UnplacedSection) (start one two : List ℕ) → start ≡ [] → one ≡ start ++ replicate 64 0 → two ≡ one ++ contents_from (length one) ps
    → length two ≡ headers_offset 64 ps
length_so_far ps start one two empty place contents =
    let zero_header : List ℕ = replicate 64 0 in
    let size : length one ≡ 64 = ap length (place ∙ ap (λ l. l ++ zero_header) empty) in
    ap length contents ∙ length-append one (contents_from (length one) ps)
    ∙ ap (λ n. n + length (contents_from n ps)) size ∙ length-contents 64 ps

pub headers_more : (ns : List (List ℕ)) (at next : ℕ) (p : UnplacedSection) (ps : List UnplacedSection) (out new : List ℕ)
    → new ≡ out ++ section_header_bytes (header_of ns at p) → next ≡ aligned 8 at + length p.bytes
    → new ++ flat_map section_header_bytes (headers_from ns next ps) ≡ out ++ flat_map section_header_bytes (headers_from ns at (p ∷ ps))
headers_more ns at next p ps out new grown is =
    ap (λ n. new ++ flat_map section_header_bytes (headers_from ns n ps)) is
    ∙ ap (λ l. l ++ flat_map section_header_bytes (headers_from ns (aligned 8 at + length p.bytes) ps)) grown
    ∙ append_assoc out (section_header_bytes (header_of ns at p)) (flat_map section_header_bytes (headers_from ns (aligned 8 at + length p.bytes) ps))

-- ---- tables of relocations

pub relas_more : (symtab i : ℕ) (s : Section) (ss : List Section)
    → rela_pieces symtab i (s ∷ ss) ≡ rela_pieces symtab i (s ∷ []) ++ rela_pieces symtab (suc i) ss
relas_more symtab i s ss = by (length s.relocations == 0) _ (rela_pieces symtab (suc i) ss)
  where
    by : (b : Bool) (p : UnplacedSection) (ps : List UnplacedSection) → (if b then ps else p ∷ ps) ≡ (if b then [] else p ∷ []) ++ ps
    by true p ps = refl
    by false p ps = refl

-- one section later
pub relas_step : (symtab i : ℕ) (xs : List DeclaredSection) (x : DeclaredSection) → i < length xs → x ≡ get_or xs i x → (old new whole : List UnplacedSection)
    → new ≡ old ++ rela_pieces symtab (i + 1) (section_of x ∷ []) → old ++ rela_pieces symtab (suc i) (map section_of (drop i xs)) ≡ whole
    → new ++ rela_pieces symtab (suc (i + 1)) (map section_of (drop (i + 1) xs)) ≡ whole
relas_step symtab i xs x inside is old new whole grown so_far =
    let next : i + 1 ≡ suc i = omega arith in
    let rest : List Section = map section_of (drop (i + 1) xs) in
    ap (λ l. l ++ rela_pieces symtab (suc (i + 1)) rest) grown
    ∙ append_assoc old (rela_pieces symtab (i + 1) (section_of x ∷ [])) (rela_pieces symtab (suc (i + 1)) rest)
    ∙ ap (λ l. old ++ l) (sym (relas_more symtab (i + 1) (section_of x) rest)) ∙ ap (λ n. old ++ rela_pieces symtab n (section_of x ∷ rest)) next
    ∙ ap (λ l. old ++ rela_pieces symtab (suc i) (map section_of l)) (sym (drop_read_or xs i x x inside is)) ∙ so_far

-- ---- rows

-- they have one section, unless there are none
pub rows_count : (rows : List Row) → bool_byte (not (length rows == 0)) ≡ length (row_pieces rows)
rows_count [] = refl
rows_count (r ∷ rs) = let more : (suc (length rs) == 0) ≡ false = ne_eqb (suc (length rs)) 0 (λ e. omega arith) in ap (λ b. bool_byte (not b)) more

pub rows_long : (rows : List Row) → length (rows_bytes rows) ≡ 32 * length rows
rows_long rows = length-rows rows

-- ---- symbols

pub header_put : (ns : List (List ℕ)) (ps : List DeclaredPiece) (i at offset : ℕ) (d : DeclaredPiece) (out new whole : List ℕ)
    → i < length ps → offset ≡ aligned 8 at → new ≡ out ++ section_header_bytes (header_of ns at (piece_of (get_or ps i d)))
    → out ++ flat_map section_header_bytes (headers_from ns at (map piece_of (drop i ps))) ≡ whole
    → new ++ flat_map section_header_bytes (headers_from ns (offset + length (body_bytes (get_or ps i d).body)) (map piece_of (drop (i + 1) ps))) ≡ whole
header_put ns ps i at offset d out new whole inside is grown so_far =
    let size : ℕ = length (body_bytes (get_or ps i d).body) in
    headers_more ns at (offset + size) (piece_of (get_or ps i d)) (map piece_of (drop (i + 1) ps)) out new grown (ap (λ n. n + size) is)
    ∙ ap (λ l. out ++ flat_map section_header_bytes (headers_from ns at (map piece_of l))) (sym (drop_read_or ps i (get_or ps i d) d inside refl)) ∙ so_far
