-- The calls of sources after relaxation: which may be shortened, and that those are short that can
-- be (RISC-V ELF psABI, "Linker Relaxation", function call relaxation; GNU as, ".option relax").

use Rattle.std.specs.Prelude.{◌≡◌, ℕ, ◌+◌, ◌-◌, ◌==◌, pos, Bool, true, false, ◌&&◌, nat_lt, IsTrue, List, [], ◌∷◌, ◌++◌, flat_map, sum_by, Option, Some, None, option_map, option_and_then, if◌then◌else◌}
use Rattle.std.specs.Int.{w64, int_wrap}
use Rattle.std.specs.List.{AllByRecursion, find, list_any}
use Rattle.rv_size_laws.specs.Sites.{padding_site, size_at}
use Rattle.rv_expression_laws.specs.Expression.{Primary, Symbol}
use Rattle.rv_expression_laws.specs.Values.{Value, Symbolic}
use Rattle.rv_statement_laws.specs.declared.mnemonic.Mnemonic.{Mnemonic}
use Rattle.rv_statement_laws.specs.declared.mnemonic.Mnemonic.TheVariants.{Call}
use Rattle.rv_statement_laws.specs.Statement.{StatementKind, Instruction, Directs, Statement, Operand, Register, Sets}
use Rattle.rv_unit_laws.specs.Sections.{goes_to_text}
use Rattle.rv_unit_laws.specs.Tables.{Tables, Assignment, Definition, assigned_ever, is_location, sure_definition, alignment_of}
use Rattle.rv_size_laws.specs.declared.site.Site.{Site}
use Rattle.rv_size_laws.specs.declared.site.SiteKind.TheVariants as sites
use Rattle.rv_size_laws.specs.Calls.{IsGreatestClosed}
use Rattle.rv_map_laws.specs.Map.{Map}
use Rattle.rv_source_laws.specs.Located.{Located}
use Rattle.rv_source_laws.specs.Compressed.{is_compressed_code}
use Rattle.rv_source_laws.specs.Program.{Mapped, Program, Export, program, tables_in, chosen, form}
use Rattle.rv_source_laws.specs.Sizes.{target_in}
use Rattle.rv_source_laws.specs.Fits.{InputSection, input_sections}
use Rattle.rv_source_laws.specs.Sized.{is_call_mnemonic, statement_size}

-- ---- the text in one line

-- Offsets count all sections of text one behind the other as they are before anything is taken out,
-- each behind as much padding as its start may need.

-- a statement of the text, with the bytes before it
pub record Placed : Type 0 where
  pub site : Mapped
  pub offset : ℕ

-- the bytes of a statement before anything is taken out
abbrev pub full_size : Program → Mapped → ℕ
full_size p s =
    statement_size s.located.home.executable (λ e. form p s.located e) s.located.kind s.row.bytes

abbrev pub full_length : Program → List Mapped → ℕ
full_length p ss = sum_by (λ s. full_size p s) ss

abbrev pub start_padding : InputSection → ℕ
start_padding b = b.alignment - 2

-- the statements of a section from an offset on
abbrev pub placed_from : Program → ℕ → List Mapped → List Placed
placed_from p offset [] = []
placed_from p offset (s ∷ ss) =
    record { site = s; offset = offset } ∷ placed_from p (offset + full_size p s) ss

-- those of all sections
abbrev pub text_from : Program → ℕ → List InputSection → List Placed
text_from p offset [] = []
text_from p offset (b ∷ bs) =
    let first = offset + start_padding b in
    placed_from p first b.mapped ++ text_from p (first + full_length p b.mapped) bs

abbrev pub text_of : List (List Statement) → Map → List Placed
text_of sources m = text_from (program sources m) 0 (input_sections goes_to_text sources m)

-- ---- where a call leads

-- a statement of a file
pub record Aim : Type 0 where
  pub file : ℕ
  pub ordinal : ℕ

abbrev pub aim : ℕ → ℕ → Aim
aim file ordinal = record { file = file; ordinal = ordinal }

-- where `.set` puts a name
abbrev pub assigned_aim : ℕ → Option Assignment → Option Aim
assigned_aim file None = None
assigned_aim file (Some a) = if is_location a then Some (aim file a.ordinal) else None

-- where a statement puts the name that it defines: a label at itself
abbrev pub defined_aim : Tables → Located → StatementKind → Option Aim
defined_aim t s (Directs (Sets name e)) = assigned_aim s.file (assigned_ever t.assignments name)
defined_aim t s _ = Some (aim s.file s.ordinal)

abbrev pub export_aim : Program → Export → Option Aim
export_aim p x =
    let s = x.statement.located in
    defined_aim (tables_in p s.file) s s.kind

-- the place that a name has for all files; one that no file defines, be it 0, has none
abbrev pub shared_aim : Program → Primary → Option Aim
shared_aim p (Symbol name) = option_and_then (export_aim p) (chosen p name)
shared_aim p _ = None

abbrev pub aim_by : Program → ℕ → Primary → Option Definition → Option Aim
aim_by p file q (Some d) = Some (aim file d.ordinal)
aim_by p file q None = shared_aim p q

-- what a name, a numeric reference or `.` means at a statement: the sure place in its own file,
-- else the one that the name has for all files
abbrev pub aim_of : Program → Located → Primary → Option Aim
aim_of p s q = aim_by p s.file q (sure_definition (tables_in p s.file) s.ordinal q)

-- its offset, if it stands in the text
abbrev pub aim_offset : List Placed → Aim → Option ℕ
aim_offset text a =
    option_map (λ x. x.offset)
    (find (λ x. (x.site.located.file == a.file) && (x.site.located.ordinal == a.ordinal)) text)

-- ---- sites

-- an alignment to more than 2
abbrev pub alignment_sites : ℕ → Option ℕ → List Site
alignment_sites offset None = []
alignment_sites offset (Some alignment) =
    if nat_lt 2 alignment then padding_site offset (alignment - 2) alignment ∷ [] else []

-- the register that a call links, x0 for none
abbrev pub link_register : Mnemonic → List Operand → ℕ
link_register Call (Register rd ∷ operands) = rd
link_register Call operands = 1
link_register mnemonic operands = 0

-- whether a file has compressed code
abbrev pub has_compressed : Program → ℕ → Bool
has_compressed p file =
    list_any (λ e. (e.located.file == file) && is_compressed_code e.located) p.statements

-- `c.j` may stand for a call that links no register, where its file has compressed code
abbrev pub is_compressible : Program → Located → Mnemonic → List Operand → Bool
is_compressible p s mnemonic operands =
    has_compressed p s.file && (link_register mnemonic operands == 0)

-- a call may be shortened where it leads to the text
abbrev pub shortenable : (offset : ℕ) (target : Option ℕ) (plus : ℕ) (compressed : Bool) → List Site
shortenable offset None plus compressed = []
shortenable offset (Some target) plus compressed =
    record {
      offset = offset;
      kind = sites.Call (record {
        target = target;
        addend = int_wrap w64 (pos plus);
        compressed = compressed;
      });
    } ∷ []

abbrev pub call_sites : Program → List Placed → Placed → (compressed : Bool) → Option Value →
    List Site
call_sites p text x compressed (Some (Symbolic q at plus)) =
    shortenable x.offset (option_and_then (aim_offset text) (aim_of p x.site.located q)) plus
    compressed
call_sites p text x compressed _ = []

-- what may change of a statement: a call where relaxation is on, or an alignment
abbrev pub sites_by : Program → List Placed → Placed → StatementKind → List Site
sites_by p text x (Instruction mnemonic operands) =
    if is_call_mnemonic mnemonic && x.site.located.options.relax
    then call_sites p text x (is_compressible p x.site.located mnemonic operands)
    (option_map (form p x.site.located) (target_in operands))
    else []
sites_by p text x (Directs d) =
    alignment_sites x.offset (alignment_of (form p x.site.located) d)
sites_by p text x _ = []

abbrev pub sites_at : Program → List Placed → Placed → List Site
sites_at p text x = sites_by p text x x.site.located.kind

-- the sites of sections from an offset on: the start of each, and its statements
abbrev pub sites_from : Program → List Placed → ℕ → List InputSection → List Site
sites_from p text offset [] = []
sites_from p text offset (b ∷ bs) =
    let first = offset + start_padding b in
    padding_site offset (start_padding b) b.alignment
    ∷ (flat_map (sites_at p text) (placed_from p first b.mapped)
    ++ sites_from p text (first + full_length p b.mapped) bs)

-- the sites of the text of sources
abbrev pub sites_of : List (List Statement) → Map → List Site
sites_of sources m =
    sites_from (program sources m) (text_of sources m) 0 (input_sections goes_to_text sources m)

-- ---- the bytes of calls

abbrev pub is_call_statement : StatementKind → Bool
is_call_statement (Instruction mnemonic operands) = is_call_mnemonic mnemonic
is_call_statement _ = false

-- the row of each call has the bytes that are kept of it
abbrev pub HaveBytes : (ℕ → ℕ) → List Placed → Type 0
HaveBytes size text =
    AllByRecursion
    (λ x. IsTrue (is_call_statement x.site.located.kind) → x.site.row.bytes ≡ size x.offset) text

-- the calls of sources have 8 bytes where relaxation is off; where it is on, those of the greatest
-- family in which no call has a shorter form that reaches
abbrev pub Shortened : Bool → List (List Statement) → Map → Type 0
Shortened false sources m = HaveBytes (λ offset. 8) (text_of sources m)
Shortened true sources m =
    (kept : List ℕ) × IsGreatestClosed (sites_of sources m) kept
    × HaveBytes (size_at (sites_of sources m) kept) (text_of sources m)
