-- The headline: running the bytes of the executable gives exactly the console and the end that the
-- source statements give, each executed in one step at the addresses of the printed map.

use Rattle.std.specs.Prelude.{◌≡◌, ℕ, ◌<◌, Bool, if◌then◌else◌, List, [], ◌∷◌, ⊤, None}
use Rattle.std.specs.List.{AllByRecursion}
use Rattle.rv_statement_laws.specs.Statement.{Statement}
use Rattle.rv_parse_laws.specs.Reading.{Reads}
use Rattle.rv_map_laws.specs.Map.{Map}
use Rattle.rv_map_laws.specs.Text.{map_text}
use Rattle.rv_map_laws.specs.Limits.{IsMap}
use Rattle.rv_image_laws.specs.Image.{Image}
use Rattle.rv_image_laws.specs.ImageOf.{ImageOf}
use Rattle.rv_image_laws.specs.FirstFault.{first_fault}
use Rattle.rv_elf_laws.specs.Fields.{number_in, e_flags}
use Rattle.rv_isa_laws.specs.Word.{Spells}
use Rattle.rv_parcel.specs.Parcel.{StandsFor}
use Rattle.rv_isa_laws.specs.Reader.{Reader}
use Rattle.rv_isa_laws.specs.Run.{machine_run}
use Rattle.rv_image_laws.specs.Memory.{mem_of}
use Rattle.rv_board_laws.specs.Platform.{Platform, IsPlatform, machine_run_on}
use Rattle.rv_source_laws.specs.Compressed.{is_compressed}
use Rattle.rv_source_laws.specs.Program.{Mapped, program}
use Rattle.rv_source_laws.specs.SourceRun.{source_run}
use Rattle.rv_source_laws.specs.Fits.{Fits}
use Rattle.rv_collect_laws.specs.Graph.{AreDrops}
use Rattle.rv_source_laws.specs.Collected.{graph_of}
use Rattle.rv_source_laws.specs.Resolves.{Resolves}
use Rattle.rv_chain_laws.specs.Agrees.{Agrees}
use Rattle.rv_chain_laws.specs.PlatformRun.{source_run_on}
use Rattle.rv_source_laws.specs.Sized.{Sized}
use Rattle.rv_source_laws.specs.Shortened.{Shortened}
use Rattle.rv_chain_laws.specs.Contents.{IsCodeWritten}

-- each text reads as its list of statements
abbrev pub AllRead : List (List ℕ) → List (List Statement) → Type 0
AllRead [] [] = ⊤
AllRead [] (statements ∷ sources) = ⊥
AllRead (text ∷ texts) [] = ⊥
AllRead (text ∷ texts) (statements ∷ sources) = Reads text statements × AllRead texts sources

-- bytes of input
abbrev pub AreBytes : List ℕ → Type 0
AreBytes bytes = AllByRecursion (λ byte. byte < 256) bytes

-- for every input and every limit, the machine's run over the image agrees with the sources' run at
-- the map
abbrev pub RunsAgree : List (List Statement) → Map → Image → Type 0
RunsAgree sources map image =
    (reader : Reader Spells StandsFor) (input : List ℕ) → AreBytes input → (n : ℕ)
    → Agrees (source_run sources map input n)
    (machine_run reader (mem_of image) image.entry input n)

-- and for every platform: with its devices, its memory beside the program's and its sp in both runs
abbrev pub RunsAgreeOn : List (List Statement) → Map → Image → Type 0
RunsAgreeOn sources map image =
    (q : Platform) → IsPlatform q
    → (reader : Reader Spells StandsFor) (input : List ℕ) → AreBytes input → (n : ℕ)
    → Agrees (source_run_on q sources map input n) (machine_run_on q reader image input n)

-- EF_RISCV_RVC, the flag of compressed code (RISC-V ELF psABI, "File Header")
abbrev pub rvc_flag : Bool → ℕ
rvc_flag is_set = if is_set then 1 else 0

-- what the texts of the sources, the text's start, whether calls are shortened, whether sections
-- are collected, the bytes of the executable and those of the map have to do with one another
pub record TheHeadline (texts : List (List ℕ)) (text_start : ℕ) (relax gc : Bool)
    (executable map_bytes : List ℕ) : Type 0 where
  pub sources : List (List Statement)
  pub read : AllRead texts sources
  -- the printed map: it fits the sources, with the least sizes, and resolves their names
  pub map : Map
  pub shown : map_bytes ≡ map_text map
  -- reading those bytes gives this map: its numbers and names are such as a text can show
  pub readable : IsMap map
  -- where sections are collected, it drops exactly those to which nothing leads from the entry's
  pub collected : AreDrops gc (graph_of sources) map.drops
  pub fits : Fits sources map text_start
  pub sized : Sized sources map
  -- its calls are as short as they can be where they are shortened, and else whole
  pub shortened : Shortened relax sources map
  pub resolves : Resolves sources map
  -- each statement of code is its instructions, each in its least bytes where it may be compressed
  pub code : Mapped → List ℕ
  pub written : IsCodeWritten (program sources map) code
  -- the image of the executable
  pub image : Image
  pub loads : ImageOf executable image
  -- which has no fault that a loader would name
  pub accepted : first_fault executable ≡ None
  -- its one flag is set exactly where one of the sources has compressed code
  pub flagged : number_in e_flags 0 executable ≡ rvc_flag (is_compressed sources)
  pub agree : RunsAgree sources map image
  pub on_platforms : RunsAgreeOn sources map image
